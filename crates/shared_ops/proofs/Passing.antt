-- What tests leave in.
use Rattle.std.proofs.Common.{◌≡◌, ℕ, zero, suc, ◌<◌, ◌≤◌, Bool, true, false, ◌&&◌, cond, not, nat_eq, List, [], ◌∷◌, ◌++◌, bit_and, map, length, get_or, refl, sym, ap, ◌∙◌, arith}
use Rattle.std.specs.Prelude.{All}
use Rattle.std.specs.List.{list_all}
use Rattle.std.proofs.Math.ListN.{get_or-map}
use Rattle.std.proofs.lemmas.List.{get_or-replicate, length-replicate}
use Rattle.std.proofs.lemmas.List.Elements.{All-head, All-tail}
use Rattle.std.proofs.lemmas.Nat.{and_le_l}
use Rattle.lanes.specs.Items.{LaneItems, LaneLengths}
use Rattle.lanes.specs.Lanes.{lanewise, lanewise1}
use Rattle.lanes.specs.Word.{word_not}
use Rattle.padded.specs.Table.{AreBits, is_live}
use Rattle.plain_operators.specs.declared.item.Operand.{Operand}
use Rattle.plain_operators.specs.declared.item.Operand.TheVariants.{Column, Constant}
use Rattle.plain_operators.specs.declared.item.Operation.TheVariants.{Compare}
use Rattle.plain_operators.specs.declared.item.Test.{Test}
use Rattle.plain_operators.specs.Items.{computed, holds_of, operand_word}
use Rattle.plain_operators.specs.Within.{AreTestsOf, IsOperandOf, IsTestOf}
use Rattle.tapes.specs.RowLaws.{row_across}
use Rattle.shared_ops.specs.Lanes.{operand_lanes, test_lanes, valid_after}

-- ---- flags

flipped_bit : (b : Bool) → bit_and (word_not (cond b 1 0)) 1 ≡ cond (not b) 1 0
flipped_bit true = refl
flipped_bit false = refl

pub flipped_lanes : (test : ℕ → ℕ → Bool) (xs ys : List ℕ)
    → lanewise1 (λ x. bit_and x 1) (lanewise1 word_not (lanewise (λ x y. cond (test x y) 1 0) xs ys)) ≡ lanewise (λ x y. cond (not (test x y)) 1 0) xs ys
flipped_lanes test [] ys = refl
flipped_lanes test (x ∷ xs) [] = refl
flipped_lanes test (x ∷ xs) (y ∷ ys) = λ i. flipped_bit (test x y) i ∷ flipped_lanes test xs ys i

pub exchanged : (f : ℕ → ℕ → ℕ) (xs ys : List ℕ) → lanewise f ys xs ≡ lanewise (λ x y. f y x) xs ys
exchanged f [] [] = refl
exchanged f [] (y ∷ ys) = refl
exchanged f (x ∷ xs) [] = refl
exchanged f (x ∷ xs) (y ∷ ys) = ap (λ l. f y x ∷ l) (exchanged f xs ys)

-- ---- one test

pub operand_long : (operand : Operand) (count : ℕ) (columns : List (List ℕ)) → All (λ column. length column ≡ count) columns → IsOperandOf (length columns) operand → length (operand_lanes operand count columns) ≡ count
operand_long (Column column) count columns long fits = long column [] fits
operand_long (Constant word) count columns long fits = length-replicate count word

pub operand_at : (operand : Operand) (count : ℕ) (columns : List (List ℕ)) (k : ℕ) → k < count → get_or (operand_lanes operand count columns) k 0 ≡ operand_word operand (row_across columns k)
operand_at (Column column) count columns k h = sym (get_or-map (λ (words : List ℕ). get_or words k 0) columns column [])
operand_at (Constant word) count columns k h = get_or-replicate count k word 0 h

live_bit : (a : ℕ) (b : Bool) → a ≤ 1 → nat_eq (bit_and a (cond b 1 0)) 1 ≡ cond (nat_eq a 1) b false
live_bit zero true small = refl
live_bit zero false small = refl
live_bit (suc zero) true small = refl
live_bit (suc zero) false small = refl
live_bit (suc (suc a)) b small = absurd (omega arith)

module _ (items : LaneItems) (lengths : LaneLengths) (count : ℕ) (columns : List (List ℕ)) (long : All (λ column. length column ≡ count) columns) where
  test_at : (test : Test) (k : ℕ) → IsTestOf (length columns) test → k < count → get_or (test_lanes test count columns) k 0 ≡ cond (holds_of test (row_across columns k)) 1 0
  test_at test k fits h =
      let left = operand_lanes test.left count columns in
      let right = operand_lanes test.right count columns in
      let first : length left ≡ count = operand_long test.left count columns long fits.0 in
      let second : length right ≡ count = operand_long test.right count columns long fits.1 in
      items.lane (computed (Compare test.comparison)) left right k (omega arith) (omega arith)
      ∙ (λ i. computed (Compare test.comparison) (operand_at test.left count columns k h i) (operand_at test.right count columns k h i))

  pub passed_bits : (valid : List ℕ) (test : Test) → AreBits valid → AreBits (lanewise bit_and valid (test_lanes test count columns))
  passed_bits valid test bits = record {
    each = λ k. rw (items.and valid (test_lanes test count columns) k) (let small : get_or valid k 0 ≤ 1 = bits.each k in omega (arith, and_le_l (get_or valid k 0) (get_or (test_lanes test count columns) k 0)));
  }

  passed_live : (valid : List ℕ) (test : Test) (k : ℕ) → AreBits valid → IsTestOf (length columns) test → k < count
      → is_live (lanewise bit_and valid (test_lanes test count columns)) k ≡ cond (is_live valid k) (holds_of test (row_across columns k)) false
  passed_live valid test k bits fits h =
      ap (λ word. nat_eq word 1) (items.and valid (test_lanes test count columns) k ∙ ap (bit_and (get_or valid k 0)) (test_at test k fits h))
      ∙ live_bit (get_or valid k 0) (holds_of test (row_across columns k)) (bits.each k)

  passed_long : (valid : List ℕ) (test : Test) → length valid ≡ count → IsTestOf (length columns) test → length (lanewise bit_and valid (test_lanes test count columns)) ≡ count
  passed_long valid test same fits =
      let left = operand_lanes test.left count columns in
      let right = operand_lanes test.right count columns in
      let first : length left ≡ count = operand_long test.left count columns long fits.0 in
      let second : length right ≡ count = operand_long test.right count columns long fits.1 in
      omega (arith, lengths.lane bit_and valid (test_lanes test count columns), lengths.lane (computed (Compare test.comparison)) left right)

  -- ---- all tests

  pub all_bits_after : (tests : List Test) (valid : List ℕ) → AreBits valid → AreBits (valid_after tests count columns valid)
  all_bits_after [] valid bits = bits
  all_bits_after (test ∷ tests) valid bits = all_bits_after tests (lanewise bit_and valid (test_lanes test count columns)) (passed_bits valid test bits)

  pub all_long : (tests : List Test) (valid : List ℕ) → length valid ≡ count → AreTestsOf tests (length columns) → length (valid_after tests count columns valid) ≡ count
  all_long [] valid same fits = same
  all_long (test ∷ tests) valid same fits =
      all_long tests (lanewise bit_and valid (test_lanes test count columns)) (passed_long valid test same (All-head (IsTestOf (length columns)) test tests fits)) (All-tail (IsTestOf (length columns)) test tests fits)

  regrouped : (a b c : Bool) → cond (cond a b false) c false ≡ cond a (b && c) false
  regrouped true true c = refl
  regrouped true false c = refl
  regrouped false b c = refl

  alone : (a : Bool) → a ≡ cond a true false
  alone true = refl
  alone false = refl

  pub all_live : (tests : List Test) (valid : List ℕ) (k : ℕ) → AreBits valid → AreTestsOf tests (length columns) → k < count
      → is_live (valid_after tests count columns valid) k ≡ cond (is_live valid k) (list_all (λ test. test (row_across columns k)) (map holds_of tests)) false
  all_live [] valid k bits fits h = alone (is_live valid k)
  all_live (test ∷ tests) valid k bits fits h =
      all_live tests (lanewise bit_and valid (test_lanes test count columns)) k (passed_bits valid test bits) (All-tail (IsTestOf (length columns)) test tests fits) h
      ∙ ap (λ b. cond b (list_all (λ t. t (row_across columns k)) (map holds_of tests)) false) (passed_live valid test k bits (All-head (IsTestOf (length columns)) test tests fits) h)
      ∙ regrouped (is_live valid k) (holds_of test (row_across columns k)) (list_all (λ t. t (row_across columns k)) (map holds_of tests))

-- one more test behind others
pub after_more : (tests : List Test) (test : Test) (count : ℕ) (columns : List (List ℕ)) (valid : List ℕ)
    → valid_after (tests ++ test ∷ []) count columns valid ≡ lanewise bit_and (valid_after tests count columns valid) (test_lanes test count columns)
after_more [] test count columns valid = refl
after_more (first ∷ tests) test count columns valid = after_more tests test count columns (lanewise bit_and valid (test_lanes first count columns))
