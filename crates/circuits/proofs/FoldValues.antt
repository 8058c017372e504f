-- Words under a flag, from words to lanes, and the laws of folds.
use Rattle.std.proofs.Common.{◌≡◌, ℕ, ◌%◌, ◌^◌, ◌-◌, ◌<◌, ⊎_elim, List, [], ◌∷◌, refl, ap, ◌∙◌, arith, true, false, lit<}
use Rattle.std.specs.Prelude.{bit_and, nat_eq}
use Rattle.std.proofs.lemmas.Bool.Decides.{nat_tests}
use Rattle.std.proofs.lemmas.Nat.{or_comm, xor_lt}
use Rattle.std.proofs.lemmas.Nat.Bits.{bit_at_or, same_from_bits}
use Rattle.std.specs.Int.Bits.{or_zero_l}
use Rattle.lanes.specs.Lanes.{lanewise}
use Rattle.lanes.specs.Shifts.{spread_word}
use Rattle.lanes.specs.Sums.{chosen_word}
use Rattle.lanes.specs.Word.{AreWords, word_not}
use Rattle.lanes.specs.WordLaws.{WordsUnderFlags}
use Rattle.circuits.specs.declared.folds.Fold.{Fold}
use Rattle.circuits.specs.declared.folds.Fold.TheVariants.{Sum, Least, Greatest, Any}
use Rattle.circuits.specs.Folds.{combined_word, neutral_word}
use Rattle.circuits.specs.Values.{cleared_lanes, raised_lanes}
use Rattle.circuits.proofs.LaneLists.{bit_cases}
use Rattle.circuits.proofs.LaneValues.{head_word, tail_words}

-- a word and a spread flag
cleared_word : WordsUnderFlags → (flag x : ℕ) → x < 2 ^ 64 → bit_and (spread_word flag) x ≡ chosen_word flag x 0
cleared_word laws flag x below = ⊎_elim
    (λ (off : flag % 2 ≡ 0). let no : nat_eq (flag % 2) 1 ≡ false = grind (arith, nat_tests) in laws.off flag x off ∙ rw no refl)
    (λ (on : flag % 2 ≡ 1). let yes : nat_eq (flag % 2) 1 ≡ true = grind (arith, nat_tests) in laws.on flag x on below ∙ rw yes refl)
    (bit_cases (flag % 2) (omega arith))

not_word : (x : ℕ) → x < 2 ^ 64 → word_not x < 2 ^ 64
not_word x below = xor_lt 64 x (2 ^ 64 - 1) below (lit< tt)

raised_word : WordsUnderFlags → (flag x : ℕ) → x < 2 ^ 64 → word_not (bit_and (spread_word flag) (word_not x)) ≡ chosen_word flag x (2 ^ 64 - 1)
raised_word laws flag x below = ⊎_elim
    (λ (off : flag % 2 ≡ 0). let no : nat_eq (flag % 2) 1 ≡ false = grind (arith, nat_tests) in ap word_not (laws.off flag (word_not x) off) ∙ rw no refl)
    (λ (on : flag % 2 ≡ 1). let yes : nat_eq (flag % 2) 1 ≡ true = grind (arith, nat_tests) in ap word_not (laws.on flag (word_not x) on (not_word x below)) ∙ laws.twice x ∙ rw yes refl)
    (bit_cases (flag % 2) (omega arith))

pub cleared_is : WordsUnderFlags → (flags xs : List ℕ) → AreWords xs → cleared_lanes flags xs ≡ lanewise (λ flag x. chosen_word flag x 0) flags xs
unfolding cleared_lanes
cleared_is laws [] xs h = refl
cleared_is laws (flag ∷ flags) [] h = refl
cleared_is laws (flag ∷ flags) (x ∷ xs) h =
    ap (λ w. w ∷ cleared_lanes flags xs) (cleared_word laws flag x (head_word x xs h))
    ∙ ap (λ rest. chosen_word flag x 0 ∷ rest) (cleared_is laws flags xs (tail_words x xs h))

pub raised_is : WordsUnderFlags → (flags xs : List ℕ) → AreWords xs → raised_lanes flags xs ≡ lanewise (λ flag x. chosen_word flag x (2 ^ 64 - 1)) flags xs
unfolding cleared_lanes raised_lanes
raised_is laws [] xs h = refl
raised_is laws (flag ∷ flags) [] h = refl
raised_is laws (flag ∷ flags) (x ∷ xs) h =
    ap (λ w. w ∷ raised_lanes flags xs) (raised_word laws flag x (head_word x xs h))
    ∙ ap (λ rest. chosen_word flag x (2 ^ 64 - 1) ∷ rest) (raised_is laws flags xs (tail_words x xs h))

-- words may be folded in any order, and the neutral word changes no fold
pub combined_assoc : (fold : Fold) (x y z : ℕ) → combined_word fold (combined_word fold x y) z ≡ combined_word fold x (combined_word fold y z)
combined_assoc Sum x y z = omega arith
combined_assoc Least x y z = omega arith
combined_assoc Greatest x y z = omega arith
combined_assoc Any x y z = same_from_bits _ _ (λ i. simp (bit_at_or) (omega arith))

pub combined_comm : (fold : Fold) (x y : ℕ) → combined_word fold x y ≡ combined_word fold y x
combined_comm Sum x y = omega arith
combined_comm Least x y = omega arith
combined_comm Greatest x y = omega arith
combined_comm Any x y = or_comm x y

pub combined_neutral : (fold : Fold) (x : ℕ) → x < 2 ^ 64 → combined_word fold (neutral_word fold) x ≡ x
combined_neutral Sum x below = omega arith
combined_neutral Least x below = omega arith
combined_neutral Greatest x below = omega arith
combined_neutral Any x below = or_zero_l x
