-- Which numbers stand in a list, and whether it is an order.
use Rattle.std.proofs.Common.{◌≡◌, ℕ, suc, ◌+◌, ◌<◌, ◌≤◌, Bool, true, false, cond, List, [], ◌∷◌, ◌++◌, length, take, get_or, set, replicate, refl, sym, ap, ◌∙◌, arith, get_or-set_other, get_or-set_same}
use Rattle.std.specs.Prelude.{nat_lt, ◌==◌}
use Rattle.std.specs.List.{list_all, range_with_len}
use Rattle.std.proofs.lemmas.Bool.Decides.{nat_tests}
use Rattle.std.proofs.lemmas.Bool.{eqb-true, eqb-false}
use Rattle.std.proofs.lemmas.List.{take_more, take_all, length-set, length-replicate, get_or-replicate}
use Rattle.std.proofs.lemmas.List.Folds.{list_all-map}
use Rattle.std.proofs.lemmas.List.FromFn.{fill_by_all}
use Rattle.tapes.specs.Order.{place_of}
use Rattle.step_lists.specs.Part.{is_order}

abbrev pub stands : ℕ → List ℕ → Bool
stands k [] = false
stands k (x ∷ xs) = cond (k == x) true (stands k xs)

found : (b : Bool) (m n : ℕ) → nat_lt (cond b 0 (suc m)) (suc n) ≡ cond b true (nat_lt m n)
found true m n = grind (arith, nat_tests)
found false m n = grind (arith, nat_tests)

pub place_stands : (k : ℕ) (xs : List ℕ) → nat_lt (place_of k xs) (length xs) ≡ stands k xs
place_stands k [] = refl
place_stands k (x ∷ xs) = found (k == x) (place_of k xs) (length xs) ∙ ap (λ b. cond (k == x) true b) (place_stands k xs)

pub stands_push : (k : ℕ) (xs : List ℕ) (y : ℕ) → stands k (xs ++ y ∷ []) ≡ cond (k == y) true (stands k xs)
stands_push k [] y = refl
stands_push k (x ∷ xs) y = ap (λ b. cond (k == x) true b) (stands_push k xs y) ∙ exchanged (k == x) (k == y) (stands k xs) where
  exchanged : (a b c : Bool) → cond a true (cond b true c) ≡ cond b true (cond a true c)
  exchanged true true c = refl
  exchanged true false c = refl
  exchanged false true c = refl
  exchanged false false c = refl

-- of the first words that were looked at it is known which numbers stand there
pub record Marks (words : List ℕ) (i : ℕ) (seen : List Bool) : Type 0 where
  pub long : length seen ≡ length words
  pub stand : (k : ℕ) → k < length words → get_or seen k false ≡ stands k (take i words)

stands_more : (words : List ℕ) (i k : ℕ) → i < length words → stands k (take (i + 1) words) ≡ cond (k == get_or words i 0) true (stands k (take i words))
stands_more words i k h = ap (stands k) (take_more words i 0 h) ∙ stands_push k (take i words) (get_or words i 0)

pub marked : (words : List ℕ) (i : ℕ) (seen : List Bool) → i < length words → get_or words i 0 < length words → Marks words i seen
    → Marks words (i + 1) (set seen (get_or words i 0) true)
marked words i seen h j m = record { long = length-set seen w true ∙ m.long; stand = λ k lt. at k lt (k == w) refl } where
  w : ℕ
  w = get_or words i 0

  at : (k : ℕ) → k < length words → (b : Bool) → (k == w) ≡ b → get_or (set seen w true) k false ≡ stands k (take (i + 1) words)
  at k lt true e =
      ap (λ n. get_or (set seen w true) n false) (eqb-true k w e) ∙ get_or-set_same seen w true false (omega (arith, m.long))
      ∙ sym (stands_more words i k h ∙ ap (λ b. cond b true (stands k (take i words))) e)
  at k lt false e =
      get_or-set_other seen w k true false (eqb-false k w e) ∙ m.stand k lt
      ∙ sym (stands_more words i k h ∙ ap (λ b. cond b true (stands k (take i words))) e)

pub passed : (words : List ℕ) (i : ℕ) (seen : List Bool) → i < length words → length words ≤ get_or words i 0 → Marks words i seen → Marks words (i + 1) seen
passed words i seen h j m = record { long = m.long; stand = λ k lt. at k lt (k == w) refl } where
  w : ℕ
  w = get_or words i 0

  at : (k : ℕ) → k < length words → (b : Bool) → (k == w) ≡ b → get_or seen k false ≡ stands k (take (i + 1) words)
  at k lt true e = let same = eqb-true k w e in absurd (omega arith)
  at k lt false e = m.stand k lt ∙ sym (stands_more words i k h ∙ ap (λ b. cond b true (stands k (take i words))) e)

pub none_marked : (words : List ℕ) (seen : List Bool) → seen ≡ replicate (length words) false → Marks words 0 seen
none_marked words seen e = record {
  long = ap length e ∙ length-replicate (length words) false;
  stand = λ k lt. ap (λ xs. get_or xs k false) e ∙ get_or-replicate (length words) k false false lt;
}

same_tests : {X : Type 0} (f g : X → Bool) → ((x : X) → f x ≡ g x) → (xs : List X) → list_all f xs ≡ list_all g xs
same_tests f g e [] = refl
same_tests f g e (x ∷ xs) = let h = e x in let t = same_tests f g e xs in cc

pub all_stand : (words : List ℕ) (i : ℕ) (seen : List Bool) → length words ≤ i → Marks words i seen → list_all (λ b. b) seen ≡ is_order words
all_stand words i seen h m =
    ap (list_all (λ b. b)) (fill_by_all (λ k. stands k words) seen (length words) false m.long (λ k lt. m.stand k lt ∙ ap (stands k) (take_all i words h)))
    ∙ list_all-map (λ b. b) (λ k. stands k words) (range_with_len 0 (length words))
    ∙ same_tests (λ k. stands k words) (λ k. nat_lt (place_of k words) (length words)) (λ k. sym (place_stands k words)) (range_with_len 0 (length words))
