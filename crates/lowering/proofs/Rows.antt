-- Rows in slots, place by place.
use Rattle.std.proofs.Common.{◌≡◌, ◌≢◌, ℕ, ◌+◌, eqb, Bool, true, false, cond, List, [], ◌∷◌, ◌++◌, length, map, get_or, refl, sym, ap, ◌∙◌, arith, append-nil}
use Rattle.std.specs.Prelude.{◌==◌, filter, not}
use Rattle.std.specs.List.{range_with_len}
use Rattle.std.proofs.lemmas.Bool.{eqb-true}
use Rattle.std.proofs.lemmas.List.{length-map, map-append, map-id}
use Rattle.std.proofs.lemmas.List.Elements.{filter-append}
use Rattle.std.proofs.lemmas.List.FromFn.{map-range_with_len_more, length-map-range_with_len}
use Rattle.tapes.specs.RowLaws.{row_across}

-- one column more
pub row_more : (f : ℕ → List ℕ) (a n k : ℕ) → row_across (map f (range_with_len a (n + 1))) k ≡ row_across (map f (range_with_len a n)) k ++ get_or (f (a + n)) k 0 ∷ []
row_more f a n k = ap (λ columns. row_across columns k) (map-range_with_len_more f a n (a + n) refl) ∙ map-append (λ column. get_or column k 0) (map f (range_with_len a n)) (f (a + n) ∷ [])

pub row_wide : (f : ℕ → List ℕ) (a n k : ℕ) → length (row_across (map f (range_with_len a n)) k) ≡ n
row_wide f a n k = length-map (map f (range_with_len a n)) (λ column. get_or column k 0) ∙ length-map-range_with_len f a n

pub range_more : (n : ℕ) → range_with_len 0 (n + 1) ≡ range_with_len 0 n ++ n ∷ []
range_more n = sym (map-id (range_with_len 0 (n + 1))) ∙ map-range_with_len_more (λ (k : ℕ). k) 0 n n (omega arith) ∙ ap (λ l. l ++ n ∷ []) (map-id (range_with_len 0 n))

-- one place more, at which a row stands or not
pub places_with : {A : Type 0} (f : ℕ → A) (p : ℕ → Bool) (n : ℕ) → p n ≡ true → map f (filter p (range_with_len 0 (n + 1))) ≡ map f (filter p (range_with_len 0 n)) ++ f n ∷ []
places_with f p n h =
    ap (λ ks. map f (filter p ks)) (range_more n) ∙ ap (map f) (filter-append p (range_with_len 0 n) (n ∷ []) ∙ ap (λ (b : Bool). filter p (range_with_len 0 n) ++ cond b (n ∷ []) []) h)
    ∙ map-append f (filter p (range_with_len 0 n)) (n ∷ [])

pub places_without : {A : Type 0} (f : ℕ → A) (p : ℕ → Bool) (n : ℕ) → p n ≡ false → map f (filter p (range_with_len 0 (n + 1))) ≡ map f (filter p (range_with_len 0 n))
places_without f p n h =
    ap (λ ks. map f (filter p ks)) (range_more n) ∙ ap (map f) (filter-append p (range_with_len 0 n) (n ∷ []) ∙ ap (λ (b : Bool). filter p (range_with_len 0 n) ++ cond b (n ∷ []) []) h ∙ append-nil (filter p (range_with_len 0 n)))

pub not_zero : (n : ℕ) → n ≢ 0 → not (n == 0) ≡ true
not_zero n h = by (eqb n 0) refl
  where
    by : (b : Bool) → eqb n 0 ≡ b → not (n == 0) ≡ true
    by true e = absurd (h (eqb-true n 0 e))
    by false e = ap not e

pub is_zero : (n : ℕ) → n ≡ 0 → not (n == 0) ≡ false
is_zero n h = ap (λ (k : ℕ). not (k == 0)) h
