-- The columns that a party may know, one by one.
use Rattle.std.proofs.Common.{◌≡◌, ℕ, zero, suc, ◌+◌, Bool, cond, [], ◌∷◌, ◌++◌, add-one, add-zero, sym, ap, ◌∙◌, arith}
use Rattle.std.specs.List.{filter, range_with_len}
use Rattle.std.proofs.lemmas.List.Elements.{filter-append}

range_push : (from count : ℕ) → range_with_len from (count + 1) ≡ range_with_len from count ++ (from + count) ∷ []
range_push from zero = ap (λ n. n ∷ []) (sym (add-zero from))
range_push from (suc count) =
    let rest = range_push (from + 1) count in
    let moved : from + 1 + count ≡ from + suc count = omega arith in
    simp add-one (ap (λ l. from ∷ l) (simp add-one at (rest ∙ ap (λ n. range_with_len (from + 1) count ++ n ∷ []) moved)))

-- one more number that passes a test, or not
pub kept_more : (test : ℕ → Bool) (count : ℕ) → filter test (range_with_len 0 (count + 1)) ≡ filter test (range_with_len 0 count) ++ cond (test count) (count ∷ []) []
kept_more test count =
    let at : 0 + count ≡ count = omega arith in
    ap (filter test) (range_push 0 count) ∙ filter-append test (range_with_len 0 count) ((0 + count) ∷ [])
    ∙ ap (λ n. filter test (range_with_len 0 count) ++ cond (test n) (n ∷ []) []) at
