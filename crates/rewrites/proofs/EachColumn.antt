-- Each column so far is copied.
use Rattle.std.proofs.Common.{◌≡◌, ℕ, ◌+◌, ◌<◌, Bool, true, false, refl, sym, ◌∙◌, subst, arith, inl, inr, zero-add}
use Rattle.std.specs.List.{list_all, range_with_len}
use Rattle.std.proofs.lemmas.Bool.{cases_lt, false≢true}
use Rattle.std.proofs.lemmas.List.FromFn.{get_or-range_with_len, length-range_with_len}
use Rattle.std.proofs.lemmas.List.Sums.{AllPass-from_list_all, list_all-from_AllPass}

module _ (p : ℕ → Bool) where
  -- what passes at each place below a width
  pub each_passes : (width : ℕ) → list_all p (range_with_len 0 width) ≡ true → (k : ℕ) → k < width → p k ≡ true
  each_passes width all k below =
      let many = length-range_with_len 0 width in
      subst (λ c. p c ≡ true) (get_or-range_with_len 0 width k 0 below ∙ zero-add k) (AllPass-from_list_all p (range_with_len 0 width) all k 0 (omega arith))

  pub all_pass : (width : ℕ) → ((k : ℕ) → k < width → p k ≡ true) → list_all p (range_with_len 0 width) ≡ true
  all_pass width each =
      let many = length-range_with_len 0 width in
      list_all-from_AllPass p (range_with_len 0 width) (λ k d below. subst (λ c. p c ≡ true) (sym (get_or-range_with_len 0 width k d (omega arith) ∙ zero-add k)) (each k (omega arith)))

  pub one_fails : (width k : ℕ) → k < width → p k ≡ false → false ≡ list_all p (range_with_len 0 width)
  one_fails width k below fails = by (list_all p (range_with_len 0 width)) refl
    where
      by : (b : Bool) → list_all p (range_with_len 0 width) ≡ b → false ≡ list_all p (range_with_len 0 width)
      by true is = absurd (false≢true (sym fails ∙ each_passes width is k below))
      by false is = sym is

  pub one_more : (width : ℕ) → list_all p (range_with_len 0 width) ≡ true → p width ≡ true → list_all p (range_with_len 0 (width + 1)) ≡ true
  one_more width all last =
      all_pass (width + 1)
      (λ k below. elim (cases_lt k width) [
        | inl before ↦ each_passes width all k before
        | inr behind ↦ let same : width ≡ k = omega arith in subst (λ c. p c ≡ true) same last
      ])
