-- The segments of a list, and one more.
use Rattle.std.proofs.Common.{◌≡◌, ℕ, zero, suc, ◌<◌, ◌≤◌, Bool, true, false, ltb, List, [], ◌∷◌, ◌++◌, length, get_or, inl, inr, refl, sym, ap, ◌∙◌, subst, arith, length-append, take_all}
use Rattle.std.specs.Prelude.{◌⊎◌}
use Rattle.std.proofs.lemmas.Bool.{ltb-true, ltb-false}
use Rattle.std.proofs.lemmas.List.{take-append-le}
use Rattle.clear_tasks.specs.declared.task.ClearTask.{ClearTask}
use Rattle.step_lists.specs.Layout.{Steps}
use Rattle.step_lists.specs.Possible.{StandsIn}
use Rattle.step_lists.specs.declared.step.Step.{Step}
use Rattle.lowering.specs.Segments.{IsSegment, IsSegmentOf, first_steps, start_of}
use Rattle.lowering.proofs.Elements.{get_appended, get_last, get_behind}

compared : (m n : ℕ) → (m < n) ⊎ ((m ≡ n) ⊎ (n < m))
compared m n = by (ltb m n) (ltb n m) refl refl
  where
    by : (x y : Bool) → ltb m n ≡ x → ltb n m ≡ y → (m < n) ⊎ ((m ≡ n) ⊎ (n < m))
    by true y e f = inl (ltb-true m n e)
    by false true e f = inr (inr (ltb-true n m f))
    by false false e f = inr (inl (omega (arith, ltb-false m n e, ltb-false n m f)))

module _ {T : Type 0} (a b : Steps T) (front : StandsIn a b) where
  first_same : (n : ℕ) → n ≤ length a.steps → first_steps n b ≡ first_steps n a
  first_same n h = ap (first_steps n) front.is ∙ ap (λ ss. record { first = a.first; steps = ss }) (take-append-le n a.steps front.more h)

  pub first_all : first_steps (length a.steps) b ≡ a
  first_all = first_same (length a.steps) (omega arith) ∙ ap (λ ss. record { first = a.first; steps = ss }) (take_all (length a.steps) a.steps (omega arith))

  pub longer : length a.steps ≤ length b.steps
  longer = let e = ap (λ l. length l.steps) front.is in omega (arith, e, length-append a.steps front.more)

pub all_first : {T : Type 0} (b : Steps T) → first_steps (length b.steps) b ≡ b
all_first b = ap (λ ss. record { first = b.first; steps = ss }) (take_all (length b.steps) b.steps (omega arith))

module _ (a b : Steps ClearTask) (ends : List ℕ) (front : StandsIn a b) where
  abbrev more : List ℕ
  more = ends ++ length b.steps ∷ []

  start_kept : (k : ℕ) → k ≤ length ends → start_of more k ≡ start_of ends k
  start_kept zero h = refl
  start_kept (suc k) h = get_appended ends (length b.steps) k (omega (arith, h))

  start_within : ((k : ℕ) → get_or ends k 0 ≤ length a.steps) → (k : ℕ) → start_of ends k ≤ length a.steps
  start_within h zero = omega arith
  start_within h (suc k) = h k

  -- a segment so far
  pub segment_kept : (k : ℕ) (may : Step ClearTask → Bool) (most : ℕ) → ((j : ℕ) → get_or ends j 0 ≤ length a.steps) → k < length ends → IsSegmentOf a ends k may most → IsSegmentOf b more k may most
  segment_kept k may most within h s =
      subst (λ x. IsSegment x (first_steps (get_or more k 0) b) may most) (sym (ap (λ n. first_steps n b) (start_kept k (omega (arith, h))) ∙ first_same a b front (start_of ends k) (start_within within k)))
      (subst (λ x. IsSegment (first_steps (start_of ends k) a) x may most) (sym (ap (λ n. first_steps n b) (get_appended ends (length b.steps) k h) ∙ first_same a b front (get_or ends k 0) (within k))) s)

  -- the new one
  pub segment_new : (k : ℕ) (may : Step ClearTask → Bool) (most : ℕ) → k ≡ length ends → start_of ends (length ends) ≡ length a.steps → IsSegment a b may most → IsSegmentOf b more k may most
  segment_new k may most e whole s =
      subst (λ n. IsSegmentOf b more n may most) (sym e)
      (subst (λ x. IsSegment x (first_steps (get_or more (length ends) 0) b) may most) (sym (ap (λ n. first_steps n b) (start_kept (length ends) (omega arith) ∙ whole) ∙ first_all a b front))
      (subst (λ x. IsSegment a x may most) (sym (ap (λ n. first_steps n b) (get_last ends (length b.steps)) ∙ all_first b)) s))

  pub within_more : ((k : ℕ) → get_or ends k 0 ≤ length a.steps) → (k : ℕ) → get_or more k 0 ≤ length b.steps
  within_more within k = elim (compared k (length ends)) [
    | inl h ↦ let e = get_appended ends (length b.steps) k h in omega (arith, e, within k, longer a b front)
    | inr h ↦ elim h [
      | inl same ↦ let e = ap (λ n. get_or more n 0) same ∙ get_last ends (length b.steps) in omega (arith, e)
      | inr beyond ↦ let e = get_behind ends (length b.steps) k beyond in omega (arith, e)
    ]
  ]

  pub whole_more : start_of more (length more) ≡ length b.steps
  whole_more =
      let e : length more ≡ suc (length ends) = omega (arith, length-append ends (length b.steps ∷ [])) in
      ap (start_of more) e ∙ get_last ends (length b.steps)
