-- What the steps behind a place take.
use Rattle.std.proofs.Common.{◌≡◌, ℕ, zero, suc, ◌+◌, ◌<◌, ◌≤◌, Some, List, [], ◌∷◌, length, take, drop, refl, sym, ap, ◌∙◌, arith}
use Rattle.std.specs.Prelude.{slice_get}
use Rattle.lanes.specs.declared.party.Party.{Party}
use Rattle.step_lists.specs.declared.step.Step.{Step}
use Rattle.step_lists.specs.Layout.{Steps, grown, grown_by, starting}
use Rattle.step_lists.specs.Part.{count_from, stage_takes}
use Rattle.step_lists.specs.RunLaws.{grown_by-append}
use Rattle.party_core.specs.Holding.{layout_at}
use Rattle.party_core.specs.Stages.{stages_behind, stage_count}
use Rattle.party_core.proofs.Counting.{count_append, drop_both}
use Rattle.party_core.proofs.Steps.{drop_here, take_here}

pub some_at : {A : Type 0} (xs : List A) (k : ℕ) → k < length xs → (x : A) × (slice_get xs k ≡ Some x)
some_at [] k h = absurd (omega (arith, h))
some_at (x ∷ xs) zero h = (x, refl)
some_at (x ∷ xs) (suc k) h = some_at xs k (omega (arith, h))

pub nothing_behind : {A : Type 0} (k : ℕ) (xs : List A) → length xs ≤ k → drop k xs ≡ []
nothing_behind zero [] h = refl
nothing_behind (suc k) [] h = refl
nothing_behind zero (x ∷ xs) h = absurd (omega (arith, h))
nothing_behind (suc k) (x ∷ xs) h = nothing_behind k xs (omega (arith, h))

layout_next : {T : Type 0} (list : Steps T) (k : ℕ) (s : Step T) → slice_get list.steps k ≡ Some s → layout_at list (suc k) ≡ grown (layout_at list k) s
layout_next list k s e = ap (λ xs. grown_by (starting list.first) xs) (take_here list.steps k s e) ∙ grown_by-append (starting list.first) (take k list.steps) (s ∷ [])

-- what is left from a stage of a step on: that of the step, and that of the steps behind it
pub behind_step : {T : Type 0} (v p : Party) (list : Steps T) (k : ℕ) (s : Step T) (i : ℕ) → slice_get list.steps k ≡ Some s → i ≤ stage_count v (layout_at list k) s
    → count_from p (drop i (stages_behind v (layout_at list k) (drop k list.steps)))
    ≡ count_from p (drop i (stage_takes v (layout_at list k) s)) + count_from p (stages_behind v (layout_at list (k + 1)) (drop (k + 1) list.steps))
behind_step v p list k s i e h =
    let l = layout_at list k in
    let rest = drop (suc k) list.steps in
    let one : suc k ≡ k + 1 = omega arith in
    ap (λ ss. count_from p (drop i (stages_behind v l ss))) (drop_here list.steps k s e)
    ∙ ap (count_from p) (drop_both i (stage_takes v l s) (stages_behind v (grown l s) rest) h)
    ∙ count_append p (drop i (stage_takes v l s)) (stages_behind v (grown l s) rest)
    ∙ ap (λ m. count_from p (drop i (stage_takes v l s)) + count_from p (stages_behind v m rest)) (sym (layout_next list k s e))
    ∙ ap (λ n. count_from p (drop i (stage_takes v l s)) + count_from p (stages_behind v (layout_at list n) (drop n list.steps))) one

-- behind all steps nothing is left
pub none_left : {T : Type 0} (v p : Party) (list : Steps T) (k i : ℕ) → length list.steps ≤ k → count_from p (drop i (stages_behind v (layout_at list k) (drop k list.steps))) ≡ 0
none_left v p list k i h = ap (λ ss. count_from p (drop i (stages_behind v (layout_at list k) ss))) (nothing_behind k list.steps h) ∙ ap (count_from p) (none i) where
  none : {A : Type 0} (i : ℕ) → drop {A = A} i [] ≡ []
  none zero = refl
  none (suc i) = refl
