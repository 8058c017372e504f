-- Each move leaves one move less.
use Rattle.std.proofs.Common.{◌≡◌, ℕ, zero, suc, ◌+◌, ◌-◌, ◌<◌, ◌≤◌, Bool, true, false, cond, Some, List, [], ◌∷◌, length, drop, refl, sym, ap, subst, ◌∙◌, arith, inl, inr}
use Rattle.std.specs.Prelude.{◌⊎◌, nat_lt, sum, slice_index_or}
use Rattle.std.proofs.lemmas.Bool.{ltb-true, ltb-false}
use Rattle.std.proofs.lemmas.List.{drop_all}
use Rattle.std.proofs.lemmas.List.Sums.{sum_by-cons}
use Rattle.lanes.specs.declared.party.Party.{Party}
use Rattle.lanes.specs.declared.three.Three.{Three}
use Rattle.step_lists.specs.declared.step.Step.{Step}
use Rattle.step_lists.specs.declared.step.Step.TheVariants.{Const, Lin, And, Share, Reveal, Steer, Tell, Work, Flag}
use Rattle.step_lists.specs.Layout.{Layout, grown}
use Rattle.step_lists.specs.Part.{stage_takes, takes_nothing}
use Rattle.party_core.specs.Stages.{waits_at_once, waits_at, takes_at, stage_count}
use Rattle.party_core.specs.CoreView.{CoreView, next_step, layout_here, behind_stage}
use Rattle.party_core.specs.Moves.{stage_moves, moves_of_stages, or_one, step_moves, moves_behind, moves_from, moves_left}
use Rattle.party_core.proofs.Steps.{drop_here}

-- ---- the moves of the stages of a step

same_count : {T : Type 0} (v : Party) (l : Layout) (s : Step T) → length (waits_at_once v s) ≡ length (stage_takes v l s)
same_count v l (Const words) = refl
same_count v l (Lin op) = refl
same_count v l (And x y) = refl
same_count v l (Share p s) = refl
same_count v l (Reveal to moved shown) = refl
same_count v l (Steer by s moved) = refl
same_count v l (Tell x y s) = refl
same_count v l (Work p task takes gives) = refl
same_count v l (Flag p s) = refl

moves_count : (ws : List Bool) (ns : List (Three ℕ)) → length ws ≡ length ns → length (moves_of_stages ws ns) ≡ length ns
moves_count [] ns e = e
moves_count (w ∷ ws) [] e = absurd (omega (arith, e))
moves_count (w ∷ ws) (n ∷ ns) e = ap suc (moves_count ws ns (omega (arith, e)))

or_one_long : (ms : List ℕ) → 0 < length ms → or_one ms ≡ ms
or_one_long [] h = absurd (omega (arith, h))
or_one_long (m ∷ ms) h = refl

-- from a stage on: its moves, and those of the stages behind it
drop_moves : (ws : List Bool) (ns : List (Three ℕ)) (i : ℕ) → length ws ≡ length ns → i < length ns
    → drop i (moves_of_stages ws ns) ≡ stage_moves (slice_index_or ws i false) (slice_index_or ns i takes_nothing) ∷ drop (suc i) (moves_of_stages ws ns)
drop_moves [] [] i e h = absurd (omega (arith, h))
drop_moves [] (n ∷ ns) i e h = absurd (omega (arith, e))
drop_moves (w ∷ ws) [] i e h = absurd (omega (arith, e))
drop_moves (w ∷ ws) (n ∷ ns) zero e h = refl
drop_moves (w ∷ ws) (n ∷ ns) (suc i) e h = drop_moves ws ns i (omega (arith, e)) (omega (arith, h))

-- a step without stages is one turn, and so is a stage that takes none
pub record MovesAt {T : Type 0} (v : Party) (l : Layout) (s : Step T) (i : ℕ) : Type 0 where
  pub is : drop i (step_moves v l s) ≡ stage_moves (waits_at v s i) (takes_at v l s i) ∷ drop (suc i) (step_moves v l s)

empty_ns : (ns : List (Three ℕ)) → length ns ≡ 0 → ns ≡ []
empty_ns [] e = refl
empty_ns (n ∷ ns) e = absurd (omega (arith, e))

no_moves : (ws : List Bool) → moves_of_stages ws [] ≡ []
no_moves [] = refl
no_moves (w ∷ ws) = refl

moves_at_none : (ws : List Bool) (ns : List (Three ℕ)) → length ws ≡ length ns → length ns ≡ 0
    → drop 0 (or_one (moves_of_stages ws ns)) ≡ stage_moves (slice_index_or ws 0 false) (slice_index_or ns 0 takes_nothing) ∷ drop 1 (or_one (moves_of_stages ws ns))
moves_at_none [] [] e z = refl
moves_at_none (w ∷ ws) [] e z = absurd (omega (arith, e))
moves_at_none ws (n ∷ ns) e z = absurd (omega (arith, z))

moves_at_some : (ws : List Bool) (ns : List (Three ℕ)) (i : ℕ) → length ws ≡ length ns → i < length ns
    → drop i (or_one (moves_of_stages ws ns)) ≡ stage_moves (slice_index_or ws i false) (slice_index_or ns i takes_nothing) ∷ drop (suc i) (or_one (moves_of_stages ws ns))
moves_at_some ws ns i e h =
    let n = moves_count ws ns e in
    let same = or_one_long (moves_of_stages ws ns) (omega (arith, n, h)) in
    ap (λ ms. drop i ms) same ∙ drop_moves ws ns i e h ∙ ap (λ ms. stage_moves (slice_index_or ws i false) (slice_index_or ns i takes_nothing) ∷ drop (suc i) ms) (sym same)

pub moves_at : {T : Type 0} (v : Party) (l : Layout) (s : Step T) (i : ℕ) → (i < stage_count v l s) ⊎ (i ≡ 0) → MovesAt v l s i
moves_at v l s i h = elim h [ inl lt ↦ some lt | inr z ↦ by z (nat_lt i (stage_count v l s)) refl ] where
  some : i < stage_count v l s → MovesAt v l s i
  some lt = record { is = moves_at_some (waits_at_once v s) (stage_takes v l s) i (same_count v l s) lt }

  by : i ≡ 0 → (b : Bool) → nat_lt i (stage_count v l s) ≡ b → MovesAt v l s i
  by z true e = record { is = moves_at_some (waits_at_once v s) (stage_takes v l s) i (same_count v l s) (ltb-true i (stage_count v l s) e) }
  by z false e =
      let n = ltb-false i (stage_count v l s) e in
      subst (λ i. MovesAt v l s i) (sym z) (record { is = moves_at_none (waits_at_once v s) (stage_takes v l s) (same_count v l s) (omega (arith, n, z)) })

-- behind the last stage there are none
behind_last : {T : Type 0} (v : Party) (l : Layout) (s : Step T) (i : ℕ) → nat_lt (suc i) (stage_count v l s) ≡ false → drop (suc i) (step_moves v l s) ≡ []
behind_last v l s i e =
    let h = ltb-false (suc i) (stage_count v l s) e in
    let n = moves_count (waits_at_once v s) (stage_takes v l s) (same_count v l s) in
    drop_all (suc i) (step_moves v l s) (few (moves_of_stages (waits_at_once v s) (stage_takes v l s)) (omega (arith, h, n)))
  where
    few : (ms : List ℕ) → length ms ≤ suc i → length (or_one ms) ≤ suc i
    few [] h = omega arith
    few (m ∷ ms) h = h

-- ---- of a core

module _ {T : Type 0} where
  -- at the beginning of a step, the moves of this and of all others
  from_start : (c : CoreView T) (ss : List (Step T)) → c.far.stages ≡ 0 → c.far.turned ≡ false → moves_from c ss ≡ moves_behind c.party (layout_here c) ss
  from_start c [] e f = refl
  from_start c (s ∷ ss) e f =
      let m = moves_behind c.party (grown (layout_here c) s) ss in
      ap (λ i. (sum (drop i (step_moves c.party (layout_here c) s)) + m) - cond c.far.turned 1 0) e
      ∙ ap (λ b. (sum (step_moves c.party (layout_here c) s) + m) - cond b 1 0) f
      ∙ (let z : (n : ℕ) → n - 0 ≡ n = λ n. omega arith in z (sum (step_moves c.party (layout_here c) s) + m))

  pub moves_here : (c : CoreView T) (s : Step T) → next_step c ≡ Some s
      → moves_left c ≡ (sum (drop c.far.stages (step_moves c.party (layout_here c) s)) + moves_behind c.party (grown (layout_here c) s) (drop (suc c.far.steps) c.list.steps)) - cond c.far.turned 1 0
  moves_here c s e = ap (λ ss. moves_from c ss) (drop_here c.list.steps c.far.steps s e)

  -- behind a stage
  pub moves_behind_stage : (c : CoreView T) (s : Step T) → next_step c ≡ Some s → (layout_here (record c { far = record { steps = suc c.far.steps; stages = 0; turned = false } }) ≡ grown (layout_here c) s)
      → moves_left (record c { far = behind_stage (stage_count c.party (layout_here c) s) c.far })
      ≡ sum (drop (suc c.far.stages) (step_moves c.party (layout_here c) s)) + moves_behind c.party (grown (layout_here c) s) (drop (suc c.far.steps) c.list.steps)
  moves_behind_stage c s e grows = by (nat_lt (suc c.far.stages) (stage_count c.party (layout_here c) s)) refl where
    by : (b : Bool) → nat_lt (suc c.far.stages) (stage_count c.party (layout_here c) s) ≡ b
        → moves_left (record c { far = cond b (record { steps = c.far.steps; stages = suc c.far.stages; turned = false }) (record { steps = suc c.far.steps; stages = 0; turned = false }) })
        ≡ sum (drop (suc c.far.stages) (step_moves c.party (layout_here c) s)) + moves_behind c.party (grown (layout_here c) s) (drop (suc c.far.steps) c.list.steps)
    by true f =
        let m = sum (drop (suc c.far.stages) (step_moves c.party (layout_here c) s)) + moves_behind c.party (grown (layout_here c) s) (drop (suc c.far.steps) c.list.steps) in
        moves_here (record c { far = record { steps = c.far.steps; stages = suc c.far.stages; turned = false } }) s e
        ∙ (let z : (n : ℕ) → n - 0 ≡ n = λ n. omega arith in z m)
    by false f =
        let ss = drop (suc c.far.steps) c.list.steps in
        let z : (n : ℕ) → n ≡ 0 + n = λ n. omega arith in
        from_start (record c { far = record { steps = suc c.far.steps; stages = 0; turned = false } }) ss refl refl
        ∙ ap (λ l. moves_behind c.party l ss) grows
        ∙ z (moves_behind c.party (grown (layout_here c) s) ss)
        ∙ ap (λ ms. sum ms + moves_behind c.party (grown (layout_here c) s) ss) (sym (behind_last c.party (layout_here c) s c.far.stages f))

  -- the moves of the stage, and those behind it
  pub moves_split : (c : CoreView T) (s : Step T) → MovesAt c.party (layout_here c) s c.far.stages
      → sum (drop c.far.stages (step_moves c.party (layout_here c) s)) ≡ stage_moves (waits_at c.party s c.far.stages) (takes_at c.party (layout_here c) s c.far.stages) + sum (drop (suc c.far.stages) (step_moves c.party (layout_here c) s))
  moves_split c s h =
      ap sum h.is ∙ sum_by-cons (λ x. x) (stage_moves (waits_at c.party s c.far.stages) (takes_at c.party (layout_here c) s c.far.stages)) (drop (suc c.far.stages) (step_moves c.party (layout_here c) s))
