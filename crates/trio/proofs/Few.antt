-- A step has few moves.
use Rattle.std.proofs.Common.{◌≡◌, ℕ, ◌+◌, ◌*◌, ◌≤◌, Bool, true, false, cond, List, [], ◌∷◌, length, sum, arith}
use Rattle.std.specs.Prelude.{◌/◌}
use Rattle.std.proofs.lemmas.Nat.{le-div}
use Rattle.std.proofs.lemmas.List.Sums.{sum_by_from}
use Rattle.lanes.specs.declared.party.Party.{Party}
use Rattle.lanes.specs.declared.three.Three.{Three}
use Rattle.step_lists.specs.declared.step.Step.{Step}
use Rattle.step_lists.specs.Layout.{Layout}
use Rattle.step_lists.specs.Part.{stage_takes}
use Rattle.party_core.specs.Stages.{takes_none, waits_at_once}
use Rattle.party_core.specs.Moves.{stage_moves, moves_of_stages, or_one, step_moves}
use Rattle.trio.specs.FewMoves.{MovesAreFew}
use Rattle.trio.proofs.Movers.{few_stages}

stage_few : (b : Bool) (t : Three ℕ) → stage_moves b t ≤ 2
stage_few b t = by (takes_none t) b where
  by : (n b : Bool) → cond n 1 (cond b 1 2) ≤ 2
  by true b = omega arith
  by false true = omega arith
  by false false = omega arith

more_sum : (a : ℕ) (ns : List ℕ) → sum (a ∷ ns) ≡ a + sum ns
more_sum a ns = omega (arith, sum_by_from (λ x. x) (0 + a) ns)

stages_few : (bs : List Bool) (ts : List (Three ℕ)) → sum (moves_of_stages bs ts) ≤ 2 * length ts
stages_few [] ts = omega arith
stages_few (b ∷ bs) [] = omega arith
stages_few (b ∷ bs) (t ∷ ts) = omega (arith, more_sum (stage_moves b t) (moves_of_stages bs ts), stages_few bs ts, stage_few b t)

one_at_least : (ns : List ℕ) (k : ℕ) → sum ns ≤ k → 1 ≤ k → sum (or_one ns) ≤ k
one_at_least [] k h i = i
one_at_least (n ∷ ns) k h i = h

step_few : {T : Type 0} (v : Party) (l : Layout) (s : Step T) → sum (step_moves v l s) ≤ 8
step_few v l s =
    one_at_least (moves_of_stages (waits_at_once v s) (stage_takes v l s)) 8 (omega (arith, stages_few (waits_at_once v s) (stage_takes v l s), few_stages v l s)) (omega arith)

bound : (n g w : ℕ) → n ≤ 8 → n ≤ (12 * (4096 * (1 + g) + w)) / 4096
bound n g w h = le-div n (12 * (4096 * (1 + g) + w)) 4096 (omega arith) (omega (arith, h))

pub moves_are_few : {T : Type 0} → MovesAreFew T
moves_are_few v l s g w = bound _ g w (step_few v l s)
