use Rattle.std.proofs.Common.{◌≡◌, ℕ}
use Rattle.trio.specs.RunOf.{all_moves_left}
use Rattle.trio.specs.Running.{in_turns, rounds}
use Rattle.trio.proofs.trio.Trio.run_on.Given as goal

-- so many rounds are done
abbrev pub invariant-loop-self : goal.invariant-loop-self
invariant-loop-self g l = (count : ℕ) × (l.self ≡ in_turns g.T.Task.answer (rounds count) l.initial.self)

abbrev pub decreases-loop-self : goal.decreases-loop-self
decreases-loop-self g l = all_moves_left l.self
