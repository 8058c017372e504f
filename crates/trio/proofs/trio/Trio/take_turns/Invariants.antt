use Rattle.std.proofs.Common.{◌≡◌, take}
use Rattle.trio.specs.Running.{in_turns}
use Rattle.trio.proofs.trio.Trio.take_turns.Given as goal

abbrev pub invariant-loop-party : goal.invariant-loop-party
invariant-loop-party g l = l.self ≡ in_turns g.T.Task.answer (take l.party-index l.turns) l.initial.self
