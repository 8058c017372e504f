use Rattle.std.proofs.Common.{◌≡◌, ◌++◌, drop}
use Rattle.places.specs.Bounds.{flags_from}
use Rattle.places.proofs.check.flags_of.Given as goal

abbrev pub invariant-loop-number : goal.invariant-loop-number
invariant-loop-number l = flags_from l.trust.known l.rewritten 0 l.graph.nodes ≡ l.flags.items ++ flags_from l.trust.known l.rewritten l.number (drop l.number l.graph.nodes)
