use Rattle.std.proofs.Common.{◌≡◌, ◌++◌, replicate}
use Rattle.lowering.proofs.first.add_lengths.Given as goal

abbrev pub invariant-loop : goal.invariant-loop
invariant-loop l = l.lengths.items ≡ l.initial.lengths.items ++ replicate l.counter l.node.rows
