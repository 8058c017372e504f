use Rattle.std.proofs.Common.{◌≡◌, [], length}
use Rattle.lowering.specs.Lowered.{Lowered}
use Rattle.lowering.proofs.lower.lower_nodes.Given as goal

abbrev pub invariant-loop-number : goal.invariant-loop-number
invariant-loop-number l = record {
  count : length l.parts.items ≡ l.number;
  lowered : Lowered l.graph l.list l.parts.items l.ends.items [];
}
