use Rattle.std.proofs.Common.{◌≡◌, length}
use Rattle.lowering.specs.Lowered.{Lowered}
use Rattle.lowering.proofs.lower.lower_outputs.Given as goal

abbrev pub invariant-loop-output : goal.invariant-loop-output
invariant-loop-output l = record {
  count : length l.answers.items ≡ l.output-index;
  lowered : Lowered l.graph l.list l.parts l.ends.items l.answers.items;
}
