use Rattle.std.proofs.Common.{◌≡◌, ◌*◌, ◌^◌, ◌≤◌, sum_by, take}
use Rattle.places.specs.Places.{output_words}
use Rattle.places.proofs.total.outputs_words.Given as goal

abbrev pub invariant-loop-output : goal.invariant-loop-output
invariant-loop-output l = record { so_far : l.total ≡ sum_by (output_words l.graph l.rewritten) (take l.output-index l.graph.outputs); few : l.total ≤ 2 ^ 21 * l.output-index }
