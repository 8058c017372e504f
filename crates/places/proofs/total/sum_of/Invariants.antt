use Rattle.std.proofs.Common.{◌≡◌, ◌*◌, ◌^◌, ◌≤◌, sum, take}
use Rattle.places.proofs.total.sum_of.Given as goal

abbrev pub invariant-loop-word : goal.invariant-loop-word
invariant-loop-word l = record { so_far : l.total ≡ sum (take l.word-index l.words); few : l.total ≤ 2 ^ 120 * l.word-index }
