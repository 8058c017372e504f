use Rattle.std.proofs.Common.{◌≡◌}
use Rattle.padded.specs.Table.{valid_up_to}
use Rattle.padded.proofs.table.valid_words.Given as goal

abbrev pub invariant-loop-place : goal.invariant-loop-place
invariant-loop-place l = l.words.items ≡ valid_up_to l.rows l.place
