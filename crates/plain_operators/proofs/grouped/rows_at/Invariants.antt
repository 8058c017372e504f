use Rattle.std.proofs.Common.{◌≡◌, map, take}
use Rattle.plain_operators.specs.Places.{row_at}
use Rattle.plain_operators.proofs.grouped.rows_at.Given as goal

abbrev pub invariant-loop-place : goal.invariant-loop-place
invariant-loop-place l = map (λ row. row.now) l.block.items ≡ map (row_at (map (λ row. row.now) l.rows)) (take l.place-index l.places)
