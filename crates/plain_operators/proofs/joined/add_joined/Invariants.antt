use Rattle.std.proofs.Common.{◌≡◌, ◌++◌, map, take}
use Rattle.plain_operators.specs.Places.{joined_rows_at}
use Rattle.plain_operators.proofs.joined.add_joined.Given as goal

abbrev pub invariant-loop-place : goal.invariant-loop-place
invariant-loop-place l = map (λ row. row.items) l.made.items ≡ map (λ row. row.items) l.initial.made.items ++ joined_rows_at l.left_keys l.right_keys (map (λ row. row.now) l.rights) l.left (take l.place-index l.places)
