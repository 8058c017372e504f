use Rattle.std.proofs.Common.{◌≡◌, map, take}
use Rattle.std.specs.List.{flat_map}
use Rattle.plain_operators.specs.Limits.{first_of}
use Rattle.plain_operators.specs.Places.{joined_rows_found}
use Rattle.plain_operators.proofs.joined.rows_found.Given as goal

abbrev pub invariant-loop-left : goal.invariant-loop-left
invariant-loop-left l = map (λ row. row.items) l.made.items ≡ first_of l.limit (flat_map (joined_rows_found l.left_keys l.right_keys (map (λ row. row.now) l.rights) l.index) (map (λ row. row.now) (take l.left-index l.lefts)))
