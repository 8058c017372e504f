use Rattle.std.proofs.Common.{◌≡◌, map, take}
use Rattle.plain_operators.specs.Items.{item_word}
use Rattle.plain_operators.specs.Operators.{rows_of_items}
use Rattle.plain_operators.proofs.kept.rows_of_items.Given as goal

abbrev pub invariant-loop-row : goal.invariant-loop-row
invariant-loop-row l = map (λ row. row.items) l.made.items ≡ rows_of_items (map item_word l.items) (map (λ row. row.now) (take l.row-index l.rows))
