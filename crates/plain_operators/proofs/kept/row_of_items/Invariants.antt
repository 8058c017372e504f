use Rattle.std.proofs.Common.{◌≡◌, map, take}
use Rattle.plain_operators.specs.Items.{item_word}
use Rattle.plain_operators.proofs.kept.row_of_items.Given as goal

abbrev pub invariant-loop-item : goal.invariant-loop-item
invariant-loop-item l = l.words.items ≡ map (λ item. item_word item l.row) (take l.item-index l.items)
