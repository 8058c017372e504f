-- What operands, tests and items give, lane by lane.
use Rattle.std.specs.Prelude.{ℕ, List, [], ◌∷◌, bit_and, map, replicate, slice_index_or}
use Rattle.lanes.specs.Lanes.{lanewise}
use Rattle.padded.specs.Table.{column_at}
use Rattle.plain_operators.specs.declared.item.Comparison.{Comparison}
use Rattle.plain_operators.specs.declared.item.Item.{Item}
use Rattle.plain_operators.specs.declared.item.Item.TheVariants.{Plain, Computed}
use Rattle.plain_operators.specs.declared.item.Operand.{Operand}
use Rattle.plain_operators.specs.declared.item.Operand.TheVariants.{Column, Constant}
use Rattle.plain_operators.specs.declared.item.Operation.TheVariants.{Compare}
use Rattle.plain_operators.specs.declared.item.Test.{Test}
use Rattle.plain_operators.specs.Items.{computed}

-- the words of an operand in so many lanes: a column, or one word in each
abbrev pub operand_lanes : Operand → ℕ → List (List ℕ) → List ℕ
operand_lanes (Column column) count columns = column_at columns column
operand_lanes (Constant word) count columns = replicate count word

-- 1 in each lane where the comparison holds, and else 0
abbrev pub compared_lanes : Comparison → List ℕ → List ℕ → List ℕ
compared_lanes comparison xs ys = lanewise (computed (Compare comparison)) xs ys

abbrev pub test_lanes : Test → ℕ → List (List ℕ) → List ℕ
test_lanes test count columns = compared_lanes test.comparison (operand_lanes test.left count columns) (operand_lanes test.right count columns)

-- valid words after some tests
abbrev pub valid_after : List Test → ℕ → List (List ℕ) → List ℕ → List ℕ
valid_after [] count columns valid = valid
valid_after (test ∷ tests) count columns valid = valid_after tests count columns (lanewise bit_and valid (test_lanes test count columns))

-- the words of an item in so many lanes
abbrev pub item_lanes : Item → ℕ → List (List ℕ) → List ℕ
item_lanes (Plain operand) count columns = operand_lanes operand count columns
item_lanes (Computed left operation right) count columns = lanewise (computed operation) (operand_lanes left count columns) (operand_lanes right count columns)

-- those of the item of a number, none where there is none
abbrev pub lanes_of_item : ℕ → List Item → ℕ → List (List ℕ) → List ℕ
lanes_of_item k items count columns = slice_index_or (map (λ item. item_lanes item count columns) items) k []
