-- The constants of a graph's items are words.
use Rattle.std.proofs.Common.{ℕ, ◌^◌, ◌<◌, List, [], ◌∷◌, map, arith}
use Rattle.std.specs.List.{All, AllZip}
use Rattle.std.proofs.lemmas.List.Elements.{All-cons, All-nil}
use Rattle.words.specs.Texts.{TextsAreWords}
use Rattle.words.specs.declared.column.Column.{Column}
use Rattle.words.specs.declared.column.Kind.{Kind}
use Rattle.words.specs.declared.column.Kind.TheVariants.{Num, Text, Flag}
use Rattle.query_text.specs.declared.operand.Op.{Op}
use Rattle.query_graph.specs.declared.operand.Operand as graph_operand
use Rattle.query_graph.specs.declared.operand.Operand.TheVariants as operands
use Rattle.query_graph.specs.declared.operand.Item as graph_item
use Rattle.query_graph.specs.declared.operand.Item.TheVariants as items
use Rattle.query_graph.specs.IsGraph as graph
use Rattle.plain_operators.specs.Sizes.{HasWordConstant, HasWordConstants}
use Rattle.plain_meaning.specs.Convert.{item_of, operand_of}
use Rattle.plain_meaning.proofs.FitsNode.{taken_kind}

word_below : TextsAreWords → (kind : Kind) (word : ℕ) → graph.IsWordOf kind word → word < 2 ^ 64
word_below texts Num word h = h
word_below texts Text word h = texts h.0 word h.1
word_below texts Flag word h = omega arith

operand_constant : TextsAreWords → (columns : List Column) (kind : Kind) (operand : graph_operand.Operand) → graph.IsOperandOf columns kind operand → HasWordConstant (operand_of operand)
operand_constant texts columns kind (operands.Column c) h = tt
operand_constant texts columns kind (operands.Constant word) h = word_below texts kind word h

both_constants : TextsAreWords → (columns : List Column) (kind : Kind) (left right : graph_operand.Operand) → graph.AreOperandsOf columns kind left right
    → HasWordConstant (operand_of left) × HasWordConstant (operand_of right)
both_constants texts columns kind left right h = (operand_constant texts columns kind left h.left_fits, operand_constant texts columns kind right h.right_fits)

taken_constants : TextsAreWords → (columns : List Column) (op : Op) (left right : graph_operand.Operand) → graph.AreTaken columns op left right
    → HasWordConstant (operand_of left) × HasWordConstant (operand_of right)
taken_constants texts columns op left right h = let taken = taken_kind columns op left right h in both_constants texts columns taken.0 left right taken.1

item_constants : TextsAreWords → (columns : List Column) (item : graph_item.Item) (column : Column) → graph.Makes columns item column → HasWordConstants (item_of item)
item_constants texts columns (items.Plain operand) column h = operand_constant texts columns column.kind operand h
item_constants texts columns (items.Computed left op right) column h = taken_constants texts columns op left right h.1

pub items_constants : TextsAreWords → (columns : List Column) (items : List graph_item.Item) (made : List Column) → AllZip (graph.Makes columns) items made → All HasWordConstants (map item_of items)
items_constants texts columns [] [] h = All-nil HasWordConstants
items_constants texts columns [] (column ∷ made) h = absurd h
items_constants texts columns (item ∷ items) [] h = absurd h
items_constants texts columns (item ∷ items) (column ∷ made) h =
    All-cons HasWordConstants (item_of item) (map item_of items) (item_constants texts columns item column h.0) (items_constants texts columns items made h.1)
