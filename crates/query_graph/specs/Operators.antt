-- Each statement with numbers for its names.
use Rattle.std.specs.Prelude.{ℕ, List}
use Rattle.std.specs.Result.{result_unwrap_or}
use Rattle.words.specs.Texts.{text_of}
use Rattle.words.specs.declared.column.Column.{Column}
use Rattle.query_text.specs.declared.operand.OperandText.{OperandText}
use Rattle.query_text.specs.declared.operand.OperandText.TheVariants as operands
use Rattle.query_text.specs.declared.parts.TestText.{TestText}
use Rattle.query_text.specs.declared.parts.ItemText.{ItemText}
use Rattle.query_text.specs.declared.parts.ItemText.TheVariants as items
use Rattle.query_text.specs.declared.parts.AggregateText.{AggregateText}
use Rattle.query_text.specs.declared.parts.AggregateText.TheVariants as aggregates
use Rattle.query_graph.specs.declared.operand.Operand.{Operand}
use Rattle.query_graph.specs.declared.operand.Operand.TheVariants as operand
use Rattle.query_graph.specs.declared.operand.Test.{Test}
use Rattle.query_graph.specs.declared.operand.Item.{Item}
use Rattle.query_graph.specs.declared.operand.Item.TheVariants as item
use Rattle.query_graph.specs.declared.operand.Aggregate.{Aggregate}
use Rattle.query_graph.specs.declared.operand.Aggregate.TheVariants as aggregate
use Rattle.query_graph.specs.Names.{column_number}

-- the word of a constant text, which is checked to be one; 0 for other bytes
abbrev pub text_word : List ℕ → ℕ
text_word bytes = result_unwrap_or (text_of bytes) 0

-- an operand over these columns: true is 1 and false is 0
abbrev pub operand_of : List Column → OperandText → Operand
operand_of columns (operands.Name name) = operand.Column (column_number columns name)
operand_of columns (operands.Number n) = operand.Constant n
operand_of columns (operands.Quoted text) = operand.Constant (text_word text)
operand_of columns operands.True = operand.Constant 1
operand_of columns operands.False = operand.Constant 0

abbrev pub test_of : List Column → TestText → Test
test_of columns test = record { left = operand_of columns test.left; cmp = test.cmp; right = operand_of columns test.right }

abbrev pub item_of : List Column → ItemText → Item
item_of columns (items.Same name) = item.Plain (operand.Column (column_number columns name))
item_of columns (items.Copied new operand) = item.Plain (operand_of columns operand)
item_of columns (items.Computed new left op right) = item.Computed (operand_of columns left) op (operand_of columns right)

abbrev pub aggregate_of : List Column → AggregateText → Aggregate
aggregate_of columns (aggregates.Sum new name) = aggregate.Sum (column_number columns name)
aggregate_of columns (aggregates.Count new) = aggregate.Count
aggregate_of columns (aggregates.Least new name) = aggregate.Least (column_number columns name)
aggregate_of columns (aggregates.Greatest new name) = aggregate.Greatest (column_number columns name)
