-- The parts of a graph's operators as those of operators on rows.
use Rattle.query_text.specs.declared.operand.Cmp.{Cmp}
use Rattle.query_text.specs.declared.operand.Cmp.TheVariants as cmps
use Rattle.query_text.specs.declared.operand.Op.{Op}
use Rattle.query_text.specs.declared.operand.Op.TheVariants as ops
use Rattle.query_graph.specs.declared.operand.Operand as graph_operand
use Rattle.query_graph.specs.declared.operand.Operand.TheVariants as operands
use Rattle.query_graph.specs.declared.operand.Test as graph_test
use Rattle.query_graph.specs.declared.operand.Item as graph_item
use Rattle.query_graph.specs.declared.operand.Item.TheVariants as items
use Rattle.query_graph.specs.declared.operand.Aggregate as graph_aggregate
use Rattle.query_graph.specs.declared.operand.Aggregate.TheVariants as aggregates
use Rattle.plain_operators.specs.declared.item.Comparison.{Comparison}
use Rattle.plain_operators.specs.declared.item.Comparison.TheVariants.{Equal, Different, Less, LessOrEqual, Greater, GreaterOrEqual}
use Rattle.plain_operators.specs.declared.item.Operand.{Operand}
use Rattle.plain_operators.specs.declared.item.Operand.TheVariants as operand
use Rattle.plain_operators.specs.declared.item.Operation.{Operation}
use Rattle.plain_operators.specs.declared.item.Operation.TheVariants as operation
use Rattle.plain_operators.specs.declared.item.Test.{Test}
use Rattle.plain_operators.specs.declared.item.Item.{Item}
use Rattle.plain_operators.specs.declared.item.Item.TheVariants as item
use Rattle.plain_operators.specs.declared.aggregate.Aggregate.{Aggregate}
use Rattle.plain_operators.specs.declared.aggregate.Aggregate.TheVariants as aggregate

abbrev pub operand_of : graph_operand.Operand → Operand
operand_of (operands.Column c) = operand.Column c
operand_of (operands.Constant word) = operand.Constant word

abbrev pub comparison_of : Cmp → Comparison
comparison_of cmps.Eq = Equal
comparison_of cmps.Ne = Different
comparison_of cmps.Lt = Less
comparison_of cmps.Le = LessOrEqual
comparison_of cmps.Gt = Greater
comparison_of cmps.Ge = GreaterOrEqual

abbrev pub test_of : graph_test.Test → Test
test_of test = record { left = operand_of test.left; comparison = comparison_of test.cmp; right = operand_of test.right }

abbrev pub operation_of : Op → Operation
operation_of (ops.Compare cmp) = operation.Compare (comparison_of cmp)
operation_of ops.Add = operation.Add
operation_of ops.Sub = operation.Subtract
operation_of ops.Mul = operation.Multiply
operation_of ops.And = operation.And
operation_of ops.Or = operation.Or

abbrev pub item_of : graph_item.Item → Item
item_of (items.Plain operand) = item.Plain (operand_of operand)
item_of (items.Computed left op right) = item.Computed (operand_of left) (operation_of op) (operand_of right)

abbrev pub aggregate_of : graph_aggregate.Aggregate → Aggregate
aggregate_of (aggregates.Sum c) = aggregate.Sum c
aggregate_of aggregates.Count = aggregate.Count
aggregate_of (aggregates.Least c) = aggregate.Least c
aggregate_of (aggregates.Greatest c) = aggregate.Greatest c
