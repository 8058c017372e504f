-- The kinds of operands and columns, and which go together.
use Rattle.std.specs.Prelude.{Bool, true, false, not, ◌&&◌, List}
use Rattle.std.specs.List.{list_all}
use Rattle.words.specs.declared.column.Column.{Column}
use Rattle.words.specs.declared.column.Kind.{Kind}
use Rattle.words.specs.declared.column.Kind.TheVariants.{Num, Text, Flag}
use Rattle.query_text.specs.declared.operand.KindText.{KindText}
use Rattle.query_text.specs.declared.operand.KindText.TheVariants as written
use Rattle.query_text.specs.declared.operand.Op.{Op}
use Rattle.query_text.specs.declared.operand.Op.TheVariants as operators
use Rattle.query_text.specs.declared.operand.OperandText.{OperandText}
use Rattle.query_text.specs.declared.operand.OperandText.TheVariants as operands
use Rattle.query_text.specs.declared.parts.TestText.{TestText}
use Rattle.query_text.specs.declared.parts.ItemText.{ItemText}
use Rattle.query_text.specs.declared.parts.ItemText.TheVariants as items
use Rattle.query_text.specs.declared.parts.AggregateText.{AggregateText}
use Rattle.query_text.specs.declared.parts.AggregateText.TheVariants as aggregates
use Rattle.query_text.specs.declared.statement.Body.{Body}
use Rattle.query_text.specs.declared.statement.Body.TheVariants as bodies
use Rattle.query_graph.specs.declared.node.Node.{Node}
use Rattle.query_graph.specs.Names.{column_kind, node_columns}

-- the same kind
abbrev pub same_kind : Kind → Kind → Bool
same_kind Num Num = true
same_kind Text Text = true
same_kind Flag Flag = true
same_kind _ _ = false

-- the kind that a declaration writes
abbrev pub declared_kind : KindText → Kind
declared_kind written.Num = Num
declared_kind written.Text = Text

-- the kind of an operand over these columns
abbrev pub operand_kind : List Column → OperandText → Kind
operand_kind columns (operands.Name name) = column_kind columns name
operand_kind columns (operands.Number n) = Num
operand_kind columns (operands.Quoted text) = Text
operand_kind columns operands.True = Flag
operand_kind columns operands.False = Flag

-- the kind that an operation gives
abbrev pub result_kind : Op → Kind
result_kind (operators.Compare c) = Flag
result_kind operators.Add = Num
result_kind operators.Sub = Num
result_kind operators.Mul = Num
result_kind operators.And = Flag
result_kind operators.Or = Flag

-- an operation takes operands of these kinds: a comparison two of one kind, a sum, difference or product two
-- numbers, and and or two flags
abbrev pub takes : Op → Kind → Kind → Bool
takes (operators.Compare c) left right = same_kind left right
takes operators.Add left right = same_kind left Num && same_kind right Num
takes operators.Sub left right = same_kind left Num && same_kind right Num
takes operators.Mul left right = same_kind left Num && same_kind right Num
takes operators.And left right = same_kind left Flag && same_kind right Flag
takes operators.Or left right = same_kind left Flag && same_kind right Flag

-- a test compares two operands of one kind
abbrev pub test_fits : List Column → TestText → Bool
test_fits columns test = same_kind (operand_kind columns test.left) (operand_kind columns test.right)

-- an item computes with kinds that its operation takes
abbrev pub item_fits : List Column → ItemText → Bool
item_fits columns (items.Same name) = true
item_fits columns (items.Copied new operand) = true
item_fits columns (items.Computed new left op right) = takes op (operand_kind columns left) (operand_kind columns right)

-- a sum is of numbers, the least and the greatest of numbers or texts
abbrev pub aggregate_fits : List Column → AggregateText → Bool
aggregate_fits columns (aggregates.Sum new name) = same_kind (column_kind columns name) Num
aggregate_fits columns (aggregates.Count new) = true
aggregate_fits columns (aggregates.Least new name) = not (same_kind (column_kind columns name) Flag)
aggregate_fits columns (aggregates.Greatest new name) = not (same_kind (column_kind columns name) Flag)

-- the kinds of a statement fit
abbrev pub kinds_fit : List Node → Body → Bool
kinds_fit nodes (bodies.Relation r) = true
kinds_fit nodes (bodies.Filter f) = list_all (test_fits (node_columns nodes f.source)) f.tests
kinds_fit nodes (bodies.Select s) = list_all (item_fits (node_columns nodes s.source)) s.items
kinds_fit nodes (bodies.Concat c) = true
kinds_fit nodes (bodies.Join j) = list_all (λ key. same_kind (column_kind (node_columns nodes j.left) key) (column_kind (node_columns nodes j.right) key)) j.keys
kinds_fit nodes (bodies.Group g) = list_all (aggregate_fits (node_columns nodes g.source)) g.aggregates
kinds_fit nodes (bodies.Distinct d) = true
kinds_fit nodes (bodies.Output o) = true
