-- The node that a statement writes, and the output: one record for each kind of statement. Of the columns of a filter, a
-- concat, a distinct and a join every graph says whose they are.
use Rattle.std.specs.Prelude.{◌≡◌, List}
use Rattle.std.specs.List.{AllZip}
use Rattle.query_text.specs.declared.parts.ColumnText.{ColumnText}
use Rattle.query_text.specs.declared.statement.Body.{Body}
use Rattle.query_text.specs.declared.statement.Body.TheVariants as bodies
use Rattle.query_text.specs.declared.statement.ConcatText.{ConcatText}
use Rattle.query_text.specs.declared.statement.DistinctText.{DistinctText}
use Rattle.query_text.specs.declared.statement.FilterText.{FilterText}
use Rattle.query_text.specs.declared.statement.GroupText.{GroupText}
use Rattle.query_text.specs.declared.statement.JoinText.{JoinText}
use Rattle.query_text.specs.declared.statement.OutputText.{OutputText}
use Rattle.query_text.specs.declared.statement.RelationText.{RelationText}
use Rattle.query_text.specs.declared.statement.SelectText.{SelectText}
use Rattle.query_text.specs.declared.statement.Statement.{Statement}
use Rattle.query_graph.specs.declared.node.Node.{Node}
use Rattle.query_graph.specs.declared.node.Output.{Output}
use Rattle.query_graph.specs.declared.operator.Concat.{Concat}
use Rattle.query_graph.specs.declared.operator.Distinct.{Distinct}
use Rattle.query_graph.specs.declared.operator.Filter.{Filter}
use Rattle.query_graph.specs.declared.operator.Group.{Group}
use Rattle.query_graph.specs.declared.operator.Join.{Join}
use Rattle.query_graph.specs.declared.operator.Operator.{Operator}
use Rattle.query_graph.specs.declared.operator.Operator.TheVariants as operators
use Rattle.query_graph.specs.declared.operator.Relation.{Relation}
use Rattle.query_graph.specs.declared.operator.Select.{Select}
use Rattle.graph_laws.specs.Columns.{DeclaresColumn, GroupHasColumns, ItemHasColumn}
use Rattle.graph_laws.specs.Parts.{IsNodeNamed, WritesAggregate, WritesItem, WritesKey, WritesName, WritesParties, WritesSource, WritesTest}

-- relation N of P rows K ( COLUMN {, COLUMN} ) [release PS]
pub record WritesRelation (written : RelationText) (node : Node) (relation : Relation) : Type 0 where
  pub name : node.name ≡ written.name
  pub owner : relation.owner ≡ written.owner
  pub rows : node.rows ≡ written.rows
  pub columns : AllZip DeclaresColumn written.columns node.columns
  pub trusted : AllZip (λ (column : ColumnText) set. WritesParties column.trusted set) written.columns relation.trusted
  pub release : WritesParties written.release relation.release

-- N = filter S where TEST {and TEST} [at most K] [clear at P]
pub record WritesFilter (nodes : List Node) (written : FilterText) (node : Node) (filter : Filter) : Type 0 where
  pub name : node.name ≡ written.name
  pub source : Node
  pub is_source : IsNodeNamed nodes written.source filter.source source
  pub tests : AllZip (WritesTest source.columns) written.tests filter.tests
  pub at_most : filter.at_most ≡ written.at_most
  pub clear_at : filter.clear_at ≡ written.clear_at

-- N = select S ( ITEM {, ITEM} ) [clear at P]
pub record WritesSelect (nodes : List Node) (written : SelectText) (node : Node) (select : Select) : Type 0 where
  pub name : node.name ≡ written.name
  pub source : Node
  pub is_source : IsNodeNamed nodes written.source select.source source
  pub items : AllZip (WritesItem source.columns) written.items select.items
  pub columns : AllZip (ItemHasColumn source.columns) written.items node.columns
  pub clear_at : select.clear_at ≡ written.clear_at

-- N = concat S S {S}
pub record WritesConcat (nodes : List Node) (written : ConcatText) (node : Node) (concat : Concat) : Type 0 where
  pub name : node.name ≡ written.name
  pub sources : AllZip (WritesSource nodes) written.sources concat.sources

-- N = join S S on C {, C} [at most K] [via P | clear at P]
pub record WritesJoin (nodes : List Node) (written : JoinText) (node : Node) (join : Join) : Type 0 where
  pub name : node.name ≡ written.name
  pub left : Node
  pub is_left : IsNodeNamed nodes written.left join.left left
  pub right : Node
  pub is_right : IsNodeNamed nodes written.right join.right right
  pub keys : AllZip (WritesKey left.columns right.columns) written.keys join.keys
  pub at_most : join.at_most ≡ written.at_most
  pub via : join.via ≡ written.via
  pub clear_at : join.clear_at ≡ written.clear_at

-- N = group S [by C {, C}] ( AGGREGATE {, AGGREGATE} ) [parts at most K] [at most K] [via P | clear at P]
pub record WritesGroup (nodes : List Node) (written : GroupText) (node : Node) (group : Group) : Type 0 where
  pub name : node.name ≡ written.name
  pub source : Node
  pub is_source : IsNodeNamed nodes written.source group.source source
  pub keys : AllZip (WritesName source.columns) written.keys group.keys
  pub aggregates : AllZip (WritesAggregate source.columns) written.aggregates group.aggregates
  pub columns : GroupHasColumns source.columns written.keys written.aggregates node.columns
  pub parts_at_most : group.parts_at_most ≡ written.parts_at_most
  pub at_most : group.at_most ≡ written.at_most
  pub via : group.via ≡ written.via
  pub clear_at : group.clear_at ≡ written.clear_at

-- N = distinct S [at most K] [clear at P]
pub record WritesDistinct (nodes : List Node) (written : DistinctText) (node : Node) (distinct : Distinct) : Type 0 where
  pub name : node.name ≡ written.name
  pub source : WritesSource nodes written.source distinct.source
  pub at_most : distinct.at_most ≡ written.at_most
  pub clear_at : distinct.clear_at ≡ written.clear_at

-- output N to PS
pub record WritesOutput (nodes : List Node) (written : OutputText) (output : Output) : Type 0 where
  pub node : WritesSource nodes written.node output.node
  pub recipients : WritesParties written.recipients output.recipients

-- the node that a statement makes; an output makes none
abbrev pub MakesNode : List Node → Body → Node → Operator → Type 0
MakesNode nodes (bodies.Relation written) node (operators.Relation relation) = WritesRelation written node relation
MakesNode nodes (bodies.Filter written) node (operators.Filter filter) = WritesFilter nodes written node filter
MakesNode nodes (bodies.Select written) node (operators.Select select) = WritesSelect nodes written node select
MakesNode nodes (bodies.Concat written) node (operators.Concat concat) = WritesConcat nodes written node concat
MakesNode nodes (bodies.Join written) node (operators.Join join) = WritesJoin nodes written node join
MakesNode nodes (bodies.Group written) node (operators.Group group) = WritesGroup nodes written node group
MakesNode nodes (bodies.Distinct written) node (operators.Distinct distinct) = WritesDistinct nodes written node distinct
MakesNode nodes _ node _ = ⊥

-- the output that a statement makes; no other statement makes one
abbrev pub MakesOutput : List Node → Body → Output → Type 0
MakesOutput nodes (bodies.Output written) output = WritesOutput nodes written output
MakesOutput nodes _ output = ⊥

-- a statement has this node, which stands on its line
pub record HasNode (nodes : List Node) (s : Statement) (node : Node) : Type 0 where
  pub line : node.line ≡ s.line
  pub made : MakesNode nodes s.body node node.shape

-- or this output
pub record HasOutput (nodes : List Node) (s : Statement) (output : Output) : Type 0 where
  pub line : output.line ≡ s.line
  pub made : MakesOutput nodes s.body output
