-- A fault of a statement names its line.
use Rattle.std.proofs.Common.{◌≡◌, ℕ, Bool, true, false, cond, List, [], ◌∷◌, ◌++◌, Option, Some, None, refl, subst}
use Rattle.std.specs.Prelude.{⊤}
use Rattle.words.specs.declared.column.Column.{Column}
use Rattle.query_text.specs.declared.operand.OperandText.{OperandText}
use Rattle.query_text.specs.declared.operand.OperandText.TheVariants as operands
use Rattle.query_text.specs.declared.parts.ItemText.{ItemText}
use Rattle.query_text.specs.declared.parts.ItemText.TheVariants as items
use Rattle.query_text.specs.declared.parts.AggregateText.{AggregateText}
use Rattle.query_text.specs.declared.parts.AggregateText.TheVariants as aggregates
use Rattle.query_text.specs.declared.statement.Body.{Body}
use Rattle.query_text.specs.declared.statement.Body.TheVariants as bodies
use Rattle.query_graph.specs.declared.fault.GraphFault.{GraphFault}
use Rattle.query_graph.specs.declared.fault.GraphFault.TheVariants.{Kind, Shape, Size}
use Rattle.query_graph.specs.declared.node.Node.{Node}
use Rattle.query_graph.specs.Build.{fault_of}
use Rattle.query_graph.specs.Columns.{columns_of, repeated_behind, repeated_column, taken_column, taken_in_node, taken_name, taken_node}
use Rattle.query_graph.specs.Content.{Content}
use Rattle.query_graph.specs.Faults.{first_fault, first_of, unless}
use Rattle.query_graph.specs.Kinds.{kinds_fit}
use Rattle.query_graph.specs.Shapes.{shape_fits}
use Rattle.query_graph.specs.Sizes.{sizes_fit}
use Rattle.query_graph.specs.Statements.{line_of}
use Rattle.query_graph.specs.Names.{node_columns}
use Rattle.query_graph.specs.Used.{unknown_column, unknown_columns, unknown_in_aggregate, unknown_in_item, unknown_in_test, unknown_name, unknown_node, unknown_operand, used_nodes}

-- no fault, or one on this line
OnLine : ℕ → Option GraphFault → Type 0
OnLine line None = ⊤
OnLine line (Some fault) = line_of fault ≡ Some line

first_on : (line : ℕ) (a b : Option GraphFault) → OnLine line a → OnLine line b → OnLine line (first_of a b)
unfolding OnLine
first_on line (Some fault) b first second = first
first_on line None b first second = second

all_on : {A : Type 0} (line : ℕ) (fault : A → Option GraphFault) → ((x : A) → OnLine line (fault x)) → (xs : List A) → OnLine line (first_fault fault xs)
unfolding OnLine
all_on line fault each [] = tt
all_on line fault each (x ∷ xs) = first_on line (fault x) (first_fault fault xs) (each x) (all_on line fault each xs)

unless_on : (line : ℕ) (b : Bool) (fault : GraphFault) → line_of fault ≡ Some line → OnLine line (unless b fault)
unfolding OnLine
unless_on line true fault is = tt
unless_on line false fault is = is

known_on : (line : ℕ) (b : Bool) (fault : GraphFault) → line_of fault ≡ Some line → OnLine line (cond b None (Some fault))
unfolding OnLine
known_on line true fault is = tt
known_on line false fault is = is

new_on : (line : ℕ) (b : Bool) (fault : GraphFault) → line_of fault ≡ Some line → OnLine line (cond b (Some fault) None)
unfolding OnLine
new_on line true fault is = is
new_on line false fault is = tt

none_on : (line : ℕ) → OnLine line None
unfolding OnLine
none_on line = tt

column_on : (line : ℕ) (left right : List Column) (name : List ℕ) → OnLine line (unknown_column line left right name)
column_on line left right name = known_on line _ _ refl

operand_on : (line : ℕ) (left right : List Column) (o : OperandText) → OnLine line (unknown_operand line left right o)
operand_on line left right (operands.Name name) = column_on line left right name
operand_on line left right (operands.Number n) = none_on line
operand_on line left right (operands.Quoted text) = none_on line
operand_on line left right operands.True = none_on line
operand_on line left right operands.False = none_on line

item_on : (line : ℕ) (left right : List Column) (item : ItemText) → OnLine line (unknown_in_item line left right item)
item_on line left right (items.Same name) = column_on line left right name
item_on line left right (items.Copied new operand) = operand_on line left right operand
item_on line left right (items.Computed new first op second) = first_on line _ _ (operand_on line left right first) (operand_on line left right second)

aggregate_on : (line : ℕ) (left right : List Column) (aggregate : AggregateText) → OnLine line (unknown_in_aggregate line left right aggregate)
aggregate_on line left right (aggregates.Sum new name) = column_on line left right name
aggregate_on line left right (aggregates.Count new) = none_on line
aggregate_on line left right (aggregates.Least new name) = column_on line left right name
aggregate_on line left right (aggregates.Greatest new name) = column_on line left right name

columns_on : (line : ℕ) (nodes : List Node) (body : Body) → OnLine line (unknown_columns line nodes body)
columns_on line nodes (bodies.Relation r) = none_on line
columns_on line nodes (bodies.Filter f) =
    all_on line (unknown_in_test line (node_columns nodes f.source) (node_columns nodes f.source))
    (λ test. first_on line _ _ (operand_on line _ _ test.left) (operand_on line _ _ test.right)) f.tests
columns_on line nodes (bodies.Select s) = all_on line (unknown_in_item line (node_columns nodes s.source) (node_columns nodes s.source)) (item_on line _ _) s.items
columns_on line nodes (bodies.Concat c) = none_on line
columns_on line nodes (bodies.Join j) = all_on line (unknown_column line (node_columns nodes j.left) (node_columns nodes j.right)) (column_on line _ _) j.keys
columns_on line nodes (bodies.Group g) =
    first_on line _ _ (all_on line (unknown_column line (node_columns nodes g.source) (node_columns nodes g.source)) (column_on line _ _) g.keys)
    (all_on line (unknown_in_aggregate line (node_columns nodes g.source) (node_columns nodes g.source)) (aggregate_on line _ _) g.aggregates)
columns_on line nodes (bodies.Distinct d) = none_on line
columns_on line nodes (bodies.Output o) = none_on line

repeated_on : (line : ℕ) (before columns : List Column) → OnLine line (repeated_behind line before columns)
repeated_on line before [] = none_on line
repeated_on line before (c ∷ columns) =
    first_on line (taken_column line before c) (repeated_behind line (before ++ c ∷ []) columns) (new_on line _ _ refl) (repeated_on line (before ++ c ∷ []) columns)

in_node_on : (line : ℕ) (nodes : List Node) (name : List ℕ) (columns : List Column) → OnLine line (taken_in_node line nodes name columns)
in_node_on line nodes name columns = first_on line (taken_node line nodes name) (repeated_column line columns) (new_on line _ _ refl) (repeated_on line [] columns)

taken_on : (line : ℕ) (graph : Content) (body : Body) → OnLine line (taken_name line graph body)
taken_on line graph (bodies.Relation r) = in_node_on line graph.nodes r.name (columns_of graph.nodes (bodies.Relation r))
taken_on line graph (bodies.Filter f) = in_node_on line graph.nodes f.name (columns_of graph.nodes (bodies.Filter f))
taken_on line graph (bodies.Select s) = in_node_on line graph.nodes s.name (columns_of graph.nodes (bodies.Select s))
taken_on line graph (bodies.Concat c) = in_node_on line graph.nodes c.name (columns_of graph.nodes (bodies.Concat c))
taken_on line graph (bodies.Join j) = in_node_on line graph.nodes j.name (columns_of graph.nodes (bodies.Join j))
taken_on line graph (bodies.Group g) = in_node_on line graph.nodes g.name (columns_of graph.nodes (bodies.Group g))
taken_on line graph (bodies.Distinct d) = in_node_on line graph.nodes d.name (columns_of graph.nodes (bodies.Distinct d))
taken_on line graph (bodies.Output o) = new_on line _ _ refl

fault_on : (line : ℕ) (graph : Content) (body : Body) → OnLine line (fault_of graph line body)
fault_on line graph body =
    first_on line (unknown_name line graph.nodes body) _
    (first_on line (first_fault (unknown_node line graph.nodes) (used_nodes body)) (unknown_columns line graph.nodes body)
    (all_on line (unknown_node line graph.nodes) (λ name. known_on line _ _ refl) (used_nodes body)) (columns_on line graph.nodes body))
    (first_on line (taken_name line graph body) _ (taken_on line graph body)
    (first_on line (unless (kinds_fit graph.nodes body) (Kind line)) _ (unless_on line _ _ refl)
    (first_on line (unless (shape_fits graph.nodes body) (Shape line)) (unless (sizes_fit graph.nodes body) (Size line)) (unless_on line _ _ refl) (unless_on line _ _ refl))))

-- a fault of a statement names its line
pub fault_line : (graph : Content) (line : ℕ) (body : Body) (fault : GraphFault) → fault_of graph line body ≡ Some fault → line_of fault ≡ Some line
unfolding OnLine
fault_line graph line body fault breaks = subst (OnLine line) breaks (fault_on line graph body)
