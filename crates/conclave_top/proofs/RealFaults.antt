-- A query's graph has no fault that is want of memory. `query_graph` promises that of each call of `build`, and not as a law
-- of statements, as it is wanted here.
use Rattle.std.proofs.Common.{◌≡◌, ◌≢◌, ℕ, Bool, true, false, ◌&&◌, List, [], ◌∷◌, ◌++◌, Option, Some, None, Result, Err, ap, ◌∙◌}
use Rattle.std.specs.Prelude.{◌==◌, if◌then◌else◌}
use Rattle.std.specs.List.{list_any}
use Rattle.words.specs.declared.column.Column.{Column}
use Rattle.query_text.specs.declared.operand.OperandText.{OperandText}
use Rattle.query_text.specs.declared.operand.OperandText.TheVariants as operands
use Rattle.query_text.specs.declared.parts.TestText.{TestText}
use Rattle.query_text.specs.declared.parts.ItemText.{ItemText}
use Rattle.query_text.specs.declared.parts.ItemText.TheVariants as items
use Rattle.query_text.specs.declared.parts.AggregateText.{AggregateText}
use Rattle.query_text.specs.declared.parts.AggregateText.TheVariants as aggregates
use Rattle.query_text.specs.declared.statement.Body.{Body}
use Rattle.query_text.specs.declared.statement.Body.TheVariants as bodies
use Rattle.query_text.specs.declared.statement.Statement.{Statement}
use Rattle.query_graph.specs.declared.fault.GraphFault.{GraphFault}
use Rattle.query_graph.specs.declared.fault.GraphFault.TheVariants.{Unknown, Taken, Kind, Shape, Size, Memory}
use Rattle.query_graph.specs.declared.node.Node.{Node}
use Rattle.query_graph.specs.declared.node.Output.{Output}
use Rattle.query_graph.specs.Build.{empty_graph, fault_of, graph_behind, graph_of, rule_of, with_any_output, with_statement, without}
use Rattle.query_graph.specs.Columns.{columns_of, repeated_behind, taken_column, taken_in_node, taken_name, taken_node}
use Rattle.query_graph.specs.Content.{Content}
use Rattle.query_graph.specs.Faults.{first_fault, first_of, unless}
use Rattle.query_graph.specs.Kinds.{kinds_fit}
use Rattle.query_graph.specs.Names.{is_column, is_node, node_columns, node_number}
use Rattle.query_graph.specs.Shapes.{shape_fits}
use Rattle.query_graph.specs.Sizes.{sizes_fit}
use Rattle.query_graph.specs.Used.{unknown_column, unknown_columns, unknown_in_aggregate, unknown_in_item, unknown_in_test, unknown_name, unknown_node, unknown_operand, used_nodes}

abbrev pub IsReal : Option GraphFault → Type 0
IsReal fault = fault ≡ Some Memory → ⊥

real_none : IsReal None
real_none same = cc

real_some : (fault : GraphFault) → fault ≢ Memory → IsReal (Some fault)
real_some fault real same = real (cc)

real_first : (a b : Option GraphFault) → IsReal a → IsReal b → IsReal (first_of a b)
real_first (Some fault) b first second = first
real_first None b first second = second

real_all : {A : Type 0} (fault : A → Option GraphFault) (xs : List A) → ((x : A) → IsReal (fault x)) → IsReal (first_fault fault xs)
real_all fault [] each = real_none
real_all fault (x ∷ xs) each = real_first (fault x) (first_fault fault xs) (each x) (real_all fault xs each)

real_unless : (passes : Bool) (fault : GraphFault) → fault ≢ Memory → IsReal (unless passes fault)
real_unless true fault real = real_none
real_unless false fault real = real_some fault real

real_else : (known : Bool) (fault : GraphFault) → fault ≢ Memory → IsReal (if known then None else Some fault)
real_else true fault real = real_none
real_else false fault real = real_some fault real

real_if : (taken : Bool) (fault : GraphFault) → fault ≢ Memory → IsReal (if taken then Some fault else None)
real_if true fault real = real_some fault real
real_if false fault real = real_none

-- unknown names
real_column : (line : ℕ) (left right : List Column) (name : List ℕ) → IsReal (unknown_column line left right name)
real_column line left right name = real_else (is_column left name && is_column right name) (Unknown line name) (λ e. cc)

real_operand : (line : ℕ) (left right : List Column) (operand : OperandText) → IsReal (unknown_operand line left right operand)
real_operand line left right (operands.Name name) = real_column line left right name
real_operand line left right (operands.Number n) = real_none
real_operand line left right (operands.Quoted text) = real_none
real_operand line left right operands.True = real_none
real_operand line left right operands.False = real_none

real_test : (line : ℕ) (left right : List Column) (test : TestText) → IsReal (unknown_in_test line left right test)
real_test line left right test =
    real_first (unknown_operand line left right test.left) (unknown_operand line left right test.right) (real_operand line left right test.left) (real_operand line left right test.right)

real_item : (line : ℕ) (left right : List Column) (item : ItemText) → IsReal (unknown_in_item line left right item)
real_item line left right (items.Same name) = real_column line left right name
real_item line left right (items.Copied new operand) = real_operand line left right operand
real_item line left right (items.Computed new first op second) =
    real_first (unknown_operand line left right first) (unknown_operand line left right second) (real_operand line left right first) (real_operand line left right second)

real_aggregate : (line : ℕ) (left right : List Column) (aggregate : AggregateText) → IsReal (unknown_in_aggregate line left right aggregate)
real_aggregate line left right (aggregates.Sum new name) = real_column line left right name
real_aggregate line left right (aggregates.Count new) = real_none
real_aggregate line left right (aggregates.Least new name) = real_column line left right name
real_aggregate line left right (aggregates.Greatest new name) = real_column line left right name

real_columns : (line : ℕ) (nodes : List Node) (body : Body) → IsReal (unknown_columns line nodes body)
real_columns line nodes (bodies.Relation r) = real_none
real_columns line nodes (bodies.Filter f) =
    real_all (unknown_in_test line (node_columns nodes f.source) (node_columns nodes f.source)) f.tests (real_test line (node_columns nodes f.source) (node_columns nodes f.source))
real_columns line nodes (bodies.Select s) =
    real_all (unknown_in_item line (node_columns nodes s.source) (node_columns nodes s.source)) s.items (real_item line (node_columns nodes s.source) (node_columns nodes s.source))
real_columns line nodes (bodies.Concat c) = real_none
real_columns line nodes (bodies.Join j) =
    real_all (unknown_column line (node_columns nodes j.left) (node_columns nodes j.right)) j.keys (real_column line (node_columns nodes j.left) (node_columns nodes j.right))
real_columns line nodes (bodies.Group g) =
    let source = node_columns nodes g.source in
    real_first (first_fault (unknown_column line source source) g.keys) (first_fault (unknown_in_aggregate line source source) g.aggregates)
    (real_all (unknown_column line source source) g.keys (real_column line source source)) (real_all (unknown_in_aggregate line source source) g.aggregates (real_aggregate line source source))
real_columns line nodes (bodies.Distinct d) = real_none
real_columns line nodes (bodies.Output o) = real_none

real_node : (line : ℕ) (nodes : List Node) (name : List ℕ) → IsReal (unknown_node line nodes name)
real_node line nodes name = real_else (is_node nodes name) (Unknown line name) (λ e. cc)

real_name : (line : ℕ) (nodes : List Node) (body : Body) → IsReal (unknown_name line nodes body)
real_name line nodes body =
    real_first (first_fault (unknown_node line nodes) (used_nodes body)) (unknown_columns line nodes body) (real_all (unknown_node line nodes) (used_nodes body) (real_node line nodes))
    (real_columns line nodes body)

-- taken names
real_repeated : (line : ℕ) (before columns : List Column) → IsReal (repeated_behind line before columns)
real_repeated line before [] = real_none
real_repeated line before (c ∷ columns) =
    real_first (taken_column line before c) (repeated_behind line (before ++ c ∷ []) columns) (real_if (is_column before c.name) (Taken line c.name) (λ e. cc))
    (real_repeated line (before ++ c ∷ []) columns)

real_in_node : (line : ℕ) (nodes : List Node) (name : List ℕ) (columns : List Column) → IsReal (taken_in_node line nodes name columns)
real_in_node line nodes name columns =
    real_first (taken_node line nodes name) (repeated_behind line [] columns) (real_if (is_node nodes name) (Taken line name) (λ e. cc)) (real_repeated line [] columns)

real_taken : (line : ℕ) (graph : Content) (body : Body) → IsReal (taken_name line graph body)
real_taken line graph (bodies.Relation r) = real_in_node line graph.nodes r.name (columns_of graph.nodes (bodies.Relation r))
real_taken line graph (bodies.Filter f) = real_in_node line graph.nodes f.name (columns_of graph.nodes (bodies.Filter f))
real_taken line graph (bodies.Select s) = real_in_node line graph.nodes s.name (columns_of graph.nodes (bodies.Select s))
real_taken line graph (bodies.Concat c) = real_in_node line graph.nodes c.name (columns_of graph.nodes (bodies.Concat c))
real_taken line graph (bodies.Join j) = real_in_node line graph.nodes j.name (columns_of graph.nodes (bodies.Join j))
real_taken line graph (bodies.Group g) = real_in_node line graph.nodes g.name (columns_of graph.nodes (bodies.Group g))
real_taken line graph (bodies.Distinct d) = real_in_node line graph.nodes d.name (columns_of graph.nodes (bodies.Distinct d))
real_taken line graph (bodies.Output o) = real_if (list_any (λ (out : Output). out.node == node_number graph.nodes o.node) graph.outputs) (Taken line o.node) (λ e. cc)

-- all rules
real_rule : (graph : Content) (line : ℕ) (body : Body) → IsReal (rule_of graph line body)
real_rule graph line body =
    let sizes = unless (sizes_fit graph.nodes body) (Size line) in
    let shapes = unless (shape_fits graph.nodes body) (Shape line) in
    let kinds = unless (kinds_fit graph.nodes body) (Kind line) in
    real_first (taken_name line graph body) (first_of kinds (first_of shapes sizes)) (real_taken line graph body)
    (real_first kinds (first_of shapes sizes) (real_unless (kinds_fit graph.nodes body) (Kind line) (λ e. cc))
    (real_first shapes sizes (real_unless (shape_fits graph.nodes body) (Shape line) (λ e. cc)) (real_unless (sizes_fit graph.nodes body) (Size line) (λ e. cc))))

real_fault : (graph : Content) (line : ℕ) (body : Body) → IsReal (fault_of graph line body)
real_fault graph line body = real_first (unknown_name line graph.nodes body) (rule_of graph line body) (real_name line graph.nodes body) (real_rule graph line body)

real_output : (graph : Content) (outputs : List Output) → with_any_output graph outputs ≡ Err Memory → ⊥
real_output graph [] same = cc
real_output graph (output ∷ outputs) same = cc

real_without : (fault : Option GraphFault) (answer : Result Content GraphFault) → IsReal fault → (answer ≡ Err Memory → ⊥) → without fault answer ≡ Err Memory → ⊥
real_without (Some fault) answer real others same = real (cc)
real_without None answer real others same = others same

real_behind : (graph : Content) (statements : List Statement) → graph_behind graph statements ≡ Err Memory → ⊥
real_behind graph [] same = real_output graph graph.outputs same
real_behind graph (s ∷ statements) same =
    real_without (fault_of graph s.line s.body) (graph_behind (with_statement graph s.line s.body) statements) (real_fault graph s.line s.body)
    (real_behind (with_statement graph s.line s.body) statements) same

pub real_graph : (statements : List Statement) (fault : GraphFault) → graph_of statements ≡ Err fault → fault ≢ Memory
real_graph statements fault is same = real_behind empty_graph statements (is ∙ ap Err same)
