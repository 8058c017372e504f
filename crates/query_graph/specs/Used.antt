-- The names that a statement uses, and the first that is unknown: a node that no earlier statement defines, a
-- column that isn't one of the source's, or a key of a join that isn't a column of both sources.
use Rattle.std.specs.Prelude.{ℕ, ◌&&◌, if◌then◌else◌, List, [], ◌∷◌, Option, Some, None}
use Rattle.words.specs.declared.column.Column.{Column}
use Rattle.query_text.specs.declared.operand.OperandText.{OperandText}
use Rattle.query_text.specs.declared.operand.OperandText.TheVariants as operands
use Rattle.query_text.specs.declared.parts.TestText.{TestText}
use Rattle.query_text.specs.declared.parts.ItemText.{ItemText}
use Rattle.query_text.specs.declared.parts.ItemText.TheVariants as items
use Rattle.query_text.specs.declared.parts.AggregateText.{AggregateText}
use Rattle.query_text.specs.declared.parts.AggregateText.TheVariants as aggregates
use Rattle.query_text.specs.declared.statement.Body.{Body}
use Rattle.query_text.specs.declared.statement.Body.TheVariants as bodies
use Rattle.query_graph.specs.declared.fault.GraphFault.{GraphFault}
use Rattle.query_graph.specs.declared.fault.GraphFault.TheVariants.{Unknown}
use Rattle.query_graph.specs.declared.node.Node.{Node}
use Rattle.query_graph.specs.Faults.{first_fault, first_of}
use Rattle.query_graph.specs.Names.{is_column, is_node, node_columns}

-- the fault of a name that isn't a column of both sources, which are one where a statement has one
abbrev pub unknown_column : ℕ → List Column → List Column → List ℕ → Option GraphFault
unknown_column line left right name = if is_column left name && is_column right name then None else Some (Unknown line name)

-- of an operand
abbrev pub unknown_operand : ℕ → List Column → List Column → OperandText → Option GraphFault
unknown_operand line left right (operands.Name name) = unknown_column line left right name
unknown_operand line left right (operands.Number n) = None
unknown_operand line left right (operands.Quoted text) = None
unknown_operand line left right operands.True = None
unknown_operand line left right operands.False = None

-- of a test
abbrev pub unknown_in_test : ℕ → List Column → List Column → TestText → Option GraphFault
unknown_in_test line left right test = first_of (unknown_operand line left right test.left) (unknown_operand line left right test.right)

-- of an item
abbrev pub unknown_in_item : ℕ → List Column → List Column → ItemText → Option GraphFault
unknown_in_item line left right (items.Same name) = unknown_column line left right name
unknown_in_item line left right (items.Copied new operand) = unknown_operand line left right operand
unknown_in_item line left right (items.Computed new first op second) = first_of (unknown_operand line left right first) (unknown_operand line left right second)

-- of an aggregate
abbrev pub unknown_in_aggregate : ℕ → List Column → List Column → AggregateText → Option GraphFault
unknown_in_aggregate line left right (aggregates.Sum new name) = unknown_column line left right name
unknown_in_aggregate line left right (aggregates.Count new) = None
unknown_in_aggregate line left right (aggregates.Least new name) = unknown_column line left right name
unknown_in_aggregate line left right (aggregates.Greatest new name) = unknown_column line left right name

-- the fault of a name that no earlier node has
abbrev pub unknown_node : ℕ → List Node → List ℕ → Option GraphFault
unknown_node line nodes name = if is_node nodes name then None else Some (Unknown line name)

-- the nodes that a statement uses, in reading order
abbrev pub used_nodes : Body → List (List ℕ)
used_nodes (bodies.Relation r) = []
used_nodes (bodies.Filter f) = f.source ∷ []
used_nodes (bodies.Select s) = s.source ∷ []
used_nodes (bodies.Concat c) = c.sources
used_nodes (bodies.Join j) = j.left ∷ j.right ∷ []
used_nodes (bodies.Group g) = g.source ∷ []
used_nodes (bodies.Distinct d) = d.source ∷ []
used_nodes (bodies.Output o) = o.node ∷ []

-- the first unknown column of a statement, whose columns stand behind its nodes
abbrev pub unknown_columns : ℕ → List Node → Body → Option GraphFault
unknown_columns line nodes (bodies.Relation r) = None
unknown_columns line nodes (bodies.Filter f) = first_fault (unknown_in_test line (node_columns nodes f.source) (node_columns nodes f.source)) f.tests
unknown_columns line nodes (bodies.Select s) = first_fault (unknown_in_item line (node_columns nodes s.source) (node_columns nodes s.source)) s.items
unknown_columns line nodes (bodies.Concat c) = None
unknown_columns line nodes (bodies.Join j) = first_fault (unknown_column line (node_columns nodes j.left) (node_columns nodes j.right)) j.keys
unknown_columns line nodes (bodies.Group g) =
    first_of (first_fault (unknown_column line (node_columns nodes g.source) (node_columns nodes g.source)) g.keys)
    (first_fault (unknown_in_aggregate line (node_columns nodes g.source) (node_columns nodes g.source)) g.aggregates)
unknown_columns line nodes (bodies.Distinct d) = None
unknown_columns line nodes (bodies.Output o) = None

-- the first unknown name of a statement
abbrev pub unknown_name : ℕ → List Node → Body → Option GraphFault
unknown_name line nodes body = first_of (first_fault (unknown_node line nodes) (used_nodes body)) (unknown_columns line nodes body)
