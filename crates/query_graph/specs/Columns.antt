-- The columns of each statement's node, and the first name that occurs a second time.
use Rattle.std.specs.Prelude.{ℕ, not, if◌then◌else◌, List, [], ◌∷◌, ◌++◌, map, filter, Option, Some, None, ◌==◌}
use Rattle.std.specs.List.{list_any}
use Rattle.words.specs.declared.column.Column.{Column}
use Rattle.words.specs.declared.column.Kind.{Kind}
use Rattle.words.specs.declared.column.Kind.TheVariants.{Num}
use Rattle.query_text.specs.declared.parts.ColumnText.{ColumnText}
use Rattle.query_text.specs.declared.parts.ItemText.{ItemText}
use Rattle.query_text.specs.declared.parts.ItemText.TheVariants as items
use Rattle.query_text.specs.declared.parts.AggregateText.{AggregateText}
use Rattle.query_text.specs.declared.parts.AggregateText.TheVariants as aggregates
use Rattle.query_text.specs.declared.statement.Body.{Body}
use Rattle.query_text.specs.declared.statement.JoinText.{JoinText}
use Rattle.query_text.specs.declared.statement.Body.TheVariants as bodies
use Rattle.query_graph.specs.declared.node.Node.{Node}
use Rattle.query_graph.specs.Content.{Content}
use Rattle.query_graph.specs.Kinds.{declared_kind, operand_kind, result_kind}
use Rattle.query_graph.specs.Names.{column_kind, is_among, is_column, is_node, node_columns, node_number}
use Rattle.query_graph.specs.Faults.{first_of}
use Rattle.query_graph.specs.declared.fault.GraphFault.{GraphFault}
use Rattle.query_graph.specs.declared.fault.GraphFault.TheVariants.{Taken}

abbrev pub column : List ℕ → Kind → Column
column name kind = record { name = name; kind = kind }

-- the column of a declaration, of an item, of a key and of an aggregate
abbrev pub declared_column : ColumnText → Column
declared_column c = column c.name (declared_kind c.kind)

abbrev pub item_column : List Column → ItemText → Column
item_column source (items.Same name) = column name (column_kind source name)
item_column source (items.Copied new operand) = column new (operand_kind source operand)
item_column source (items.Computed new left op right) = column new (result_kind op)

abbrev pub key_column : List Column → List ℕ → Column
key_column source name = column name (column_kind source name)

abbrev pub aggregate_column : List Column → AggregateText → Column
aggregate_column source (aggregates.Sum new name) = column new Num
aggregate_column source (aggregates.Count new) = column new Num
aggregate_column source (aggregates.Least new name) = column new (column_kind source name)
aggregate_column source (aggregates.Greatest new name) = column new (column_kind source name)

-- the columns that aren't keys
abbrev pub other_columns : List (List ℕ) → List Column → List Column
other_columns keys columns = filter (λ c. not (is_among keys c.name)) columns

abbrev pub first_columns : List Node → List (List ℕ) → List Column
first_columns nodes [] = []
first_columns nodes (source ∷ sources) = node_columns nodes source

-- the columns of a join: the keys, the left's others, the right's others
abbrev pub joined_columns : List Node → JoinText → List Column
joined_columns nodes j =
    map (key_column (node_columns nodes j.left)) j.keys ++ other_columns j.keys (node_columns nodes j.left) ++ other_columns j.keys (node_columns nodes j.right)

-- the columns of a statement's node
abbrev pub columns_of : List Node → Body → List Column
columns_of nodes (bodies.Relation r) = map declared_column r.columns
columns_of nodes (bodies.Filter f) = node_columns nodes f.source
columns_of nodes (bodies.Select s) = map (item_column (node_columns nodes s.source)) s.items
columns_of nodes (bodies.Concat c) = first_columns nodes c.sources
columns_of nodes (bodies.Join j) = joined_columns nodes j
columns_of nodes (bodies.Group g) = map (key_column (node_columns nodes g.source)) g.keys ++ map (aggregate_column (node_columns nodes g.source)) g.aggregates
columns_of nodes (bodies.Distinct d) = node_columns nodes d.source
columns_of nodes (bodies.Output o) = []

-- the fault of a column whose name one of these has
abbrev pub taken_column : ℕ → List Column → Column → Option GraphFault
taken_column line before c = if is_column before c.name then Some (Taken line c.name) else None

-- the fault of the first column whose name an earlier one, or one of those before, has
abbrev pub repeated_behind : ℕ → List Column → List Column → Option GraphFault
repeated_behind line before [] = None
repeated_behind line before (c ∷ columns) = first_of (taken_column line before c) (repeated_behind line (before ++ c ∷ []) columns)

abbrev pub repeated_column : ℕ → List Column → Option GraphFault
repeated_column line columns = repeated_behind line [] columns

-- the fault of a name that a node has
abbrev pub taken_node : ℕ → List Node → List ℕ → Option GraphFault
taken_node line nodes name = if is_node nodes name then Some (Taken line name) else None

-- and of a node that an output has
abbrev pub taken_output : ℕ → Content → List ℕ → Option GraphFault
taken_output line graph name = if list_any (λ o. o.node == node_number graph.nodes name) graph.outputs then Some (Taken line name) else None

-- the fault of a node's name and columns
abbrev pub taken_in_node : ℕ → List Node → List ℕ → List Column → Option GraphFault
taken_in_node line nodes name columns = first_of (taken_node line nodes name) (repeated_column line columns)

-- the first name of a statement that is taken: the node's, or that of a column which an earlier one has. Keys
-- that occur twice are columns that do.
abbrev pub taken_name : ℕ → Content → Body → Option GraphFault
taken_name line graph (bodies.Relation r) = taken_in_node line graph.nodes r.name (columns_of graph.nodes (bodies.Relation r))
taken_name line graph (bodies.Filter f) = taken_in_node line graph.nodes f.name (columns_of graph.nodes (bodies.Filter f))
taken_name line graph (bodies.Select s) = taken_in_node line graph.nodes s.name (columns_of graph.nodes (bodies.Select s))
taken_name line graph (bodies.Concat c) = taken_in_node line graph.nodes c.name (columns_of graph.nodes (bodies.Concat c))
taken_name line graph (bodies.Join j) = taken_in_node line graph.nodes j.name (columns_of graph.nodes (bodies.Join j))
taken_name line graph (bodies.Group g) = taken_in_node line graph.nodes g.name (columns_of graph.nodes (bodies.Group g))
taken_name line graph (bodies.Distinct d) = taken_in_node line graph.nodes d.name (columns_of graph.nodes (bodies.Distinct d))
taken_name line graph (bodies.Output o) = taken_output line graph o.node
