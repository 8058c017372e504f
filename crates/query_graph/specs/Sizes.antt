-- Declared rows, and the limits on sizes.
use Rattle.std.specs.Prelude.{ℕ, ◌+◌, ◌*◌, ◌≤◌, min, nat_le, Bool, true, ◌&&◌, List, [], ◌∷◌, Option, Some, None, length, map, sum, sum_by}
use Rattle.std.specs.List.{list_all}
use Rattle.query_text.specs.declared.operand.OperandText.{OperandText}
use Rattle.query_text.specs.declared.operand.OperandText.TheVariants as operands
use Rattle.query_text.specs.declared.parts.TestText.{TestText}
use Rattle.query_text.specs.declared.parts.ItemText.{ItemText}
use Rattle.query_text.specs.declared.parts.ItemText.TheVariants as items
use Rattle.query_text.specs.declared.statement.Body.{Body}
use Rattle.query_text.specs.declared.statement.Body.TheVariants as bodies
use Rattle.query_graph.specs.declared.node.Node.{Node}
use Rattle.query_graph.specs.Names.{node_columns, node_rows}
use Rattle.query_graph.specs.Columns.{columns_of}

-- the most rows of a node and the most of a bound, the most columns, and the most cells of all nodes
abbrev pub row_limit : ℕ
row_limit = 65536

abbrev pub column_limit : ℕ
column_limit = 32

abbrev pub cell_limit : ℕ
cell_limit = 4194304

-- a number of rows that can be written
abbrev pub is_row_count : ℕ → Bool
is_row_count n = nat_le 1 n && nat_le n row_limit

-- a bound that is missing, or can be written
abbrev pub is_bound : Option ℕ → Bool
is_bound None = true
is_bound (Some k) = is_row_count k

-- rows under a bound
abbrev pub bounded : Option ℕ → ℕ → ℕ
bounded None rows = rows
bounded (Some k) rows = min rows k

-- rows of a group under a bound on each of three parts
abbrev pub bounded_parts : Option ℕ → ℕ → ℕ
bounded_parts None rows = rows
bounded_parts (Some k) rows = min rows (3 * k)

-- rows of a group before its own bound: without keys at most one
abbrev pub group_rows : {A : Type 0} → List A → Option ℕ → ℕ → ℕ
group_rows [] parts rows = 1
group_rows (key ∷ keys) parts rows = bounded_parts parts rows

-- the declared rows of a statement's node: written, those of the source, the sum or the product of those of
-- the sources, all under the node's bounds
abbrev pub declared_rows : List Node → Body → ℕ
declared_rows nodes (bodies.Relation r) = r.rows
declared_rows nodes (bodies.Filter f) = bounded f.at_most (node_rows nodes f.source)
declared_rows nodes (bodies.Select s) = node_rows nodes s.source
declared_rows nodes (bodies.Concat c) = sum (map (node_rows nodes) c.sources)
declared_rows nodes (bodies.Join j) = bounded j.at_most (node_rows nodes j.left * node_rows nodes j.right)
declared_rows nodes (bodies.Group g) = bounded g.at_most (group_rows g.keys g.parts_at_most (node_rows nodes g.source))
declared_rows nodes (bodies.Distinct d) = bounded d.at_most (node_rows nodes d.source)
declared_rows nodes (bodies.Output o) = 0

-- the numbers of rows and the bounds that a statement writes are in their limits
abbrev pub counts_fit : Body → Bool
counts_fit (bodies.Relation r) = is_row_count r.rows
counts_fit (bodies.Filter f) = is_bound f.at_most
counts_fit (bodies.Select s) = true
counts_fit (bodies.Concat c) = true
counts_fit (bodies.Join j) = is_bound j.at_most
counts_fit (bodies.Group g) = is_bound g.parts_at_most && is_bound g.at_most
counts_fit (bodies.Distinct d) = is_bound d.at_most
counts_fit (bodies.Output o) = true

-- a text constant has at most 8 bytes
abbrev pub constant_fits : OperandText → Bool
constant_fits (operands.Name name) = true
constant_fits (operands.Number n) = true
constant_fits (operands.Quoted text) = nat_le (length text) 8
constant_fits operands.True = true
constant_fits operands.False = true

abbrev pub test_constants_fit : TestText → Bool
test_constants_fit test = constant_fits test.left && constant_fits test.right

abbrev pub item_constants_fit : ItemText → Bool
item_constants_fit (items.Same name) = true
item_constants_fit (items.Copied new operand) = constant_fits operand
item_constants_fit (items.Computed new left op right) = constant_fits left && constant_fits right

-- the text constants of a statement fit
abbrev pub constants_fit : Body → Bool
constants_fit (bodies.Relation r) = true
constants_fit (bodies.Filter f) = list_all test_constants_fit f.tests
constants_fit (bodies.Select s) = list_all item_constants_fit s.items
constants_fit (bodies.Concat c) = true
constants_fit (bodies.Join j) = true
constants_fit (bodies.Group g) = true
constants_fit (bodies.Distinct d) = true
constants_fit (bodies.Output o) = true

-- the cells of tables with one word more for each row, which says whether it is valid
abbrev pub cells : ℕ → ℕ → ℕ
cells rows columns = rows * (columns + 1)

abbrev pub cells_of : List Node → ℕ
cells_of nodes = sum_by (λ n. cells n.rows (length n.columns)) nodes

-- a node of this size keeps the limits behind the earlier nodes
abbrev pub node_fits : List Node → ℕ → ℕ → Bool
node_fits nodes rows columns = nat_le rows row_limit && nat_le columns column_limit && nat_le (cells_of nodes + cells rows columns) cell_limit

-- each node has at most so many columns
abbrev pub AreNarrow : List Node → Type 0
AreNarrow nodes = (name : List ℕ) → length (node_columns nodes name) ≤ column_limit

-- the sizes of a statement fit; an output has neither rows nor columns
abbrev pub sizes_fit : List Node → Body → Bool
sizes_fit nodes body = counts_fit body && constants_fit body && node_fits nodes (declared_rows nodes body) (length (columns_of nodes body))
