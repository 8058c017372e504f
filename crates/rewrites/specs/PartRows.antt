-- The rows of each part of a node.
use Rattle.std.specs.Prelude.{ℕ, List, [], ◌∷◌, length, map, slice_index_or}
use Rattle.std.specs.List.{flat_map}
use Rattle.query_graph.specs.declared.node.Node.{Node}
use Rattle.query_graph.specs.declared.operator.Operator.{Operator}
use Rattle.query_graph.specs.declared.operator.Operator.TheVariants as operators
use Rattle.query_graph.specs.Observers.{sources_of}
use Rattle.plain_operators.specs.Items.{holds_of, item_word}
use Rattle.plain_operators.specs.Operators.{kept_rows, rows_of_items}
use Rattle.plain_meaning.specs.Convert.{item_of, test_of}
use Rattle.plain_meaning.specs.Meaning.{rows_of}
use Rattle.rewrites.specs.declared.part.Part.{Part}
use Rattle.rewrites.specs.Parts.{parts_at, parts_of}
use Rattle.rewrites.specs.Values.{values_of}

-- the rows of each part of the node with this number
abbrev pub pieces_at : List (List (List (List ℕ))) → ℕ → List (List (List ℕ))
pieces_at pieces node = slice_index_or pieces node []

-- the rows of each part of the sources, one source after the other
abbrev pub source_pieces : Operator → List (List (List (List ℕ))) → List (List (List ℕ))
source_pieces shape earlier = flat_map (pieces_at earlier) (sources_of shape)

-- an operator that is pushed down works on each part of its source; a concat has its sources' parts as they are
abbrev pub pushed_rows : Operator → List (List (List ℕ)) → List (List (List ℕ))
pushed_rows (operators.Relation r) pieces = pieces
pushed_rows (operators.Filter f) pieces = map (kept_rows (map holds_of (map test_of f.tests))) pieces
pushed_rows (operators.Select s) pieces = map (rows_of_items (map item_word (map item_of s.items))) pieces
pushed_rows (operators.Concat c) pieces = pieces
pushed_rows (operators.Join j) pieces = pieces
pushed_rows (operators.Group g) pieces = pieces
pushed_rows (operators.Distinct d) pieces = pieces

-- an only part has all rows of its node
abbrev pub divided : List Part → List (List ℕ) → List (List (List ℕ)) → List (List (List ℕ))
divided [] rows pieces = pieces
divided (part ∷ []) rows pieces = rows ∷ []
divided (part ∷ other ∷ parts) rows pieces = pieces

-- of the node behind these earlier ones, from the parts and the plain rows of all nodes
abbrev pub node_pieces : List (List Part) → List (List (List ℕ)) → Node → List (List (List (List ℕ))) → List (List (List ℕ))
node_pieces parts rows node earlier = divided (parts_at parts (length earlier)) (rows_of rows (length earlier)) (pushed_rows node.shape (source_pieces node.shape earlier))

-- the rows of each part of each node, from the plain rows of all nodes
abbrev pub pieces_of : List Node → List (List (List ℕ)) → List (List (List (List ℕ)))
pieces_of nodes rows = values_of (node_pieces (parts_of nodes) rows) nodes

-- the rows of one part of a node
abbrev pub part_rows : List Node → List (List (List ℕ)) → ℕ → ℕ → List (List ℕ)
part_rows nodes rows node part = rows_of (pieces_at (pieces_of nodes rows) node) part
