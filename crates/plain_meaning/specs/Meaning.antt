-- The plain meaning of a graph: the rows of each node, from the rows of the relations. No name, kind, owner, trust, place
-- or bound is in it.
use Rattle.std.specs.Prelude.{ℕ, List, [], ◌∷◌, ◌++◌, drop, map, slice_index_or, if◌then◌else◌}
use Rattle.std.specs.List.{flat_map}
use Rattle.query_graph.specs.declared.node.Node.{Node}
use Rattle.query_graph.specs.declared.operator.Operator.{Operator}
use Rattle.query_graph.specs.declared.operator.Operator.TheVariants.{Relation, Filter, Select, Concat, Join, Group, Distinct}
use Rattle.query_graph.specs.Observers.{is_relation}
use Rattle.plain_operators.specs.Items.{holds_of, item_word}
use Rattle.plain_operators.specs.OnSources.{group_of_rows}
use Rattle.plain_operators.specs.Operators.{distinct_rows, joined_rows, kept_rows, rows_of_items}
use Rattle.plain_meaning.specs.Convert.{aggregate_of, item_of, test_of}

-- the rows of the node with this number, from those of all earlier nodes
abbrev pub rows_of : List (List (List ℕ)) → ℕ → List (List ℕ)
rows_of earlier node = slice_index_or earlier node []

-- the rows of a node, from those of a relation's file and those of all earlier nodes
abbrev pub node_rows : Operator → List (List ℕ) → List (List (List ℕ)) → List (List ℕ)
node_rows (Relation r) file earlier = file
node_rows (Filter f) file earlier = kept_rows (map holds_of (map test_of f.tests)) (rows_of earlier f.source)
node_rows (Select s) file earlier = rows_of_items (map item_word (map item_of s.items)) (rows_of earlier s.source)
node_rows (Concat c) file earlier = flat_map (rows_of earlier) c.sources
node_rows (Join j) file earlier = joined_rows j.keys (rows_of earlier j.left) (rows_of earlier j.right)
node_rows (Group g) file earlier = group_of_rows g.keys (map aggregate_of g.aggregates) (rows_of earlier g.source)
node_rows (Distinct d) file earlier = distinct_rows (rows_of earlier d.source)

-- the files that are left after a node: a relation takes the first
abbrev pub files_after : Operator → List (List (List ℕ)) → List (List (List ℕ))
files_after shape files = (if is_relation shape then drop 1 files else files)

-- the rows of the nodes behind earlier ones, with the files that are left
abbrev pub meanings_after : List (List (List ℕ)) → List (List (List ℕ)) → List Node → List (List (List ℕ))
meanings_after earlier files [] = earlier
meanings_after earlier files (node ∷ nodes) = meanings_after (earlier ++ node_rows node.shape (slice_index_or files 0 []) earlier ∷ []) (files_after node.shape files) nodes

-- the rows of each node in order, from the rows of the relations in the order of the text
abbrev pub meanings : List Node → List (List (List ℕ)) → List (List (List ℕ))
meanings nodes files = meanings_after [] files nodes
