-- Who may know the rows of each node, and each of its columns: one case for each operator.
use Rattle.std.specs.Prelude.{ℕ, List, [], ◌∷◌, ◌++◌, length, map, slice_index_or}
use Rattle.std.specs.List.{fold, zip}
use Rattle.query_graph.specs.declared.node.Node.{Node}
use Rattle.query_graph.specs.declared.operand.Aggregate.{Aggregate}
use Rattle.query_graph.specs.declared.operand.Aggregate.TheVariants as aggregates
use Rattle.query_graph.specs.declared.operand.Item.{Item}
use Rattle.query_graph.specs.declared.operand.Item.TheVariants as items
use Rattle.query_graph.specs.declared.operand.Operand.{Operand}
use Rattle.query_graph.specs.declared.operand.Operand.TheVariants as operands
use Rattle.query_graph.specs.declared.operand.Test.{Test}
use Rattle.query_graph.specs.declared.operator.Operator.{Operator}
use Rattle.query_graph.specs.declared.operator.Operator.TheVariants as operators
use Rattle.query_graph.specs.declared.operator.Relation.{Relation}
use Rattle.query_graph.specs.declared.parties.Parties.{Parties}
use Rattle.query_graph.specs.Parties.{common_parties, no_party, united_parties, with_party}
use Rattle.plain_operators.specs.Columns.{other_columns}
use Rattle.plain_operators.specs.Operators.{left_keys, right_keys}
use Rattle.trust_sets.specs.declared.known.Known.{Known}

-- what nobody knows, of no column
abbrev pub nobody : Known
nobody = record { rows = no_party; columns = [] }

-- who may know the node with this number
abbrev pub known_at : List Known → ℕ → Known
known_at earlier node = slice_index_or earlier node nobody

-- who may know a column
abbrev pub column_set : Known → ℕ → Parties
column_set source column = slice_index_or source.columns column no_party

-- those of a set who may also know a column
abbrev pub met_with : Known → Parties → ℕ → Parties
met_with source set column = common_parties set (column_set source column)

-- who may also know what an operand and a test use
abbrev pub met_with_operand : Known → Parties → Operand → Parties
met_with_operand source set (operands.Column column) = met_with source set column
met_with_operand source set (operands.Constant word) = set

abbrev pub met_with_test : Known → Parties → Test → Parties
met_with_test source set test = met_with_operand source (met_with_operand source set test.left) test.right

-- the same rows, known to fewer
abbrev pub narrowed : Known → Parties → Known
narrowed source rows = record { rows = rows; columns = map (λ set. common_parties set rows) source.columns }

-- relation: a column is known to the owner and to the parties written for it, the rows to all of these
abbrev pub relation_columns : Relation → List Parties
relation_columns r = map (λ set. with_party set r.owner) r.trusted

abbrev pub known_relation : Relation → Known
known_relation r = record { rows = fold united_parties no_party (relation_columns r); columns = relation_columns r }

-- filter: who keeps the rows knows all columns that are tested
abbrev pub known_filter : Known → List Test → Known
known_filter source tests = narrowed source (fold (met_with_test source) source.rows tests)

-- select: a column is known to those who know all columns that its item uses
abbrev pub item_set : Known → Item → Parties
item_set source (items.Plain operand) = met_with_operand source source.rows operand
item_set source (items.Computed left op right) = met_with_operand source (met_with_operand source source.rows left) right

abbrev pub known_select : Known → List Item → Known
known_select source wanted = record { rows = source.rows; columns = map (item_set source) wanted }

-- concat: what is known of every source
abbrev pub known_of_both : Known → Known → Known
known_of_both a b = record {
  rows = common_parties a.rows b.rows;
  columns = map (λ (pair : Parties × Parties). common_parties pair.0 pair.1) (zip a.columns b.columns);
}

abbrev pub known_concat : List Known → Known
known_concat [] = nobody
known_concat (source ∷ sources) = fold known_of_both source sources

-- join: who finds the pairs knows all keys on both sides
abbrev pub met_with_key : Known → Known → Parties → ℕ × ℕ → Parties
met_with_key left right set key = met_with right (met_with left set key.0) key.1

abbrev pub joined_set : Known → Known → List (ℕ × ℕ) → Parties
joined_set left right keys = fold (met_with_key left right) (common_parties left.rows right.rows) keys

-- the sets of the columns that aren't keys, each met with that of the rows
abbrev pub other_sets : Known → List ℕ → Parties → List Parties
other_sets source keys rows = map (met_with source rows) (other_columns keys (length source.columns))

abbrev pub known_join_of : Known → Known → List (ℕ × ℕ) → Parties → Known
known_join_of left right keys rows = record {
  rows = rows;
  columns = map (λ key. rows) keys ++ (other_sets left (left_keys keys) rows ++ other_sets right (right_keys keys) rows);
}

abbrev pub known_join : Known → Known → List (ℕ × ℕ) → Known
known_join left right keys = known_join_of left right keys (joined_set left right keys)

-- group: who finds the groups knows all keys; a count says no more than these
abbrev pub grouped_set : Known → List ℕ → Parties
grouped_set source keys = fold (met_with source) source.rows keys

abbrev pub aggregate_set : Known → Parties → Aggregate → Parties
aggregate_set source rows (aggregates.Sum column) = met_with source rows column
aggregate_set source rows aggregates.Count = rows
aggregate_set source rows (aggregates.Least column) = met_with source rows column
aggregate_set source rows (aggregates.Greatest column) = met_with source rows column

abbrev pub known_group_of : Known → List ℕ → List Aggregate → Parties → Known
known_group_of source keys wanted rows = record { rows = rows; columns = map (λ key. rows) keys ++ map (aggregate_set source rows) wanted }

abbrev pub known_group : Known → List ℕ → List Aggregate → Known
known_group source keys wanted = known_group_of source keys wanted (grouped_set source keys)

-- distinct: who tells rows apart knows all columns
abbrev pub distinct_set : Known → Parties
distinct_set source = fold common_parties source.rows source.columns

abbrev pub known_distinct : Known → Known
known_distinct source = record { rows = distinct_set source; columns = map (λ set. distinct_set source) source.columns }

-- of a node, from the earlier nodes
abbrev pub known_node : Operator → List Known → Known
known_node (operators.Relation r) earlier = known_relation r
known_node (operators.Filter f) earlier = known_filter (known_at earlier f.source) f.tests
known_node (operators.Select s) earlier = known_select (known_at earlier s.source) s.items
known_node (operators.Concat c) earlier = known_concat (map (known_at earlier) c.sources)
known_node (operators.Join j) earlier = known_join (known_at earlier j.left) (known_at earlier j.right) j.keys
known_node (operators.Group g) earlier = known_group (known_at earlier g.source) g.keys g.aggregates
known_node (operators.Distinct d) earlier = known_distinct (known_at earlier d.source)

-- of each node in order, behind earlier ones
abbrev pub known_behind : List Known → List Node → List Known
known_behind earlier [] = earlier
known_behind earlier (node ∷ nodes) = known_behind (earlier ++ known_node node.shape earlier ∷ []) nodes

abbrev pub known_nodes : List Node → List Known
known_nodes nodes = known_behind [] nodes
