-- The operator of a node on joint tables: what it asks of its sources, what it makes of them, and its most AND words and AND calls.
use Rattle.std.specs.Prelude.{◌≡◌, ℕ, Bool, true, false, IsSomeAnd, List, All, length, map, slice_index}
use Rattle.std.specs.Option.{option_map_or}
use Rattle.wires.specs.Environment.{Environment}
use Rattle.plain_operators.specs.OnSources as on_sources
use Rattle.plain_operators.specs.OnSources.{operator_rows, operator_size, operator_width}
use Rattle.plain_operators.specs.Operators.{left_keys, right_keys}
use Rattle.plain_operators.specs.Within.{AreAggregatesOf, AreItemsOf, AreTestsOf, HasColumns}
use Rattle.query_graph.specs.declared.operator.Operator.{Operator}
use Rattle.query_graph.specs.declared.operator.Operator.TheVariants.{Filter, Select, Join, Group}
use Rattle.plain_meaning.specs.Operators.{operator_of}
use Rattle.shared_ops.specs.declared.joint.Joint.{Joint}
use Rattle.shared_ops.specs.Costs.{operator_cost}
use Rattle.shared_ops.specs.Joint.{AllBits, Makes, joint_rows}
use Rattle.shared_ops.specs.Rounds.{operator_calls}

-- how many rows, and how many columns, each of several tables has
abbrev pub sizes_of : List Joint → List ℕ
sizes_of tables = map (λ t. t.rows) tables

abbrev pub widths_of : List Joint → List ℕ
widths_of tables = map (λ t. length t.columns.items) tables

-- its columns are ones that its sources have; the sources of a concat are of one width
abbrev pub FitsSources : on_sources.Operator → List ℕ → Type 0
FitsSources (on_sources.Filter tests) widths = AreTestsOf tests (slice_index widths 0)
FitsSources (on_sources.Select items) widths = AreItemsOf items (slice_index widths 0)
FitsSources on_sources.Concat widths = All (λ width. width ≡ slice_index widths 0) widths
FitsSources (on_sources.Join keys) widths = HasColumns (left_keys keys) (slice_index widths 0) × HasColumns (right_keys keys) (slice_index widths 1)
FitsSources (on_sources.Group keys aggregates) widths = HasColumns keys (slice_index widths 0) × AreAggregatesOf aggregates (slice_index widths 0)
FitsSources on_sources.Distinct widths = Unit {0}

-- what it makes of its sources' tables: a table of the rows and the columns that follow from theirs, whose valid rows have the bag of
-- its rows on their valid rows
abbrev pub MakesOf : (Environment → Type 0) → List ℕ → Joint → on_sources.Operator → List Joint → Type 0
MakesOf possible shape t operator tables =
    Makes possible shape t (operator_size operator (sizes_of tables)) (operator_width operator (widths_of tables)) (λ v. AllBits v tables) (λ v. operator_rows operator (map (joint_rows v) tables))

-- ---- a node, which is no relation

abbrev pub FitsNode : Operator → List ℕ → Type 0
FitsNode node widths = IsSomeAnd (operator_of node) (λ operator. FitsSources operator widths)

abbrev pub MakesNode : (Environment → Type 0) → List ℕ → Joint → Operator → List Joint → Type 0
MakesNode possible shape t node tables = IsSomeAnd (operator_of node) (λ operator. MakesOf possible shape t operator tables)

-- its most AND words and its most AND calls, and none for a relation
abbrev pub node_cost : Operator → List ℕ → List ℕ → ℕ
node_cost node sizes widths = option_map_or (λ operator. operator_cost operator sizes widths) (operator_of node) 0

abbrev pub node_calls : Operator → List ℕ → List ℕ → ℕ
node_calls node sizes widths = option_map_or (λ operator. operator_calls operator sizes widths) (operator_of node) 0

-- ---- which operator a node has

abbrev pub is_filter : Operator → Bool
is_filter (Filter f) = true
is_filter _ = false

abbrev pub is_select : Operator → Bool
is_select (Select s) = true
is_select _ = false

abbrev pub is_join : Operator → Bool
is_join (Join j) = true
is_join _ = false

abbrev pub is_group : Operator → Bool
is_group (Group g) = true
is_group _ = false
