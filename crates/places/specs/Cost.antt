-- The most AND words of each node and output: one line for each place and operator.
use Rattle.std.specs.Prelude.{◌≡◌, ℕ, ◌+◌, ◌*◌, ◌≤◌, min, Bool, true, false, List, [], ◌∷◌, Option, Some, None, length, slice_get, sum_by}
use Rattle.lanes.specs.Logarithm.{ceil_log2}
use Rattle.query_text.specs.declared.operand.Cmp.{Cmp}
use Rattle.query_text.specs.declared.operand.Cmp.TheVariants as cmps
use Rattle.query_text.specs.declared.operand.Op.{Op}
use Rattle.query_text.specs.declared.operand.Op.TheVariants as ops
use Rattle.query_graph.specs.declared.node.Node.{Node}
use Rattle.query_graph.specs.declared.operand.Item.{Item}
use Rattle.query_graph.specs.declared.operand.Item.TheVariants as items
use Rattle.query_graph.specs.declared.operand.Test.{Test}
use Rattle.query_graph.specs.declared.operator.Operator.{Operator}
use Rattle.query_graph.specs.declared.operator.Operator.TheVariants as operators
use Rattle.query_graph.specs.IsGraph.{rows_at}
use Rattle.query_graph.specs.NodeSizes.{width_at}
use Rattle.query_graph.specs.Observers.{clear_at_of, sources_of}
use Rattle.rewrites.specs.declared.part.Part.{Part}
use Rattle.rewrites.specs.declared.part.PartPlace.{PartPlace}
use Rattle.rewrites.specs.declared.part.PartPlace.TheVariants as part_places
use Rattle.rewrites.specs.Parts.{parts_at}
use Rattle.places.specs.declared.place.Place.{Place}
use Rattle.places.specs.declared.place.Place.TheVariants as places

abbrev pub compare_cost : Cmp → ℕ
compare_cost cmps.Eq = 6
compare_cost cmps.Ne = 6
compare_cost cmps.Lt = 13
compare_cost cmps.Le = 13
compare_cost cmps.Gt = 13
compare_cost cmps.Ge = 13

abbrev pub operation_cost : Op → ℕ
operation_cost (ops.Compare cmp) = compare_cost cmp
operation_cost ops.Add = 13
operation_cost ops.Sub = 13
operation_cost ops.Mul = 883
operation_cost ops.And = 1
operation_cost ops.Or = 1

-- a test, and its AND with the valid word of the row
abbrev pub test_cost : Test → ℕ
test_cost test = compare_cost test.cmp + 1

abbrev pub item_cost : Item → ℕ
item_cost (items.Plain operand) = 0
item_cost (items.Computed left op right) = operation_cost op

-- the rows of all joint parts
abbrev pub rows_if_joint : PartPlace → ℕ → ℕ
rows_if_joint (part_places.Clear party) rows = 0
rows_if_joint part_places.Joint rows = rows

abbrev pub joint_part : Part → ℕ
joint_part part = rows_if_joint part.place part.rows

abbrev pub joint_rows : List Part → ℕ
joint_rows parts = sum_by joint_part parts

-- the words of the joint parts of the sources, each as often as it is named
abbrev pub opening_cost : List Node → List (List Part) → List ℕ → ℕ
opening_cost nodes parts sources = sum_by (λ s. joint_rows (parts_at parts s) * width_at nodes s) sources

-- of n and m rows, with so many keys
abbrev pub shared_join : ℕ → ℕ → ℕ → ℕ
shared_join keys n m = n * m * (7 * keys + 2)

-- of n and m rows, to so many rows of so many columns
abbrev pub hybrid_join : ℕ → ℕ → ℕ → ℕ → ℕ
hybrid_join columns n m rows = (n + m + rows * (ceil_log2 rows + 1)) * (columns + 2)

-- the rows on which a group works: under a bound on parts at most three times that
abbrev pub rows_to_group : Option ℕ → ℕ → ℕ
rows_to_group None rows = rows
rows_to_group (Some bound) rows = min rows (3 * bound)

-- of n rows, with keys and without
abbrev pub shared_group : List ℕ → ℕ → ℕ → ℕ
shared_group [] aggregates n = n * (17 * aggregates + 4)
shared_group (key ∷ keys) aggregates n = n * n * (7 * length (key ∷ keys) + 4 + 17 * aggregates)

abbrev pub hybrid_group : ℕ → ℕ → ℕ → ℕ
hybrid_group keys aggregates n = (ceil_log2 n + 2) * n * (17 * aggregates + keys + 2)

-- of n rows of so many columns
abbrev pub shared_distinct : ℕ → ℕ → ℕ
shared_distinct columns n = n * n * (7 * columns + 4)

-- the work on the joint parts of a node, with a party's help or without
abbrev pub joint_work : List Node → Bool → List Part → Node → Operator → ℕ
joint_work nodes helped parts node (operators.Relation r) = 0
joint_work nodes helped parts node (operators.Filter f) = joint_rows parts * sum_by test_cost f.tests
joint_work nodes helped parts node (operators.Select s) = joint_rows parts * sum_by item_cost s.items
joint_work nodes helped parts node (operators.Concat c) = 0
joint_work nodes true parts node (operators.Join j) = hybrid_join (length node.columns) (rows_at nodes j.left) (rows_at nodes j.right) node.rows
joint_work nodes false parts node (operators.Join j) = shared_join (length j.keys) (rows_at nodes j.left) (rows_at nodes j.right)
joint_work nodes true parts node (operators.Group g) = hybrid_group (length g.keys) (length g.aggregates) (rows_to_group g.parts_at_most (rows_at nodes g.source))
joint_work nodes false parts node (operators.Group g) = shared_group g.keys (length g.aggregates) (rows_to_group g.parts_at_most (rows_at nodes g.source))
joint_work nodes helped parts node (operators.Distinct d) = shared_distinct (length node.columns) (rows_at nodes d.source)

-- what is opened to the party that is written
abbrev pub clear_cost : List Node → List (List Part) → Operator → Option ℕ → ℕ
clear_cost nodes parts shape None = 0
clear_cost nodes parts shape (Some party) = opening_cost nodes parts (sources_of shape)

-- the AND words of a node with this number in its place
abbrev pub node_words : List Node → List (List Part) → ℕ → Node → Place → ℕ
node_words nodes parts i node places.Up = 0
node_words nodes parts i node (places.Clear party) = clear_cost nodes parts node.shape (clear_at_of node.shape)
node_words nodes parts i node (places.Hybrid party) = joint_work nodes true (parts_at parts i) node node.shape
node_words nodes parts i node places.Shared = joint_work nodes false (parts_at parts i) node node.shape
node_words nodes parts i node places.Split = joint_work nodes false (parts_at parts i) node node.shape

-- nodes within the limits, and parts whose joint rows are
pub record IsSmall (node : Node) : Type 0 where
  pub rows : node.rows ≤ 65536
  pub columns : length node.columns ≤ 32

abbrev pub AreSmall : List Node → Type 0
AreSmall nodes = (i : ℕ) (node : Node) → slice_get nodes i ≡ Some node → IsSmall node

abbrev pub HaveFewRows : List (List Part) → Type 0
HaveFewRows parts = (i : ℕ) → joint_rows (parts_at parts i) ≤ 65536
