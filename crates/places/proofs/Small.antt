-- Nodes within the limits, at any number.
use Rattle.std.proofs.Common.{◌≡◌, ℕ, ◌≤◌, List, Option, Some, None, length, refl, arith}
use Rattle.std.specs.Prelude.{slice_get}
use Rattle.std.specs.Option.{option_map_or}
use Rattle.query_graph.specs.declared.node.Node.{Node}
use Rattle.query_graph.specs.IsGraph.{rows_at}
use Rattle.query_graph.specs.NodeSizes.{width_at}
use Rattle.places.specs.Cost.{AreSmall, IsSmall}

few_rows : (found : Option Node) → ((n : Node) → found ≡ Some n → IsSmall n) → option_map_or (λ n. n.rows) found 0 ≤ 65536
few_rows None small = omega arith
few_rows (Some n) small = (small n refl).rows

few_columns : (found : Option Node) → ((n : Node) → found ≡ Some n → IsSmall n) → option_map_or (λ n. length n.columns) found 0 ≤ 32
few_columns None small = omega arith
few_columns (Some n) small = (small n refl).columns

pub rows_within : (nodes : List Node) → AreSmall nodes → (i : ℕ) → rows_at nodes i ≤ 65536
rows_within nodes small i = few_rows (slice_get nodes i) (λ n at. small i n at)

pub width_within : (nodes : List Node) → AreSmall nodes → (i : ℕ) → width_at nodes i ≤ 32
width_within nodes small i = few_columns (slice_get nodes i) (λ n at. small i n at)
