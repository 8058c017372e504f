-- What holds of the places, the AND words and the flags of each graph, each law as one statement.
use Rattle.std.specs.Prelude.{◌≡◌, ◌≢◌, ℕ, ◌+◌, ◌*◌, ◌≤◌, true, List, [], Some, None, Ok, ◌⊎◌, length, slice_get}
use Rattle.std.specs.List.{All}
use Rattle.lanes.specs.Logarithm.{ceil_log2}
use Rattle.query_graph.specs.declared.node.Node.{Node}
use Rattle.query_graph.specs.declared.parties.Parties.{Parties}
use Rattle.query_graph.specs.Content as graph_content
use Rattle.query_graph.specs.NodeSizes.{IsNodeOf}
use Rattle.query_graph.specs.Observers.{clear_at_of, via_of}
use Rattle.query_graph.specs.Parties.{has}
use Rattle.trust_sets.specs.declared.known.Known.{Known}
use Rattle.trust_sets.specs.Differs.{IsWithinBounds}
use Rattle.trust_sets.specs.Known.{known_at}
use Rattle.rewrites.specs.Parts.{is_clear_at, parts_of, source_parts}
use Rattle.rewrites.specs.Rewritten.{Rewritten, rewritten_of}
use Rattle.places.specs.declared.place.Place.TheVariants as places
use Rattle.places.specs.Cost.{hybrid_group, hybrid_join, shared_distinct, shared_group, shared_join}
use Rattle.places.specs.Excess.{first_excess}
use Rattle.places.specs.Place.{node_place}
use Rattle.places.specs.Places.{Places, checked}

-- the party is in the set, and no lower one is
pub record IsLeast (set : Parties) (party : ℕ) : Type 0 where
  pub member : has set party ≡ true
  pub least : (other : ℕ) → has set other ≡ true → party ≤ other

-- a node that is worked in the clear at a party is so by what is written on it, or has only parts of its sources that are
-- clear there; the party that helps is the one that is written, or the least of those that may know the rows
pub record PlacesInWords : Type 0 where
  pub clear : (graph : graph_content.Content) (known : List Known) (i party : ℕ) (node : Node) → IsNodeOf graph i node → node_place known (rewritten_of graph) i node.shape ≡ places.Clear party
      → clear_at_of node.shape ≡ None → All (λ part. is_clear_at party part ≡ true) (source_parts node.shape (parts_of graph.nodes))
  pub written : (graph : graph_content.Content) (known : List Known) (i party : ℕ) (node : Node) → IsNodeOf graph i node → node_place known (rewritten_of graph) i node.shape ≡ places.Clear party
      → (clear_at_of node.shape ≡ None) ⊎ (clear_at_of node.shape ≡ Some party)
  pub hybrid : (known : List Known) (rewritten : Rewritten) (i party : ℕ) (node : Node) → node_place known rewritten i node.shape ≡ places.Hybrid party
      → (via_of node.shape ≡ Some party) ⊎ ((via_of node.shape ≡ None) × IsLeast (known_at known i).rows party)

-- the words of an operator are at least what its pieces add up to, with n and m rows of the sources, so many keys,
-- aggregates and columns of the result: for each pair of rows of a join 7 for each key and 1, or for each pair of a group
-- 7 for each key, 2 and 15 for each aggregate, and besides for each row 2 and 2 for each aggregate; with a party's help,
-- the keys that it gets to see, and for each of the levels of a network over the rows the words of a row
pub record PiecesFit : Type 0 where
  pub join : (keys n m : ℕ) → n * m * (7 * keys + 1) ≤ shared_join keys n m
  pub group : (keys : List ℕ) (aggregates n : ℕ) → keys ≢ [] → n * n * (7 * length keys + 2 + 15 * aggregates) + n * (2 + 2 * aggregates) ≤ shared_group keys aggregates n
  pub whole_table : (aggregates n : ℕ) → n * (15 * aggregates + 1) ≤ shared_group [] aggregates n
  pub distinct : (columns n : ℕ) → n * n * (7 * columns + 2) + n * 2 ≤ shared_distinct columns n
  pub helped_join : (keys columns n m rows : ℕ) → keys ≤ columns → (n + m) * keys + rows * ceil_log2 rows * (columns + 2) ≤ hybrid_join columns n m rows
  pub helped_group : (keys aggregates n : ℕ) → n * keys + ceil_log2 n * n * (16 * aggregates) ≤ hybrid_group keys aggregates n

-- accepted places: a place and AND words for each node, the sum of all within the most, and the words of each node within
-- that sum
pub record AcceptedAreFew : Type 0 where
  pub places : (graph : graph_content.Content) (known : List Known) (rewritten : Rewritten) (all : Places) → checked graph known rewritten ≡ Ok all → length all.places ≡ length graph.nodes
  pub words : (graph : graph_content.Content) (known : List Known) (rewritten : Rewritten) (all : Places) → checked graph known rewritten ≡ Ok all → length all.words ≡ length graph.nodes
  pub total : (graph : graph_content.Content) (known : List Known) (rewritten : Rewritten) (all : Places) → checked graph known rewritten ≡ Ok all → all.total ≤ 8388608
  pub each : (graph : graph_content.Content) (known : List Known) (rewritten : Rewritten) (all : Places) (i words : ℕ) → checked graph known rewritten ≡ Ok all → slice_get all.words i ≡ Some words → words ≤ all.total

-- in a world in which no flag of accepted places is above its bound, no node has more rows than its `at most`
abbrev pub NoExcessKeepsBounds : Type 0
NoExcessKeepsBounds = (graph : graph_content.Content) (known : List Known) (rewritten : Rewritten) (all : Places) (world : List (List (List ℕ))) → checked graph known rewritten ≡ Ok all
    → first_excess graph world all.flags ≡ None → IsWithinBounds graph.nodes world
