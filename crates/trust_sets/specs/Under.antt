-- What stands under a node, told by paths; and what a withheld relation has to do with it.
use Rattle.std.specs.Prelude.{◌≡◌, ℕ, ◌≤◌, false, List, Some, slice_get, IsSomeAnd}
use Rattle.std.specs.List.{Contains}
use Rattle.query_text.specs.Parties.{IsParty}
use Rattle.query_graph.specs.declared.node.Node.{Node}
use Rattle.query_graph.specs.declared.operator.Operator.TheVariants as operators
use Rattle.query_graph.specs.declared.operator.Relation.{Relation}
use Rattle.query_graph.specs.Content.{Content}
use Rattle.query_graph.specs.IsGraph.{IsGraph}
use Rattle.query_graph.specs.Observers.{sources_of}
use Rattle.query_graph.specs.Parties.{has}
use Rattle.trust_sets.specs.Release.{release_set, withheld_at, withheld_from, withheld_nodes}

-- a node itself, and what stands under one of its sources
pub data IsUnder (nodes : List Node) (under : ℕ) : ℕ → Type 0 where
  itself : IsUnder nodes under under
  source : (node s : ℕ) (n : Node) → slice_get nodes node ≡ Some n → Contains (sources_of n.shape) s → IsUnder nodes under s → IsUnder nodes under node

-- a relation that isn't released to this party
pub record IsUnreleased (nodes : List Node) (party relation : ℕ) : Type 0 where
  pub node : Node
  pub at : slice_get nodes relation ≡ Some node
  pub written : Relation
  pub is : node.shape ≡ operators.Relation written
  pub kept : has (release_set written) party ≡ false

-- the relation that is named stands under the node and isn't released, and no earlier one does
pub record WithheldIsFirst : Type 0 where
  pub under : (graph : Content) → IsGraph graph → (node party relation : ℕ) → withheld_from (withheld_at (withheld_nodes graph.nodes) node) party ≡ Some relation → IsUnder graph.nodes relation node
  pub kept : (graph : Content) → IsGraph graph → (node party relation : ℕ) → withheld_from (withheld_at (withheld_nodes graph.nodes) node) party ≡ Some relation → IsUnreleased graph.nodes party relation
  pub first : (graph : Content) → IsGraph graph → (node party other : ℕ) → IsParty party → IsUnder graph.nodes other node → IsUnreleased graph.nodes party other
      → IsSomeAnd (withheld_from (withheld_at (withheld_nodes graph.nodes) node) party) (λ relation. relation ≤ other)
