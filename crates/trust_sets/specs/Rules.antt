-- The rules on trust and on release, in their own words.
use Rattle.std.specs.Prelude.{◌≡◌, ℕ, zero, suc, ◌<◌, ◌≤◌, ◌↔◌, true, false, List, [], Some, None, length, slice_get, ◌⊎◌}
use Rattle.std.specs.List.{All, Contains}
use Rattle.query_graph.specs.Content.{Content}
use Rattle.query_graph.specs.IsGraph.{IsGraph}
use Rattle.query_graph.specs.Parties.{has}
use Rattle.query_graph.specs.Observers.{clear_at_of, sources_of, via_of}
use Rattle.query_graph.specs.declared.node.Node.{Node}
use Rattle.query_graph.specs.declared.node.Output.{Output}
use Rattle.query_graph.specs.declared.operator.Operator.{Operator}
use Rattle.query_graph.specs.declared.operator.Operator.TheVariants as operators
use Rattle.query_graph.specs.declared.operator.Relation.{Relation}
use Rattle.plain_operators.specs.Operators.{left_keys, right_keys}
use Rattle.trust_sets.specs.declared.fault.TrustFault.{TrustFault}
use Rattle.trust_sets.specs.declared.fault.TrustFault.TheVariants as faults
use Rattle.trust_sets.specs.Agreement.{IsRelation}
use Rattle.trust_sets.specs.Faults.{columns_at, first_fault}
use Rattle.trust_sets.specs.Known.{column_set, known_at, known_nodes}
use Rattle.trust_sets.specs.Laws.{KnowsColumn}
use Rattle.trust_sets.specs.Release.{release_set}
use Rattle.trust_sets.specs.Trust.{trust_of}
use Rattle.trust_sets.specs.Under.{IsUnder, IsUnreleased}

-- the keys in the source at this place: of a join on the left and on the right
abbrev pub keys_at : Operator → ℕ → List ℕ
keys_at (operators.Join j) zero = left_keys j.keys
keys_at (operators.Join j) (suc place) = right_keys j.keys
keys_at (operators.Group g) place = g.keys
keys_at _ place = []

-- a statement asks that a party be trusted with a column of a source: of the party that it names by `via` each key of
-- each source, and of the one that it names by `clear at` each column of each source
pub record Asks (nodes : List Node) (shape : Operator) (party place source column : ℕ) : Type 0 where
  pub is_source : slice_get (sources_of shape) place ≡ Some source
  pub asked : ((via_of shape ≡ Some party) × Contains (keys_at shape place) column) ⊎ ((clear_at_of shape ≡ Some party) × (column < length (columns_at nodes source)))

-- each party may know each column with which the statement asks that it be trusted
abbrev pub KeepsTrust : List Node → Node → Type 0
KeepsTrust nodes node = (party place source column : ℕ) → Asks nodes node.shape party place source column → KnowsColumn party (known_at (known_nodes nodes) source) column

-- each recipient is in the release set of every relation under the output
abbrev pub KeepsRelease : List Node → Output → Type 0
KeepsRelease nodes output = (party relation : ℕ) (r : Relation) → has output.recipients party ≡ true → IsUnder nodes relation output.node → IsRelation nodes relation r
    → has (release_set r) party ≡ true

-- every statement does so
pub record KeepsRules (graph : Content) : Type 0 where
  pub trust : All (KeepsTrust graph.nodes) graph.nodes
  pub release : All (KeepsRelease graph.nodes) graph.outputs

-- every statement before this line does
pub record KeepsRulesBefore (graph : Content) (line : ℕ) : Type 0 where
  pub trust : All (λ (n : Node). n.line < line → KeepsTrust graph.nodes n) graph.nodes
  pub release : All (λ (o : Output). o.line < line → KeepsRelease graph.nodes o) graph.outputs

-- this node's statement asks that the party be trusted with this column of this source, and the party may not know it;
-- it may know each column that the statement asks for in an earlier source, or with a lower number in this one
pub record BreaksTrust (graph : Content) (line number source party column : ℕ) : Type 0 where
  pub node : Node
  pub at : slice_get graph.nodes number ≡ Some node
  pub on_line : node.line ≡ line
  pub place : ℕ
  pub asks : Asks graph.nodes node.shape party place source column
  pub unknown : has (column_set (known_at (known_nodes graph.nodes) source) column) party ≡ false
  pub first : (place' source' column' : ℕ) → Asks graph.nodes node.shape party place' source' column' → (place' < place) ⊎ ((place' ≡ place) × (column' < column))
      → KnowsColumn party (known_at (known_nodes graph.nodes) source') column'
  pub before : KeepsRulesBefore graph line

-- this relation stands under the output and isn't released to this recipient; every relation under it is to each lower
-- recipient, and every earlier one to this
pub record BreaksRelease (graph : Content) (line node party relation : ℕ) : Type 0 where
  pub output : Output
  pub place : ℕ
  pub at : slice_get graph.outputs place ≡ Some output
  pub on_line : output.line ≡ line
  pub of_node : output.node ≡ node
  pub recipient : has output.recipients party ≡ true
  pub under : IsUnder graph.nodes relation node
  pub kept : IsUnreleased graph.nodes party relation
  pub lowest : (lower other : ℕ) (r : Relation) → lower < party → has output.recipients lower ≡ true → IsUnder graph.nodes other node → IsRelation graph.nodes other r
      → has (release_set r) lower ≡ true
  pub first : (other : ℕ) → IsUnder graph.nodes other node → IsUnreleased graph.nodes party other → relation ≤ other
  pub before : KeepsRulesBefore graph line

-- the first statement in the text that breaks a rule, and what it asks for
abbrev pub IsFirstBreach : Content → TrustFault → Type 0
IsFirstBreach graph (faults.Trust line node origin party column) = BreaksTrust graph line node origin party column
IsFirstBreach graph (faults.Release line output party relation) = BreaksRelease graph line output party relation

-- a graph has no fault exactly where every statement keeps the rules, and its fault is the first breach
pub record RulesInWords : Type 0 where
  pub passes : (graph : Content) → IsGraph graph → (first_fault graph (trust_of graph.nodes) ≡ None) ↔ KeepsRules graph
  pub fails : (graph : Content) (fault : TrustFault) → IsGraph graph → first_fault graph (trust_of graph.nodes) ≡ Some fault → IsFirstBreach graph fault
