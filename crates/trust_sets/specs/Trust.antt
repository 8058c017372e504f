-- What contracts see of a graph's trust.
use Rattle.std.specs.Prelude.{List}
use Rattle.query_text.specs.Parties.{IsParty}
use Rattle.query_graph.specs.declared.node.Node.{Node}
use Rattle.query_graph.specs.declared.operator.Operator.{Operator}
use Rattle.query_graph.specs.declared.operator.Operator.TheVariants as operators
use Rattle.trust_sets.specs.declared.known.Known.{Known}
use Rattle.trust_sets.specs.declared.withheld.Withheld.{Withheld}
use Rattle.trust_sets.specs.Known.{known_nodes}
use Rattle.trust_sets.specs.Release.{withheld_nodes}

-- for each node who may know it, and which relation under it isn't released
pub record Trust : Type 0 where
  pub known : List Known
  pub withheld : List Withheld

-- the trust of a graph's nodes
abbrev pub trust_of : List Node → Trust
trust_of nodes = record { known = known_nodes nodes; withheld = withheld_nodes nodes }

-- a relation's owner is a party
abbrev pub HasOwner : Operator → Type 0
HasOwner (operators.Relation r) = IsParty r.owner
HasOwner (operators.Filter f) = Unit {0}
HasOwner (operators.Select s) = Unit {0}
HasOwner (operators.Concat c) = Unit {0}
HasOwner (operators.Join j) = Unit {0}
HasOwner (operators.Group g) = Unit {0}
HasOwner (operators.Distinct d) = Unit {0}
