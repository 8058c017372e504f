-- Where the rows of each node lie: in parts, each clear at a party or joint.
use Rattle.std.specs.Prelude.{ℕ, Bool, true, false, ◌==◌, if◌then◌else◌, List, [], ◌∷◌, Option, Some, None, slice_index_or, unwrap_or}
use Rattle.std.specs.List.{flat_map, list_all}
use Rattle.std.specs.Option.{option_map, option_or}
use Rattle.query_graph.specs.declared.node.Node.{Node}
use Rattle.query_graph.specs.declared.operator.Operator.{Operator}
use Rattle.query_graph.specs.declared.operator.Operator.TheVariants as operators
use Rattle.query_graph.specs.Observers.{clear_at_of, sources_of}
use Rattle.rewrites.specs.declared.part.Part.{Part}
use Rattle.rewrites.specs.declared.part.PartPlace.{PartPlace}
use Rattle.rewrites.specs.declared.part.PartPlace.TheVariants as places
use Rattle.rewrites.specs.Values.{values_of}

-- whether a place, or a part, is clear at this party
abbrev pub is_at : ℕ → PartPlace → Bool
is_at party (places.Clear p) = p == party
is_at party places.Joint = false

abbrev pub is_clear_at : ℕ → Part → Bool
is_clear_at party part = is_at party part.place

-- whether it is joint
abbrev pub is_joint_place : PartPlace → Bool
is_joint_place (places.Clear p) = false
is_joint_place places.Joint = true

abbrev pub is_joint : Part → Bool
is_joint part = is_joint_place part.place

-- the party of a place, where all these parts are clear at it too
abbrev pub common_party : PartPlace → List Part → Option ℕ
common_party (places.Clear p) parts = if list_all (λ part. is_clear_at p part) parts then Some p else None
common_party places.Joint parts = None

-- the one party at which all of these parts are clear
abbrev pub clear_party : List Part → Option ℕ
clear_party [] = None
clear_party (part ∷ parts) = common_party part.place parts

-- the clear place at a party, if there is one
abbrev pub clear_place : Option ℕ → Option PartPlace
clear_place party = option_map (λ p. places.Clear p) party

-- the place of an only part
abbrev pub only_place : List Part → Option PartPlace
only_place [] = None
only_place (part ∷ []) = Some part.place
only_place (part ∷ other ∷ parts) = None

-- the place of all rows of these parts together: clear at a party where all of them are, else joint
abbrev pub whole_place : List Part → PartPlace
whole_place parts = unwrap_or (clear_place (clear_party parts)) places.Joint

-- the parts of a node, from those of all nodes
abbrev pub parts_at : List (List Part) → ℕ → List Part
parts_at parts node = slice_index_or parts node []

-- the parts of all sources, one source after the other
abbrev pub source_parts : Operator → List (List Part) → List Part
source_parts shape earlier = flat_map (parts_at earlier) (sources_of shape)

-- the place of an operator's one part, from the parts of its sources; none where it has a part for each of these. A
-- filter and a select are pushed down to the parts of the source, a concat has the sources' parts unless all of them are
-- clear at one party, and a join, a group and a distinct need all rows together
abbrev pub operator_place : Operator → List Part → Option PartPlace
operator_place (operators.Relation r) parts = Some (places.Clear r.owner)
operator_place (operators.Filter f) parts = only_place parts
operator_place (operators.Select s) parts = only_place parts
operator_place (operators.Concat c) parts = clear_place (clear_party parts)
operator_place (operators.Join j) parts = Some (whole_place parts)
operator_place (operators.Group g) parts = Some (whole_place parts)
operator_place (operators.Distinct d) parts = Some (whole_place parts)

-- the same of a node, where the text may say at which party it is clear
abbrev pub node_place : Operator → List Part → Option PartPlace
node_place shape parts = option_or (clear_place (clear_at_of shape)) (operator_place shape parts)

-- one part at this place with so many rows, if there is such a place, else these parts with theirs
abbrev pub placed : ℕ → Option PartPlace → List Part → List Part
placed rows (Some place) parts = record { place = place; rows = rows } ∷ []
placed rows None parts = parts

-- the parts of the node behind these earlier ones: one with all its rows, or those of its sources
abbrev pub node_parts : Node → List (List Part) → List Part
node_parts node earlier = placed node.rows (node_place node.shape (source_parts node.shape earlier)) (source_parts node.shape earlier)

-- the parts of each node in order
abbrev pub parts_of : List Node → List (List Part)
parts_of nodes = values_of node_parts nodes
