-- Where each node is worked.
use Rattle.std.specs.Prelude.{ℕ, if◌then◌else◌, List, [], ◌∷◌, Option, Some, None}
use Rattle.query_graph.specs.declared.operator.Operator.{Operator}
use Rattle.query_graph.specs.declared.operator.Operator.TheVariants as operators
use Rattle.query_graph.specs.declared.parties.Parties.{Parties}
use Rattle.trust_sets.specs.declared.known.Known.{Known}
use Rattle.trust_sets.specs.Known.{known_at}
use Rattle.rewrites.specs.declared.part.Part.{Part}
use Rattle.rewrites.specs.declared.part.PartPlace.{PartPlace}
use Rattle.rewrites.specs.declared.part.PartPlace.TheVariants as part_places
use Rattle.rewrites.specs.Parts.{parts_at}
use Rattle.rewrites.specs.Rewritten.{Rewritten}
use Rattle.rewrites.specs.Up.{is_up_at}
use Rattle.places.specs.declared.place.Place.{Place}
use Rattle.places.specs.declared.place.Place.TheVariants as places

-- the least party of a set
abbrev pub least_party : Parties → Option ℕ
least_party set = if set.first then Some 1 else if set.second then Some 2 else if set.third then Some 3 else None

-- hybrid at a party, shared where there is none
abbrev pub hybrid_or_shared : Option ℕ → Place
hybrid_or_shared (Some party) = places.Hybrid party
hybrid_or_shared None = places.Shared

-- the party of a join or a group with keys: the one written after `via`, else the least that may know the rows
abbrev pub helper : Option ℕ → Parties → Option ℕ
helper (Some party) rows = Some party
helper None rows = least_party rows

-- a group without keys has no helper
abbrev pub group_place : List ℕ → Option ℕ → Parties → Place
group_place [] via rows = places.Shared
group_place (key ∷ keys) via rows = hybrid_or_shared (helper via rows)

-- the place of a node with one joint part
abbrev pub joint_place : Operator → Parties → Place
joint_place (operators.Relation r) rows = places.Shared
joint_place (operators.Filter f) rows = places.Shared
joint_place (operators.Select s) rows = places.Shared
joint_place (operators.Concat c) rows = places.Shared
joint_place (operators.Join j) rows = hybrid_or_shared (helper j.via rows)
joint_place (operators.Group g) rows = group_place g.keys g.via rows
joint_place (operators.Distinct d) rows = places.Shared

abbrev pub part_place : PartPlace → Operator → Parties → Place
part_place (part_places.Clear party) shape rows = places.Clear party
part_place part_places.Joint shape rows = joint_place shape rows

-- by the parts of a node
abbrev pub parts_place : List Part → Operator → Parties → Place
parts_place [] shape rows = places.Split
parts_place (part ∷ []) shape rows = part_place part.place shape rows
parts_place (part ∷ other ∷ parts) shape rows = places.Split

-- the place of the node with this number
abbrev pub node_place : List Known → Rewritten → ℕ → Operator → Place
node_place known rewritten i shape = if is_up_at rewritten.up i then places.Up else parts_place (parts_at rewritten.parts i) shape (known_at known i).rows
