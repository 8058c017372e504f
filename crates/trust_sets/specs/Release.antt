-- Which relation under a node isn't released to a party.
use Rattle.std.specs.Prelude.{ℕ, ◌==◌, min, ◌||◌, if◌then◌else◌, List, [], ◌∷◌, ◌++◌, length, map, slice_index_or, Option, Some, None}
use Rattle.std.specs.List.{fold}
use Rattle.query_graph.specs.declared.node.Node.{Node}
use Rattle.query_graph.specs.declared.operator.Operator.{Operator}
use Rattle.query_graph.specs.declared.operator.Operator.TheVariants as operators
use Rattle.query_graph.specs.declared.operator.Relation.{Relation}
use Rattle.query_graph.specs.declared.parties.Parties.{Parties}
use Rattle.query_graph.specs.Parties.{has, no_party, with_party}
use Rattle.trust_sets.specs.declared.withheld.Withheld.{Withheld}

abbrev pub every_party : Parties
every_party = with_party (with_party (with_party no_party 1) 2) 3

-- who may get rows that a relation goes into: its owner and the parties that are written, or all three where none is
abbrev pub release_set : Relation → Parties
release_set r = if has r.release 1 || has r.release 2 || has r.release 3 then with_party r.release r.owner else every_party

-- under a node everything is released to everyone
abbrev pub nothing_withheld : Withheld
nothing_withheld = record { first = None; second = None; third = None }

-- the first relation under a node that isn't released to this party
abbrev pub withheld_from : Withheld → ℕ → Option ℕ
withheld_from withheld party =
    if party == 1 then withheld.first else if party == 2 then withheld.second else if party == 3 then withheld.third else None

-- that of the node with this number
abbrev pub withheld_at : List Withheld → ℕ → Withheld
withheld_at earlier node = slice_index_or earlier node nothing_withheld

-- relation: itself, where it isn't released
abbrev pub unless_released : ℕ → Parties → ℕ → Option ℕ
unless_released number set party = if has set party then None else Some number

abbrev pub withheld_relation : ℕ → Parties → Withheld
withheld_relation number set = record {
  first = unless_released number set 1;
  second = unless_released number set 2;
  third = unless_released number set 3;
}

-- the one of two that comes first in the text
abbrev pub first_relation : Option ℕ → Option ℕ → Option ℕ
first_relation None b = b
first_relation (Some a) None = Some a
first_relation (Some a) (Some b) = Some (min a b)

abbrev pub withheld_of_both : Withheld → Withheld → Withheld
withheld_of_both a b = record {
  first = first_relation a.first b.first;
  second = first_relation a.second b.second;
  third = first_relation a.third b.third;
}

-- of a node with this number, from the earlier nodes: the first of those of its sources
abbrev pub withheld_node : ℕ → Operator → List Withheld → Withheld
withheld_node number (operators.Relation r) earlier = withheld_relation number (release_set r)
withheld_node number (operators.Filter f) earlier = withheld_at earlier f.source
withheld_node number (operators.Select s) earlier = withheld_at earlier s.source
withheld_node number (operators.Concat c) earlier = fold withheld_of_both nothing_withheld (map (withheld_at earlier) c.sources)
withheld_node number (operators.Join j) earlier = withheld_of_both (withheld_at earlier j.left) (withheld_at earlier j.right)
withheld_node number (operators.Group g) earlier = withheld_at earlier g.source
withheld_node number (operators.Distinct d) earlier = withheld_at earlier d.source

-- of each node in order, behind earlier ones
abbrev pub withheld_behind : List Withheld → List Node → List Withheld
withheld_behind earlier [] = earlier
withheld_behind earlier (node ∷ nodes) = withheld_behind (earlier ++ withheld_node (length earlier) node.shape earlier ∷ []) nodes

abbrev pub withheld_nodes : List Node → List Withheld
withheld_nodes nodes = withheld_behind [] nodes
