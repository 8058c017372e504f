-- Which bounds a party counts, and the flags of a query.
use Rattle.std.specs.Prelude.{ℕ, ◌+◌, Bool, true, false, not, ◌&&◌, ◌||◌, if◌then◌else◌, List, [], ◌∷◌, ◌++◌, Option, Some, None}
use Rattle.std.specs.List.{list_any}
use Rattle.std.specs.Option.{is_none}
use Rattle.query_graph.specs.declared.flag.Flag.{Flag}
use Rattle.query_graph.specs.declared.node.Node.{Node}
use Rattle.query_graph.specs.declared.operator.Operator.{Operator}
use Rattle.query_graph.specs.Observers.{at_most_of, parts_at_most_of}
use Rattle.trust_sets.specs.declared.known.Known.{Known}
use Rattle.rewrites.specs.declared.part.Part.{Part}
use Rattle.rewrites.specs.Parts.{is_clear_at, is_joint, parts_at}
use Rattle.rewrites.specs.Opened.{source_of}
use Rattle.rewrites.specs.Rewritten.{Rewritten}
use Rattle.places.specs.declared.place.Place.{Place}
use Rattle.places.specs.declared.place.Place.TheVariants as places
use Rattle.places.specs.declared.place.PlaceFault.{PlaceFault}
use Rattle.places.specs.declared.place.PlaceFault.TheVariants as faults
use Rattle.places.specs.Place.{node_place}

-- the party that counts the rows of a node in this place
abbrev pub counter : Place → Option ℕ
counter (places.Clear party) = Some party
counter (places.Hybrid party) = Some party
counter places.Shared = None
counter places.Up = None
counter places.Split = None

-- whether a node is split and each of its parts is clear
abbrev pub is_clear_split : List Part → Bool
is_clear_split [] = false
is_clear_split (part ∷ []) = false
is_clear_split (part ∷ other ∷ parts) = not (list_any (λ part. is_joint part) (part ∷ other ∷ parts))

-- whether a bound is missing, or counted
abbrev pub is_counted : Operator → Place → List Part → Bool
is_counted shape place source = (is_none (at_most_of shape) || not (is_none (counter place))) && (is_none (parts_at_most_of shape) || is_clear_split source)

-- the first node from this number on with a bound that no party counts
abbrev pub first_uncounted : List Known → Rewritten → ℕ → List Node → Option PlaceFault
first_uncounted known rewritten number [] = None
first_uncounted known rewritten number (node ∷ nodes) =
    if is_counted node.shape (node_place known rewritten number node.shape) (parts_at rewritten.parts (source_of node.shape)) then first_uncounted known rewritten (number + 1) nodes
    else Some (faults.AtMost node.line number)

abbrev pub parts_flag : ℕ → ℕ → Flag
parts_flag node party = record { node = node; party = party; of_parts = true }

-- the flag of a party that has a clear part
abbrev pub parts_flag_of : ℕ → List Part → ℕ → List Flag
parts_flag_of node source party = if list_any (λ part. is_clear_at party part) source then parts_flag node party ∷ [] else []

abbrev pub rows_flag : ℕ → ℕ → Flag
rows_flag node party = record { node = node; party = party; of_parts = false }

-- the flags of the bound on parts, one for each party that has a part of the source
abbrev pub parts_flags : ℕ → Option ℕ → List Part → List Flag
parts_flags node None source = []
parts_flags node (Some bound) source = parts_flag_of node source 1 ++ (parts_flag_of node source 2 ++ parts_flag_of node source 3)

-- the flag of the bound on rows
abbrev pub rows_flags : ℕ → Option ℕ → Option ℕ → List Flag
rows_flags node None party = []
rows_flags node (Some bound) None = []
rows_flags node (Some bound) (Some party) = rows_flag node party ∷ []

-- those of the node with this number: first of parts, then of rows
abbrev pub node_flags : ℕ → Operator → Place → List Part → List Flag
node_flags node shape place source = parts_flags node (parts_at_most_of shape) source ++ rows_flags node (at_most_of shape) (counter place)

-- those of all nodes from this number on
abbrev pub flags_from : List Known → Rewritten → ℕ → List Node → List Flag
flags_from known rewritten number [] = []
flags_from known rewritten number (node ∷ nodes) =
    node_flags number node.shape (node_place known rewritten number node.shape) (parts_at rewritten.parts (source_of node.shape)) ++ flags_from known rewritten (number + 1) nodes

-- the places of all nodes from this number on
abbrev pub places_from : List Known → Rewritten → ℕ → List Node → List Place
places_from known rewritten number [] = []
places_from known rewritten number (node ∷ nodes) = node_place known rewritten number node.shape ∷ places_from known rewritten (number + 1) nodes
