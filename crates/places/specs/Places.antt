-- The places of a graph, or why it has none.
use Rattle.std.specs.Prelude.{◌≡◌, ℕ, ◌+◌, ◌*◌, nat_le, if◌then◌else◌, List, [], ◌∷◌, Option, Some, None, Result, Ok, Err, sum, sum_by}
use Rattle.query_graph.specs.declared.flag.Flag.{Flag}
use Rattle.query_graph.specs.declared.node.Node.{Node}
use Rattle.query_graph.specs.declared.node.Output.{Output}
use Rattle.query_graph.specs.Content.{Content}
use Rattle.query_graph.specs.IsGraph.{rows_at}
use Rattle.query_graph.specs.NodeSizes.{width_at}
use Rattle.trust_sets.specs.declared.known.Known.{Known}
use Rattle.rewrites.specs.declared.part.PartPlace.{PartPlace}
use Rattle.rewrites.specs.declared.part.PartPlace.TheVariants as part_places
use Rattle.rewrites.specs.Opened.{number_at, opened_nodes}
use Rattle.rewrites.specs.Parts.{only_place, parts_at}
use Rattle.rewrites.specs.Rewritten.{Rewritten}
use Rattle.places.specs.declared.place.Place.{Place}
use Rattle.places.specs.declared.place.PlaceFault.{PlaceFault}
use Rattle.places.specs.declared.place.PlaceFault.TheVariants.{AtMost, Cost, Memory}
use Rattle.places.specs.Bounds.{first_uncounted, flags_from, places_from}
use Rattle.places.specs.Cost.{node_words}
use Rattle.places.specs.Place.{node_place}

-- the place, the AND words of each node, the sum with the outputs, and the flags
pub record Places : Type 0 where
  pub places : List Place
  pub words : List ℕ
  pub total : ℕ
  pub flags : List Flag

-- the words of an opening: none of one clear part, else each word of the opened node
abbrev pub opened_words : Option PartPlace → ℕ → ℕ
opened_words (Some (part_places.Clear party)) words = 0
opened_words (Some part_places.Joint) words = words
opened_words None words = words

abbrev pub opening_words : Content → Rewritten → ℕ → ℕ
opening_words graph rewritten opened = opened_words (only_place (parts_at rewritten.parts opened)) (rows_at graph.nodes opened * width_at graph.nodes opened)

abbrev pub output_words : Content → Rewritten → Output → ℕ
output_words graph rewritten o = opening_words graph rewritten (number_at (opened_nodes graph) o.node)

-- the words of all nodes from this number on
abbrev pub words_from : List Node → List Known → Rewritten → ℕ → List Node → List ℕ
words_from all known rewritten number [] = []
words_from all known rewritten number (node ∷ nodes) = node_words all rewritten.parts number node (node_place known rewritten number node.shape) ∷ words_from all known rewritten (number + 1) nodes

abbrev pub nodes_words : Content → List Known → Rewritten → List ℕ
nodes_words graph known rewritten = words_from graph.nodes known rewritten 0 graph.nodes

-- of all nodes and outputs
abbrev pub total_words : Content → List Known → Rewritten → ℕ
total_words graph known rewritten = sum (nodes_words graph known rewritten) + sum_by (output_words graph rewritten) graph.outputs

-- the most AND words of a query
abbrev pub word_limit : ℕ
word_limit = 8388608

abbrev pub places_of : Content → List Known → Rewritten → Places
places_of graph known rewritten = record {
  places = places_from known rewritten 0 graph.nodes;
  words = nodes_words graph known rewritten;
  total = total_words graph known rewritten;
  flags = flags_from known rewritten 0 graph.nodes;
}

-- first the bounds, then the cost
abbrev pub within_limit : Content → List Known → Rewritten → Result Places PlaceFault
within_limit graph known rewritten = if nat_le (total_words graph known rewritten) word_limit then Ok (places_of graph known rewritten) else Err (Cost (total_words graph known rewritten))

abbrev pub counted_or : Option PlaceFault → Result Places PlaceFault → Result Places PlaceFault
counted_or (Some fault) answer = Err fault
counted_or None answer = answer

abbrev pub checked : Content → List Known → Rewritten → Result Places PlaceFault
checked graph known rewritten = counted_or (first_uncounted known rewritten 0 graph.nodes) (within_limit graph known rewritten)

-- the answer is this fault, or memory ran out
abbrev pub Faults : PlaceFault → Option PlaceFault → Type 0
Faults Memory fault = Unit {0}
Faults (AtMost line node) fault = fault ≡ Some (AtMost line node)
Faults (Cost words) fault = fault ≡ Some (Cost words)

-- a call gave exactly this answer, or had no memory
abbrev pub GivesFault : PlaceFault → Result Places PlaceFault → Type 0
GivesFault Memory answer = Unit {0}
GivesFault (AtMost line node) answer = answer ≡ Err (AtMost line node)
GivesFault (Cost words) answer = answer ≡ Err (Cost words)

abbrev pub Gives : Result Places PlaceFault → Result Places PlaceFault → Type 0
Gives (Ok places) answer = answer ≡ Ok places
Gives (Err fault) answer = GivesFault fault answer
