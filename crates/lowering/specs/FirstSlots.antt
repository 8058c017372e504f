-- The first slots of each party: its relations in the order of the text, each as a padded table.
use Rattle.std.specs.Prelude.{ℕ, ◌+◌, ◌==◌, List, [], ◌∷◌, ◌++◌, length, replicate, take, if◌then◌else◌}
use Rattle.std.specs.List.{flat_map}
use Rattle.lanes.specs.Party.{number_of}
use Rattle.lanes.specs.declared.party.Party.{Party}
use Rattle.lanes.specs.declared.three.Three.{Three}
use Rattle.padded.specs.Table.{pad}
use Rattle.plain_meaning.specs.Fits.{IsWorldOf, relations}
use Rattle.query_graph.specs.declared.node.Node.{Node}
use Rattle.query_graph.specs.declared.operator.Operator.{Operator}
use Rattle.query_graph.specs.declared.operator.Operator.TheVariants.{Relation, Filter, Select, Concat, Join, Group, Distinct}
use Rattle.step_lists.specs.Draws.{parties}
use Rattle.step_lists.specs.Open.{SlotWords}

-- the rows of a graph's relations, in the order of the text, that fit it
pub record WorldOf (nodes : List Node) : Type 0 where
  pub rows : List (List (List ℕ))
  pub fits : IsWorldOf nodes rows

-- the party whose file a relation is, 0 for any other node
abbrev pub owner_of : Operator → ℕ
owner_of (Relation r) = r.owner
owner_of (Filter f) = 0
owner_of (Select s) = 0
owner_of (Concat c) = 0
owner_of (Join j) = 0
owner_of (Group g) = 0
owner_of (Distinct d) = 0

-- what belongs to a node, if its file is this party's
abbrev pub if_owned : {A : Type 0} → Party → Node → List A → List A
if_owned p node xs = if owner_of node.shape == number_of p then xs else []

-- a slot for each column, with zeros up to the declared rows, and one of valid words
abbrev pub relation_slots : Node → List (List ℕ) → List (List ℕ)
relation_slots node rows = pad (length node.columns) node.rows rows

-- those of a party's relations, with the rows of all relations
abbrev pub slots_of_relations : Party → List Node → List (List (List ℕ)) → List (List ℕ)
slots_of_relations p [] world = []
slots_of_relations p (node ∷ nodes) [] = []
slots_of_relations p (node ∷ nodes) (rows ∷ world) = if_owned p node (relation_slots node rows) ++ slots_of_relations p nodes world

abbrev pub first_slots : List Node → List (List (List ℕ)) → SlotWords
first_slots nodes world = parties (λ p. slots_of_relations p (relations nodes) world)

abbrev pub load_world : (nodes : List Node) → WorldOf nodes → SlotWords
load_world nodes w = first_slots nodes w.rows

-- how long they are
abbrev pub relation_lengths : Node → List ℕ
relation_lengths node = replicate (length node.columns + 1) node.rows

abbrev pub lengths_of_relations : Party → List Node → List ℕ
lengths_of_relations p nodes = flat_map (λ node. if_owned p node (relation_lengths node)) (relations nodes)

abbrev pub first_lengths : List Node → Three (List ℕ)
first_lengths nodes = parties (λ p. lengths_of_relations p nodes)

-- the number of the first slot of a relation of this party: how many slots the party's earlier relations have
abbrev pub first_slot : List Node → ℕ → Party → ℕ
first_slot nodes i p = length (lengths_of_relations p (take i nodes))
