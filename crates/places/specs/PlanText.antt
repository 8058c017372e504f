-- The text of a plan: where each node is worked and for how many AND words, who may know what of it, and who gets each output.
use Rattle.std.specs.Prelude.{ℕ, ◌+◌, ◌==◌, ◌&&◌, if◌then◌else◌, List, [], ◌∷◌, ◌++◌, Option, Some, None, filter, map, slice_get, codes}
use Rattle.std.specs.Fmt.{decimal}
use Rattle.std.specs.List.{flat_map}
use Rattle.std.specs.Option.{option_map_or}
use Rattle.words.specs.declared.column.Column.{Column}
use Rattle.query_graph.specs.declared.flag.Flag.{Flag}
use Rattle.query_graph.specs.declared.node.Node.{Node}
use Rattle.query_graph.specs.declared.node.Output.{Output}
use Rattle.query_graph.specs.declared.operator.Operator.{Operator}
use Rattle.query_graph.specs.declared.operator.Operator.TheVariants as operators
use Rattle.query_graph.specs.declared.parties.Parties.{Parties}
use Rattle.query_graph.specs.Content.{Content}
use Rattle.query_graph.specs.Observers.{parts_at_most_of}
use Rattle.query_graph.specs.Parties.{has}
use Rattle.trust_sets.specs.declared.known.Known.{Known}
use Rattle.trust_sets.specs.Known.{column_set, known_at}
use Rattle.rewrites.specs.declared.part.Part.{Part}
use Rattle.rewrites.specs.declared.part.PartPlace.{PartPlace}
use Rattle.rewrites.specs.declared.part.PartPlace.TheVariants as part_places
use Rattle.rewrites.specs.Parts.{parts_at}
use Rattle.rewrites.specs.Rewritten.{Rewritten}
use Rattle.places.specs.declared.place.Place.{Place}
use Rattle.places.specs.declared.place.Place.TheVariants as places
use Rattle.places.specs.Places.{Places, output_words}

-- a line feed
abbrev pub line_end : List ℕ
line_end = 10 ∷ []

-- the parties of a set in rising order
abbrev pub members : Parties → List ℕ
members set = filter (has set) (1 ∷ 2 ∷ 3 ∷ [])

-- the byte of a party's digit
abbrev pub digit : ℕ → ℕ
digit party = 48 + party

-- the digits of parties, or a dash where there are none
abbrev pub digits_or_dash : List ℕ → List ℕ
digits_or_dash [] = codes "-"
digits_or_dash (party ∷ parties) = map digit (party ∷ parties)

abbrev pub set_text : Parties → List ℕ
set_text set = digits_or_dash (members set)

-- the word of a node's statement
abbrev pub operator_word : Operator → List ℕ
operator_word (operators.Relation r) = codes "relation"
operator_word (operators.Filter f) = codes "filter"
operator_word (operators.Select s) = codes "select"
operator_word (operators.Concat c) = codes "concat"
operator_word (operators.Join j) = codes "join"
operator_word (operators.Group g) = codes "group"
operator_word (operators.Distinct d) = codes "distinct"

-- a node's name, its statement's word and its declared rows
abbrev pub name_text : Node → List ℕ
name_text node = node.name ++ (codes " " ++ (operator_word node.shape ++ (codes " rows " ++ decimal node.rows)))

-- the party of a part, or `s` for a joint one
abbrev pub part_text : PartPlace → List ℕ
part_text (part_places.Clear party) = codes " " ++ decimal party
part_text part_places.Joint = codes " s"

-- where each of several parts lies
abbrev pub split_text : List Part → List ℕ
split_text parts = codes "split" ++ flat_map (λ part. part_text part.place) parts

-- where a node with these parts is worked
abbrev pub place_text : List Part → Place → List ℕ
place_text parts (places.Clear party) = codes "clear " ++ decimal party
place_text parts (places.Hybrid party) = codes "hybrid " ++ decimal party
place_text parts places.Shared = codes "shared"
place_text parts places.Up = codes "up"
place_text parts places.Split = split_text parts

-- the party of a flag, where that is of parts of the node with this number
abbrev pub counter_text : ℕ → Flag → List ℕ
counter_text number flag = if flag.of_parts && flag.node == number then codes " " ++ decimal flag.party else []

-- the parties that count a bound on parts of the node with this number, if it has one
abbrev pub counters_text : ℕ → Option ℕ → List Flag → List ℕ
counters_text number None flags = []
counters_text number (Some bound) flags = codes " parts" ++ flat_map (counter_text number) flags

-- the place of the node with this number, who counts its parts, and its AND words
abbrev pub work_text : Rewritten → Places → ℕ → Operator → List ℕ
work_text rewritten placed number shape =
    codes " place " ++ (option_map_or (place_text (parts_at rewritten.parts number)) (slice_get placed.places number) []
    ++ (counters_text number (parts_at_most_of shape) placed.flags ++ (codes " and " ++ option_map_or decimal (slice_get placed.words number) [])))

-- a column, and who may know it
abbrev pub column_text : Column → Parties → List ℕ
column_text column set = codes " " ++ (column.name ++ (codes " " ++ set_text set))

-- the same of each column, from this number on
abbrev pub columns_text : Known → ℕ → List Column → List ℕ
columns_text known number [] = []
columns_text known number (column ∷ columns) = column_text column (column_set known number) ++ columns_text known (number + 1) columns

-- who may know a node's rows and each of its columns
abbrev pub known_text : Known → List Column → List ℕ
known_text known columns = codes " know " ++ (set_text known.rows ++ columns_text known 0 columns)

-- the line of the node with this number
abbrev pub node_line : List Known → Rewritten → Places → ℕ → Node → List ℕ
node_line known rewritten placed number node =
    name_text node ++ (work_text rewritten placed number node.shape ++ (known_text (known_at known number) node.columns ++ line_end))

-- the lines of nodes, from this number on
abbrev pub node_lines : List Known → Rewritten → Places → ℕ → List Node → List ℕ
node_lines known rewritten placed number [] = []
node_lines known rewritten placed number (node ∷ nodes) = node_line known rewritten placed number node ++ node_lines known rewritten placed (number + 1) nodes

-- the line of an output: its node's name, its recipients, the node's rows, and the AND words of the opening
abbrev pub recipients_line : Parties → ℕ → Node → List ℕ
recipients_line recipients words node =
    codes "output " ++ (node.name ++ (codes " to " ++ (set_text recipients ++ (codes " rows " ++ (decimal node.rows ++ (codes " and " ++ (decimal words ++ line_end)))))))

abbrev pub output_line : Content → Rewritten → Output → List ℕ
output_line graph rewritten o = option_map_or (recipients_line o.recipients (output_words graph rewritten o)) (slice_get graph.nodes o.node) []

-- the last line
abbrev pub total_line : ℕ → List ℕ
total_line words = codes "total and " ++ (decimal words ++ line_end)

-- a line for each node and then one for each output, both in their order, and the sum of their AND words
abbrev pub plan_text : Content → List Known → Rewritten → Places → List ℕ
plan_text graph known rewritten placed =
    node_lines known rewritten placed 0 graph.nodes ++ (flat_map (output_line graph rewritten) graph.outputs ++ total_line placed.total)
