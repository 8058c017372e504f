-- What each flag counts in a world, and the first one that is above its bound.
use Rattle.std.specs.Prelude.{ℕ, Bool, false, if◌then◌else◌, List, [], ◌∷◌, ◌++◌, Option, find, slice_get}
use Rattle.std.specs.Option.{option_map_or}
use Rattle.query_graph.specs.declared.flag.Flag.{Flag}
use Rattle.query_graph.specs.declared.node.Node.{Node}
use Rattle.query_graph.specs.declared.operator.Operator.{Operator}
use Rattle.query_graph.specs.declared.operator.Operator.TheVariants as operators
use Rattle.query_graph.specs.Content.{Content}
use Rattle.query_graph.specs.Observers.{at_most_of, parts_at_most_of}
use Rattle.plain_operators.specs.Operators.{key_lists}
use Rattle.plain_meaning.specs.Meaning.{meanings, rows_of}
use Rattle.tables.specs.Content as table
use Rattle.plain_meaning.specs.Plain.{IsPlain, is_over}
use Rattle.rewrites.specs.declared.part.Part.{Part}
use Rattle.rewrites.specs.Opened.{source_of}
use Rattle.rewrites.specs.Parts.{is_clear_at, parts_at, parts_of}
use Rattle.rewrites.specs.PartRows.{pieces_at, pieces_of}

-- the columns by which an operator groups
abbrev pub keys_of : Operator → List ℕ
keys_of (operators.Group g) = g.keys
keys_of _ = []

-- the rows of the parts that are clear at a party, one part after the other
abbrev pub rows_at_party : ℕ → List Part → List (List (List ℕ)) → List (List ℕ)
rows_at_party party [] pieces = []
rows_at_party party (part ∷ parts) [] = []
rows_at_party party (part ∷ parts) (rows ∷ pieces) = (if is_clear_at party part then rows else []) ++ rows_at_party party parts pieces

-- in a world, the rows of a node that are clear at a party
abbrev pub party_rows : Content → List (List (List ℕ)) → ℕ → ℕ → List (List ℕ)
party_rows graph world node party = rows_at_party party (parts_at (parts_of graph.nodes) node) (pieces_at (pieces_of graph.nodes (meanings graph.nodes world)) node)

-- and the key lists that occur in a party's parts of the source of an operator
abbrev pub party_keys : Content → List (List (List ℕ)) → Operator → ℕ → List (List ℕ)
party_keys graph world shape party = key_lists (keys_of shape) (party_rows graph world (source_of shape) party)

-- whether a flag's count is above its bound: of the key lists that occur in the party's parts, or of all rows of the node
abbrev pub breaks : Content → List (List (List ℕ)) → Flag → Operator → Bool
breaks graph world flag shape = if flag.of_parts then is_over (parts_at_most_of shape) (party_keys graph world shape flag.party) else is_over (at_most_of shape) (rows_of (meanings graph.nodes world) flag.node)

abbrev pub is_broken : Content → List (List (List ℕ)) → Flag → Bool
is_broken graph world flag = option_map_or (λ (node : Node). breaks graph world flag node.shape) (slice_get graph.nodes flag.node) false

-- the first of these flags whose count is above its bound
abbrev pub first_excess : Content → List (List (List ℕ)) → List Flag → Option Flag
first_excess graph world flags = find (is_broken graph world) flags

-- tables of a graph's first nodes in some world, up to the first node that is over its `at most`
abbrev pub ArePlain : List Node → List table.Content → Option ℕ → Type 0
ArePlain nodes tables over = (world : List (List (List ℕ))) × IsPlain nodes world tables over
