-- When two worlds of a graph agree for a party: they differ in nothing that the party may know.
use Rattle.std.specs.Prelude.{◌≡◌, ◌≢◌, ℕ, true, List, Option, Some, None, length, slice_get}
use Rattle.std.specs.List.{All, filter, range_with_len}
use Rattle.bags.specs.Bag.{SameBag}
use Rattle.query_graph.specs.Content as graph_content
use Rattle.query_graph.specs.declared.flag.Flag.{Flag}
use Rattle.query_graph.specs.declared.node.Node.{Node}
use Rattle.query_graph.specs.declared.node.Output.{Output}
use Rattle.query_graph.specs.declared.operator.Operator.TheVariants as operators
use Rattle.query_graph.specs.declared.operator.Relation.{Relation}
use Rattle.query_graph.specs.Parties.{has}
use Rattle.plain_operators.specs.Cuts.{CutsAgree}
use Rattle.plain_meaning.specs.Laws.{relations_before}
use Rattle.plain_meaning.specs.Meaning.{meanings, rows_of}
use Rattle.trust_sets.specs.declared.known.Known.{Known}
use Rattle.trust_sets.specs.Known.{column_set, known_at}
use Rattle.trust_sets.specs.Laws.{KnowsRows}

-- the columns that a party may know, in order
abbrev pub known_columns : ℕ → Known → List ℕ
known_columns party source = filter (λ column. has (column_set source column) party) (range_with_len 0 (length source.columns))

-- the node with this number is this relation
pub record IsRelation (nodes : List Node) (number : ℕ) (written : Relation) : Type 0 where
  pub node : Node
  pub at : slice_get nodes number ≡ Some node
  pub is : node.shape ≡ operators.Relation written

-- the rows of the file of the relation that is the node with this number
abbrev pub file_rows : List Node → List (List (List ℕ)) → ℕ → List (List ℕ)
file_rows nodes world number = rows_of world (relations_before nodes number)

-- the party's own file of this number has the same rows in the same order
abbrev pub OwnFileAgrees : List Node → ℕ → List (List (List ℕ)) → List (List (List ℕ)) → ℕ → Type 0
OwnFileAgrees nodes party world other number = (r : Relation) → IsRelation nodes number r → r.owner ≡ party
    → file_rows nodes world number ≡ file_rows nodes other number

-- of another party's file whose rows the party may know, the columns that it may know have the same bag of rows
abbrev pub TrustedPartAgrees : List Node → List Known → ℕ → List (List (List ℕ)) → List (List (List ℕ)) → ℕ → Type 0
TrustedPartAgrees nodes known party world other number = (r : Relation) → IsRelation nodes number r → r.owner ≢ party → KnowsRows party (known_at known number)
    → CutsAgree (known_columns party (known_at known number)) (file_rows nodes world number) (file_rows nodes other number)

-- what the party gets of an output is the same bag of rows
abbrev pub AnswerAgrees : List Node → ℕ → List (List (List ℕ)) → List (List (List ℕ)) → Output → Type 0
AnswerAgrees nodes party world other output = has output.recipients party ≡ true
    → SameBag (rows_of (meanings nodes world) output.node) (rows_of (meanings nodes other) output.node)

-- the first two parts of agreement: the files, as far as the party may know them
pub record FilesAgree (nodes : List Node) (known : List Known) (party : ℕ) (world other : List (List (List ℕ))) : Type 0 where
  pub own : (number : ℕ) → OwnFileAgrees nodes party world other number
  pub trusted : (number : ℕ) → TrustedPartAgrees nodes known party world other number

-- two worlds, each with its first excess, agree for a party: on the files, on the excess, and where there is none on
-- the answers
pub record Agree (graph : graph_content.Content) (known : List Known) (party : ℕ) (world other : List (List (List ℕ))) (excess other_excess : Option Flag) : Type 0 where
  pub files : FilesAgree graph.nodes known party world other
  pub same_excess : excess ≡ other_excess
  pub answers : excess ≡ None → All (AnswerAgrees graph.nodes party world other) graph.outputs
