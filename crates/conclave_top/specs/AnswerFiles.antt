-- The answers of a query over the tables of its relations, each for one of its recipients.
use Rattle.std.specs.Prelude.{ℕ, List, [], filter, length, map, slice_get, slice_index_or, Option, Some, None}
use Rattle.std.specs.List.{flat_map}
use Rattle.lanes.specs.Party.{number_of}
use Rattle.lanes.specs.declared.party.Party.{Party}
use Rattle.plain_meaning.specs.Meaning.{meanings}
use Rattle.plain_meaning.specs.Plain.{rows_of_tables}
use Rattle.query_graph.specs.Content.{Content}
use Rattle.query_graph.specs.Parties.{has}
use Rattle.query_graph.specs.declared.node.Node.{Node}
use Rattle.query_graph.specs.declared.node.Output.{Output}
use Rattle.query_graph.specs.declared.parties.Parties.{Parties}
use Rattle.tables.specs.Answer.{answer_of}
use Rattle.tables.specs.Content as table
use Rattle.conclave_top.specs.Lines.{answer_line}
use Rattle.conclave_top.specs.PartyFiles.{answer_file, of_parties}

-- the rows of a node for a party
pub record Answer : Type 0 where
  pub node : Node
  pub rows : List (List ℕ)
  pub party : Party

-- those of these parties that a set has, and all of a set in their order
abbrev pub among : Parties → List Party → List Party
among set parties = filter (λ party. has set (number_of party)) parties

abbrev pub recipients_of : Parties → List Party
recipients_of set = among set (of_parties (λ party. party))

-- a node with this number, if there is one, for these parties, by the rows of all nodes
abbrev pub answers_at : List (List (List ℕ)) → List Party → ℕ → Option Node → List Answer
answers_at rows parties number None = []
answers_at rows parties number (Some node) = map (λ party. record { node = node; rows = slice_index_or rows number []; party = party }) parties

abbrev pub answers_to : List Node → List (List (List ℕ)) → Output → List Answer
answers_to nodes rows output = answers_at rows (recipients_of output.recipients) output.node (slice_get nodes output.node)

-- in the order of outputs and then of recipients: what each output plainly means
abbrev pub answers_of : Content → List table.Content → List Answer
answers_of graph tables = flat_map (answers_to graph.nodes (meanings graph.nodes (rows_of_tables tables))) graph.outputs

-- the file of an answer, and its line
abbrev pub answer_write : Answer → List ℕ × List ℕ
answer_write answer = (answer_file answer.node answer.party, answer_of (record { columns = answer.node.columns; rows = answer.rows }))

abbrev pub line_of : Answer → List ℕ
line_of answer = answer_line (answer_file answer.node answer.party) (length answer.rows)
