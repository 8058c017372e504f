-- What is added to the files and to the output of a run.
use Rattle.std.specs.Prelude.{◌≡◌, ℕ, List, ◌++◌, map, Some, slice_get, true}
use Rattle.std.specs.List.{flat_map}
use Rattle.bags.specs.Bag.{SameBag}
use Rattle.lanes.specs.Party.{number_of}
use Rattle.lanes.specs.Three.{at}
use Rattle.lanes.specs.declared.party.Party.{Party}
use Rattle.lowering.specs.Plan.{Plan, answer_rows}
use Rattle.plain_meaning.specs.Meaning.{meanings, rows_of}
use Rattle.plain_meaning.specs.Plain.{rows_of_tables}
use Rattle.query_graph.specs.Parties.{has}
use Rattle.query_graph.specs.declared.node.Output.{Output}
use Rattle.step_lists.specs.Open.{SlotWords}
use Rattle.tables.specs.Content as table
use Rattle.conclave_top.specs.declared.run_files.Results.{Results}
use Rattle.conclave_top.specs.AnswerFiles.{Answer, answer_write, line_of}
use Rattle.conclave_top.specs.Deliver.{write_of}

-- a plan's slots hold what its outputs plainly mean over these tables, for each of their recipients
abbrev pub HoldAnswers : Plan → List table.Content → SlotWords → Type 0
HoldAnswers plan tables slots =
    (number : ℕ) (output : Output) (party : Party) → slice_get plan.graph.outputs number ≡ Some output → has output.recipients (number_of party) ≡ true
    → SameBag (answer_rows plan output number party (at party slots)) (rows_of (meanings plan.graph.nodes (rows_of_tables tables)) output.node)

-- these files are behind the others, and the output stays
pub record AreAdded (writes : List (List ℕ × List ℕ)) (old new : Results) : Type 0 where
  pub writes_are : map write_of new.writes.items ≡ map write_of old.writes.items ++ writes
  pub output_is : new.output.items ≡ old.output.items

-- the file of each of these answers, and its line
pub record AreAnswered (answers : List Answer) (old new : Results) : Type 0 where
  pub writes_are : map write_of new.writes.items ≡ map write_of old.writes.items ++ map answer_write answers
  pub output_is : new.output.items ≡ old.output.items ++ flat_map line_of answers
