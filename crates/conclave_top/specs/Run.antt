-- What `run` has to do on the plan of its query: to run the plan's list on the joint machine over the files of the relations
-- and of the tapes, and to write what each party gets.
use Rattle.std.specs.Prelude.{ℕ, List, [], ◌++◌, map, Option}
use Rattle.std.specs.List.{flat_map}
use Rattle.outside.specs.Folder.{Files}
use Rattle.clear_tasks.specs.ClearTask.{answer}
use Rattle.lowering.specs.FirstSlots.{first_slots}
use Rattle.lowering.specs.Plan.{Plan}
use Rattle.plain_meaning.specs.Fits.{relations}
use Rattle.plain_meaning.specs.Plain.{rows_of_tables}
use Rattle.query_graph.specs.Content.{Content}
use Rattle.step_lists.specs.Draws.{ThreeTapes}
use Rattle.step_lists.specs.Machine.{joint_of}
use Rattle.step_lists.specs.Open.{SlotWords}
use Rattle.step_lists.specs.Phases.{Links}
use Rattle.tables.specs.Content as table
use Rattle.conclave_top.specs.AnswerFiles.{answer_write, answers_of, line_of}
use Rattle.conclave_top.specs.Due.{does}
use Rattle.conclave_top.specs.Job.{Job, only}
use Rattle.conclave_top.specs.PartyFiles.{of_parties, view_file}
use Rattle.conclave_top.specs.Relations.{AreBytes, file_names, tables_of}
use Rattle.conclave_top.specs.Stages.{Source, files_job}
use Rattle.conclave_top.specs.Views.{view_bytes}

-- the words on the links of the joint machine, on the slots of these tables and with these draws
abbrev pub first_slots_of : Plan → List table.Content → SlotWords
first_slots_of plan tables = first_slots plan.graph.nodes (rows_of_tables tables)

abbrev pub links_of : Plan → List table.Content → ThreeTapes → Links
links_of plan tables draws = (joint_of answer plan.list (first_slots_of plan tables) draws).links

-- the file of each party's view
abbrev pub view_writes : List ℕ → Links → List (List ℕ × List ℕ)
view_writes tapes links = of_parties (λ party. (view_file tapes party, view_bytes links party))

-- the views, and then each answer, which is what the query plainly means
abbrev pub run_writes : List ℕ → Plan → List table.Content → ThreeTapes → List (List ℕ × List ℕ)
run_writes tapes plan tables draws = view_writes tapes (links_of plan tables draws) ++ map answer_write (answers_of plan.graph tables)

-- a line for each answer
abbrev pub run_output : Plan → List table.Content → List ℕ
run_output plan tables = flat_map line_of (answers_of plan.graph tables)

abbrev pub run_on : List ℕ → Plan → List table.Content → ThreeTapes → Job
run_on tapes plan tables draws = only (does [] (run_writes tapes plan tables draws) (run_output plan tables))

-- the files of a graph's relations in a folder
abbrev pub relation_source : List ℕ → Content → Source (List table.Content)
relation_source folder graph = record {
  Bytes = List (List ℕ);
  names = file_names folder (relations graph.nodes);
  Hold = λ files bytes. AreBytes files folder (relations graph.nodes) bytes;
  read = tables_of folder (relations graph.nodes);
}

abbrev pub run_job : Option Files → List ℕ → Plan → Job
run_job files tapes plan = files_job files (relation_source [] plan.graph) tapes plan (run_on tapes plan)
