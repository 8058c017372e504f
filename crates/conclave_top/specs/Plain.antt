-- What `plain` has to do on the graph of its query.
use Rattle.std.specs.Prelude.{◌≡◌, ℕ, List, [], Option, Some, None, Result, Ok, Err}
use Rattle.outside.specs.Folder.{Files}
use Rattle.query_graph.specs.Content.{Content}
use Rattle.tables.specs.Content as table
use Rattle.plain_meaning.specs.Fits.{relations}
use Rattle.conclave_top.specs.declared.end.Cause.TheVariants.{Faulty, Refused}
use Rattle.conclave_top.specs.Answers.{printed}
use Rattle.conclave_top.specs.Bounds.{first_bound}
use Rattle.conclave_top.specs.Due.{Due, does, stops}
use Rattle.conclave_top.specs.Job.{Job, only}
use Rattle.conclave_top.specs.Lines.{not_built}
use Rattle.conclave_top.specs.Relations.{AreBytes, file_names, tables_of}

-- behind these reads: the answers of a graph over the tables of its relations, or the line of a file that is none
abbrev pub answered : List (List ℕ) → Content → Result (List table.Content) (List ℕ) → Due
answered reads graph (Err line) = stops Faulty reads line
answered reads graph (Ok tables) = does reads [] (printed graph tables)

-- the names of the files of a graph's relations, and what their bytes come to
abbrev pub graph_files : Content → List (List ℕ)
graph_files graph = file_names [] (relations graph.nodes)

abbrev pub tables_in : Content → List (List ℕ) → Result (List table.Content) (List ℕ)
tables_in graph bytes = tables_of [] (relations graph.nodes) bytes

-- the folder has the files of a graph's relations, and this is due over their bytes
pub record IsAnswered (files : Option Files) (graph : Content) (due : Due) : Type 0 where
  pub bytes : List (List ℕ)
  pub are : AreBytes files [] (relations graph.nodes) bytes
  pub is : due ≡ answered (graph_files graph) graph (tables_in graph bytes)

-- they are there, and each is a table of its declaration
pub record HasTables (files : Option Files) (graph : Content) : Type 0 where
  pub bytes : List (List ℕ)
  pub are : AreBytes files [] (relations graph.nodes) bytes
  pub tables : List table.Content
  pub read : tables_in graph bytes ≡ Ok tables

-- a graph without a bound is answered
abbrev pub answer_job : Option Files → Content → Job
answer_job files graph = record { reads = graph_files graph; due = IsAnswered files graph; ready = HasTables files graph }

-- with a bound it is refused, with the line of the first, and no relation is read
abbrev pub job_for : Option Files → Content → Option ℕ → Job
job_for files graph (Some line) = only (stops Refused [] (not_built line))
job_for files graph None = answer_job files graph

abbrev pub plain_job : Option Files → Content → Job
plain_job files graph = job_for files graph (first_bound graph.nodes)
