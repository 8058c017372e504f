-- The stages of `plain` behind its graph.
use Rattle.std.proofs.Common.{◌≡◌, ◌∙◌, ℕ, List, [], Option, Result, Ok, Err, ap, sym}
use Rattle.std.proofs.lemmas.List.{append-nil}
use Rattle.outside.specs.Folder.{Files}
use Rattle.query_graph.specs.Content.{Content}
use Rattle.plain_meaning.specs.Fits.{relations}
use Rattle.tables.specs.Content as table
use Rattle.conclave_top.specs.declared.end.End.{End}
use Rattle.conclave_top.specs.Due as dues
use Rattle.conclave_top.specs.Effect.{HasRead}
use Rattle.conclave_top.specs.End.{Ended, EndedReading}
use Rattle.conclave_top.specs.Job.{behind, only, reading}
use Rattle.conclave_top.specs.Outside.{FolderState, Ports, StreamState}
use Rattle.conclave_top.specs.Plain.{answer_job, answered, graph_files, tables_in}
use Rattle.conclave_top.specs.Relations.{AreBytes}
use Rattle.conclave_top.proofs.Ends.{IsPart, ended_behind, ended_within}
use Rattle.conclave_top.proofs.Folders.{at}

-- to read the relations is the first part
reads_part : (files : Option Files) (graph : Content) → IsPart (reading (graph_files graph)) (answer_job files graph)
reads_part files graph = record { due = λ due none. absurd none; more = []; reads = sym (append-nil (graph_files graph)) }

-- what is due over their bytes, behind them
answered_behind : (names : List (List ℕ)) (graph : Content) (tables : Result (List table.Content) (List ℕ)) → dues.behind names (answered [] graph tables) ≡ answered names graph tables
answered_behind names graph (Ok tables) = ap (λ ns. answered ns graph (Ok tables)) (append-nil names)
answered_behind names graph (Err line) = ap (λ ns. answered ns graph (Err line)) (append-nil names)

answers_part : (files : Option Files) (graph : Content) (bytes : List (List ℕ)) → AreBytes files [] (relations graph.nodes) bytes
    → IsPart (behind (graph_files graph) (only (answered [] graph (tables_in graph bytes)))) (answer_job files graph)
answers_part files graph bytes are =
    let names = graph_files graph in
    let job = only (answered [] graph (tables_in graph bytes)) in
    record {
      due = λ due is. record { bytes = bytes; are = are; is = is.is ∙ ap (dues.behind names) is.is_due ∙ answered_behind names graph (tables_in graph bytes) };
      more = [];
      reads = sym (append-nil names) ∙ sym (append-nil (behind names job).reads);
    }

pub ended_reading : (files : Option Files) (graph : Content) (old new : FolderState) (out : StreamState) (end : End)
    → EndedReading (reading (graph_files graph)) old new end → Ended (answer_job files graph) (at old out) (at new out) end
ended_reading files graph old new out end ends = ended_within (reading (graph_files graph)) (answer_job files graph) (at old out) (at new out) end (reads_part files graph) (ends out)

pub ended_answering : (files : Option Files) (graph : Content) (bytes : List (List ℕ)) (old mid : FolderState) (out : StreamState) (new : Ports) (end : End)
    → AreBytes files [] (relations graph.nodes) bytes → HasRead (graph_files graph) old mid → Ended (only (answered [] graph (tables_in graph bytes))) (at mid out) new end
    → Ended (answer_job files graph) (at old out) new end
ended_answering files graph bytes old mid out new end are read ends =
    let names = graph_files graph in
    let job = only (answered [] graph (tables_in graph bytes)) in
    ended_within (behind names job) (answer_job files graph) (at old out) new end (answers_part files graph bytes are) (ended_behind names job old mid out new end read ends)
