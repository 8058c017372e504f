-- Ends of a part of a job are ends of the whole.
use Rattle.std.proofs.Common.{◌≡◌, ℕ, List, [], ◌∷◌, ◌++◌, Option, Err, ◌⊎◌, inl, inr, refl, ap, ◌∙◌, append_assoc}
use Rattle.std.specs.Prelude.{⊤}
use Rattle.outside.specs.Cause.{Rose}
use Rattle.outside.specs.Folder.{Files, Holds}
use Rattle.query_graph.specs.Content.{Content}
use Rattle.conclave_top.specs.declared.end.Cause.{Cause}
use Rattle.conclave_top.specs.declared.end.Cause.TheVariants.{Refused}
use Rattle.conclave_top.specs.declared.end.End.{End}
use Rattle.conclave_top.specs.declared.end.End.TheVariants.{Done, Stopped, Outside, Memory}
use Rattle.conclave_top.specs.declared.end.Stop.{Stop}
use Rattle.conclave_top.specs.declared.end.Stop.TheVariants as lines
use Rattle.conclave_top.specs.Compile.{Compiles, HasGraph, IsRefusedText, graphs}
use Rattle.conclave_top.specs.Due as dues
use Rattle.conclave_top.specs.Effect.{HasRead, IsLeft, IsReading, IsWriting}
use Rattle.conclave_top.specs.End.{Ended, EndedReading, end_of}
use Rattle.conclave_top.specs.Job.{HasQueryJob, IsRefusal, Job, behind, refusal}
use Rattle.conclave_top.specs.Outside.{FolderState, Ports, StreamState}
use Rattle.conclave_top.proofs.Folders.{at, cut_behind, done_behind, failed_before, reading_all, reading_behind, reading_none, stops_done}

-- a job behind reads of other names
left_at_behind : (first : List (List ℕ)) (job : Job) (old mid new : FolderState) → HasRead first old mid
    → (IsReading job.reads mid new ⊎ IsWriting job mid new) → (IsReading (first ++ job.reads) old new ⊎ IsWriting (behind first job) old new)
left_at_behind first job old mid new read (inl reading) = inl (reading_behind first job.reads old mid new read reading)
left_at_behind first job old mid new read (inr writing) = inr (record {
  due = dues.behind first writing.due;
  is_due = record { own = writing.due; is_due = writing.is_due; is = refl };
  cut = cut_behind first writing.due.reads writing.due.writes old mid new read writing.cut;
})

left_behind : (first : List (List ℕ)) (job : Job) (old mid : FolderState) (out : StreamState) (new : Ports) → HasRead first old mid → IsLeft job (at mid out) new → IsLeft (behind first job) (at old out) new
left_behind first job old mid out new read left = record { at = left_at_behind first job old mid new.folder read left.at; out = left.out }

pub ended_behind : (first : List (List ℕ)) (job : Job) (old mid : FolderState) (out : StreamState) (new : Ports) (end : End)
    → HasRead first old mid → Ended job (at mid out) new end → Ended (behind first job) (at old out) new end
ended_behind first job old mid out new Done read ends = record {
  due = dues.behind first ends.due;
  is_due = record { own = ends.due; is_due = ends.is_due; is = refl };
  status = ends.status;
  silent = ends.silent;
  done = done_behind first ends.due old mid out new read ends.done;
}
ended_behind first job old mid out new (Stopped cause line) read ends = record {
  due = dues.behind first ends.due;
  is_due = record { own = ends.due; is_due = ends.is_due; is = refl };
  status = ends.status;
  says = ends.says;
  unprinted = ends.unprinted;
  done = done_behind first ends.due old mid out new read ends.done;
}
ended_behind first job old mid out new Outside read ends = (failed_before old mid out new read.later ends.0, left_behind first job old mid out new read ends.1)
ended_behind first job old mid out new Memory read ends = left_behind first job old mid out new read ends

-- a part of a job that reads its first names
pub record IsPart (job wider : Job) : Type 0 where
  pub due : (due : dues.Due) → job.due due → wider.due due
  pub more : List (List ℕ)
  pub reads : wider.reads ≡ job.reads ++ more

left_at_within : (job wider : Job) (old new : FolderState) → IsPart job wider → (IsReading job.reads old new ⊎ IsWriting job old new) → (IsReading wider.reads old new ⊎ IsWriting wider old new)
left_at_within job wider old new part (inl reading) = inl (record {
  called = reading.called;
  left = reading.left ++ part.more;
  front = part.reads ∙ ap (λ ns. ns ++ part.more) reading.front ∙ append_assoc reading.called reading.left part.more;
  files = reading.files;
  calls = reading.calls;
})
left_at_within job wider old new part (inr writing) = inr (record { due = writing.due; is_due = part.due writing.due writing.is_due; cut = writing.cut })

left_within : (job wider : Job) (old new : Ports) → IsPart job wider → IsLeft job old new → IsLeft wider old new
left_within job wider old new part left = record { at = left_at_within job wider old.folder new.folder part left.at; out = left.out }

pub ended_within : (job wider : Job) (old new : Ports) (end : End) → IsPart job wider → Ended job old new end → Ended wider old new end
ended_within job wider old new Done part ends = record { due = ends.due; is_due = part.due ends.due ends.is_due; status = ends.status; silent = ends.silent; done = ends.done }
ended_within job wider old new (Stopped cause line) part ends =
    record { due = ends.due; is_due = part.due ends.due ends.is_due; status = ends.status; says = ends.says; unprinted = ends.unprinted; done = ends.done }
ended_within job wider old new Outside part ends = (ends.0, left_within job wider old new part ends.1)
ended_within job wider old new Memory part ends = left_within job wider old new part ends

-- this holds of the line of a stop, if it has one
abbrev pub Says : (List ℕ → Type 0) → Stop → Type 0
Says holds (lines.Line line) = holds line.items
Says holds lines.Memory = ⊤

pub says_within : (part whole : List ℕ → Type 0) (stop : Stop) → ((line : List ℕ) → part line → whole line) → Says part stop → Says whole stop
says_within part whole (lines.Line line) within says = within line.items says
says_within part whole lines.Memory within says = tt

-- a stage that read all its names and gives nothing
pub stopped_reading : (job : Job) (cause : Cause) (stop : Stop) (old new : FolderState) → HasRead job.reads old new
    → Says (λ line. job.due (dues.stops cause job.reads line)) stop → EndedReading job old new (end_of cause stop)
stopped_reading job cause (lines.Line line) old new read says out = record {
  due = dues.stops cause job.reads line.items;
  is_due = says;
  status = refl;
  says = refl;
  unprinted = refl;
  done = stops_done cause job.reads line.items old new out read;
}
stopped_reading job cause lines.Memory old new read says out = record { at = inl (reading_all job.reads old new read); out = refl }

-- a text that isn't compiled
refused_says : (text : List ℕ) (stop : Stop) → Compiles text (Err stop) → Says (IsRefusedText text) stop
refused_says text (lines.Line line) compiles = compiles
refused_says text lines.Memory compiles = tt

pub refused_reading : (files : Option Files) (query text : List ℕ) (stop : Stop) (old new : FolderState) → Holds files query text → HasRead (query ∷ []) old new → Compiles text (Err stop)
    → EndedReading (refusal files query graphs) old new (end_of Refused stop)
refused_reading files query text stop old new held read compiles =
    stopped_reading (refusal files query graphs) Refused stop old new read
    (says_within (IsRefusedText text) (λ line. IsRefusal files query graphs (dues.stops Refused (query ∷ []) line)) stop
    (λ line refused. record { text = text; line = line; held = held; refused = refused; is = refl }) (refused_says text stop compiles))

-- a stage whose last read failed, or found no memory
pub failed_reading : (job : Job) (old new : FolderState) → IsReading job.reads old new → Rose old.faults new.faults → EndedReading job old new Outside
failed_reading job old new reading rose out = (inl rose, record { at = inl reading; out = refl })

pub memory_reading : (job : Job) (old new : FolderState) → IsReading job.reads old new → EndedReading job old new Memory
memory_reading job old new reading out = record { at = inl reading; out = refl }

-- nothing was done
pub left_nothing : (job : Job) (ports : Ports) → IsLeft job ports ports
left_nothing job ports = record { at = inl (reading_none job.reads ports.folder ports.folder refl refl); out = refl }

-- the job on the graph of a query's text is the command's, and so is that without a graph
pub ended_on_graph : (files : Option Files) (query : List ℕ) (jobs : Content → Job) (graph : Content) (old mid : FolderState) (out : StreamState) (new : Ports) (end : End)
    → HasGraph files query graph → HasRead (query ∷ []) old mid → Ended (jobs graph) (at mid out) new end → HasQueryJob files query graphs jobs (λ job. Ended job (at old out) new end)
ended_on_graph files query jobs graph old mid out new end has read ends =
    inr (record { plan = graph; text = has.text; held = has.held; gives = has.compiled; job = ended_behind (query ∷ []) (jobs graph) old mid out new end read ends })

pub ended_early : (files : Option Files) (query : List ℕ) (jobs : Content → Job) (old new : FolderState) (out : StreamState) (end : End)
    → EndedReading (refusal files query graphs) old new end → HasQueryJob files query graphs jobs (λ job. Ended job (at old out) (at new out) end)
ended_early files query jobs old new out end ends = inl (ends out)
