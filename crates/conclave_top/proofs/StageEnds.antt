-- The stages behind a plan of a command that reads relations and tapes.
use Rattle.std.proofs.Common.{◌≡◌, ◌∙◌, ℕ, List, [], ◌++◌, Option, Result, Ok, Err, inl, inr, refl, ap, sym, subst}
use Rattle.std.proofs.lemmas.List.{append-nil}
use Rattle.outside.specs.Folder.{Files}
use Rattle.lanes.specs.declared.party.Party.TheVariants.{First, Second, Third}
use Rattle.lanes.specs.declared.three.Three.{Three}
use Rattle.lowering.specs.Plan.{Plan}
use Rattle.step_lists.specs.Draws.{ThreeTapes, schedule_of}
use Rattle.step_lists.specs.Possible.{TapesFit}
use Rattle.tables.specs.Content as table
use Rattle.conclave_top.specs.declared.end.Cause.TheVariants.{Faulty, Unfit}
use Rattle.conclave_top.specs.declared.end.End.{End}
use Rattle.conclave_top.specs.declared.end.Stop.{Stop}
use Rattle.conclave_top.specs.declared.end.Stop.TheVariants as lines
use Rattle.conclave_top.specs.Due as dues
use Rattle.conclave_top.specs.Effect.{HasRead}
use Rattle.conclave_top.specs.End.{Ended, EndedReading, end_of}
use Rattle.conclave_top.specs.Job.{Job, behind, reading}
use Rattle.conclave_top.specs.Outside.{FolderState, Ports, StreamState}
use Rattle.conclave_top.specs.Relations.{GivesTables}
use Rattle.conclave_top.specs.Stages.{Source, files_job, over_tables_job, tapes_job, with_bytes_job}
use Rattle.conclave_top.specs.Tapes.{AreSpelled, AreTapeBytes, GivesTapes, tape_names}
use Rattle.conclave_top.proofs.Ends.{IsPart, Says, ended_behind, ended_within, left_nothing}
use Rattle.conclave_top.proofs.Folders.{at, read_nothing, stops_done}

-- to read the relations is the first part
files_reads_part : {T : Type 0} (files : Option Files) (source : Source T) (tapes : List ℕ) (plan : Plan) (on : T → ThreeTapes → Job) → IsPart (reading source.names) (files_job files source tapes plan on)
files_reads_part files source tapes plan on = record { due = λ due none. absurd none; more = tape_names tapes; reads = refl }

pub files_reading : {T : Type 0} (files : Option Files) (source : Source T) (tapes : List ℕ) (plan : Plan) (on : T → ThreeTapes → Job) (old new : FolderState) (out : StreamState) (end : End)
    → EndedReading (reading source.names) old new end → Ended (files_job files source tapes plan on) (at old out) (at new out) end
files_reading files source tapes plan on old new out end ends =
    ended_within (reading source.names) (files_job files source tapes plan on) (at old out) (at new out) end (files_reads_part files source tapes plan on) (ends out)

-- then what is due over their bytes
over_reads : {T : Type 0} (files : Option Files) (tapes : List ℕ) (plan : Plan) (on : T → ThreeTapes → Job) (answer : Result T (List ℕ)) → (over_tables_job files tapes plan on answer).reads ≡ tape_names tapes
over_reads files tapes plan on (Err line) = refl
over_reads files tapes plan on (Ok tables) = refl

files_part : {T : Type 0} (files : Option Files) (source : Source T) (tapes : List ℕ) (plan : Plan) (on : T → ThreeTapes → Job) (bytes : source.Bytes) → source.Hold files bytes
    → IsPart (behind source.names (over_tables_job files tapes plan on (source.read bytes))) (files_job files source tapes plan on)
files_part files source tapes plan on bytes are =
    let job = over_tables_job files tapes plan on (source.read bytes) in
    record {
      due = λ due is. record { bytes = bytes; are = are; is = is };
      more = [];
      reads = ap (λ ns. source.names ++ ns) (sym (over_reads files tapes plan on (source.read bytes))) ∙ sym (append-nil (source.names ++ job.reads));
    }

pub files_over : {T : Type 0} (files : Option Files) (source : Source T) (tapes : List ℕ) (plan : Plan) (on : T → ThreeTapes → Job) (bytes : source.Bytes) (old mid : FolderState) (out : StreamState) (new : Ports) (end : End)
    → source.Hold files bytes → HasRead source.names old mid → Ended (over_tables_job files tapes plan on (source.read bytes)) (at mid out) new end → Ended (files_job files source tapes plan on) (at old out) new end
files_over files source tapes plan on bytes old mid out new end are read ends =
    let job = over_tables_job files tapes plan on (source.read bytes) in
    ended_within (behind source.names job) (files_job files source tapes plan on) (at old out) new end (files_part files source tapes plan on bytes are)
    (ended_behind source.names job old mid out new end read ends)

-- a file that is no table
pub said_of_tables : (answer : Result (List table.Content) (List ℕ)) (stop : Stop) → GivesTables (Err stop) answer → Says (λ line. answer ≡ Err line) stop
said_of_tables answer (lines.Line line) gives = gives
said_of_tables answer lines.Memory gives = tt

pub faulty_end : {T : Type 0} (files : Option Files) (tapes : List ℕ) (plan : Plan) (on : T → ThreeTapes → Job) (answer : Result T (List ℕ)) (stop : Stop) (ports : Ports) → Says (λ line. answer ≡ Err line) stop
    → Ended (over_tables_job files tapes plan on answer) ports ports (end_of Faulty stop)
faulty_end files tapes plan on answer (lines.Line line) ports says =
    subst (λ a. Ended (over_tables_job files tapes plan on a) ports ports (end_of Faulty (lines.Line line))) (sym says) (record {
      due = dues.stops Faulty [] line.items;
      is_due = refl;
      status = refl;
      says = refl;
      unprinted = refl;
      done = stops_done Faulty [] line.items ports.folder ports.folder ports.out (read_nothing ports.folder);
    })
faulty_end files tapes plan on answer lines.Memory ports says = left_nothing (over_tables_job files tapes plan on answer) ports

-- to read the tapes is the first part behind the tables
tapes_reads_part : (files : Option Files) (tapes : List ℕ) (plan : Plan) (on : ThreeTapes → Job) → IsPart (reading (tape_names tapes)) (tapes_job files tapes plan on)
tapes_reads_part files tapes plan on = record { due = λ due none. absurd none; more = []; reads = sym (append-nil (tape_names tapes)) }

pub tapes_reading : (files : Option Files) (tapes : List ℕ) (plan : Plan) (on : ThreeTapes → Job) (old new : FolderState) (out : StreamState) (end : End)
    → EndedReading (reading (tape_names tapes)) old new end → Ended (tapes_job files tapes plan on) (at old out) (at new out) end
tapes_reading files tapes plan on old new out end ends =
    ended_within (reading (tape_names tapes)) (tapes_job files tapes plan on) (at old out) (at new out) end (tapes_reads_part files tapes plan on) (ends out)

tapes_part : (files : Option Files) (tapes : List ℕ) (plan : Plan) (on : ThreeTapes → Job) (bytes : Three (List ℕ)) → AreTapeBytes files tapes bytes
    → IsPart (behind (tape_names tapes) (with_bytes_job tapes plan on bytes)) (tapes_job files tapes plan on)
tapes_part files tapes plan on bytes are =
    record { due = λ due is. record { bytes = bytes; are = are; is = is }; more = []; reads = sym (append-nil (tape_names tapes)) ∙ sym (append-nil (tape_names tapes ++ [])) }

pub tapes_over : (files : Option Files) (tapes : List ℕ) (plan : Plan) (on : ThreeTapes → Job) (bytes : Three (List ℕ)) (old mid : FolderState) (out : StreamState) (new : Ports) (end : End)
    → AreTapeBytes files tapes bytes → HasRead (tape_names tapes) old mid → Ended (with_bytes_job tapes plan on bytes) (at mid out) new end → Ended (tapes_job files tapes plan on) (at old out) new end
tapes_over files tapes plan on bytes old mid out new end are read ends =
    let names = tape_names tapes in
    let job = with_bytes_job tapes plan on bytes in
    ended_within (behind names job) (tapes_job files tapes plan on) (at old out) new end (tapes_part files tapes plan on bytes are) (ended_behind names job old mid out new end read ends)

-- tapes that are spelled fit
pub spelled_fit : (plan : Plan) (bytes : Three (List ℕ)) (draws : ThreeTapes) → AreSpelled (schedule_of plan.list) bytes draws → TapesFit plan.list draws
spelled_fit plan bytes draws spelled First = (spelled First).0
spelled_fit plan bytes draws spelled Second = (spelled Second).0
spelled_fit plan bytes draws spelled Third = (spelled Third).0

pub draws_end : (tapes : List ℕ) (plan : Plan) (on : ThreeTapes → Job) (bytes : Three (List ℕ)) (draws : ThreeTapes) (old new : Ports) (end : End) → (on draws).reads ≡ [] → AreSpelled (schedule_of plan.list) bytes draws
    → Ended (on draws) old new end → Ended (with_bytes_job tapes plan on bytes) old new end
draws_end tapes plan on bytes draws old new end none spelled ends =
    let part : IsPart (on draws) (with_bytes_job tapes plan on bytes) =
    record { due = λ other is. inl (record { draws = draws; spelled = spelled; is_due = is }); more = []; reads = sym none ∙ sym (append-nil (on draws).reads) } in
    ended_within (on draws) (with_bytes_job tapes plan on bytes) old new end part ends

-- a tape that isn't what the plan needs
pub unfit_end : (tapes : List ℕ) (plan : Plan) (on : ThreeTapes → Job) (bytes : Three (List ℕ)) (stop : Stop) (ports : Ports) → GivesTapes (schedule_of plan.list) bytes tapes (Err stop)
    → Ended (with_bytes_job tapes plan on bytes) ports ports (end_of Unfit stop)
unfit_end tapes plan on bytes (lines.Line line) ports gives = record {
  due = dues.stops Unfit [] line.items;
  is_due = inr (record { line = line.items; fault = gives; is = refl });
  status = refl;
  says = refl;
  unprinted = refl;
  done = stops_done Unfit [] line.items ports.folder ports.folder ports.out (read_nothing ports.folder);
}
unfit_end tapes plan on bytes lines.Memory ports gives = left_nothing (with_bytes_job tapes plan on bytes) ports
