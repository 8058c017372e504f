-- What a run leaves as it was, and the names that it calls.
use Rattle.std.proofs.Common.{◌≡◌, ℕ, false, List, [], ◌∷◌, ◌++◌, Option, Some, None, ◌⊎◌, inl, inr, ap, refl, ◌∙◌, subst}
use Rattle.std.specs.List.{list_any}
use Rattle.std.proofs.lemmas.List.{append-nil}
use Rattle.outside.specs.Folder.{Files}
use Rattle.lanes.specs.Party.{before}
use Rattle.query_graph.specs.Content.{Content}
use Rattle.query_graph.specs.TextGraph.{HasGraph, TextsHaveGraphs}
use Rattle.conclave_top.specs.Audit.{audit_job}
use Rattle.conclave_top.specs.Command.{Command, audit, run, tape, command_of}
use Rattle.conclave_top.specs.Due.{Due, names_of, usage}
use Rattle.conclave_top.specs.Effect.{IsReading, IsWriting}
use Rattle.conclave_top.specs.Job.{Job, behind, only, refusal}
use Rattle.conclave_top.specs.Jobs.{HasJob, statuses_of}
use Rattle.conclave_top.specs.Laws.{CallsAreFronts, IsUnwritten, LeavesTheRest, ReadsComeFirst, WritesNothing, bytes_at, run_names, told_files}
use Rattle.conclave_top.specs.Outcome.{JobOutcome, OutcomeOf}
use Rattle.conclave_top.specs.Outside.{FolderState, Outside, gained}
use Rattle.conclave_top.specs.PartyFiles.{twin_file}
use Rattle.conclave_top.specs.Plans.{plans}
use Rattle.conclave_top.specs.Question.{Question}
use Rattle.conclave_top.specs.Run.{run_job}
use Rattle.conclave_top.specs.Tape.{tape_job}
use Rattle.conclave_top.specs.Tapes.{tape_names}
use Rattle.conclave_top.proofs.Exact.{job_of_run, outcome_of}
use Rattle.conclave_top.proofs.Folders.{gained_nil}
use Rattle.conclave_top.proofs.JobsOf.{IsQuiet, job_of}
use Rattle.conclave_top.proofs.Keeping.{apart, fronts_for, gained_none, is_of, kept_none, none_tried, silent_for, undone_for, unprinted_for, unwritten_for}
use Rattle.conclave_top.proofs.Outcomes.{has_job}
use Rattle.conclave_top.proofs.Planned.{graph_on}
use Rattle.conclave_top.proofs.Unwritten.{unwritten_audit, unwritten_behind, unwritten_ran, unwritten_refusal, unwritten_taped}

-- the output
unprinted_of : (command : Option Command) (old new : Outside) (status : ℕ) → OutcomeOf command old new status → (status ≡ 0 → ⊥) → new.ports.out.taken ≡ old.ports.out.taken
unprinted_of None old new status (inl settled) not = gained_none settled.due.output old.ports.out new.ports.out (ap (λ (due : Due). due.output) settled.is_due) settled.settles.done.out
unprinted_of None old new status (inr memory) not = memory.left.out
unprinted_of (Some command) old new status outcome not =
    let of = job_of (told_files old) command (λ job. JobOutcome job old new status) outcome in
    unprinted_for (statuses_of command) of.job old new status of.fair not of.is

-- the stream for errors
silent_of : (command : Option Command) (old new : Outside) (status : ℕ) → OutcomeOf command old new status → status ≡ 0 → new.err.taken ≡ old.err.taken
silent_of None old new status (inl settled) zero = absurd (apart status 0 1 zero (settled.settles.status_is ∙ ap (λ (due : Due). due.status) settled.is_due) (λ e. cc))
silent_of None old new status (inr memory) zero = absurd (apart status 0 9 zero memory.memory.status_is (λ e. cc))
silent_of (Some command) old new status outcome zero =
    let of = job_of (told_files old) command (λ job. JobOutcome job old new status) outcome in
    silent_for (statuses_of command) of.job old new status of.fair zero of.is

-- of `tape` the files that are no tapes
untaped_for : (name query tapes : List ℕ) (seed : ℕ) (old new : Outside) (status : ℕ) → list_any (is_of name) (tape_names tapes) ≡ false
    → HasJob (told_files old) (tape query seed tapes) (λ job. JobOutcome job old new status) → bytes_at name (told_files new) ≡ bytes_at name (told_files old)
untaped_for name query tapes seed old new status none (inl outcome) =
    unwritten_for name (refusal (told_files old) query plans) old new status outcome (unwritten_refusal name (told_files old) query plans)
untaped_for name query tapes seed old new status none (inr on) =
    unwritten_for name (behind (query ∷ []) (tape_job seed tapes on.plan)) old new status on.job
    (unwritten_behind name (query ∷ []) (tape_job seed tapes on.plan) (unwritten_taped name seed tapes on.plan none))

-- and of `run` those that are no view and no answer
unran_for : TextsHaveGraphs → (name query text tapes : List ℕ) (graph : Content) (files : Files) (old new : Outside) (status : ℕ) → told_files old ≡ Some files → files query ≡ Some text
    → HasGraph text graph → list_any (is_of name) (run_names tapes graph) ≡ false → HasJob (told_files old) (run query tapes) (λ job. JobOutcome job old new status)
    → bytes_at name (told_files new) ≡ bytes_at name (told_files old)
unran_for texts name query text tapes graph files old new status told held has none (inl outcome) =
    unwritten_for name (refusal (told_files old) query plans) old new status outcome (unwritten_refusal name (told_files old) query plans)
unran_for texts name query text tapes graph files old new status told held has none (inr on) =
    let same : graph ≡ on.plan.graph = graph_on texts (told_files old) files query text on.text graph on.plan told held has on.held on.gives in
    unwritten_for name (behind (query ∷ []) (run_job (told_files old) tapes on.plan)) old new status on.job
    (unwritten_behind name (query ∷ []) (run_job (told_files old) tapes on.plan)
    (unwritten_ran name (told_files old) tapes on.plan (subst (λ (g : Content). list_any (is_of name) (run_names tapes g) ≡ false) same none)))

-- and of `audit` those that are no twin
unaudited_for : (name query : List ℕ) (asked : Question) (old new : Outside) (status : ℕ) → is_of name (twin_file asked.tapes (before asked.party)) ≡ false
    → HasJob (told_files old) (audit query asked) (λ job. JobOutcome job old new status) → bytes_at name (told_files new) ≡ bytes_at name (told_files old)
unaudited_for name query asked old new status none (inl outcome) =
    unwritten_for name (refusal (told_files old) query plans) old new status outcome (unwritten_refusal name (told_files old) query plans)
unaudited_for name query asked old new status none (inr on) =
    unwritten_for name (behind (query ∷ []) (audit_job (told_files old) asked on.plan)) old new status on.job
    (unwritten_behind name (query ∷ []) (audit_job (told_files old) asked on.plan) (unwritten_audit name (told_files old) asked on.plan none))

-- all files, where nothing is written
nothing_first : {A : Type 0} (writes first more : List A) → writes ≡ first ++ more → writes ≡ [] → first ≡ []
nothing_first writes [] more front none = refl
nothing_first writes (write ∷ first) more front none = cc

kept_left : (job : Job) (old new : FolderState) → IsQuiet job → (IsReading job.reads old new ⊎ IsWriting job old new) → new.files ≡ old.files
kept_left job old new none (inl reading) = reading.files
kept_left job old new none (inr writing) =
    kept_none writing.cut.written old new (nothing_first writing.due.writes writing.cut.written writing.cut.left writing.cut.front (none writing.due writing.is_due)) writing.cut.files

kept_for : (job : Job) (old new : Outside) (status : ℕ) → IsQuiet job → JobOutcome job old new status → told_files new ≡ told_files old
kept_for job old new status none (inl settled) = kept_none settled.due.writes old.ports.folder new.ports.folder (none settled.due settled.is_due) settled.settles.done.files
kept_for job old new status none (inr (inl failed)) = kept_left job old.ports.folder new.ports.folder none failed.left.at
kept_for job old new status none (inr (inr memory)) = kept_left job old.ports.folder new.ports.folder none memory.left.at

usage_outcome : (old new : Outside) (status : ℕ) → OutcomeOf None old new status → JobOutcome (only usage) old new status
usage_outcome old new status (inl settled) = inl settled
usage_outcome old new status (inr memory) = inr (inr memory)

usage_quiet : IsQuiet (only usage)
usage_quiet due is = ap (λ (d : Due). d.writes) is

kept_of : (command : Option Command) (old new : Outside) (status : ℕ) → OutcomeOf command old new status → WritesNothing command → told_files new ≡ told_files old
kept_of None old new status outcome none = kept_for (only usage) old new status usage_quiet (usage_outcome old new status outcome)
kept_of (Some command) old new status outcome none =
    let of = job_of (told_files old) command (λ job. JobOutcome job old new status) outcome in
    kept_for of.job old new status (of.quiet none) of.is

-- or where there is no result, and nothing failed
undone_of : (command : Option Command) (old new : Outside) (status : ℕ) → OutcomeOf command old new status → (status ≡ 0 → ⊥) → (status ≡ 8 → ⊥) → (status ≡ 9 → ⊥) → told_files new ≡ told_files old
undone_of None old new status outcome zero eight nine = kept_for (only usage) old new status usage_quiet (usage_outcome old new status outcome)
undone_of (Some command) old new status outcome zero eight nine =
    let of = job_of (told_files old) command (λ job. JobOutcome job old new status) outcome in
    undone_for (statuses_of command) of.job old new status of.fair of.is zero eight nine

-- the names called
pub reads_come_first : ReadsComeFirst
reads_come_first words command old new status call =
    let of = job_of_run words command old new status call in
    of.within (λ job. CallsAreFronts job old new status) (fronts_for (statuses_of command) of.job old new status of.fair of.is)

-- words that are no command call nothing
nothing_called : (old new : FolderState) → (IsReading [] old new ⊎ IsWriting (only usage) old new) → new.calls ≡ old.calls
nothing_called old new (inl reading) = reading.calls ∙ ap (λ ns. gained ns old.calls) (nothing_first [] reading.called reading.left reading.front refl) ∙ gained_nil old.calls
nothing_called old new (inr writing) =
    let cut = writing.cut in
    let none : names_of cut.written ++ cut.tried ≡ [] = none_tried writing.due.writes cut.written cut.left cut.tried (usage_quiet writing.due writing.is_due) cut.front cut.is_tried in
    let all : writing.due.reads ++ (names_of cut.written ++ cut.tried) ≡ [] = ap (λ ns. writing.due.reads ++ ns) none ∙ append-nil writing.due.reads ∙ ap (λ (d : Due). d.reads) writing.is_due in
    cut.calls ∙ ap (λ ns. gained ns old.calls) all ∙ gained_nil old.calls

usage_called : (old new : Outside) (status : ℕ) → JobOutcome (only usage) old new status → new.ports.folder.calls ≡ old.ports.folder.calls
usage_called old new status (inl settled) =
    settled.settles.done.calls ∙ ap (λ (d : Due). gained (d.reads ++ names_of d.writes) old.ports.folder.calls) settled.is_due ∙ gained_nil old.ports.folder.calls
usage_called old new status (inr (inl failed)) = nothing_called old.ports.folder new.ports.folder failed.left.at
usage_called old new status (inr (inr memory)) = nothing_called old.ports.folder new.ports.folder memory.left.at

uncalled_of : (command : Option Command) (old new : Outside) (status : ℕ) → OutcomeOf command old new status → command ≡ None → new.ports.folder.calls ≡ old.ports.folder.calls
uncalled_of None old new status outcome is = usage_called old new status (usage_outcome old new status outcome)
uncalled_of (Some command) old new status outcome is = cc

pub leaves_the_rest : TextsHaveGraphs → LeavesTheRest
leaves_the_rest texts = record {
  unprinted = λ words old new status outcome not. unprinted_of (command_of words) old new status outcome not;
  silent = λ words old new status outcome zero. silent_of (command_of words) old new status outcome zero;
  unwritten = λ words command old new status name call.
      has_job (told_files old) command (λ job. JobOutcome job old new status) (λ job. IsUnwritten name job → bytes_at name (told_files new) ≡ bytes_at name (told_files old))
      (λ job outcome unwritten. unwritten_for name job old new status outcome unwritten) (outcome_of words command old new status call);
  untaped = λ words query seed tapes old new status name call none. untaped_for name query tapes seed old new status none (outcome_of words (tape query seed tapes) old new status call);
  unran = λ words query text tapes graph files old new status name call told held has none.
      unran_for texts name query text tapes graph files old new status told held has none (outcome_of words (run query tapes) old new status call);
  unaudited = λ words query asked old new status name call none. unaudited_for name query asked old new status none (outcome_of words (audit query asked) old new status call);
  kept = λ words old new status outcome none. kept_of (command_of words) old new status outcome none;
  undone = λ words old new status outcome zero eight nine. undone_of (command_of words) old new status outcome zero eight nine;
  uncalled = λ words old new status outcome none. uncalled_of (command_of words) old new status outcome none;
}
