-- The outcome of a command line, by its end and what was told.
use Rattle.std.proofs.Common.{◌≡◌, ℕ, List, [], Option, Some, None, inl, inr, refl, ap, sym, subst, ◌∙◌}
use Rattle.outside.specs.Folder.{Files}
use Rattle.conclave_top.specs.declared.end.Cause.TheVariants.{Usage}
use Rattle.conclave_top.specs.declared.end.End.{End}
use Rattle.conclave_top.specs.declared.end.End.TheVariants as ends
use Rattle.conclave_top.specs.Command.{Command, plain, plan, tape, run, audit}
use Rattle.conclave_top.specs.Due.{Due, status_of, usage}
use Rattle.conclave_top.specs.Effect.{IsDone, IsLeft}
use Rattle.conclave_top.specs.End.{Ended, HasResult}
use Rattle.conclave_top.specs.Finish.{IsFinished, IsTold}
use Rattle.conclave_top.specs.Job.{Job, only}
use Rattle.conclave_top.specs.Jobs.{CommandEnded, HasJob}
use Rattle.conclave_top.specs.Lines.{outside_line, usage_line}
use Rattle.conclave_top.specs.Outcome.{JobOutcome, OutcomeOf}
use Rattle.conclave_top.specs.Outside.{Outside, Ports, StreamState, HasFailed, Tells, gained}
use Rattle.conclave_top.proofs.Folders.{done_cut, gained_nil, read_nothing, stops_done}

-- what holds of a job of a command holds of it in other words
pub has_job : (files : Option Files) (command : Command) (part whole : Job → Type 0) → ((job : Job) → part job → whole job) → HasJob files command part → HasJob files command whole
has_job files (plain query) part whole within (inl job) = inl (within _ job)
has_job files (plain query) part whole within (inr on) = inr (record { plan = on.plan; text = on.text; held = on.held; gives = on.gives; job = within _ on.job })
has_job files (plan query) part whole within (inl job) = inl (within _ job)
has_job files (plan query) part whole within (inr on) = inr (record { plan = on.plan; text = on.text; held = on.held; gives = on.gives; job = within _ on.job })
has_job files (tape query seed tapes) part whole within (inl job) = inl (within _ job)
has_job files (tape query seed tapes) part whole within (inr on) = inr (record { plan = on.plan; text = on.text; held = on.held; gives = on.gives; job = within _ on.job })
has_job files (run query tapes) part whole within (inl job) = inl (within _ job)
has_job files (run query tapes) part whole within (inr on) = inr (record { plan = on.plan; text = on.text; held = on.held; gives = on.gives; job = within _ on.job })
has_job files (audit query asked) part whole within (inl job) = inl (within _ job)
has_job files (audit query asked) part whole within (inr on) = inr (record { plan = on.plan; text = on.text; held = on.held; gives = on.gives; job = within _ on.job })

-- all that is due is done, and nothing is printed: memory is left behind it
pub left_stopped : (job : Job) (due : Due) (old new : Ports) → job.due due → due.output ≡ [] → IsDone due old new → IsLeft job old new
left_stopped job due old new is_due unprinted done = record {
  at = inr (record { due = due; is_due = is_due; cut = done_cut due old new done });
  out = done.out ∙ ap (λ bytes. gained bytes old.out.taken) unprinted ∙ gained_nil old.out.taken;
}

silent_tells : (line : List ℕ) (old new : StreamState) → line ≡ [] → new.taken ≡ old.taken → Tells line old new
silent_tells line old new silent same = inl (same ∙ sym (gained_nil old.taken) ∙ ap (λ bytes. gained bytes old.taken) (sym silent))

done_outcome : (job : Job) (old new : Outside) (status : ℕ) → HasResult job old.ports new.ports → status ≡ 0 → new.err.taken ≡ old.err.taken → JobOutcome job old new status
done_outcome job old new status result is silent = inl (record {
  due = result.due;
  is_due = result.is_due;
  settles = record { status_is = is ∙ sym result.status; told = silent_tells result.due.line old.err new.err result.silent silent; done = result.done };
})

stopped_outcome : (job : Job) (number : ℕ) (line : List ℕ) (due : Due) (old new : Outside) (status : ℕ) → job.due due → due.status ≡ number → due.line ≡ line → due.output ≡ []
    → IsDone due old.ports new.ports → IsTold line number old.err new.err status → JobOutcome job old new status
stopped_outcome job number line due old new status is_due is says unprinted done (inl told) = inl (record {
  due = due;
  is_due = is_due;
  settles = record { status_is = told.0 ∙ sym is; told = subst (λ l. Tells l old.err new.err) (sym says) told.1; done = done };
})
stopped_outcome job number line due old new status is_due is says unprinted done (inr memory) =
    inr (inr (record { memory = memory; left = left_stopped job due old.ports new.ports is_due unprinted done }))

failed_outcome : (job : Job) (old new : Outside) (status : ℕ) → HasFailed old.ports new.ports → IsLeft job old.ports new.ports → IsTold outside_line 8 old.err new.err status → JobOutcome job old new status
failed_outcome job old new status failed left (inl told) = inr (inl (record { status_is = told.0; failed = failed; told = told.1; left = left }))
failed_outcome job old new status failed left (inr memory) = inr (inr (record { memory = memory; left = left }))

pub job_outcome : (job : Job) (old new : Outside) (end : End) (status : ℕ) → Ended job old.ports new.ports end → IsFinished end old.err new.err status → JobOutcome job old new status
job_outcome job old new ends.Done status ended finished = done_outcome job old new status ended finished.0 finished.1
job_outcome job old new (ends.Stopped cause line) status ended finished =
    stopped_outcome job (status_of cause) line.items ended.due old new status ended.is_due ended.status ended.says ended.unprinted ended.done finished
job_outcome job old new ends.Outside status ended finished = failed_outcome job old new status ended.0 ended.1 finished
job_outcome job old new ends.Memory status ended finished = inr (inr (record { memory = finished; left = ended }))

-- the outcome of a command
pub command_outcome : (command : Command) (old new : Outside) (end : End) (status : ℕ) → CommandEnded command old.ports new.ports end → IsFinished end old.err new.err status → OutcomeOf (Some command) old new status
command_outcome command old new end status ended finished =
    has_job old.ports.folder.files command (λ job. Ended job old.ports new.ports end) (λ job. JobOutcome job old new status) (λ job ends. job_outcome job old new end status ends finished) ended

-- the outcome of words that are no command: nothing is called
usage_done : (ports : Ports) → IsDone usage ports ports
usage_done ports = stops_done Usage [] usage_line ports.folder ports.folder ports.out (read_nothing ports.folder)

pub usage_outcome : (ports : Ports) (old new : StreamState) (status : ℕ) → IsTold usage_line 1 old new status
    → OutcomeOf None (record { ports = ports; err = old }) (record { ports = ports; err = new }) status
usage_outcome ports old new status (inl told) = inl (record { due = usage; is_due = refl; settles = record { status_is = told.0; told = told.1; done = usage_done ports } })
usage_outcome ports old new status (inr memory) = inr (record { memory = memory; left = left_stopped (only usage) usage ports ports refl refl (usage_done ports) })
