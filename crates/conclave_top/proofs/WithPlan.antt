-- The outcome of a command with a plan that is handed in.
use Rattle.std.proofs.Common.{ℕ, Option, Some, None}
use Rattle.outside.specs.Folder.{Files}
use Rattle.lowering.specs.Plan.{Plan}
use Rattle.conclave_top.specs.declared.end.End.{End}
use Rattle.conclave_top.specs.Command.{Command, plain, plan, tape, run, audit}
use Rattle.conclave_top.specs.End.{Ended}
use Rattle.conclave_top.specs.Finish.{IsFinished}
use Rattle.conclave_top.specs.Job.{Job}
use Rattle.conclave_top.specs.Outcome.{JobOutcome}
use Rattle.conclave_top.specs.Outside.{Outside}
use Rattle.conclave_top.specs.With.{HasPlanJob}
use Rattle.conclave_top.proofs.Outcomes.{job_outcome}

-- what holds of the job of a command on a plan holds of it in other words
pub has_plan_job : (files : Option Files) (on : Plan) (command : Option Command) (part whole : Job → Type 0) → ((job : Job) → part job → whole job) → HasPlanJob files on command part → HasPlanJob files on command whole
has_plan_job files on None part whole within job = job
has_plan_job files on (Some (plain query)) part whole within job = job
has_plan_job files on (Some (plan query)) part whole within job = job
has_plan_job files on (Some (tape query seed tapes)) part whole within job = within _ job
has_plan_job files on (Some (run query tapes)) part whole within job = within _ job
has_plan_job files on (Some (audit query asked)) part whole within job = within _ job

pub outcome_with : (files : Option Files) (on : Plan) (command : Option Command) (old new : Outside) (end : End) (status : ℕ) → HasPlanJob files on command (λ job. Ended job old.ports new.ports end)
    → IsFinished end old.err new.err status → HasPlanJob files on command (λ job. JobOutcome job old new status)
outcome_with files on command old new end status ended finished =
    has_plan_job files on command (λ job. Ended job old.ports new.ports end) (λ job. JobOutcome job old new status) (λ job ends. job_outcome job old new end status ends finished) ended
