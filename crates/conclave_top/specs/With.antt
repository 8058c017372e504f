-- The commands that work by a plan that is handed in.
use Rattle.std.specs.Prelude.{ℕ, List, Option, Some, None, ⊤}
use Rattle.outside.specs.Folder.{Files}
use Rattle.lowering.specs.Plan.{Plan}
use Rattle.conclave_top.specs.Audit.{audit_job}
use Rattle.conclave_top.specs.Command.{Command, plain, plan, tape, run, audit, command_of}
use Rattle.conclave_top.specs.Job.{Job}
use Rattle.conclave_top.specs.Outcome.{JobOutcome}
use Rattle.conclave_top.specs.Outside.{Outside}
use Rattle.conclave_top.specs.Run.{run_job}
use Rattle.conclave_top.specs.Tape.{tape_job}

-- this holds of the job of a command on a plan: of those that work by one, without the read of the query
abbrev pub HasPlanJob : Option Files → Plan → Option Command → (Job → Type 0) → Type 0
HasPlanJob files on None holds = ⊥
HasPlanJob files on (Some (plain query)) holds = ⊥
HasPlanJob files on (Some (plan query)) holds = ⊥
HasPlanJob files on (Some (tape query seed tapes)) holds = holds (tape_job seed tapes on)
HasPlanJob files on (Some (run query tapes)) holds = holds (run_job files tapes on)
HasPlanJob files on (Some (audit query asked)) holds = holds (audit_job files asked on)

-- the words are such a command
abbrev pub TakesPlan : List (List ℕ) → Plan → Type 0
TakesPlan words on = HasPlanJob None on (command_of words) (λ job. ⊤)

-- all that is promised of its run
abbrev pub OutcomeWith : Plan → List (List ℕ) → Outside → Outside → ℕ → Type 0
OutcomeWith on words old new status = HasPlanJob old.ports.folder.files on (command_of words) (λ job. JobOutcome job old new status)
