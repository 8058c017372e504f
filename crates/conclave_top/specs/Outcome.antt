-- What each status says.
use Rattle.std.specs.Prelude.{◌≡◌, ℕ, List, Option, Some, None, ◌⊎◌}
use Rattle.conclave_top.specs.Command.{Command, command_of}
use Rattle.conclave_top.specs.Due.{Due, usage}
use Rattle.conclave_top.specs.Effect.{IsDone, IsLeft}
use Rattle.conclave_top.specs.Finish.{IsMemory}
use Rattle.conclave_top.specs.Job.{Job, only}
use Rattle.conclave_top.specs.Jobs.{HasJob}
use Rattle.conclave_top.specs.Lines.{outside_line}
use Rattle.conclave_top.specs.Outside.{Outside, HasFailed, Tells}

-- an outcome that is due came: its status with its line, its reads and writes, and its output
pub record Settles (due : Due) (old new : Outside) (status : ℕ) : Type 0 where
  pub status_is : status ≡ due.status
  pub told : Tells due.line old.err new.err
  pub done : IsDone due old.ports new.ports

-- one that is due for the job did
pub record IsSettled (job : Job) (old new : Outside) (status : ℕ) : Type 0 where
  pub due : Due
  pub is_due : job.due due
  pub settles : Settles due old new status

-- 8: a count of the folder or of the output rose, and the job was left there
pub record IsFailed (job : Job) (old new : Outside) (status : ℕ) : Type 0 where
  pub status_is : status ≡ 8
  pub failed : HasFailed old.ports new.ports
  pub told : Tells outside_line old.err new.err
  pub left : IsLeft job old.ports new.ports

-- 9: no memory was left, and the job was left there
pub record IsOutOfMemory (job : Job) (old new : Outside) (status : ℕ) : Type 0 where
  pub memory : IsMemory old.err new.err status
  pub left : IsLeft job old.ports new.ports

-- the outcomes of a job
abbrev pub JobOutcome : Job → Outside → Outside → ℕ → Type 0
JobOutcome job old new status = IsSettled job old new status ⊎ (IsFailed job old new status ⊎ IsOutOfMemory job old new status)

-- the outcomes of a command line, by the command that it is: of none the usage is told
abbrev pub OutcomeOf : Option Command → Outside → Outside → ℕ → Type 0
OutcomeOf None old new status = IsSettled (only usage) old new status ⊎ IsOutOfMemory (only usage) old new status
OutcomeOf (Some command) old new status = HasJob old.ports.folder.files command (λ job. JobOutcome job old new status)

-- all that is promised of a command line's run
abbrev pub Outcome : List (List ℕ) → Outside → Outside → ℕ → Type 0
Outcome words old new status = OutcomeOf (command_of words) old new status
