-- How a command ends, before a line of it is written.
use Rattle.std.specs.Prelude.{◌≡◌, ℕ, List, [], Result, Ok, Err}
use Rattle.conclave_top.specs.declared.end.Cause.{Cause}
use Rattle.conclave_top.specs.declared.end.Stop.{Stop}
use Rattle.conclave_top.specs.declared.end.Stop.TheVariants as lines
use Rattle.conclave_top.specs.declared.end.End.{End}
use Rattle.conclave_top.specs.declared.end.End.TheVariants.{Done, Stopped, Outside, Memory}
use Rattle.conclave_top.specs.Due.{Due, status_of}
use Rattle.conclave_top.specs.Effect.{HasRead, IsDone, IsLeft}
use Rattle.conclave_top.specs.Job.{Job}
use Rattle.conclave_top.specs.Outside.{FolderState, HasFailed, Ports, StreamState}

-- the result is due, and done
pub record HasResult (job : Job) (old new : Ports) : Type 0 where
  pub due : Due
  pub is_due : job.due due
  pub status : due.status ≡ 0
  pub silent : due.line ≡ []
  pub done : IsDone due old new

-- this cause is due with this line, and all that comes before it is done
pub record HasStopped (job : Job) (cause : Cause) (line : List ℕ) (old new : Ports) : Type 0 where
  pub due : Due
  pub is_due : job.due due
  pub status : due.status ≡ status_of cause
  pub says : due.line ≡ line
  pub unprinted : due.output ≡ []
  pub done : IsDone due old new

-- what each end of a job says
abbrev pub Ended : Job → Ports → Ports → End → Type 0
Ended job old new Done = HasResult job old new
Ended job old new (Stopped cause line) = HasStopped job cause line.items old new
Ended job old new Outside = HasFailed old new × IsLeft job old new
Ended job old new Memory = IsLeft job old new

-- the same of a part of a job that has no output
abbrev pub EndedReading : Job → FolderState → FolderState → End → Type 0
EndedReading job old new end = (out : StreamState) → Ended job (record { folder = old; out = out }) (record { folder = new; out = out }) end

-- a part of a job read its names and gave this, or is the end
abbrev pub Reads : {T : Type 0} → Job → (T → Type 0) → FolderState → FolderState → Result T End → Type 0
Reads job gives old new (Ok x) = gives x × HasRead job.reads old new
Reads job gives old new (Err end) = EndedReading job old new end

-- the end of a stage that gives nothing, by this cause
abbrev pub end_of : Cause → Stop → End
end_of cause (lines.Line line) = Stopped cause line
end_of cause lines.Memory = Memory
