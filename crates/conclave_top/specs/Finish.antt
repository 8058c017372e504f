-- The line that is written at an end, and the status.
use Rattle.std.specs.Prelude.{◌≡◌, ℕ, List, ◌⊎◌}
use Rattle.conclave_top.specs.declared.end.End.{End}
use Rattle.conclave_top.specs.declared.end.End.TheVariants.{Done, Stopped, Outside, Memory}
use Rattle.conclave_top.specs.Due.{status_of}
use Rattle.conclave_top.specs.Lines.{memory_line, outside_line}
use Rattle.conclave_top.specs.Outside.{StreamState, Tells, gained}

-- no memory was left: its line was written, or nothing
pub record IsMemory (old new : StreamState) (status : ℕ) : Type 0 where
  pub status_is : status ≡ 9
  pub told : (new.taken ≡ gained memory_line old.taken) ⊎ (new.taken ≡ old.taken)

-- the status came with its line, or no memory was left
abbrev pub IsTold : List ℕ → ℕ → StreamState → StreamState → ℕ → Type 0
IsTold line number old new status = ((status ≡ number) × Tells line old new) ⊎ IsMemory old new status

-- what is written at each end
abbrev pub IsFinished : End → StreamState → StreamState → ℕ → Type 0
IsFinished Done old new status = (status ≡ 0) × (new.taken ≡ old.taken)
IsFinished (Stopped cause line) old new status = IsTold line.items (status_of cause) old new status
IsFinished Outside old new status = IsTold outside_line 8 old new status
IsFinished Memory old new status = IsMemory old new status
