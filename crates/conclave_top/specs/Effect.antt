-- What a command did to the folder and to the output, by what is due.
use Rattle.std.specs.Prelude.{◌≡◌, ℕ, ◌≤◌, List, [], ◌++◌, take, option_map, ◌⊎◌, bytes_eq}
use Rattle.std.specs.Map.{update_all}
use Rattle.conclave_top.specs.Due.{Due, names_of}
use Rattle.conclave_top.specs.Job.{Job}
use Rattle.conclave_top.specs.Outside.{FolderState, Ports, gained}

-- these files were written, one after the other
abbrev pub Written : List (List ℕ × List ℕ) → FolderState → FolderState → Type 0
Written writes old new = new.files ≡ option_map (λ files. update_all bytes_eq files writes) old.files

-- these names were called, in order
abbrev pub Called : List (List ℕ) → FolderState → FolderState → Type 0
Called names old new = new.calls ≡ gained names old.calls

-- these names were called and nothing else was done
pub record HasRead (names : List (List ℕ)) (old new : FolderState) : Type 0 where
  pub files : new.files ≡ old.files
  pub calls : Called names old new
  pub later : old.faults ≤ new.faults

-- all is done that is due
pub record IsDone (due : Due) (old new : Ports) : Type 0 where
  pub files : Written due.writes old.folder new.folder
  pub calls : Called (due.reads ++ names_of due.writes) old.folder new.folder
  pub out : new.out.taken ≡ gained due.output old.out.taken

-- the first of these names were called, and nothing was written
pub record IsReading (names : List (List ℕ)) (old new : FolderState) : Type 0 where
  pub called : List (List ℕ)
  pub left : List (List ℕ)
  pub front : names ≡ called ++ left
  pub files : new.files ≡ old.files
  pub calls : Called called old new

-- all these names were read; the first of these files were written, each whole, and their names called, and perhaps that
-- of the next, whose write failed
pub record IsCutOff (reads : List (List ℕ)) (writes : List (List ℕ × List ℕ)) (old new : FolderState) : Type 0 where
  pub written : List (List ℕ × List ℕ)
  pub left : List (List ℕ × List ℕ)
  pub front : writes ≡ written ++ left
  pub tried : List (List ℕ)
  pub is_tried : (tried ≡ []) ⊎ (tried ≡ take 1 (names_of left))
  pub files : Written written old new
  pub calls : Called (reads ++ (names_of written ++ tried)) old new

-- the same of an outcome that is due
pub record IsWriting (job : Job) (old new : FolderState) : Type 0 where
  pub due : Due
  pub is_due : job.due due
  pub cut : IsCutOff due.reads due.writes old new

-- it was left at a read or at a write, and the output is as it was
pub record IsLeft (job : Job) (old new : Ports) : Type 0 where
  pub at : IsReading job.reads old.folder new.folder ⊎ IsWriting job old.folder new.folder
  pub out : new.out.taken ≡ old.out.taken
