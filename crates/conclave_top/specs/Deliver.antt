-- Files that are written one after the other.
use Rattle.std.specs.Prelude.{ℕ, ◌≤◌, List, String, Vec, string_bytes}
use Rattle.std.specs.Global.{Global}
use Rattle.conclave_top.specs.Due.{names_of}
use Rattle.conclave_top.specs.Effect.{Called, Written}
use Rattle.conclave_top.specs.Outside.{FolderState}

-- a name and bytes
abbrev pub write_of : String Global × Vec ℕ Global → List ℕ × List ℕ
write_of write = (string_bytes write.0, write.1.items)

-- all these files were written
pub record AreWritten (writes : List (List ℕ × List ℕ)) (old new : FolderState) : Type 0 where
  pub files : Written writes old new
  pub calls : Called (names_of writes) old new
  pub later : old.faults ≤ new.faults
