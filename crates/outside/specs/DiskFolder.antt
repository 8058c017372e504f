use Rattle.std.specs.Prelude.{ℕ, List, Option, None}
use Rattle.outside.specs.Folder.{Files}
use Rattle.outside.specs.declared.disk_folder.DiskFolder.{DiskFolder}

-- how many calls failed so far
abbrev pub failed_calls : {R : Type 0} → DiskFolder R → ℕ
failed_calls folder = folder.faults

-- neither files nor calls are told
abbrev pub files_told : {R : Type 0} → DiskFolder R → Option Files
files_told folder = None

abbrev pub calls_told : {R : Type 0} → DiskFolder R → Option (List (List ℕ))
calls_told folder = None
