use Rattle.std.specs.Prelude.{◌≡◌, ℕ, ◌+◌, ◌-◌, ◌^◌, min, ◌==◌, Bool, true, false, List, None, Result, Ok, Err, length, map, fold, option_map, string_bytes, String, Vec}
use Rattle.std.specs.Global.{Global}
use Rattle.std.specs.List.{list_any}
use Rattle.std.specs.BTreeMap.{get_by_text}
use Rattle.outside.specs.Folder.{Files, written}
use Rattle.outside.specs.declared.folder.FolderFault.{FolderFault}
use Rattle.outside.specs.declared.folder.FolderFault.TheVariants.{Failed, Memory}
use Rattle.outside.specs.declared.memory_folder.MemoryFolder.{MemoryFolder}

-- the files that a folder in memory holds
abbrev pub files_of : MemoryFolder → Files
files_of folder name = option_map (λ bytes. bytes.items) (get_by_text folder.files name)

-- the names that were called, in order
abbrev pub calls_of : MemoryFolder → List (List ℕ)
calls_of folder = map string_bytes folder.calls.items

-- the numbers of the calls that are to fail
abbrev pub failing_of : MemoryFolder → List ℕ
failing_of folder = folder.failing.items

-- how many calls failed so far
abbrev pub failed_calls : MemoryFolder → ℕ
failed_calls folder = folder.faults

-- the files made of pairs of a name and its bytes, where a later pair replaces an earlier one
abbrev pub files_made : List (String Global × Vec ℕ Global) → Files
files_made pairs = fold (λ files pair. written (string_bytes pair.0) pair.1.items files) (λ _. None) pairs

-- the next call is listed among those that fail
abbrev pub is_listed : MemoryFolder → Bool
is_listed folder = list_any (λ number. number == length (calls_of folder)) (failing_of folder)

-- a call failed exactly where it had to: a success is no failure, and a failure had to be
abbrev pub FailsExactly : {T : Type 0} → Bool → Result T FolderFault → Type 0
FailsExactly due (Ok x) = due ≡ false
FailsExactly due (Err Failed) = due ≡ true
FailsExactly due (Err Memory) = Unit {0}

-- how many calls failed, after one more
abbrev pub faults_after : {T : Type 0} → Result T FolderFault → ℕ → ℕ
faults_after (Ok x) faults = faults
faults_after (Err Failed) faults = min (faults + 1) (2 ^ 64 - 1)
faults_after (Err Memory) faults = faults
