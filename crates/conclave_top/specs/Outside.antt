-- What is handed to a command beside its words, at one moment.
use Rattle.std.specs.Prelude.{◌≡◌, ℕ, List, ◌++◌, Option, option_map, ◌⊎◌}
use Rattle.outside.specs.Cause.{Rose}
use Rattle.outside.specs.Folder.{Files}
use Rattle.outside.specs.declared.folder.Folder as folders
use Rattle.outside.specs.declared.sink.Sink as sinks

-- a folder: its files and the names called so far, where it tells them, and its count of faults
pub record FolderState : Type 0 where
  pub files : Option Files
  pub calls : Option (List (List ℕ))
  pub faults : ℕ

-- a stream: the bytes that it took, where it tells them, and its count of faults
pub record StreamState : Type 0 where
  pub taken : Option (List ℕ)
  pub faults : ℕ

-- what a command reads and writes
pub record Ports : Type 0 where
  pub folder : FolderState
  pub out : StreamState

-- all of it: the stream for errors gets the line of the status
pub record Outside : Type 0 where
  pub ports : Ports
  pub err : StreamState

-- a folder and streams at this moment, by what their types tell
abbrev pub folder_at : {F : Type 0} → folders.Ghosts F → F → FolderState
folder_at members folder = record { files = members.files folder; calls = members.calls folder; faults = members.faults folder }

abbrev pub stream_at : {S : Type 0} → sinks.Ghosts S → S → StreamState
stream_at members stream = record { taken = members.taken stream; faults = members.faults stream }

abbrev pub ports_at : {F O : Type 0} → folders.Ghosts F → sinks.Ghosts O → F → O → Ports
ports_at stored printed folder out = record { folder = folder_at stored folder; out = stream_at printed out }

abbrev pub outside_at : {F O E : Type 0} → folders.Ghosts F → sinks.Ghosts O → sinks.Ghosts E → F → O → E → Outside
outside_at stored printed told folder out err = record { ports = ports_at stored printed folder out; err = stream_at told err }

-- a list that grew by these behind it, where it is told
abbrev pub gained : {A : Type 0} → List A → Option (List A) → Option (List A)
gained more known = option_map (λ before. before ++ more) known

-- a count of the folder or of the output rose
abbrev pub HasFailed : Ports → Ports → Type 0
HasFailed old new = Rose old.folder.faults new.folder.faults ⊎ Rose old.out.faults new.out.faults

-- a stream got exactly this line, or nothing where its own count rose
abbrev pub Tells : List ℕ → StreamState → StreamState → Type 0
Tells line old new = (new.taken ≡ gained line old.taken) ⊎ ((new.taken ≡ old.taken) × Rose old.faults new.faults)
