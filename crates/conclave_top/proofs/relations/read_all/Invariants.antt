use Rattle.std.proofs.Common.{◌≡◌, length, map, string_bytes}
use Rattle.conclave_top.specs.Outside.{folder_at}
use Rattle.conclave_top.proofs.ReadFiles.{ReadsSoFar}
use Rattle.conclave_top.proofs.relations.read_all.Given as goal

-- the first files were read, each once
abbrev pub invariant-loop-name : goal.invariant-loop-name
invariant-loop-name g l =
    ReadsSoFar (map string_bytes l.names) (folder_at g.F.Folder l.fn.files) (folder_at g.F.Folder l.files) (map (λ b. b.items) l.all.items) l.name-index
    × (length l.all.items ≡ l.name-index)
