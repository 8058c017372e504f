use Rattle.std.proofs.Common.{map, take}
use Rattle.conclave_top.specs.Deliver.{AreWritten, write_of}
use Rattle.conclave_top.specs.Outside.{folder_at}
use Rattle.conclave_top.proofs.deliver.write_all.Given as goal

-- the first files were written
abbrev pub invariant-loop-name : goal.invariant-loop-name
invariant-loop-name g l = AreWritten (take l.name-index (map write_of l.writes)) (folder_at g.F.Folder l.fn.files) (folder_at g.F.Folder l.files)
