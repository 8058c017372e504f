use Rattle.std.proofs.Common.{rules, [], ◌∷◌}
use Rattle.outside.specs.Cause.{Rose}
use Rattle.conclave_top.specs.Effect.{HasRead}
use Rattle.conclave_top.specs.Job.{reading}
use Rattle.conclave_top.specs.Outside.{folder_at}
use Rattle.conclave_top.proofs.Ends.{failed_reading}
use Rattle.conclave_top.proofs.Folders.{reading_all}
use Rattle.conclave_top.proofs.tapes_of.read_one.Goals as goal

pub returns-in-Err-Failed : goal.returns-in-Err-Failed
returns-in-Err-Failed g c =
    let names = c.args.name.now ∷ [] in
    let old = folder_at g.F.Folder c.args.files.now in
    let new = folder_at g.F.Folder c.read.new.self in
    let read : HasRead names old new = record { files = search rules; calls = search rules; later = search rules } in
    let rose : Rose old.faults new.faults = search rules in
    failed_reading (reading names) old new (reading_all names old new read) rose
