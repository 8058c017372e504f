use Rattle.std.proofs.Common.{subst}
use Rattle.lanes.specs.Three.{each}
use Rattle.conclave_top.specs.End.{Ended}
use Rattle.conclave_top.specs.Outside.{folder_at, ports_at, stream_at}
use Rattle.conclave_top.specs.Run.{run_on}
use Rattle.conclave_top.specs.Stages.{with_bytes_job}
use Rattle.conclave_top.proofs.Folders.{at}
use Rattle.conclave_top.proofs.StageEnds.{tapes_over, tapes_reading}
use Rattle.conclave_top.proofs.run.over_tables.Goals as goal

pub returns-in-Ok-read_tapes : goal.returns-in-Ok-read_tapes
returns-in-Ok-read_tapes g c =
    let files = g.F.Folder.files c.args.files.now in
    let tapes = c.args.tapes.now in
    let plan = c.args.plan.now in
    let old = folder_at g.F.Folder c.args.files.now in
    let mid = folder_at g.F.Folder c.read_tapes.new.files in
    let out = stream_at g.O.Sink c.args.out.now in
    let new = ports_at g.F.Folder g.O.Sink c.over_tapes.new.files c.over_tapes.new.out in
    let bytes = each (λ b. b.items) c.in-Ok-read_tapes.bytes in
    tapes_over files tapes plan (run_on tapes plan c.args.tables.items) bytes old mid out new c.over_tapes.result c.in-Ok-read_tapes.ensures.0 c.in-Ok-read_tapes.ensures.1
    (subst (λ ts. Ended (with_bytes_job tapes plan (run_on tapes plan ts) bytes) (at mid out) new c.over_tapes.result) c.in-Ok.ensures.ok.0 c.over_tapes.ensures)

pub returns : goal.returns
returns g c =
    tapes_reading (g.F.Folder.files c.args.files.now) c.args.tapes.now c.args.plan.now (run_on c.args.tapes.now c.args.plan.now c.args.tables.items) (folder_at g.F.Folder c.args.files.now) (folder_at g.F.Folder c.read_tapes.new.files)
    (stream_at g.O.Sink c.args.out.now) c.in-Err.end c.in-Err.ensures
