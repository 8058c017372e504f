use Rattle.std.proofs.Common.{◌≡◌, subst}
use Rattle.lanes.specs.Three.{each}
use Rattle.conclave_top.specs.Audit.{audit_on}
use Rattle.conclave_top.specs.Command.{asked_in}
use Rattle.conclave_top.specs.End.{Ended}
use Rattle.conclave_top.specs.Outside.{folder_at, ports_at, stream_at}
use Rattle.conclave_top.specs.Stages.{with_bytes_job}
use Rattle.conclave_top.proofs.Folders.{at}
use Rattle.conclave_top.proofs.StageEnds.{tapes_over, tapes_reading}
use Rattle.conclave_top.proofs.audit.over_tables.Goals as goal

pub returns-in-Ok-read_tapes : goal.returns-in-Ok-read_tapes
returns-in-Ok-read_tapes g c =
    let files = g.F.Folder.files c.args.files.now in
    let asked = asked_in c.args.asked.now in
    let plan = c.args.plan.now in
    let old = folder_at g.F.Folder c.args.files.now in
    let mid = folder_at g.F.Folder c.read_tapes.new.files in
    let out = stream_at g.O.Sink c.args.out.now in
    let new = ports_at g.F.Folder g.O.Sink c.over_tapes.new.files c.over_tapes.new.out in
    let bytes = each (λ b. b.items) c.in-Ok-read_tapes.bytes in
    tapes_over files asked.tapes plan (audit_on asked plan (c.args.tables.first.items, c.args.tables.second.items)) bytes old mid out new c.over_tapes.result
    c.in-Ok-read_tapes.ensures.0 c.in-Ok-read_tapes.ensures.1
    (subst (λ ts. Ended (with_bytes_job asked.tapes plan (audit_on asked plan (c.args.tables.first.items, ts)) bytes) (at mid out) new c.over_tapes.result) c.in-Ok-new.ensures.ok.0
    (subst (λ ts. Ended (with_bytes_job asked.tapes plan (audit_on asked plan (ts, c.in-Ok-new.second)) bytes) (at mid out) new c.over_tapes.result) c.in-Ok.ensures.ok.0 c.over_tapes.ensures))

pub returns : goal.returns
returns g c =
    let asked = asked_in c.args.asked.now in
    let plan = c.args.plan.now in
    tapes_reading (g.F.Folder.files c.args.files.now) asked.tapes plan (audit_on asked plan (c.args.tables.first.items, c.args.tables.second.items)) (folder_at g.F.Folder c.args.files.now)
    (folder_at g.F.Folder c.read_tapes.new.files) (stream_at g.O.Sink c.args.out.now) c.in-Err.end c.in-Err.ensures
