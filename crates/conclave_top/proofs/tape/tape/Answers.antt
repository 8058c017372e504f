use Rattle.conclave_top.specs.Outside.{folder_at, ports_at, stream_at}
use Rattle.conclave_top.specs.Tape.{tape_job}
use Rattle.conclave_top.proofs.PlanEnds.{ended_on_plan, ended_planless}
use Rattle.conclave_top.proofs.tape.tape.Goals as goal

pub returns-in-Ok : goal.returns-in-Ok
returns-in-Ok g c =
    let mid = ports_at g.F.Folder g.O.Sink c.plan_file.new.files c.args.out.now in
    let new = ports_at g.F.Folder g.O.Sink c.tape_with.new.files c.tape_with.new.out in
    ended_on_plan (g.F.Folder.files c.args.files.now) c.args.query.now (tape_job c.args.seed c.args.tapes.now) c.in-Ok.plan (folder_at g.F.Folder c.args.files.now) mid.folder mid.out new
    c.tape_with.result c.in-Ok.ensures.0 c.in-Ok.ensures.1 c.tape_with.ensures

pub returns-in-Err : goal.returns-in-Err
returns-in-Err g c =
    ended_planless (g.F.Folder.files c.args.files.now) c.args.query.now (tape_job c.args.seed c.args.tapes.now) (folder_at g.F.Folder c.args.files.now)
    (folder_at g.F.Folder c.plan_file.new.files) (stream_at g.O.Sink c.args.out.now) c.in-Err.end c.in-Err.ensures
