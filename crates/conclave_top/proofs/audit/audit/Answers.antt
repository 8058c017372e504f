use Rattle.std.proofs.Common.{subst}
use Rattle.conclave_top.specs.Audit.{audit_job}
use Rattle.conclave_top.specs.Command.{asked_in}
use Rattle.conclave_top.specs.End.{Ended}
use Rattle.conclave_top.specs.Outside.{folder_at, ports_at, stream_at}
use Rattle.conclave_top.proofs.PlanEnds.{ended_on_plan, ended_planless}
use Rattle.conclave_top.proofs.audit.audit.Goals as goal

pub returns-in-Ok : goal.returns-in-Ok
returns-in-Ok g c =
    let files = g.F.Folder.files c.args.files.now in
    let asked = asked_in c.args.asked.now in
    let mid = ports_at g.F.Folder g.O.Sink c.plan_file.new.files c.args.out.now in
    let new = ports_at g.F.Folder g.O.Sink c.audit_with.new.files c.audit_with.new.out in
    ended_on_plan files c.args.query.now (audit_job files asked) c.in-Ok.plan (folder_at g.F.Folder c.args.files.now) mid.folder mid.out new c.audit_with.result c.in-Ok.ensures.0 c.in-Ok.ensures.1
    (subst (λ fs. Ended (audit_job fs asked c.in-Ok.plan) mid new c.audit_with.result) c.in-Ok.ensures.1.files c.audit_with.ensures)

pub returns-in-Err : goal.returns-in-Err
returns-in-Err g c =
    let files = g.F.Folder.files c.args.files.now in
    ended_planless files c.args.query.now (audit_job files (asked_in c.args.asked.now)) (folder_at g.F.Folder c.args.files.now)
    (folder_at g.F.Folder c.plan_file.new.files) (stream_at g.O.Sink c.args.out.now) c.in-Err.end c.in-Err.ensures
