use Rattle.std.proofs.Common.{rules, ◌≡◌, [], map, subst}
use Rattle.joint_machine.specs.Left.{draws_of}
use Rattle.conclave_top.specs.Audit.{Worlds, audit_output, audit_writes}
use Rattle.conclave_top.specs.Command.{asked_in}
use Rattle.conclave_top.specs.Deliver.{write_of}
use Rattle.conclave_top.specs.Due.{does}
use Rattle.conclave_top.specs.End.{Ended}
use Rattle.conclave_top.specs.Job.{only}
use Rattle.conclave_top.specs.Outside.{ports_at}
use Rattle.conclave_top.proofs.AuditEnds.{twin_end}
use Rattle.conclave_top.proofs.audit.agreeing.Goals as goal

pub returns : goal.returns
returns g c =
    let plan = c.args.plan.now in
    let asked = asked_in c.args.asked.now in
    let worlds : Worlds = (c.args.worlds.now.first, c.args.worlds.now.second) in
    let draws = draws_of c.args.tapes.now in
    let old = ports_at g.F.Folder g.O.Sink c.args.files.now c.args.out.now in
    let new = ports_at g.F.Folder g.O.Sink c.deliver.new.files c.deliver.new.out in
    let writes : map write_of c.deref.result.now ≡ audit_writes asked plan worlds draws = search rules in
    let output : c.deref-2.result.now ≡ audit_output asked plan worlds draws = search rules in
    twin_end asked plan worlds draws old new c.deliver.result c.requires.isolated c.requires.first c.requires.second c.requires.agree c.requires.tapes
    (subst (λ bytes. Ended (only (does [] (audit_writes asked plan worlds draws) bytes)) old new c.deliver.result) output
    (subst (λ ws. Ended (only (does [] ws c.deref-2.result.now)) old new c.deliver.result) writes c.deliver.ensures))
