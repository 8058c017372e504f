use Rattle.std.proofs.Common.{rules, ◌≡◌, [], map, subst}
use Rattle.joint_machine.specs.Left.{draws_of}
use Rattle.conclave_top.specs.Deliver.{write_of}
use Rattle.conclave_top.specs.Due.{does}
use Rattle.conclave_top.specs.End.{Ended}
use Rattle.conclave_top.specs.Job.{only}
use Rattle.conclave_top.specs.Outside.{ports_at}
use Rattle.conclave_top.specs.Run.{run_output, run_writes}
use Rattle.conclave_top.proofs.run.over_run.Goals as goal

pub returns : goal.returns
returns g c =
    let plan = c.args.plan.now in
    let tables = c.args.world.now in
    let draws = draws_of c.args.tapes.now in
    let old = ports_at g.F.Folder g.O.Sink c.args.files.now c.args.out.now in
    let new = ports_at g.F.Folder g.O.Sink c.deliver.new.files c.deliver.new.out in
    let writes : map write_of c.deref.result.now ≡ run_writes c.args.name.now plan tables draws = search rules in
    let output : c.deref-2.result.now ≡ run_output plan tables = search rules in
    subst (λ bytes. Ended (only (does [] (run_writes c.args.name.now plan tables draws) bytes)) old new c.deliver.result) output
    (subst (λ ws. Ended (only (does [] ws c.deref-2.result.now)) old new c.deliver.result) writes c.deliver.ensures)
