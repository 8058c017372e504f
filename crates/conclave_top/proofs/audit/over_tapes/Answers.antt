use Rattle.std.proofs.Common.{rules, ◌≡◌, refl}
use Rattle.lanes.specs.Three.{each}
use Rattle.joint_machine.specs.Left.{draws_of}
use Rattle.conclave_top.specs.declared.end.Cause.TheVariants.{Unfit}
use Rattle.conclave_top.specs.Audit.{audit_on}
use Rattle.conclave_top.specs.Command.{asked_in}
use Rattle.conclave_top.specs.End.{end_of}
use Rattle.conclave_top.specs.Outside.{ports_at}
use Rattle.conclave_top.proofs.StageEnds.{draws_end, spelled_fit, unfit_end}
use Rattle.conclave_top.proofs.audit.over_tapes.Goals as goal

pub over_draws-requires-clause-tapes : goal.over_draws-requires-clause-tapes
over_draws-requires-clause-tapes g c = spelled_fit c.args.plan.now (each (λ b. b.items) c.args.bytes.now) (draws_of c.in-Ok.tapes) c.in-Ok.ensures

pub returns-in-Ok : goal.returns-in-Ok
returns-in-Ok g c =
    let plan = c.args.plan.now in
    let asked = asked_in c.args.asked.now in
    let on = audit_on asked plan (c.args.worlds.now.first, c.args.worlds.now.second) in
    draws_end asked.tapes plan on (each (λ b. b.items) c.args.bytes.now) (draws_of c.in-Ok.tapes)
    (ports_at g.F.Folder g.O.Sink c.args.files.now c.args.out.now) (ports_at g.F.Folder g.O.Sink c.over_draws.new.files c.over_draws.new.out) c.over_draws.result refl c.in-Ok.ensures c.over_draws.ensures

pub returns-in-Err : goal.returns-in-Err
returns-in-Err g c =
    let plan = c.args.plan.now in
    let asked = asked_in c.args.asked.now in
    let on = audit_on asked plan (c.args.worlds.now.first, c.args.worlds.now.second) in
    let same : c.end.result ≡ end_of Unfit c.in-Err.stop = search rules in
    rw same (unfit_end asked.tapes plan on (each (λ b. b.items) c.args.bytes.now) c.in-Err.stop (ports_at g.F.Folder g.O.Sink c.args.files.now c.args.out.now) c.in-Err.ensures)
