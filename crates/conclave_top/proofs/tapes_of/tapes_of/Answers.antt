use Rattle.std.proofs.Common.{rules, ◌≡◌, Err, subst}
use Rattle.lanes.specs.Three.{each}
use Rattle.lanes.specs.declared.party.Party.TheVariants.{First, Second, Third}
use Rattle.step_lists.specs.Draws.{schedule_of}
use Rattle.step_lists.specs.Schedule.{lists_of}
use Rattle.conclave_top.specs.Tapes.{GivesTape, GivesTapes, Spells}
use Rattle.conclave_top.proofs.ReadTapes.{fault_first, fault_second, fault_third}
use Rattle.conclave_top.proofs.tapes_of.tapes_of.Goals as goal

pub returns-in_err-first : goal.returns-in_err-first
returns-in_err-first c =
    let needs = lists_of c.in_ok-schedule.schedule in
    let bytes = each (λ b. b.items) c.args.bytes.now in
    let name = c.args.name.now in
    let stop = c.in_err-first.field-0.0 in
    let schedule : needs ≡ schedule_of c.args.plan.now.list = search rules in
    let faulty : GivesTape needs.first bytes.first name First (Err stop) = search rules in
    let same : c.from_residual-in_err-first.result ≡ Err stop = search rules in
    rw same (subst (λ ns. GivesTapes ns bytes name (Err stop)) schedule (fault_first needs bytes name stop faulty))

pub returns-in_err-second : goal.returns-in_err-second
returns-in_err-second c =
    let needs = lists_of c.in_ok-schedule.schedule in
    let bytes = each (λ b. b.items) c.args.bytes.now in
    let name = c.args.name.now in
    let stop = c.in_err-second.field-0.0 in
    let schedule : needs ≡ schedule_of c.args.plan.now.list = search rules in
    let one : Spells needs bytes First c.in_ok-first.first = search rules in
    let faulty : GivesTape needs.second bytes.second name Second (Err stop) = search rules in
    let same : c.from_residual-in_err-second.result ≡ Err stop = search rules in
    rw same (subst (λ ns. GivesTapes ns bytes name (Err stop)) schedule (fault_second needs bytes name stop c.in_ok-first.first one faulty))

pub returns-in_err-third : goal.returns-in_err-third
returns-in_err-third c =
    let needs = lists_of c.in_ok-schedule.schedule in
    let bytes = each (λ b. b.items) c.args.bytes.now in
    let name = c.args.name.now in
    let stop = c.in_err-third.field-0.0 in
    let schedule : needs ≡ schedule_of c.args.plan.now.list = search rules in
    let one : Spells needs bytes First c.in_ok-first.first = search rules in
    let two : Spells needs bytes Second c.in_ok-second.second = search rules in
    let faulty : GivesTape needs.third bytes.third name Third (Err stop) = search rules in
    let same : c.from_residual-in_err-third.result ≡ Err stop = search rules in
    rw same (subst (λ ns. GivesTapes ns bytes name (Err stop)) schedule (fault_third needs bytes name stop c.in_ok-first.first c.in_ok-second.second one two faulty))
