use Rattle.std.proofs.Common.{rules, ◌≡◌, ◌∙◌, ap}
use Rattle.clear_tasks.specs.ClearTask.{answer}
use Rattle.joint_machine.specs.Left.{draws_of}
use Rattle.step_lists.specs.Layout.{party_of}
use Rattle.twin.specs.Apart.{IsApart}
use Rattle.conclave_top.specs.Audit.{Worlds}
use Rattle.conclave_top.proofs.PartyNumbers.{party_of_number}
use Rattle.conclave_top.proofs.TwinTapes.{IsCallOn, never_apart}
use Rattle.conclave_top.proofs.twins.twin_in.Goals as goal

pub unreachable-requires : goal.unreachable-requires
unreachable-requires c =
    let plan = c.args.plan.now in
    let worlds : Worlds = (c.args.worlds.now.first, c.args.worlds.now.second) in
    let draws = draws_of c.args.tapes.now in
    let fault = c.in-Err-NotAligned in
    let viewer = party_of c.number.result in
    let call : IsCallOn plan c.args.party worlds viewer c.list.result.now c.in_ok-first.first c.in_ok-second.second = record {
      viewer_is = ap party_of c.number.ensures ∙ party_of_number c.args.party;
      list_is = c.list.ensures.list;
      one_is = c.in_ok-first.ensures.slots;
      other_is = c.in_ok-second.ensures.slots;
    } in
    let apart : IsApart answer viewer c.list.result.now c.in_ok-first.first c.in_ok-second.second draws fault.field-0-0 fault.field-0-1 fault.field-0-2 = rw fault.field-0-is at fault.ensures.fault in
    never_apart c.isolated_is_never_apart.ensures plan c.args.party worlds draws viewer c.list.result.now c.in_ok-first.first c.in_ok-second.second c.requires.isolated c.requires.first c.requires.second c.requires.agree
    c.requires.tapes call fault.field-0-0 fault.field-0-1 fault.field-0-2 apart
