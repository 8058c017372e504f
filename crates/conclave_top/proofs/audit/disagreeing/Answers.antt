use Rattle.std.proofs.Common.{rules, ◌≡◌, ◌∙◌, ap}
use Rattle.joint_machine.specs.Left.{draws_of}
use Rattle.conclave_top.specs.Audit.{Worlds}
use Rattle.conclave_top.specs.Command.{asked_in}
use Rattle.conclave_top.specs.Lines.{disagree_line}
use Rattle.conclave_top.proofs.AuditEnds.{disagree_end}
use Rattle.conclave_top.proofs.audit.disagreeing.Goals as goal

pub returns-in-Ok : goal.returns-in-Ok
returns-in-Ok c =
    λ ports.
    let plan = c.args.plan.now in
    let worlds : Worlds = (c.args.worlds.now.first, c.args.worlds.now.second) in
    let nodes : c.deref.result.now ≡ plan.graph.nodes = search rules in
    disagree_end (asked_in c.args.asked.now) plan worlds (draws_of c.args.tapes.now) c.args.differs c.in-Ok.line ports c.requires (c.in-Ok.ensures ∙ ap (λ ns. disagree_line ns c.args.differs) nodes)
