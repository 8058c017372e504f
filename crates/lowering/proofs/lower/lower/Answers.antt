use Rattle.std.proofs.Common.{ap, ◌∙◌}
use Rattle.lowering.specs.FirstSlots.{first_lengths}
use Rattle.lowering.proofs.Segmenting.{lowered_none}
use Rattle.lowering.proofs.lower.lower.Goals as goal

pub lower_nodes-requires-clause-lowered : goal.lower_nodes-requires-clause-lowered
lower_nodes-requires-clause-lowered c =
    let made = c.in_ok-list.ensures in
    let nodes = c.deref.ensures.value ∙ c.nodes.ensures.nodes in
    rw c.new-ends.ensures.items (lowered_none c.args.graph.now c.in_ok-list.list (λ slots ds p. c.values_have_shapes.ensures c.in_ok-list.list slots ds c.steps.ensures.well_formed p) (ap (λ l. l.first) made ∙ ap first_lengths nodes) (ap (λ l. l.steps) made))
