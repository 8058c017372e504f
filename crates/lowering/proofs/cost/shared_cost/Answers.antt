use Rattle.std.proofs.Common.{ap, sym, ◌∙◌}
use Rattle.std.specs.Prelude.{slice_get}
use Rattle.lowering.proofs.cost.shared_cost.Goals as goal

pub nodes_cost-requires-clause-small : goal.nodes_cost-requires-clause-small
nodes_cost-requires-clause-small c = λ i node h.
    let n = c.nodes-nodes.ensures.graph.nodes i node (ap (λ ns. slice_get ns i) (sym (c.deref.ensures.value ∙ c.nodes-nodes.ensures.nodes)) ∙ h) in
    record { rows = n.few_rows; columns = n.few_columns }

pub outputs_cost-requires : goal.outputs_cost-requires
outputs_cost-requires c = λ i node h.
    let n = c.nodes-nodes.ensures.graph.nodes i node (ap (λ ns. slice_get ns i) (sym (c.deref-2.ensures.value ∙ c.nodes-nodes.ensures.nodes)) ∙ h) in
    record { rows = n.few_rows; columns = n.few_columns }
