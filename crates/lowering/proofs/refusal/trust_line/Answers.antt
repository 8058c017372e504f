use Rattle.std.proofs.Common.{ap, ◌∙◌}
use Rattle.lowering.specs.Lines.{trust_refused}
use Rattle.lowering.proofs.refusal.trust_line.Goals as goal

pub returns : goal.returns
returns c = λ graph has.
    c.in_ok-line.ensures ∙ ap (λ nodes. trust_refused nodes c.args.fault.now) (c.deref.ensures.value ∙ c.nodes.ensures.nodes)
    ∙ ap (λ g. trust_refused g.nodes c.args.fault.now) (c.texts_have_graphs.ensures.one_graph c.args.text.now c.in_ok-graph.graph graph c.in_ok-graph.ensures has)
