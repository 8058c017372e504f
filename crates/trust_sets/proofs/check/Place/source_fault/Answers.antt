use Rattle.std.proofs.Common.{ap, ◌∙◌}
use Rattle.trust_sets.specs.Faults.{columns_at}
use Rattle.trust_sets.proofs.Graphs.{few_columns}
use Rattle.trust_sets.proofs.check.Place.source_fault.Goals as goal

pub untrusted_column-requires : goal.untrusted_column-requires
untrusted_column-requires c =
    let same = c.columns_at-columns.ensures ∙ ap (λ nodes. columns_at nodes c.args.source) (c.deref.ensures.value ∙ c.nodes.ensures.nodes) in
    rw same (few_columns c.args.self.now.graph.now c.nodes.ensures.graph c.args.source)
