use Rattle.std.proofs.Common.{◌≡◌, get_or, sym, ap, ◌∙◌, refl}
use Rattle.clear_tasks.specs.ClearTask.{answer}
use Rattle.lowering.specs.Stored.{IsShaped}
use Rattle.lowering.proofs.Elements.{within}
use Rattle.lowering.proofs.Operating.{lowers_operator, node_unwritten, sources_as, sources_made}
use Rattle.lowering.proofs.Working.{number_node}
use Rattle.lowering.proofs.lower.lower_operator.Goals as goal

pub worked-requires : goal.worked-requires
worked-requires c =
    let nodes = c.args.graph.now.nodes in
    let i = c.args.number in
    let node = c.index.result.now in
    let same = c.deref.ensures.value ∙ c.nodes-nodes.ensures.nodes in
    let found = within nodes i c.requires.within in
    let is_node = number_node nodes i found.0 node found.1 (c.index.ensures ∙ ap (λ ns. get_or ns i node) c.nodes-nodes.ensures.nodes) in
    let sources = sources_as {n = node} {m = node} same refl c.in_ok-tables.ensures in
    record {
      node = node;
      is_node = is_node;
      no_relation = c.requires.operator node is_node;
      unwritten = node_unwritten nodes i node c.requires.unwritten is_node;
      made = sources_made nodes c.sources.new.list c.args.parts.now _ _ sources.holds;
    }

pub returns : goal.returns
returns c = λ node is.
    let nodes = c.args.graph.now.nodes in
    let i = c.args.number in
    let here = c.index.result.now in
    let same = c.deref.ensures.value ∙ c.nodes-nodes.ensures.nodes in
    let is_node = number_node nodes i node here is (c.index.ensures ∙ ap (λ ns. get_or ns i here) c.nodes-nodes.ensures.nodes) in
    let e : here ≡ node = let k = sym is_node ∙ is in cc in
    let shaped_a : IsShaped answer c.args.list.now = λ slots ds p. c.values_have_shapes.ensures c.args.list.now slots ds c.steps.ensures.well_formed p in
    let shaped_m : IsShaped answer c.sources.new.list = λ slots ds p. c.values_have_shapes.ensures c.sources.new.list slots ds c.steps-2.ensures.well_formed p in
    let shaped_b : IsShaped answer c.worked.new.list = λ slots ds p. c.values_have_shapes.ensures c.worked.new.list slots ds c.steps-3.ensures.well_formed p in
    lowers_operator c.bags_are_equivalence.ensures c.nodes_mean_operators.ensures c.nodes_are_operators.ensures c.nodes_are_written.ensures c.nodes_fit_tables.ensures c.operator_keeps_bags.ensures
    c.args.graph.now c.nodes-nodes.ensures.graph i node is (c.requires.operator node is) c.args.list.now c.sources.new.list c.worked.new.list c.args.parts.now c.in_ok-tables.tables.items c.in_ok-table.table
    shaped_a shaped_m shaped_b c.requires.stores (sources_as {n = here} {m = node} same e c.in_ok-tables.ensures) c.in_ok-table.ensures
