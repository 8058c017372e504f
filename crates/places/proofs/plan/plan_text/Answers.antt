use Rattle.std.proofs.Common.{length, sym, ◌∙◌, ap}
use Rattle.places.specs.Places.{Places}
use Rattle.places.proofs.Placed.{each_costs, each_placed, placed_of}
use Rattle.places.proofs.plan.plan_text.Goals as goal

pub add_nodes-requires-clause-places : goal.add_nodes-requires-clause-places
add_nodes-requires-clause-places c =
    let graph = c.args.graph.now in
    let known = c.args.trust.now.known in
    let rewritten = c.args.rewritten.now in
    ap (λ (p : Places). length p.places) (sym (placed_of graph known rewritten c.args.places.now c.requires.places)) ∙ each_placed known rewritten 0 graph.nodes

pub add_nodes-requires-clause-words : goal.add_nodes-requires-clause-words
add_nodes-requires-clause-words c =
    let graph = c.args.graph.now in
    let known = c.args.trust.now.known in
    let rewritten = c.args.rewritten.now in
    ap (λ (p : Places). length p.words) (sym (placed_of graph known rewritten c.args.places.now c.requires.places)) ∙ each_costs graph.nodes known rewritten 0 graph.nodes

pub add_outputs-requires-clause-small : goal.add_outputs-requires-clause-small
add_outputs-requires-clause-small c = λ i n at. let node = c.nodes-nodes.ensures.graph.nodes i n at in record { rows = node.few_rows; columns = node.few_columns }
