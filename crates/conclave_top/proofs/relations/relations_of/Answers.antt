use Rattle.std.proofs.Common.{rules, ◌≡◌, ◌∙◌, ◌≤◌, length, map, ap, subst}
use Rattle.std.proofs.lemmas.List.{take_all}
use Rattle.plain_meaning.specs.Fits.{relations}
use Rattle.conclave_top.proofs.NodeNames.{lent_stored, relations_stored}
use Rattle.conclave_top.proofs.relations.relations_of.Goals as goal

pub returns-clause-stored : goal.returns-clause-stored
returns-clause-stored c =
    let lent = c.loop-node.relations.items in
    let nodes = c.args.graph.now.nodes in
    let i = c.loop-node.node-index in
    let items : c.deref-node-items.result.now ≡ nodes = c.deref-node-items.ensures.value ∙ c.nodes.ensures.nodes in
    let past : length c.deref-node-items.result.now ≤ i = search rules in
    let same : map (λ node. node.now) lent ≡ relations nodes = c.loop-node.invariant ∙ ap relations (take_all i nodes (subst (λ ns. length ns ≤ i) items past)) in
    lent_stored lent (relations nodes) same (relations_stored c.args.graph.now c.nodes.ensures.graph)
