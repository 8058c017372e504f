use Rattle.std.proofs.Common.{◌≡◌, ◌<◌, Some, length, get_or, subst, sym, ap, ◌∙◌}
use Rattle.std.proofs.lemmas.Option.{slice_get-get_or}
use Rattle.trust_sets.proofs.Graphs.{node_owner}
use Rattle.trust_sets.proofs.derive.derive_trust.Goals as goal

pub known_node-requires : goal.known_node-requires
known_node-requires c =
    let nodes = c.args.graph.now.nodes in
    let number = c.loop-number.number in
    let n = c.node-item.result in
    let same : c.deref-node-items.result.now ≡ nodes = c.deref-node-items.ensures.value ∙ c.nodes.ensures.nodes in
    let at : get_or nodes number n ≡ n = ap (λ l. get_or l number n) (sym same) ∙ sym c.node-item.is in
    let below : number < length nodes = subst (λ l. number < length l) same c.loop-number-test.true in
    node_owner c.args.graph.now c.nodes.ensures.graph number n (slice_get-get_or nodes number n below ∙ ap Some at)

pub withheld_node-withheld-requires : goal.withheld_node-withheld-requires
withheld_node-withheld-requires c =
    let nodes = c.args.graph.now.nodes in
    let number = c.loop-number.number in
    let n = c.node-item.result in
    let same : c.deref-node-items.result.now ≡ nodes = c.deref-node-items.ensures.value ∙ c.nodes.ensures.nodes in
    let at : get_or nodes number n ≡ n = ap (λ l. get_or l number n) (sym same) ∙ sym c.node-item.is in
    let below : number < length nodes = subst (λ l. number < length l) same c.loop-number-test.true in
    node_owner c.args.graph.now c.nodes.ensures.graph number n (slice_get-get_or nodes number n below ∙ ap Some at)
