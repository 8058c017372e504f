use Rattle.std.proofs.Common.{◌≡◌, Some, length, refl, ◌∙◌, subst, arith}
use Rattle.std.specs.Prelude.{slice_get}
use Rattle.std.proofs.lemmas.Option.{slice_get_read}
use Rattle.places.proofs.plan.add_nodes.Goals as goal

pub add_node-requires-clause-columns : goal.add_node-requires-clause-columns
add_node-requires-clause-columns c =
    let nodes = c.args.graph.now.nodes in
    let items = c.deref-node-items.result.now in
    let number = c.loop-number.number in
    let n = c.node-item.result in
    let same : items ≡ nodes = c.deref-node-items.ensures.value ∙ c.nodes.ensures.nodes in
    let found = slice_get_read items (length items) number n refl c.loop-number-test.true c.node-item.is in
    let few = (c.nodes.ensures.graph.nodes number n (subst (λ l. slice_get l number ≡ Some n) same found)).few_columns in
    omega (arith, few)
