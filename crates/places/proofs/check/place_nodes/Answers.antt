use Rattle.std.proofs.Common.{◌≡◌, ◌<◌, Some, length, get_or, sym, ap, ◌∙◌, subst, arith}
use Rattle.std.proofs.lemmas.Option.{slice_get-get_or}
use Rattle.query_graph.specs.NodeSizes.{IsNodeOf}
use Rattle.query_graph.specs.Observers.{sources_of}
use Rattle.places.proofs.PlaceSteps.{source_within}
use Rattle.places.proofs.check.place_nodes.Goals as goal

pub parts-source-requires : goal.parts-source-requires
parts-source-requires c =
    let nodes = c.args.graph.now.nodes in
    let number = c.loop-number.number in
    let n = c.node-item.result in
    let same : c.deref-node-items.result.now ≡ nodes = c.deref-node-items.ensures.value ∙ c.nodes.ensures.nodes in
    let at : get_or nodes number n ≡ n = ap (λ l. get_or l number n) (sym same) ∙ sym c.node-item.is in
    let below : number < length nodes = subst (λ l. number < length l) same c.loop-number-test.true in
    let node : IsNodeOf c.args.graph.now number n = record { is_graph = c.nodes.ensures.graph; is_node = slice_get-get_or nodes number n below ∙ ap Some at } in
    let within = source_within (sources_of n.shape) number (c.nodes_are_written.ensures.sources c.args.graph.now number n node) in
    omega (arith, c.source_of.ensures, c.requires.parts)
