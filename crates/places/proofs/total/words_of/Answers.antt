use Rattle.std.proofs.Common.{◌≡◌, ◌+◌, ◌<◌, ◌≤◌, ◌^◌, [], ◌∷◌, ◌++◌, Some, length, drop, get_or, sym, ap, ◌∙◌, subst, arith}
use Rattle.std.specs.List.{All}
use Rattle.std.proofs.lemmas.List.{append_assoc, drop_more, length_push}
use Rattle.std.proofs.lemmas.List.Elements.{All-push, All-weaker}
use Rattle.std.proofs.lemmas.Option.{slice_get-get_or}
use Rattle.query_graph.specs.NodeSizes.{IsNodeOf}
use Rattle.query_graph.specs.Observers.{sources_of}
use Rattle.rewrites.specs.Rewritten.{Rewritten}
use Rattle.places.specs.Cost.{AreSmall, node_words}
use Rattle.places.specs.Places.{words_from}
use Rattle.places.proofs.total.words_of.Goals as goal

pub node_words-requires-clause-small : goal.node_words-requires-clause-small
node_words-requires-clause-small c = subst AreSmall (sym (c.deref.ensures.value ∙ c.nodes-in-loop-number.ensures.nodes)) c.requires.small

pub node_words-requires-clause-node : goal.node_words-requires-clause-node
node_words-requires-clause-node c =
    let nodes = c.args.graph.now.nodes in
    let number = c.loop-number.number in
    let n = c.node-item.result in
    let same : c.deref-node-items.result.now ≡ nodes = c.deref-node-items.ensures.value ∙ c.nodes.ensures.nodes in
    let at : get_or nodes number n ≡ n = ap (λ l. get_or l number n) (sym same) ∙ sym c.node-item.is in
    let below : number < length nodes = subst (λ l. number < length l) same c.loop-number-test.true in
    c.requires.small number n (slice_get-get_or nodes number n below ∙ ap Some at)

pub node_words-requires-clause-sources : goal.node_words-requires-clause-sources
node_words-requires-clause-sources c =
    let nodes = c.args.graph.now.nodes in
    let number = c.loop-number.number in
    let n = c.node-item.result in
    let same : c.deref-node-items.result.now ≡ nodes = c.deref-node-items.ensures.value ∙ c.nodes.ensures.nodes in
    let at : get_or nodes number n ≡ n = ap (λ l. get_or l number n) (sym same) ∙ sym c.node-item.is in
    let below : number < length nodes = subst (λ l. number < length l) same c.loop-number-test.true in
    let node : IsNodeOf c.args.graph.now number n = record { is_graph = c.nodes.ensures.graph; is_node = slice_get-get_or nodes number n below ∙ ap Some at } in
    let long = ap (λ (r : Rewritten). length r.parts) c.requires.made ∙ c.nodes_have_parts.ensures.parts c.args.graph.now in
    All-weaker (λ s. s < number) (λ s. s < length c.args.rewritten.now.parts) (λ s lower. omega arith) (sources_of n.shape) (c.nodes_are_written.ensures.sources c.args.graph.now number n node)

pub loop-number-preserved : goal.loop-number-preserved
loop-number-preserved c =
    let nodes = c.args.graph.now.nodes in
    let known = c.args.trust.now.known in
    let rewritten = c.args.rewritten.now in
    let number = c.loop-number.number in
    let n = c.node-item.result in
    let words = c.loop-number.words.items in
    let same : c.deref-node-items.result.now ≡ nodes = c.deref-node-items.ensures.value ∙ c.nodes.ensures.nodes in
    let at : get_or nodes number n ≡ n = ap (λ l. get_or l number n) (sym same) ∙ sym c.node-item.is in
    let below : number < length nodes = subst (λ l. number < length l) same c.loop-number-test.true in
    let here : drop number nodes ≡ n ∷ drop (number + 1) nodes = drop_more nodes number n below ∙ ap (λ m. m ∷ drop (number + 1) nodes) at in
    let lent = c.deref.ensures.value ∙ c.nodes-in-loop-number.ensures.nodes in
    let made = c.node_words.ensures.cost ∙ (λ k. node_words (lent k) rewritten.parts number n (c.node_place-place.ensures k)) in
    let rest = words_from nodes known rewritten (number + 1) (drop (number + 1) nodes) in
    let pushed = c.in_ok-push.ensures.items in
    record {
      so_far = c.loop-number.invariant.so_far ∙ ap (λ l. words ++ words_from nodes known rewritten number l) here ∙ ap (λ w. words ++ w ∷ rest) (sym made)
          ∙ sym (append_assoc words (c.node_words.result ∷ []) rest) ∙ ap (λ l. l ++ rest) (sym pushed);
      few = subst (All (λ word. word ≤ 2 ^ 120)) (sym pushed) (All-push (λ word. word ≤ 2 ^ 120) words c.node_words.result c.loop-number.invariant.few c.node_words.ensures.few);
      count = ap (λ l. length l) pushed ∙ length_push words c.node_words.result ∙ ap (λ k. k + 1) c.loop-number.invariant.count;
    }
