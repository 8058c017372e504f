use Rattle.std.proofs.Common.{◌≡◌, ℕ, ◌<◌, List, Some, length, get_or, refl, sym, ap, ◌∙◌, arith}
use Rattle.std.specs.Prelude.{slice_get}
use Rattle.std.proofs.lemmas.Option.{slice_get_read}
use Rattle.query_graph.specs.declared.node.Node.{Node}
use Rattle.plain_operators.specs.Operators.{key_lists}
use Rattle.places.specs.Excess.{party_rows}
use Rattle.places.proofs.PartyRows.{group_source, keys_counted, none_counted}
use Rattle.places.proofs.broken.has_many_keys.Goals as goal

found : (nodes lent : List Node) (i : ℕ) (n : Node) → lent ≡ nodes → n ≡ get_or lent i n → i < length nodes → slice_get nodes i ≡ Some n
found nodes lent i n same is below = slice_get_read nodes (length nodes) i n refl below (is ∙ ap (λ l. get_or l i n) same)

pub key_count-requires-clause-source : goal.key_count-requires-clause-source
key_count-requires-clause-source c =
    let nodes = c.args.graph.now.nodes in
    let i = c.args.flag.node in
    let n = c.index-found.result.now in
    let at = found nodes c.nodes.result.now.items i n c.nodes.ensures.nodes c.index-found.ensures c.requires.node in
    let source = group_source nodes i n c.in-Some.group.now (c.nodes.ensures.graph.nodes i n at) c.in-Some.ensures.group in
    let lower = source.0 in
    omega (arith, lower, c.requires.reached)

pub key_count-requires-clause-keys : goal.key_count-requires-clause-keys
key_count-requires-clause-keys c =
    let nodes = c.args.graph.now.nodes in
    let i = c.args.flag.node in
    let n = c.index-found.result.now in
    let at = found nodes c.nodes.result.now.items i n c.nodes.ensures.nodes c.index-found.ensures c.requires.node in
    (group_source nodes i n c.in-Some.group.now (c.nodes.ensures.graph.nodes i n at) c.in-Some.ensures.group).1

pub returns-in_ok-count-in-Some : goal.returns-in_ok-count-in-Some
returns-in_ok-count-in-Some c = λ world plain.
    let graph = c.args.graph.now in
    let i = c.args.flag.node in
    let n = c.index-found.result.now in
    let g = c.in-Some.group.now in
    let at = found graph.nodes c.nodes.result.now.items i n c.nodes.ensures.nodes c.index-found.ensures c.requires.node in
    c.is_over.ensures (key_lists g.keys (party_rows graph world g.source c.args.flag.party)) (c.in_ok-count-in-Some.ensures world plain) ∙ sym (keys_counted graph world c.args.flag.party i n at g c.in-Some.ensures.group)

pub returns-in-None : goal.returns-in-None
returns-in-None c = λ world plain.
    let graph = c.args.graph.now in
    let i = c.args.flag.node in
    let n = c.index-found.result.now in
    let at = found graph.nodes c.nodes.result.now.items i n c.nodes.ensures.nodes c.index-found.ensures c.requires.node in
    sym (none_counted graph world c.args.flag.party i n at c.in-None.ensures.other)
