use Rattle.std.proofs.Common.{◌<◌, get_or, length, ap, sym, ◌∙◌, subst, arith}
use Rattle.std.specs.Prelude.{Some}
use Rattle.lowering.proofs.Elements.{at_within}
use Rattle.lowering.proofs.answer.node_of.Goals as goal

pub returns-clause-few : goal.returns-clause-few
returns-clause-few c =
    let graph = c.args.graph.now in
    let output = c.index-output.result.now in
    let node = c.index.result.now in
    let same = c.index-output.ensures ∙ ap (λ os. get_or os c.args.output output) c.outputs.ensures.outputs in
    let inside = subst (λ o. o.node < length graph.nodes) (sym same) (c.outputs.ensures.graph.outputs c.args.output output c.requires).node in
    let found = c.index.ensures ∙ ap (λ ns. get_or ns output.node node) c.nodes.ensures.nodes in
    let made = c.nodes.ensures.graph.nodes output.node node (at_within graph.nodes output.node node inside ∙ ap Some (sym found)) in
    omega (arith, made.few_columns)
