use Rattle.std.proofs.Common.{rules, ◌∙◌, ◌<◌, get_or, length, Some, ap, sym}
use Rattle.std.proofs.lemmas.Option.{slice_get-get_or}
use Rattle.conclave_top.proofs.NodeNames.{node_is_text, output_within}
use Rattle.conclave_top.proofs.answer_files.node_of.Goals as goal

pub index-requires : goal.index-requires
index-requires c =
    let inside : c.args.output.now.node < length c.args.graph.now.nodes = output_within c.args.graph.now c.args.number c.args.output.now c.outputs.ensures.graph c.requires in
    search (rules, inside)

pub returns-clause-node : goal.returns-clause-node
returns-clause-node c =
    let graph = c.args.graph.now in
    let number = c.args.output.now.node in
    let node = c.index.result.now in
    let inside = output_within graph c.args.number c.args.output.now c.outputs.ensures.graph c.requires in
    slice_get-get_or graph.nodes number node inside ∙ ap Some (sym (c.index.ensures ∙ ap (λ ns. get_or ns number node) c.nodes.ensures.nodes))

pub returns-clause-name : goal.returns-clause-name
returns-clause-name c =
    let graph = c.args.graph.now in
    let number = c.args.output.now.node in
    let node = c.index.result.now in
    let inside = output_within graph c.args.number c.args.output.now c.outputs.ensures.graph c.requires in
    node_is_text graph number node c.outputs.ensures.graph (slice_get-get_or graph.nodes number node inside ∙ ap Some (sym (c.index.ensures ∙ ap (λ ns. get_or ns number node) c.nodes.ensures.nodes)))
