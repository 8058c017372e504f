use Rattle.std.proofs.Common.{◌≡◌, None, sym, subst}
use Rattle.rewrites.specs.Rewritten.{Rewritten}
use Rattle.places.specs.Bounds.{first_uncounted}
use Rattle.places.specs.Cost.{HaveFewRows}
use Rattle.places.proofs.FewRows.{few_rows}
use Rattle.places.proofs.check.check_places.Goals as goal

pub words_of-requires-clause-small : goal.words_of-requires-clause-small
words_of-requires-clause-small c = λ i n at. let node = c.nodes-nodes.ensures.graph.nodes i n at in record { rows = node.few_rows; columns = node.few_columns }

pub words_of-requires-clause-few : goal.words_of-requires-clause-few
words_of-requires-clause-few c =
    let graph = c.args.graph.now in
    let known = c.args.trust.now.known in
    let counted = subst (λ (r : Rewritten). first_uncounted known r 0 graph.nodes ≡ None) c.requires c.in_ok-places.ensures.counted in
    subst (λ (r : Rewritten). HaveFewRows r.parts) (sym c.requires) (few_rows c.parts_add_up.ensures graph known c.nodes-nodes.ensures.graph (c.nodes_have_parts.ensures.parts graph) counted)

pub outputs_words-requires-clause-small : goal.outputs_words-requires-clause-small
outputs_words-requires-clause-small c = λ i n at. let node = c.nodes-nodes.ensures.graph.nodes i n at in record { rows = node.few_rows; columns = node.few_columns }
