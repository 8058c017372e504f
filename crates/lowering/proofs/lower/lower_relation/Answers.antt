use Rattle.std.proofs.Common.{◌≡◌, get_or, sym, ap, ◌∙◌, subst}
use Rattle.std.specs.Prelude.{IsTrue}
use Rattle.clear_tasks.specs.ClearTask.{answer}
use Rattle.step_lists.specs.Layout.{party_of}
use Rattle.step_lists.specs.Rules.{is_party}
use Rattle.lowering.specs.FirstSlots.{first_slot, owner_of}
use Rattle.lowering.specs.Stored.{IsShaped}
use Rattle.lowering.proofs.Elements.{within}
use Rattle.lowering.proofs.Relating.{lowers_relation, owner_is, party_true}
use Rattle.lowering.proofs.Working.{number_node}
use Rattle.lowering.proofs.lower.lower_relation.Goals as goal

pub first_slot-requires-clause-party : goal.first_slot-requires-clause-party
first_slot-requires-clause-party c =
    let graph = c.args.graph.now in
    let i = c.args.number in
    let node = c.index.result.now in
    let found = within graph.nodes i c.requires.within in
    let is_node = number_node graph.nodes i found.0 node found.1 (c.index.ensures ∙ ap (λ ns. get_or ns i node) c.nodes-nodes.ensures.nodes) in
    subst (λ n. IsTrue (is_party n)) (sym c.owner_of-party.ensures)
    (party_true (owner_of node.shape) (owner_is graph i node c.nodes-nodes.ensures.graph is_node (c.requires.relation node is_node)))

pub returns-in-Some : goal.returns-in-Some
returns-in-Some c = λ node is.
    let graph = c.args.graph.now in
    let i = c.args.number in
    let here = c.index.result.now in
    let is_node = number_node graph.nodes i node here is (c.index.ensures ∙ ap (λ ns. get_or ns i here) c.nodes-nodes.ensures.nodes) in
    let e : here ≡ node = let k = sym is_node ∙ is in cc in
    let shaped : IsShaped answer c.args.list.now = λ slots ds p. c.values_have_shapes.ensures c.args.list.now slots ds c.steps.ensures.well_formed p in
    lowers_relation c.padded_fits.ensures c.rows_of_padded.ensures c.bags_are_equivalence.ensures c.nodes_mean_operators.ensures
    graph c.nodes-nodes.ensures.graph i node is (c.requires.relation node is) c.args.list.now shaped c.requires.first
    c.owner_of-party.result c.in-Some.first (c.owner_of-party.ensures ∙ ap (λ n. owner_of n.shape) e)
    (c.in-Some.ensures ∙ ap (λ ns. first_slot ns i (party_of c.owner_of-party.result)) (c.deref.ensures.value ∙ c.nodes-nodes.ensures.nodes))
