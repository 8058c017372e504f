use Rattle.std.proofs.Common.{length, ap, sym, ◌∙◌, subst}
use Rattle.std.proofs.lemmas.List.{length-map}
use Rattle.std.proofs.lemmas.Slice.Zip.{AllZip-long}
use Rattle.plain_meaning.specs.Fits.{AreRowsOf, relations}
use Rattle.plain_meaning.specs.Plain.{rows_of_tables}
use Rattle.step_lists.specs.Possible.{SlotsFit}
use Rattle.lanes.specs.declared.party.Party.TheVariants.{First, Second, Third}
use Rattle.lowering.specs.FirstSlots.{first_slots, slots_of_relations}
use Rattle.lowering.proofs.FirstFit.{first_fits, three_same}
use Rattle.lowering.proofs.loading.load.Goals as goal

pub party_slots-requires-clause-count : goal.party_slots-requires-clause-count
party_slots-requires-clause-count c =
    ap (λ ns. length (relations ns)) (c.deref.ensures.value ∙ c.nodes-nodes.ensures.nodes ∙ ap (λ g. g.nodes) c.graph.ensures)
    ∙ sym (AllZip-long AreRowsOf (relations c.args.plan.now.graph.nodes) (rows_of_tables c.args.world.now) c.requires) ∙ length-map c.args.world.now (λ t. t.rows)

pub party_slots-requires-2-clause-count : goal.party_slots-requires-2-clause-count
party_slots-requires-2-clause-count c =
    ap (λ ns. length (relations ns)) (c.deref-2.ensures.value ∙ c.nodes-nodes.ensures.nodes ∙ ap (λ g. g.nodes) c.graph.ensures)
    ∙ sym (AllZip-long AreRowsOf (relations c.args.plan.now.graph.nodes) (rows_of_tables c.args.world.now) c.requires) ∙ length-map c.args.world.now (λ t. t.rows)

pub party_slots-requires-3-clause-count : goal.party_slots-requires-3-clause-count
party_slots-requires-3-clause-count c =
    ap (λ ns. length (relations ns)) (c.deref-3.ensures.value ∙ c.nodes-nodes.ensures.nodes ∙ ap (λ g. g.nodes) c.graph.ensures)
    ∙ sym (AllZip-long AreRowsOf (relations c.args.plan.now.graph.nodes) (rows_of_tables c.args.world.now) c.requires) ∙ length-map c.args.world.now (λ t. t.rows)

pub returns-clause-fits : goal.returns-clause-fits
returns-clause-fits c =
    let nodes = c.args.plan.now.graph.nodes in
    let rows = rows_of_tables c.args.world.now in
    let listed = c.nodes-nodes.ensures.nodes ∙ ap (λ g. g.nodes) c.graph.ensures in
    let first = c.in_ok-first.ensures ∙ ap (λ ns. slots_of_relations First (relations ns) rows) (c.deref.ensures.value ∙ listed) in
    let second = c.in_ok-second.ensures ∙ ap (λ ns. slots_of_relations Second (relations ns) rows) (c.deref-2.ensures.value ∙ listed) in
    let third = c.in_ok-third.ensures ∙ ap (λ ns. slots_of_relations Third (relations ns) rows) (c.deref-3.ensures.value ∙ listed) in
    subst (SlotsFit c.args.plan.now.list.first) (sym (c.new.ensures ∙ three_same first second third))
    (subst (λ lengths. SlotsFit lengths (first_slots nodes rows)) (sym c.list.ensures.first) (first_fits c.padded_fits.ensures nodes rows c.requires))
