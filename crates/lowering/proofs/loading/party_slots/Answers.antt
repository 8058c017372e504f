use Rattle.std.proofs.Common.{◌≡◌, ◌+◌, ◌∷◌, ◌++◌, true, false, drop, length, ap, sym, ◌∙◌, arith, append_assoc}
use Rattle.plain_meaning.specs.Fits.{relations}
use Rattle.plain_meaning.specs.Plain.{rows_of_tables}
use Rattle.query_graph.specs.Observers.{is_relation}
use Rattle.step_lists.specs.Layout.{party_of}
use Rattle.step_lists.specs.Shapes.{word_lists}
use Rattle.lowering.specs.FirstSlots.{if_owned, relation_slots, slots_of_relations}
use Rattle.lowering.proofs.FirstFit.{drop_some, relations_left, relations_skipped}
use Rattle.lowering.proofs.loading.party_slots.Goals as goal
use Rattle.lowering.proofs.loading.party_slots.Goals.{then-is_relation+in_ok-add_owned, else-is_relation}

pub loop-node-preserved : goal.loop-node-preserved
loop-node-preserved c =
    let node = c.node-item.result in
    let nodes = c.args.nodes.now in
    let i = c.loop-node.node-index in
    let r = c.loop-node.relation in
    let rows = rows_of_tables c.args.world.now in
    let p = party_of c.args.party in
    let before = word_lists c.loop-node.slots in
    elim c.if-is_relation.branch [
      | then-is_relation+in_ok-add_owned w ↦
          let relation : is_relation node.shape ≡ true = sym c.is_relation.ensures ∙ w.if-is_relation.true in
          let left = relations_left nodes i node c.loop-node-test.true c.node-item.is relation in
          let taken = drop_some (λ t. t.rows) c.args.world.now r w.table.result.now w.table.ensures.file in
          let own = if_owned p node (relation_slots node w.table.result.now.rows) in
          let behind = slots_of_relations p (relations (drop (i + 1) nodes)) (drop (r + 1) rows) in
          record {
            few = omega (arith, w.relation-is, c.loop-node.invariant.few);
            count = omega (arith, ap length left, w.relation-is, c.loop-node.invariant.count);
            left =
                ap (λ n. word_lists c.if-is_relation.slots ++ slots_of_relations p (relations (drop (i + 1) nodes)) (drop n rows)) w.relation-is
                ∙ ap (λ words. words ++ behind) (ap word_lists w.slots-is ∙ w.in_ok-add_owned.ensures)
                ∙ append_assoc before own behind
                ∙ ap (λ words. before ++ words) (sym (ap (λ ns. slots_of_relations p ns (drop r rows)) left ∙ ap (slots_of_relations p (node ∷ relations (drop (i + 1) nodes))) taken))
                ∙ c.loop-node.invariant.left;
          }
      | else-is_relation w ↦
          let relation : is_relation node.shape ≡ false = sym c.is_relation.ensures ∙ w.if-is_relation.false in
          let left = relations_skipped nodes i node c.loop-node-test.true c.node-item.is relation in
          record {
            few = omega (arith, w.relation-is, c.loop-node.invariant.few);
            count = omega (arith, ap length left, w.relation-is, c.loop-node.invariant.count);
            left =
                ap (λ n. word_lists c.if-is_relation.slots ++ slots_of_relations p (relations (drop (i + 1) nodes)) (drop n rows)) w.relation-is
                ∙ ap (λ slots. word_lists slots ++ slots_of_relations p (relations (drop (i + 1) nodes)) (drop r rows)) w.slots-is
                ∙ ap (λ ns. before ++ slots_of_relations p ns (drop r rows)) (sym left)
                ∙ c.loop-node.invariant.left;
          }
    ]
