use Rattle.std.proofs.Common.{◌≡◌, ◌+◌, ◌≤◌, ◌++◌, drop, length}
use Rattle.plain_meaning.specs.Fits.{relations}
use Rattle.plain_meaning.specs.Plain.{rows_of_tables}
use Rattle.step_lists.specs.Layout.{party_of}
use Rattle.step_lists.specs.Shapes.{word_lists}
use Rattle.lowering.specs.FirstSlots.{slots_of_relations}
use Rattle.lowering.proofs.loading.party_slots.Given as goal

-- the slots so far, and behind them those of the relations that are left
abbrev pub invariant-loop-node : goal.invariant-loop-node
invariant-loop-node l = record {
  few : l.relation ≤ l.node-index;
  count : length (relations (drop l.node-index l.nodes)) + l.relation ≡ length l.world;
  left : word_lists l.slots ++ slots_of_relations (party_of l.party) (relations (drop l.node-index l.nodes)) (drop l.relation (rows_of_tables l.world))
      ≡ slots_of_relations (party_of l.party) (relations l.nodes) (rows_of_tables l.world);
}
