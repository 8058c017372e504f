use Rattle.std.proofs.Common.{◌≡◌, length, take}
use Rattle.step_lists.specs.Layout.{party_of}
use Rattle.lowering.specs.FirstSlots.{lengths_of_relations}
use Rattle.lowering.proofs.first.first_slot.Given as goal

abbrev pub invariant-loop-node : goal.invariant-loop-node
invariant-loop-node l = l.slot ≡ length (lengths_of_relations (party_of l.party) (take l.node-index l.node-items))
