use Rattle.std.proofs.Common.{◌≡◌, take}
use Rattle.step_lists.specs.Layout.{party_of}
use Rattle.lowering.specs.FirstSlots.{lengths_of_relations}
use Rattle.lowering.proofs.first.lengths_of.Given as goal

abbrev pub invariant-loop-node : goal.invariant-loop-node
invariant-loop-node l = l.lengths.items ≡ lengths_of_relations (party_of l.party) (take l.node-index l.nodes)
