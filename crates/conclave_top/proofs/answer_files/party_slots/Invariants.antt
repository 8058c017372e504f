use Rattle.std.proofs.Common.{◌≡◌, take}
use Rattle.lanes.specs.Three.{at}
use Rattle.step_lists.specs.Layout.{party_of}
use Rattle.step_lists.specs.Shapes.{word_lists}
use Rattle.conclave_top.proofs.answer_files.party_slots.Given as goal

-- the first slots
abbrev pub invariant-loop-number : goal.invariant-loop-number
invariant-loop-number l = word_lists l.slots ≡ take l.number (at (party_of l.party) l.run.slots)
