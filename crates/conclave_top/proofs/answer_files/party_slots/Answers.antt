use Rattle.std.proofs.Common.{rules, ◌≡◌, [], ◌∷◌, ◌++◌}
use Rattle.lanes.specs.Three.{at}
use Rattle.step_lists.specs.Layout.{party_of}
use Rattle.conclave_top.proofs.Answered.{one_slot}
use Rattle.conclave_top.proofs.answer_files.party_slots.Goals as goal

pub loop-number-preserved : goal.loop-number-preserved
loop-number-preserved c =
    let given : c.in_ok-from_slice.field-0.items ≡ c.in-Some.words.now.items = search rules in
    let pushed : c.push.new.self.items ≡ c.loop-number.slots.items ++ c.in_ok-from_slice.field-0 ∷ [] = search rules in
    one_slot (at (party_of c.args.party) c.args.run.now.slots) c.loop-number.number c.loop-number.slots c.push.new.self c.in_ok-from_slice.field-0 c.in-Some.words.now.items c.loop-number.invariant c.in-Some.ensures given pushed
