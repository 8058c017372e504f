use Rattle.std.proofs.Common.{◌≡◌, ◌++◌, drop}
use Rattle.step_lists.specs.Part.{revealed_slots}
use Rattle.step_lists.specs.Shapes.{word_lists}
use Rattle.party_core.proofs.reveal.shown_slots.Given as goal

abbrev pub invariant-loop-place : goal.invariant-loop-place
invariant-loop-place l =
    revealed_slots l.party l.rows l.moving l.shown l.fn.got ≡ word_lists l.slots ++ revealed_slots l.party l.rows l.moving (drop l.place-index l.shown) l.got
