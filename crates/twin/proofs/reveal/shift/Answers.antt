use Rattle.std.proofs.Common.{length, sym, ap, ◌∙◌}
use Rattle.twin.proofs.Lengths.{inverse_long}
use Rattle.twin.proofs.reveal.shift.Goals as goal

pub then-requires : goal.then-requires
then-requires c = c.requires.d ∙ sym (ap length c.in_ok-inverse.ensures ∙ (inverse_long c.args.a.now ∙ c.requires.a))
