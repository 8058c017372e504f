use Rattle.std.proofs.Common.{ap, ◌∙◌}
use Rattle.std.specs.Int.{from_be_bytes}
use mir.Syntax.{w64}
use Rattle.words.specs.Texts.{packed}
use Rattle.words.proofs.text.packed.Goals as goal

pub returns : goal.returns
unfolding packed
returns c = c.from_be_bytes.ensures ∙ ap (from_be_bytes w64) c.padded.ensures
