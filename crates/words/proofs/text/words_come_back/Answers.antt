use Rattle.std.proofs.Common.{◌∙◌, ap}
use Rattle.std.specs.Int.{from_be_bytes, to_be_bytes}
use Rattle.std.proofs.lemmas.Nat.{from_be_bytes-to_be_bytes_8}
use mir.Syntax.{w64}
use Rattle.words.specs.Texts.{packed}
use Rattle.words.proofs.EndZeros.{filled_up}
use Rattle.words.proofs.text.words_come_back.Goals as goal

pub returns : goal.returns
unfolding packed
returns c word small = ap (from_be_bytes w64) (filled_up (to_be_bytes w64 word)) ∙ from_be_bytes-to_be_bytes_8 word small
