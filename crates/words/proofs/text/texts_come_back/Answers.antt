use Rattle.std.proofs.Common.{◌-◌, ◌++◌, length, replicate, ◌∙◌, ap}
use Rattle.std.proofs.lemmas.Nat.{be_bytes_8}
use Rattle.words.specs.Texts.{packed, without_end_zeros}
use Rattle.words.proofs.EndZeros.{zeros_behind}
use Rattle.words.proofs.TextFacts.{text_facts}
use Rattle.words.proofs.TextOrder.{padded_byte_fits, padded_is_whole}
use Rattle.words.proofs.text.texts_come_back.Goals as goal

pub returns : goal.returns
unfolding packed
returns c bytes word e =
    let facts = text_facts bytes word e in
    let k = 8 - length bytes in
    let whole = padded_is_whole bytes facts.fits in
    ap without_end_zeros (be_bytes_8 (bytes ++ replicate k 0) word whole (λ i. padded_byte_fits bytes k i facts.all) facts.is) ∙ zeros_behind k bytes facts.all
