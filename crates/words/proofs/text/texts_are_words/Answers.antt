use Rattle.words.proofs.TextFacts.{text_facts}
use Rattle.words.proofs.TextOrder.{packed_is, worth_below}
use Rattle.words.proofs.text.texts_are_words.Goals as goal

pub returns : goal.returns
returns c bytes word e =
    let facts = text_facts bytes word e in
    rw (facts.is, packed_is bytes) (worth_below 8 0 bytes facts.all)
