use Rattle.words.proofs.TextFacts.{text_facts}
use Rattle.words.proofs.TextOrder.{ordered_as_worth, packed_is}
use Rattle.words.proofs.text.packing_keeps_order.Goals as goal

pub returns : goal.returns
returns c a b v w is_a is_b =
    let left = text_facts a v is_a in
    let right = text_facts b w is_b in
    rw (left.is, right.is, packed_is a, packed_is b) (ordered_as_worth 8 a b left.fits right.fits left.all right.all)
