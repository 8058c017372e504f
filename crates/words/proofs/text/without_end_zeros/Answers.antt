use Rattle.std.proofs.Common.{get_or, ◌∙◌, sym, take, refl, arith}
use Rattle.std.proofs.lemmas.List.{take_more}
use Rattle.words.specs.Texts.{without_end_zeros}
use Rattle.words.proofs.EndZeros.{byte_more, zero_more}
use Rattle.words.proofs.text.without_end_zeros.Goals as goal
use Rattle.words.proofs.text.without_end_zeros.Goals.{then-byte-ne0, else-byte-ne0}

pub loop-index-init : goal.loop-index-init
unfolding without_end_zeros
loop-index-init c = (refl, omega arith)

pub loop-index-preserved : goal.loop-index-preserved
loop-index-preserved c =
    let bytes = c.args.bytes.now in
    let i = c.loop-index.index in
    let next = take_more bytes i 0 c.loop-index-test.true in
    elim c.if-byte-ne0.branch [
      | then-byte-ne0 w ↦ (rw (w.length-is, next) (sym (byte_more (take i bytes) (get_or bytes i 0) w.if-byte-ne0.true)), omega arith)
      | else-byte-ne0 w ↦
          (rw (w.length-is, next, w.if-byte-ne0.false) (c.loop-index.invariant.0 ∙ sym (zero_more (take i bytes))), omega arith)
    ]
