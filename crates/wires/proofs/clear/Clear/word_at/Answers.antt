use Rattle.std.proofs.Common.{length, get_or, refl, sym, ap, arith}
use Rattle.wires.specs.declared.wire.Wire.{Wire}
use Rattle.wires.proofs.Sources.{place_moved}
use Rattle.wires.proofs.clear.Clear.word_at.Goals as goal

pub loop-source-preserved : goal.loop-source-preserved
loop-source-preserved c =
    let none : Wire = record { 0 = 0 } in
    place_moved c.args.self.now c.args.sources.now c.loop-source.source-index c.args.place c.loop-source.rest
    (get_or c.args.sources.now c.loop-source.source-index none) (length c.words_of-words.result.now) none c.loop-source-test.true refl
    (ap length (sym c.words_of-words.ensures.words)) (omega arith) c.loop-source.invariant
