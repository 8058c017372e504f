use Rattle.std.proofs.Common.{◌≡◌, ◌<◌, length, get_or, ap, sym, ◌∙◌, arith}
use Rattle.std.proofs.lemmas.List.{get_or_read}
use Rattle.tapes.proofs.Picks.{get_or-picked, length-picked}
use Rattle.tapes.specs.Order.{applied}
use Rattle.tapes.proofs.Writes.{written_more}
use Rattle.tapes.proofs.order.Order.apply.Goals as goal

pub loop-i-preserved : goal.loop-i-preserved
loop-i-preserved c =
    let order = c.self.inside.places.items in
    let long : length order ≡ length c.args.into.now = ap length c.self.view_is ∙ sym c.requires.into in
    let within : c.loop-i.i < length order = omega arith in
    let place : c.index.result.now ≡ get_or order c.loop-i.i 0 = get_or_read order c.loop-i.i c.index.result.now within c.index.ensures 0 in
    let word : get_or c.args.source.now c.index.result.now 0 ≡ get_or (applied order c.args.source.now) c.loop-i.i 0
    = ap (λ p. get_or c.args.source.now p 0) place ∙ sym (get_or-picked order c.args.source.now c.loop-i.i within) in
    rw (word, c.loop-i.invariant)
    (written_more (applied order c.args.source.now) c.args.into.now c.loop-i.i 0 (length-picked order c.args.source.now ∙ long) c.loop-i-test.true)
