use Rattle.std.proofs.Common.{◌+◌, ◌<◌, ◌++◌, ◌∷◌, [], drop, length, sym, ap, ◌∙◌, arith}
use Rattle.tapes.specs.declared.draw.Draw.TheVariants.{Word, Order}
use Rattle.twin.proofs.Changes.{drop_draw, not_none, one_more}
use Rattle.twin.proofs.change.push_kept.Goals.{in-Some-Word+in_ok-push_word-in-Some-Word, in-Some-Order+in_ok-copy-in-Some-Order+in_ok-push_order-in-Some-Order, in-None}
use Rattle.twin.proofs.change.push_kept.Goals as goal

pub loop-place-preserved : goal.loop-place-preserved
loop-place-preserved c =
    let ds = c.args.tape.now in
    let k = c.loop-place.place in
    let all = c.args.made.now ++ drop c.args.from ds in
    let lt : k < length ds = omega (arith, c.loop-place-test.true, c.len-place-end.ensures.value) in
    elim c.match-draw.branch [
      | in-Some-Word+in_ok-push_word-in-Some-Word w ↦
          let is = rw w.in-Some-Word.field-0-is at w.in-Some-Word.ensures in
          let d = Word w.in-Some-Word.word in
          rw w.made-is
          (one_more c.loop-place.made w.push_word.new.self all (drop k ds) (drop (k + 1) ds) d c.loop-place.invariant (drop_draw k ds d lt (sym is))
          w.in_ok-push_word-in-Some-Word.ensures.pushed)
      | in-Some-Order+in_ok-copy-in-Some-Order+in_ok-push_order-in-Some-Order w ↦
          let is = rw w.in-Some-Order.field-0-is at w.in-Some-Order.ensures in
          let d = Order w.in-Some-Order.order.now in
          rw w.made-is
          (one_more c.loop-place.made w.push_order.new.self all (drop k ds) (drop (k + 1) ds) d c.loop-place.invariant (drop_draw k ds d lt (sym is))
          (w.in_ok-push_order-in-Some-Order.ensures.pushed ∙ ap (λ p. c.loop-place.made ++ Order p ∷ []) w.in_ok-copy-in-Some-Order.ensures))
      | in-None w ↦ absurd (not_none ds k lt w.in-None.ensures)
    ]
