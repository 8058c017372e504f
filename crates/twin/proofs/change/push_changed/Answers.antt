use Rattle.std.proofs.Common.{◌+◌, ◌<◌, ◌++◌, ◌∷◌, [], drop, sym, ap, ◌∙◌, arith}
use Rattle.tapes.specs.declared.draw.Draw.TheVariants.{Word, Order}
use Rattle.step_lists.specs.Twin.{changed}
use Rattle.twin.proofs.Changes.{part, part_more, changed_word, not_none, one_more}
use Rattle.twin.proofs.change.push_changed.Goals.{in-Some-Word+in_ok-push_word-in-Some-Word, in-Some-Order+in_ok-copy-in-Some-Order+in_ok-push_order-in-Some-Order, in-None}
use Rattle.twin.proofs.change.push_changed.Goals as goal

pub loop-place-preserved : goal.loop-place-preserved
loop-place-preserved c =
    let o = c.args.order.now in
    let ws = c.args.words.now in
    let ds = c.args.tape.now in
    let k = c.loop-place.place in
    let n = c.args.to in
    let used = c.loop-place.used in
    let all = c.args.made.now ++ changed o ws (part c.args.from n ds) in
    let rest = part (k + 1) n ds in
    let lt : k < n = c.loop-place-test.true in
    elim c.match-draw.branch [
      | in-Some-Word+in_ok-push_word-in-Some-Word w ↦
          let is = rw w.in-Some-Word.field-0-is at w.in-Some-Word.ensures in
          let x = w.in-Some-Word.word in
          let next = ap (changed o (drop used ws)) (part_more k n ds (Word x) lt c.requires.to (sym is)) ∙ (changed_word o ws used x rest
          ∙ ap (λ y. Word y ∷ changed o (drop (used + 1) ws) rest) (sym w.xor_at.ensures)) in
          record {
            within = omega (arith, w.used-is, c.loop-place.invariant.within);
            same =
                rw (w.made-is, w.used-is)
                (one_more c.loop-place.made w.push_word.new.self all (changed o (drop used ws) (part k n ds)) (changed o (drop (used + 1) ws) rest) (Word w.xor_at.result)
                c.loop-place.invariant.same next w.in_ok-push_word-in-Some-Word.ensures.pushed);
          }
      | in-Some-Order+in_ok-copy-in-Some-Order+in_ok-push_order-in-Some-Order w ↦
          let is = rw w.in-Some-Order.field-0-is at w.in-Some-Order.ensures in
          let p = w.in-Some-Order.field-0-0.now in
          let next = ap (changed o (drop used ws)) (part_more k n ds (Order p) lt c.requires.to (sym is)) in
          record {
            within = omega (arith, w.used-is, c.loop-place.invariant.within);
            same =
                rw (w.made-is, w.used-is)
                (one_more c.loop-place.made w.push_order.new.self all (changed o (drop used ws) (part k n ds)) (changed o (drop used ws) rest) (Order o)
                c.loop-place.invariant.same next (w.in_ok-push_order-in-Some-Order.ensures.pushed ∙ ap (λ p. c.loop-place.made ++ Order p ∷ []) w.in_ok-copy-in-Some-Order.ensures));
          }
      | in-None w ↦ absurd (not_none ds k (omega (arith, lt, c.requires.to)) w.in-None.ensures)
    ]
