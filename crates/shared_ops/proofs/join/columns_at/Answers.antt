use Rattle.std.proofs.Common.{length, get_or, refl, ap, arith}
use Rattle.lanes.specs.Lanes.{picked}
use Rattle.shared_ops.proofs.Growing.{restated, wiring_goes_on}
use Rattle.shared_ops.proofs.Matching.{indexed_words}
use Rattle.shared_ops.proofs.join.columns_at.Goals as goal

pub loop-at-preserved : goal.loop-at-preserved
loop-at-preserved g c =
    let w = g.W.Wires in
    let t = c.args.table.now in
    let numbers = c.args.numbers.now in
    let places = c.args.places.now in
    let at = c.loop-at.at in
    let ok = c.in_ok-column.ensures in
    let inside = c.requires.numbers at 0 c.loop-at-test.true in
    let made = restated (w.possible c.gathered.new.wires) (w.shape c.gathered.new.wires) c.in_ok-column.column (length places) (length places) _ _ refl ok.ok
    (λ v now. ap (picked places) (indexed_words v t.columns.items (get_or numbers at 0) c.index.result.now c.index.ensures inside)) in (
      wiring_goes_on w.grown w.possible w.shape w.ands c.args.wires.now c.loop-at.wires c.gathered.new.wires c.loop-at.made.items c.push.new.self.items c.in_ok-column.column (length places) _ at 0 0 0
          c.loop-at.invariant.0 ok.grows made (omega (arith, ok.cost)) c.in_ok-push.ensures.items (omega arith),
      omega (arith, c.loop-at.invariant.1, ok.calls),
    )
