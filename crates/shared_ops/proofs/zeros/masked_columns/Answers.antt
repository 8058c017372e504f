use Rattle.std.proofs.Common.{◌≡◌, ◌+◌, ◌*◌, ◌≤◌, [], map, get_or, sym, ap, arith}
use Rattle.std.proofs.Math.Nat.{add-mul, one-mul}
use Rattle.std.proofs.lemmas.List.{get_or-map}
use Rattle.lanes.specs.Lanes.{lanewise}
use Rattle.wires.specs.Environment.{Environment, words}
use Rattle.wires.specs.Growth.{lanes_of}
use Rattle.wires.specs.declared.wire.Wire.{Wire}
use Rattle.circuits.specs.Folds.{masked_word}
use Rattle.circuits.specs.declared.folds.Fold.TheVariants.{Sum}
use Rattle.padded.specs.Table.{column_at}
use Rattle.shared_ops.proofs.Growing.{restated, wiring_begins, wiring_goes_on}
use Rattle.shared_ops.proofs.zeros.masked_columns.Goals as goal

pub loop-at-init : goal.loop-at-init
loop-at-init g c =
    let w = g.W.Wires in (
      wiring_begins w.grown w.possible w.shape w.ands c.args.wires.now c.new-made.result.items (lanes_of (w.shape c.args.wires.now) c.args.valid) _ _
          (g.met.W.Wires.grown_refl c.args.wires.now) c.new-made.ensures.items,
      omega arith,
    )

pub loop-at-preserved : goal.loop-at-preserved
loop-at-preserved g c =
    let w = g.W.Wires in
    let none : Wire = record { 0 = 0 } in
    let columns = c.args.columns.now in
    let at = c.loop-at.at in
    let n = lanes_of (w.shape c.args.wires.now) c.args.valid in
    let inv = c.loop-at.invariant.0 in
    let wide : lanes_of (w.shape c.loop-at.wires) c.args.valid ≡ n = inv.grows.keeps.lanes c.args.valid.0 c.requires.valid in
    let here : Wire = get_or columns at none in
    let flags = λ (v : Environment). words v c.args.valid in
    let found : (v : Environment) → lanewise (masked_word Sum) (flags v) (words v here) ≡ lanewise (masked_word Sum) (flags v) (column_at (map (words v) columns) at) =
    λ v. ap (lanewise (masked_word Sum) (flags v)) (sym (get_or-map (words v) columns at none [] c.loop-at-test.true)) in
    let made = restated (w.possible c.masked.new.wires) (w.shape c.masked.new.wires) c.in_ok-column.column _ n _ _ wide c.in_ok-column.ensures.ok (λ v now. found v) in
    let paid : at * n + n ≤ (at + 1) * n = omega (arith, add-mul at 1 n, one-mul n) in (
      wiring_goes_on w.grown w.possible w.shape w.ands c.args.wires.now c.loop-at.wires c.masked.new.wires c.loop-at.made.items c.push.new.self.items c.in_ok-column.column n _ at (at * n) n ((at + 1) * n)
          inv c.masked.ensures.grows made (omega (arith, c.in_ok-column.ensures.cost, wide)) c.in_ok-push.ensures.items paid,
      omega (arith, c.loop-at.invariant.1, c.in_ok-column.ensures.calls),
    )
