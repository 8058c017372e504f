use Rattle.std.proofs.Common.{◌≡◌, ◌*◌, ◌<◌, length, slice_index_or, ℕ, sym, ap, ◌∙◌, subst, arith}
use Rattle.std.proofs.Math.Nat.{one-mul}
use Rattle.std.proofs.lemmas.Option.{slice_get-get_or}
use Rattle.wires.specs.Growth.{lanes_of}
use Rattle.wires.specs.declared.wire.Wire.{Wire}
use Rattle.circuits.proofs.CopySteps.{columns_within, copying_begins, copying_goes_on, one_more_column}
use Rattle.circuits.specs.RunLoops.{LevelFlags}
use Rattle.circuits.proofs.Levels.{grows_then}
use Rattle.circuits.proofs.RunSteps.{flags_last}
use Rattle.circuits.proofs.copies.copy_all.Goals as goal

pub loop-at-init : goal.loop-at-init
loop-at-init g c =
    let w = g.W.Wires in (
      copying_begins w.grown w.possible w.shape w.ands c.args.wires.now c.args.joined c.args.columns.now c.new-copies.result.items (lanes_of (w.shape c.args.wires.now) c.args.joined)
          (length c.args.flags.now * lanes_of (w.shape c.args.wires.now) c.args.joined) (g.met.W.Wires.grown_refl c.args.wires.now) c.new-copies.ensures.items,
      record { called = omega arith; made = omega arith },
    )

pub loop-at-preserved : goal.loop-at-preserved
loop-at-preserved g c =
    let w = g.W.Wires in
    let wire : Wire = record { 0 = 0 } in
    let n = lanes_of (w.shape c.args.wires.now) c.args.joined in
    let all = c.loop-at.invariant in
    let inv = all.0 in
    let inside : c.loop-at.at < length c.args.columns.now = omega arith in
    let column : Wire = slice_index_or c.args.columns.now c.loop-at.at wire in
    let wide : lanes_of (w.shape c.loop-at.wires) c.args.joined ≡ n = inv.grows.keeps.lanes c.args.joined.0 c.requires.joined in
    let told : 1 * length c.args.flags.now * lanes_of (w.shape c.loop-at.wires) c.args.joined ≡ length c.args.flags.now * n =
    ap (λ k. k * lanes_of (w.shape c.loop-at.wires) c.args.joined) (one-mul (length c.args.flags.now)) ∙ ap (λ k. length c.args.flags.now * k) wide in (
      copying_goes_on w.grown w.possible w.shape w.ands c.args.wires.now c.loop-at.wires c.scan.new.wires c.args.joined column c.in_ok-copy.copy c.args.columns.now c.loop-at.copies.items
          c.push.new.self.items n _ (length c.args.flags.now * n) c.loop-at.at inv c.scan.ensures.grows c.in_ok-copy.ensures.ok wide (omega (arith, c.in_ok-copy.ensures.cost, told))
          (slice_get-get_or c.args.columns.now c.loop-at.at wire inside) c.in_ok-push.ensures.items,
      record {
        called = omega (arith, all.1.called, c.in_ok-copy.ensures.calls, one_more_column c.loop-at.at (length c.args.flags.now));
        made = omega (arith, all.1.made, c.in_ok-copy.ensures.wires, one_more_column c.loop-at.at (5 * length c.args.flags.now));
      },
    )

pub scan-requires-clause-flags : goal.scan-requires-clause-flags
scan-requires-clause-flags g c =
    let w = g.W.Wires in
    let inv = c.loop-at.invariant.0 in
    let wide : lanes_of (w.shape c.loop-at.wires) c.args.joined ≡ lanes_of (w.shape c.args.wires.now) c.args.joined = inv.grows.keeps.lanes c.args.joined.0 c.requires.joined in
    let P : ℕ → Type 0 = λ n. LevelFlags (w.possible c.loop-at.wires) (w.shape c.loop-at.wires) c.args.flags.now c.args.joined n in
    subst P (sym wide) (flags_last w.grown w.possible w.shape c.args.wires.now c.loop-at.wires c.args.flags.now c.args.joined _ inv.grows c.requires.flags)

pub returns-in_err-push-clause-grows : goal.returns-in_err-push-clause-grows
returns-in_err-push-clause-grows g c =
    let w = g.W.Wires in
    grows_then w.grown w.possible w.shape c.args.wires.now c.loop-at.wires c.scan.new.wires c.loop-at.invariant.0.grows c.scan.ensures.grows

pub returns-in_err-copy-clause-calls : goal.returns-in_err-copy-clause-calls
returns-in_err-copy-clause-calls g c =
    let inside : c.loop-at.at < length c.args.columns.now = omega arith in
    omega (arith, c.loop-at.invariant.1.called, c.in_err-copy.ensures.calls, columns_within c.loop-at.at (length c.args.columns.now) (length c.args.flags.now) inside)

pub returns-in_err-copy-clause-wires : goal.returns-in_err-copy-clause-wires
returns-in_err-copy-clause-wires g c =
    let inside : c.loop-at.at < length c.args.columns.now = omega arith in
    omega (arith, c.loop-at.invariant.1.made, c.in_err-copy.ensures.wires, columns_within c.loop-at.at (length c.args.columns.now) (5 * length c.args.flags.now) inside)

pub returns-in_err-push-clause-calls : goal.returns-in_err-push-clause-calls
returns-in_err-push-clause-calls g c =
    let inside : c.loop-at.at < length c.args.columns.now = omega arith in
    omega (arith, c.loop-at.invariant.1.called, c.in_ok-copy.ensures.calls, columns_within c.loop-at.at (length c.args.columns.now) (length c.args.flags.now) inside)

pub returns-in_err-push-clause-wires : goal.returns-in_err-push-clause-wires
returns-in_err-push-clause-wires g c =
    let inside : c.loop-at.at < length c.args.columns.now = omega arith in
    omega (arith, c.loop-at.invariant.1.made, c.in_ok-copy.ensures.wires, columns_within c.loop-at.at (length c.args.columns.now) (5 * length c.args.flags.now) inside)
