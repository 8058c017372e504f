use Rattle.std.proofs.Common.{◌≡◌, ◌*◌, [], ◌++◌, bit_or, refl, ap, ◌∙◌, arith}
use Rattle.lanes.specs.Lanes.{picked}
use Rattle.wires.specs.Environment.{words}
use Rattle.wires.specs.Growth.{lanes_of}
use Rattle.circuits.specs.Blocks.{blocks_folded}
use Rattle.shared_ops.proofs.Growing.{restated}
use Rattle.shared_ops.proofs.Lanes.{earlier_below, earlier_count, seen_gathered}
use Rattle.shared_ops.proofs.seen.seen.Goals as goal

pub gather-requires-clause-few : goal.gather-requires-clause-few
gather-requires-clause-few g c = omega (arith, earlier_count c.args.rows c.as_slice.result.now (c.as_slice.ensures.value ∙ c.in_ok-places.ensures), c.requires.few)

pub gather-requires-clause-places : goal.gather-requires-clause-places
gather-requires-clause-places g c =
    let w = g.W.Wires in
    let flags = c.args.flags in
    let zero = c.in_ok-zero.ensures in
    let wide : lanes_of (w.shape c.constant.new.self) flags ≡ c.args.rows * c.args.rows = zero.grows.keeps.lanes flags.0 c.requires.flags.made ∙ c.requires.flags.wide in
    λ k h. omega (arith, earlier_below c.args.rows c.as_slice.result.now (c.as_slice.ensures.value ∙ c.in_ok-places.ensures) k h, wide, zero.ok.lanes)

pub fold_blocks-requires-clause-lanes : goal.fold_blocks-requires-clause-lanes
fold_blocks-requires-clause-lanes g c = c.in_ok-earlier.ensures.ok.lanes ∙ earlier_count c.args.rows c.as_slice.result.now (c.as_slice.ensures.value ∙ c.in_ok-places.ensures)

pub returns-clause-ok : goal.returns-clause-ok
returns-clause-ok g c =
    let w = g.W.Wires in
    let rows = c.args.rows in
    let flags = c.args.flags in
    let last = c.in_ok-new.ensures in
    let places = c.as_slice.ensures.value ∙ c.in_ok-places.ensures in
    restated (w.possible c.fold_blocks.new.wires) (w.shape c.fold_blocks.new.wires) c.in_ok-new.new rows rows _ _ refl last.ok
    (λ v now.
    let gathered = last.grows.within v now in
    let made = c.in_ok-earlier.ensures.grows.within v gathered in
    let old = c.in_ok-zero.ensures.grows.within v made in
    ap (blocks_folded bit_or rows rows) (c.in_ok-earlier.ensures.ok.value v gathered ∙ (λ i. picked (places i) (words v flags ++ (c.in_ok-zero.ensures.ok.value v made i ++ []))))
    ∙ seen_gathered c.table_laws.ensures rows (words v flags) ((g.met.W.Wires.fits c.args.wires.now v flags old c.requires.flags.made).count ∙ c.requires.flags.wide))
