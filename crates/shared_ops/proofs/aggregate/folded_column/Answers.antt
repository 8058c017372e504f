use Rattle.std.proofs.Common.{refl, sym, ap, ◌∙◌, arith}
use Rattle.lanes.specs.Lanes.{lanewise, picked}
use Rattle.wires.specs.Environment.{words}
use Rattle.wires.specs.Growth.{lanes_of}
use Rattle.circuits.specs.Blocks.{blocks_folded}
use Rattle.circuits.specs.Folds.{combined_word, masked_word}
use Rattle.shared_ops.proofs.GroupCosts.{fold_cost}
use Rattle.shared_ops.proofs.Growing.{restated}
use Rattle.shared_ops.proofs.Lanes.{few_lanes, row_within}
use Rattle.shared_ops.proofs.aggregate.folded_column.Goals as goal

pub gathered-requires-clause-few : goal.gathered-requires-clause-few
gathered-requires-clause-few g c =
    let blocks = c.args.blocks.now in
    omega (arith, few_lanes blocks.rows blocks.width c.as_slice.result.now (c.as_slice.ensures.value ∙ c.requires.blocks.places), c.requires.blocks.few)

pub gathered-requires-clause-within : goal.gathered-requires-clause-within
gathered-requires-clause-within g c =
    let blocks = c.args.blocks.now in
    row_within c.table_laws.ensures blocks.rows blocks.width (lanes_of (g.W.Wires.shape c.args.wires.now) c.args.column) c.as_slice.result.now (c.as_slice.ensures.value ∙ c.requires.blocks.places) c.requires.column.wide

pub masked-requires-clause-lanes : goal.masked-requires-clause-lanes
masked-requires-clause-lanes g c =
    let blocks = c.args.blocks.now in
    let ok = c.in_ok-repeated.ensures in
    ok.grows.keeps.lanes blocks.flags.0 c.requires.blocks.wide.made ∙ c.requires.blocks.wide.wide
    ∙ sym (few_lanes blocks.rows blocks.width c.as_slice.result.now (c.as_slice.ensures.value ∙ c.requires.blocks.places)) ∙ sym ok.ok.lanes

pub returns-in_err-new-clause-cost : goal.returns-in_err-new-clause-cost
returns-in_err-new-clause-cost g c =
    let blocks = c.args.blocks.now in
    let ok = c.in_ok-repeated.ensures in
    let wide = ok.grows.keeps.lanes blocks.flags.0 c.requires.blocks.wide.made ∙ c.requires.blocks.wide.wide in
    omega (arith, c.in_err-new.ensures.cost, c.in_ok-kept.ensures.cost, ok.cost, wide, fold_cost c.args.fold blocks.width blocks.rows)

pub returns-clause-cost : goal.returns-clause-cost
returns-clause-cost g c =
    let blocks = c.args.blocks.now in
    let ok = c.in_ok-repeated.ensures in
    let wide = ok.grows.keeps.lanes blocks.flags.0 c.requires.blocks.wide.made ∙ c.requires.blocks.wide.wide in
    omega (arith, c.in_ok-new.ensures.cost, c.in_ok-kept.ensures.cost, ok.cost, wide, fold_cost c.args.fold blocks.width blocks.rows)

pub returns-clause-ok : goal.returns-clause-ok
returns-clause-ok g c =
    let w = g.W.Wires in
    let blocks = c.args.blocks.now in
    let last = c.in_ok-new.ensures in
    restated (w.possible c.fold_blocks.new.wires) (w.shape c.fold_blocks.new.wires) c.in_ok-new.new blocks.width blocks.width _ _ refl last.ok
    (λ v now.
    let before = last.grows.within v now in
    ap (blocks_folded (combined_word c.args.fold) blocks.rows blocks.width)
    (c.in_ok-kept.ensures.ok.value v before
    ∙ ap (lanewise (masked_word c.args.fold) (words v blocks.flags))
    (c.in_ok-repeated.ensures.ok.value v (c.in_ok-kept.ensures.grows.within v before) ∙ ap (λ places. picked places (words v c.args.column)) (c.as_slice.ensures.value ∙ c.requires.blocks.places))))
