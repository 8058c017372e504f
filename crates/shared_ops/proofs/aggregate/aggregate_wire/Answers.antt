use Rattle.std.proofs.Common.{◌<◌, [], length, refl, sym, ap, ◌∙◌, subst}
use Rattle.std.proofs.lemmas.List.{get_or-map}
use Rattle.wires.specs.Environment.{words}
use Rattle.circuits.specs.declared.folds.Fold.TheVariants as folds
use Rattle.plain_operators.specs.Within.{IsAggregateOf}
use Rattle.shared_ops.specs.Groups.{aggregate_lanes}
use Rattle.shared_ops.specs.Joint.{column_words}
use Rattle.shared_ops.proofs.Growing.{restated}
use Rattle.shared_ops.proofs.Lanes.{column_blocks}
use Rattle.shared_ops.proofs.aggregate.aggregate_wire.Goals as goal

pub returns-in_ok-new-in-Sum-clause-ok : goal.returns-in_ok-new-in-Sum-clause-ok
returns-in_ok-new-in-Sum-clause-ok g c =
    let w = g.W.Wires in
    let blocks = c.args.blocks.now in
    let t = c.args.table.now in
    let column = c.in-Sum.column in
    let ok = c.in_ok-new-in-Sum.ensures in
    let within : column < length t.columns.items = subst (IsAggregateOf (length t.columns.items)) c.in-Sum.is c.requires.fits in
    restated (w.possible c.folded_column.new.wires) (w.shape c.folded_column.new.wires) c.in_ok-new-in-Sum.new blocks.width blocks.width _ _ refl ok.ok
    (λ v now.
    let long = (g.met.W.Wires.fits c.args.wires.now v blocks.flags (ok.grows.within v now) c.requires.blocks.wide.made).count ∙ c.requires.blocks.wide.wide in
    column_blocks c.item_laws.ensures.items c.item_laws.ensures.lengths c.table_laws.ensures folds.Sum blocks.rows blocks.width (words v blocks.flags) _ (column_words v t) column long
    (ap (words v) c.index.ensures ∙ sym (get_or-map (words v) t.columns.items column c.index.result.now [] within))
    ∙ ap (λ aggregate. aggregate_lanes aggregate blocks.rows blocks.width (words v blocks.flags) (column_words v t)) (sym c.in-Sum.is))

pub returns-in_ok-new-in-Least-clause-ok : goal.returns-in_ok-new-in-Least-clause-ok
returns-in_ok-new-in-Least-clause-ok g c =
    let w = g.W.Wires in
    let blocks = c.args.blocks.now in
    let t = c.args.table.now in
    let column = c.in-Least.column in
    let ok = c.in_ok-new-in-Least.ensures in
    let within : column < length t.columns.items = subst (IsAggregateOf (length t.columns.items)) c.in-Least.is c.requires.fits in
    restated (w.possible c.folded_column-in-Least.new.wires) (w.shape c.folded_column-in-Least.new.wires) c.in_ok-new-in-Least.new blocks.width blocks.width _ _ refl ok.ok
    (λ v now.
    let long = (g.met.W.Wires.fits c.args.wires.now v blocks.flags (ok.grows.within v now) c.requires.blocks.wide.made).count ∙ c.requires.blocks.wide.wide in
    column_blocks c.item_laws.ensures.items c.item_laws.ensures.lengths c.table_laws.ensures folds.Least blocks.rows blocks.width (words v blocks.flags) _ (column_words v t) column long
    (ap (words v) c.index-in-Least.ensures ∙ sym (get_or-map (words v) t.columns.items column c.index-in-Least.result.now [] within))
    ∙ ap (λ aggregate. aggregate_lanes aggregate blocks.rows blocks.width (words v blocks.flags) (column_words v t)) (sym c.in-Least.is))

pub returns-in_ok-new-in-Greatest-clause-ok : goal.returns-in_ok-new-in-Greatest-clause-ok
returns-in_ok-new-in-Greatest-clause-ok g c =
    let w = g.W.Wires in
    let blocks = c.args.blocks.now in
    let t = c.args.table.now in
    let column = c.in-Greatest.column in
    let ok = c.in_ok-new-in-Greatest.ensures in
    let within : column < length t.columns.items = subst (IsAggregateOf (length t.columns.items)) c.in-Greatest.is c.requires.fits in
    restated (w.possible c.folded_column-in-Greatest.new.wires) (w.shape c.folded_column-in-Greatest.new.wires) c.in_ok-new-in-Greatest.new blocks.width blocks.width _ _ refl ok.ok
    (λ v now.
    let long = (g.met.W.Wires.fits c.args.wires.now v blocks.flags (ok.grows.within v now) c.requires.blocks.wide.made).count ∙ c.requires.blocks.wide.wide in
    column_blocks c.item_laws.ensures.items c.item_laws.ensures.lengths c.table_laws.ensures folds.Greatest blocks.rows blocks.width (words v blocks.flags) _ (column_words v t) column long
    (ap (words v) c.index-in-Greatest.ensures ∙ sym (get_or-map (words v) t.columns.items column c.index-in-Greatest.result.now [] within))
    ∙ ap (λ aggregate. aggregate_lanes aggregate blocks.rows blocks.width (words v blocks.flags) (column_words v t)) (sym c.in-Greatest.is))

pub returns-in_ok-new-in-Count-clause-ok : goal.returns-in_ok-new-in-Count-clause-ok
returns-in_ok-new-in-Count-clause-ok g c =
    let w = g.W.Wires in
    let blocks = c.args.blocks.now in
    restated (w.possible c.counted.new.wires) (w.shape c.counted.new.wires) c.in_ok-new-in-Count.new blocks.width blocks.width _ _ refl c.in_ok-new-in-Count.ensures.ok
    (λ v now. ap (λ aggregate. aggregate_lanes aggregate blocks.rows blocks.width (words v blocks.flags) (column_words v c.args.table.now)) (sym c.in-Count.is))
