use Rattle.std.proofs.Common.{ℕ, [], ◌∷◌, ◌++◌, map, take, ap, sym, ◌∙◌}
use Rattle.std.specs.Prelude.{Vec}
use Rattle.std.specs.Global.{Global}
use Rattle.std.proofs.lemmas.List.{map_push}
use Rattle.plain_operators.specs.Columns.{cut}
use Rattle.trust_sets.proofs.SameRows.{take_row}
use Rattle.trust_sets.proofs.cut_rows.cut_rows.Goals as goal

pub loop-index-preserved : goal.loop-index-preserved
loop-index-preserved c =
    let items = λ (row : Vec ℕ Global). row.items in
    let cut_to = cut c.args.columns.now in
    let rows = c.args.table.now.rows in
    let index = c.loop-index.index in
    let row = c.row.result.now in
    ap (map items) c.in_ok-push.ensures.items ∙ map_push items c.loop-index.rows.items c.in_ok-cut_row.field-0 ∙ (λ i. c.loop-index.invariant i ++ c.in_ok-cut_row.ensures i ∷ [])
    ∙ sym (ap (map cut_to) (take_row rows index row c.row.ensures.words) ∙ map_push cut_to (take index rows) row)
