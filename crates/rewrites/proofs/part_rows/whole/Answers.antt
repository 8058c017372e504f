use Rattle.std.proofs.Common.{ℕ, List, Bor, map, length, ap, ◌∙◌}
use Rattle.rewrites.proofs.RowWidths.{wide_rows}
use Rattle.rewrites.proofs.part_rows.whole.Goals as goal

pub table_of-requires : goal.table_of-requires
table_of-requires c =
    let now = λ (row : Bor (List ℕ)). row.now in
    wide_rows now c.deref.result.now c.args.table.now.rows (length c.args.table.now.columns) (length c.args.columns.now) (ap (map now) c.deref.ensures.value ∙ c.in_ok-rows.ensures.rows)
    c.lent_rows.ensures.rectangular (ap (λ l. length l) c.requires)
