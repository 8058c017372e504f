use Rattle.std.proofs.Common.{ℕ, List, Bor, map, length, refl, ap}
use Rattle.plain_meaning.proofs.Widths.{wide_rows}
use Rattle.plain_meaning.proofs.made.concatenated.Goals as goal

pub table_of_lent-requires : goal.table_of_lent-requires
table_of_lent-requires c =
    let now = λ (row : Bor (List ℕ)). row.now in
    wide_rows now c.deref.result.now (map now c.loop-source.rows.items) (length c.args.columns.items) (length c.args.columns.items) (ap (map now) c.deref.ensures.value) c.loop-source.invariant.wide refl
