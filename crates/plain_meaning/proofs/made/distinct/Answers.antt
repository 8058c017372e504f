use Rattle.std.proofs.Common.{◌≡◌, ℕ, List, Bor, map, length, ap, ◌∙◌}
use Rattle.std.proofs.lemmas.List.Elements.{All-same}
use Rattle.plain_operators.specs.Limits.{first_of}
use Rattle.plain_operators.specs.Operators.{distinct_rows}
use Rattle.plain_operators.specs.Sizes.{AllWide}
use Rattle.plain_meaning.specs.Fits.{width_at, widths_of}
use Rattle.plain_meaning.specs.Meaning.{rows_of}
use Rattle.plain_meaning.proofs.Widths.{All-first_of, wide_rows}
use Rattle.plain_meaning.proofs.made.distinct.Goals as goal

pub table_of_lent-requires : goal.table_of_lent-requires
table_of_lent-requires c =
    let now = λ (row : Bor (List ℕ)). row.now in
    let rows = map now c.deref.result.now in
    let w = width_at (widths_of c.args.earlier.now) c.args.distinct.now.source in
    let P : List ℕ → Type 0 = λ row. length row ≡ w in
    let wide : AllWide w rows = All-same P rows (rows_of (map (λ t. t.rows) c.args.earlier.now) c.args.distinct.now.source) (ap (map now) c.deref.ensures.value ∙ c.in_ok-rows.ensures.rows) c.source_rows.ensures.wide in
    let limit = c.limit_of.result in
    wide_rows now c.deref-2.result.now (first_of limit (distinct_rows rows)) w (length c.args.columns.items) (ap (map now) c.deref-2.ensures.value ∙ c.in_ok-kept.ensures)
    (All-first_of limit P (distinct_rows rows) (c.operators_keep_widths.ensures.distinct w rows wide)) c.requires.same
