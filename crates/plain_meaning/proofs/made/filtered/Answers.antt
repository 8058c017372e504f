use Rattle.std.proofs.Common.{◌≡◌, ℕ, List, Bor, map, length, subst, sym, ap, ◌∙◌}
use Rattle.std.specs.List.{All, list_all}
use Rattle.std.proofs.lemmas.List.Elements.{All-filter, All-same}
use Rattle.plain_operators.specs.Items.{holds_of}
use Rattle.plain_operators.specs.Limits.{first_of}
use Rattle.plain_operators.specs.Operators.{kept_rows}
use Rattle.plain_operators.specs.Sizes.{AllWide}
use Rattle.plain_operators.specs.Within.{IsTestOf}
use Rattle.plain_meaning.specs.Convert.{test_of}
use Rattle.plain_meaning.specs.Fits.{width_at, widths_of}
use Rattle.plain_meaning.specs.Meaning.{rows_of}
use Rattle.plain_meaning.proofs.Widths.{All-first_of, fits_rows, wide_rows}
use Rattle.plain_meaning.proofs.made.filtered.Goals as goal

pub kept_rows-requires : goal.kept_rows-requires
kept_rows-requires c =
    let now = λ (row : Bor (List ℕ)). row.now in
    let tests = c.deref.result.now in
    let w = width_at (widths_of c.args.earlier.now) c.args.filter.now.source in
    let e : tests ≡ map test_of c.args.filter.now.tests = c.deref.ensures.value ∙ c.in_ok-tests.ensures ∙ ap (map test_of) c.as_slice.ensures.value in
    let fits : All (IsTestOf w) (map test_of c.args.filter.now.tests) = subst (λ n. All (IsTestOf n) (map test_of c.args.filter.now.tests)) (sym c.requires.same) c.requires.tests in
    fits_rows (λ n. All (IsTestOf n) tests) now c.deref-2.result.now (rows_of (map (λ t. t.rows) c.args.earlier.now) c.args.filter.now.source) w
    (ap (map now) c.deref-2.ensures.value ∙ c.in_ok-rows.ensures.rows) c.source_rows.ensures.wide (All-same (IsTestOf w) tests (map test_of c.args.filter.now.tests) e fits)

pub table_of_lent-requires : goal.table_of_lent-requires
table_of_lent-requires c =
    let now = λ (row : Bor (List ℕ)). row.now in
    let tests = map holds_of c.deref.result.now in
    let rows = map now c.deref-2.result.now in
    let w = width_at (widths_of c.args.earlier.now) c.args.filter.now.source in
    let P : List ℕ → Type 0 = λ row. length row ≡ w in
    let wide : AllWide w rows = All-same P rows (rows_of (map (λ t. t.rows) c.args.earlier.now) c.args.filter.now.source) (ap (map now) c.deref-2.ensures.value ∙ c.in_ok-rows.ensures.rows) c.source_rows.ensures.wide in
    let limit = c.limit_of-limit.result in
    wide_rows now c.deref-3.result.now (first_of limit (kept_rows tests rows)) w (length c.args.columns.items) (ap (map now) c.deref-3.ensures.value ∙ c.in_ok-kept.ensures)
    (All-first_of limit P (kept_rows tests rows) (All-filter (λ row. list_all (λ test. test row) tests) P rows wide)) c.requires.same
