use Rattle.std.proofs.Common.{◌≡◌, ℕ, List, Bor, map, length, ap, ◌∙◌}
use Rattle.std.specs.List.{All, list_all}
use Rattle.std.proofs.lemmas.List.Elements.{All-filter, All-same}
use Rattle.plain_operators.specs.Items.{holds_of}
use Rattle.plain_operators.specs.Operators.{kept_rows}
use Rattle.plain_operators.specs.Sizes.{AllWide}
use Rattle.plain_operators.specs.Within.{IsTestOf}
use Rattle.plain_meaning.specs.Convert.{test_of}
use Rattle.rewrites.proofs.RowWidths.{fits_rows, wide_rows}
use Rattle.rewrites.proofs.part_rows.filtered.Goals as goal

pub kept_rows-requires : goal.kept_rows-requires
kept_rows-requires c =
    let now = λ (row : Bor (List ℕ)). row.now in
    let tests = c.deref.result.now in
    let w = length c.args.source.now.columns in
    let e : tests ≡ map test_of c.args.filter.now.tests = c.deref.ensures.value ∙ c.in_ok-tests.ensures ∙ ap (map test_of) c.as_slice.ensures.value in
    fits_rows (λ n. All (IsTestOf n) tests) now c.deref-2.result.now c.args.source.now.rows w (ap (map now) c.deref-2.ensures.value ∙ c.in_ok-rows.ensures.rows) c.lent_rows.ensures.rectangular
    (All-same (IsTestOf w) tests (map test_of c.args.filter.now.tests) e c.requires.tests)

pub table_of-requires : goal.table_of-requires
table_of-requires c =
    let now = λ (row : Bor (List ℕ)). row.now in
    let tests = map holds_of c.deref.result.now in
    let rows = map now c.deref-2.result.now in
    let w = length c.args.source.now.columns in
    let P : List ℕ → Type 0 = λ row. length row ≡ w in
    let wide : AllWide w rows = All-same P rows c.args.source.now.rows (ap (map now) c.deref-2.ensures.value ∙ c.in_ok-rows.ensures.rows) c.lent_rows.ensures.rectangular in
    wide_rows now c.deref-3.result.now (kept_rows tests rows) w (length c.args.columns.now) (ap (map now) c.deref-3.ensures.value ∙ c.in_ok-kept.ensures)
    (All-filter (λ row. list_all (λ test. test row) tests) P rows wide) c.requires.same
