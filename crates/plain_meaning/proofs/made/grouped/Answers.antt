use Rattle.std.proofs.Common.{◌≡◌, ◌+◌, ℕ, List, Bor, Vec, Global, map, length, subst, sym, ap, ◌∙◌}
use Rattle.std.specs.List.{All}
use Rattle.std.proofs.lemmas.List.{length-map}
use Rattle.std.proofs.lemmas.List.Elements.{All-same}
use Rattle.plain_operators.specs.Limits.{first_of}
use Rattle.plain_operators.specs.Within.{HasColumns, IsAggregateOf}
use Rattle.plain_meaning.specs.Convert.{aggregate_of}
use Rattle.plain_meaning.specs.Fits.{width_at, widths_of}
use Rattle.plain_operators.specs.OnSources.{group_of_rows}
use Rattle.plain_meaning.specs.Meaning.{rows_of}
use Rattle.plain_meaning.specs.Plain.{limit_of}
use Rattle.plain_meaning.proofs.Widths.{All-first_of, fits_rows, group_of_rows-AllWide, wide_rows}
use Rattle.plain_meaning.proofs.made.grouped.Goals as goal

pub group_of_rows-requires-clause-of_keys : goal.group_of_rows-requires-clause-of_keys
group_of_rows-requires-clause-of_keys c =
    let now = λ (row : Bor (List ℕ)). row.now in
    let keys = c.as_slice-2.result.now in
    let w = width_at (widths_of c.args.earlier.now) c.args.group.now.source in
    fits_rows (HasColumns keys) now c.deref-2.result.now (rows_of (map (λ t. t.rows) c.args.earlier.now) c.args.group.now.source) w
    (ap (map now) c.deref-2.ensures.value ∙ c.in_ok-rows.ensures.rows) c.source_rows.ensures.wide (subst (λ k. HasColumns k w) (sym c.as_slice-2.ensures.value) c.requires.keys)

pub group_of_rows-requires-clause-of_aggregates : goal.group_of_rows-requires-clause-of_aggregates
group_of_rows-requires-clause-of_aggregates c =
    let now = λ (row : Bor (List ℕ)). row.now in
    let aggregates = c.deref.result.now in
    let w = width_at (widths_of c.args.earlier.now) c.args.group.now.source in
    let e : aggregates ≡ map aggregate_of c.args.group.now.aggregates = c.deref.ensures.value ∙ c.in_ok-aggregates.ensures ∙ ap (map aggregate_of) c.as_slice.ensures.value in
    fits_rows (λ n. All (IsAggregateOf n) aggregates) now c.deref-2.result.now (rows_of (map (λ t. t.rows) c.args.earlier.now) c.args.group.now.source) w
    (ap (map now) c.deref-2.ensures.value ∙ c.in_ok-rows.ensures.rows) c.source_rows.ensures.wide (All-same (IsAggregateOf w) aggregates (map aggregate_of c.args.group.now.aggregates) e c.requires.aggregates)

pub table_of_made-requires : goal.table_of_made-requires
table_of_made-requires c =
    let now = λ (row : Bor (List ℕ)). row.now in
    let listed = λ (row : Vec ℕ Global). row.items in
    let keys = c.as_slice-2.result.now in
    let aggregates = c.deref.result.now in
    let rows = map now c.deref-2.result.now in
    let e : aggregates ≡ map aggregate_of c.args.group.now.aggregates = c.deref.ensures.value ∙ c.in_ok-aggregates.ensures ∙ ap (map aggregate_of) c.as_slice.ensures.value in
    let many : length aggregates ≡ length c.args.group.now.aggregates = ap length e ∙ length-map c.args.group.now.aggregates aggregate_of in
    let long : length keys + length aggregates ≡ length c.args.columns.items = (λ i. length (c.as_slice-2.ensures.value i) + many i) ∙ c.requires.same in
    let limit = limit_of c.args.group.now.at_most in
    let all = group_of_rows keys aggregates rows in
    let w = length keys + length aggregates in
    wide_rows listed c.deref-3.result.now (first_of limit all) w (length c.args.columns.items) (ap (map listed) c.deref-3.ensures.value ∙ c.in_ok-made.ensures)
    (All-first_of limit (λ row. length row ≡ w) all (group_of_rows-AllWide c.operators_keep_widths.ensures keys aggregates rows)) long
