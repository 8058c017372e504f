use Rattle.std.proofs.Common.{◌≡◌, ℕ, List, Bor, Vec, Global, map, length, ap, ◌∙◌}
use Rattle.std.specs.List.{All}
use Rattle.std.proofs.lemmas.List.{length-map}
use Rattle.std.proofs.lemmas.List.Elements.{All-same}
use Rattle.plain_operators.specs.Items.{item_word}
use Rattle.plain_operators.specs.Operators.{rows_of_items}
use Rattle.plain_operators.specs.Within.{IsItemOf}
use Rattle.plain_meaning.specs.Convert.{item_of}
use Rattle.plain_meaning.specs.Fits.{width_at, widths_of}
use Rattle.plain_meaning.specs.Meaning.{rows_of}
use Rattle.plain_meaning.proofs.Widths.{fits_rows, rows_of_items-AllWide, wide_rows}
use Rattle.plain_meaning.proofs.made.selected.Goals as goal

pub rows_of_items-requires : goal.rows_of_items-requires
rows_of_items-requires c =
    let now = λ (row : Bor (List ℕ)). row.now in
    let items = c.deref.result.now in
    let w = width_at (widths_of c.args.earlier.now) c.args.select.now.source in
    let e : items ≡ map item_of c.args.select.now.items = c.deref.ensures.value ∙ c.in_ok-items.ensures ∙ ap (map item_of) c.as_slice.ensures.value in
    fits_rows (λ n. All (IsItemOf n) items) now c.deref-2.result.now (rows_of (map (λ t. t.rows) c.args.earlier.now) c.args.select.now.source) w
    (ap (map now) c.deref-2.ensures.value ∙ c.in_ok-rows.ensures.rows) c.source_rows.ensures.wide (All-same (IsItemOf w) items (map item_of c.args.select.now.items) e c.requires.items)

pub table_of_made-requires : goal.table_of_made-requires
table_of_made-requires c =
    let now = λ (row : Bor (List ℕ)). row.now in
    let listed = λ (row : Vec ℕ Global). row.items in
    let items = c.deref.result.now in
    let words = map item_word items in
    let rows = map now c.deref-2.result.now in
    let e : items ≡ map item_of c.args.select.now.items = c.deref.ensures.value ∙ c.in_ok-items.ensures ∙ ap (map item_of) c.as_slice.ensures.value in
    let long : length words ≡ length c.args.columns.items = length-map items item_word ∙ ap length e ∙ length-map c.args.select.now.items item_of ∙ c.requires.same in
    wide_rows listed c.deref-3.result.now (rows_of_items words rows) (length words) (length c.args.columns.items) (ap (map listed) c.deref-3.ensures.value ∙ c.in_ok-made.ensures) (rows_of_items-AllWide words rows) long
