use Rattle.std.proofs.Common.{◌≡◌, ℕ, List, Bor, Vec, Global, map, length, get_or, ap, ◌∙◌}
use Rattle.std.specs.List.{All}
use Rattle.std.proofs.lemmas.List.{length-map}
use Rattle.std.proofs.lemmas.List.Elements.{All-map, All-same}
use Rattle.plain_operators.specs.Items.{item_word}
use Rattle.plain_operators.specs.Operators.{rows_of_items}
use Rattle.plain_operators.specs.Within.{IsItemOf}
use Rattle.plain_meaning.specs.Convert.{item_of}
use Rattle.rewrites.proofs.RowWidths.{fits_rows, wide_rows}
use Rattle.rewrites.proofs.part_rows.selected.Goals as goal

pub rows_of_items-requires : goal.rows_of_items-requires
rows_of_items-requires c =
    let now = λ (row : Bor (List ℕ)). row.now in
    let items = c.deref.result.now in
    let w = length c.args.source.now.columns in
    let e : items ≡ map item_of c.args.select.now.items = c.deref.ensures.value ∙ c.in_ok-items.ensures ∙ ap (map item_of) c.as_slice.ensures.value in
    fits_rows (λ n. All (IsItemOf n) items) now c.deref-2.result.now c.args.source.now.rows w (ap (map now) c.deref-2.ensures.value ∙ c.in_ok-rows.ensures.rows) c.lent_rows.ensures.rectangular
    (All-same (IsItemOf w) items (map item_of c.args.select.now.items) e c.requires.items)

pub table_of-requires : goal.table_of-requires
table_of-requires c =
    let now = λ (row : Bor (List ℕ)). row.now in
    let listed = λ (row : Vec ℕ Global). row.items in
    let items = c.deref.result.now in
    let words = map item_word items in
    let rows = map now c.deref-2.result.now in
    let e : items ≡ map item_of c.args.select.now.items = c.deref.ensures.value ∙ c.in_ok-items.ensures ∙ ap (map item_of) c.as_slice.ensures.value in
    let long : length words ≡ length c.args.columns.now = length-map items item_word ∙ ap length e ∙ length-map c.args.select.now.items item_of ∙ c.requires.same in
    wide_rows now c.deref-4.result.now (rows_of_items words rows) (length words) (length c.args.columns.now)
    (ap (map now) c.deref-4.ensures.value ∙ c.in_ok-lent.ensures ∙ ap (map listed) c.deref-3.ensures.value ∙ c.in_ok-made.ensures)
    (All-map (λ row. length row ≡ length words) (λ row. map (λ item. item row) words) rows (λ k d below. length-map words (λ item. item (get_or rows k d)))) long
