-- One more row of a table, one more field of a record, and one more record of an answer.
use Rattle.std.proofs.Common.{◌≡◌, ℕ, zero, suc, ◌+◌, ◌<◌, nat_eq, true, List, [], ◌∷◌, ◌++◌, Bor, Some, map, take, length, get_or, refl, sym, ap, ◌∙◌, arith, add-one}
use Rattle.std.specs.Prelude.{All, slice_get}
use Rattle.std.proofs.lemmas.Bool.Decides.{nat_tests}
use Rattle.std.proofs.lemmas.List.{flat_map_more, map_more}
use Rattle.std.proofs.lemmas.List.Elements.{All-weaker}
use Rattle.bags.specs.Sorted.{sorted}
use Rattle.bags.specs.Laws.{BagsAreEquivalence, BagsKeepRows, SortedIsInOrder, SortedTellsBags}
use Rattle.csv.specs.Writing.{default_writer, row_text}
use Rattle.words.specs.Columns.{kinds_of, names_of}
use Rattle.words.specs.declared.column.Column.{Column}
use Rattle.tables.specs.Content.{Content, IsRectangular}
use Rattle.tables.specs.Answer.{AnswersOfEqualBags, fields_written_of, record_text, rows_text, written}

pub take_found : (rows : List (List ℕ)) (i : ℕ) (row : List ℕ) → slice_get rows i ≡ Some row → take (i + 1) rows ≡ take i rows ++ row ∷ []
take_found [] i row found = cc
take_found (x ∷ xs) zero row found = cc
take_found (x ∷ xs) (suc i) row found = simp add-one (ap (λ l. x ∷ l) (simp add-one at (take_found xs i row found)))

pub fields_more : (columns : List Column) (row : List ℕ) (i : ℕ) (d : Column) → i < length row → length row ≡ length columns
    → fields_written_of (kinds_of columns) (take (i + 1) row) ≡ fields_written_of (kinds_of columns) (take i row) ++ written (get_or columns i d).kind (get_or row i 0) ∷ []
fields_more columns [] i d below long = absurd (omega arith)
fields_more [] (w ∷ ws) i d below long = absurd (omega arith)
fields_more (c ∷ cs) (w ∷ ws) zero d below long = refl
fields_more (c ∷ cs) (w ∷ ws) (suc i) d below long =
    let rest = fields_more cs ws i d (omega arith) (omega arith) in
    simp add-one (ap (λ l. written c.kind w ∷ l) (simp add-one at rest))

-- one more record behind the header and the records of the rows before
pub rows_text_more : (columns : List Column) (rows : List (Bor (List ℕ))) (i : ℕ) (d : Bor (List ℕ)) → i < length rows
    → rows_text columns (map (λ row. row.now) (take (i + 1) rows)) ≡ rows_text columns (map (λ row. row.now) (take i rows)) ++ record_text columns (get_or rows i d).now
rows_text_more columns rows i d below =
    let before = map (λ row. row.now) (take i rows) in
    ap (rows_text columns) (map_more (λ row. row.now) rows i d below) ∙ sym (flat_map_more (record_text columns) (row_text default_writer (names_of columns)) before (get_or rows i d).now)

long_passes : (width : ℕ) (row : List ℕ) → length row ≡ width → nat_eq (length row) width ≡ true
long_passes width row long = grind (arith, nat_tests)

passes_long : (width : ℕ) (row : List ℕ) → nat_eq (length row) width ≡ true → length row ≡ width
passes_long width row passes = grind (arith, nat_tests)

pub sorted_rectangular : BagsAreEquivalence → BagsKeepRows → SortedIsInOrder → (table : Content) → IsRectangular table → All (λ row. length row ≡ length table.columns) (sorted table.rows)
sorted_rectangular bags keep order table wide =
    let width = length table.columns in
    let same = bags.back (sorted table.rows) table.rows (order.same_bag table.rows) in
    let all = All-weaker (λ row. length row ≡ width) (λ row. nat_eq (length row) width ≡ true) (long_passes width) table.rows wide in
    All-weaker (λ row. nat_eq (length row) width ≡ true) (λ row. length row ≡ width) (passes_long width) (sorted table.rows) (keep.tests (λ row. nat_eq (length row) width) table.rows (sorted table.rows) same all)

pub answers_of_bags : SortedTellsBags → AnswersOfEqualBags
answers_of_bags tells a b same_columns bag =
    let same_rows : sorted a.rows ≡ sorted b.rows = (tells a.rows b.rows).0 bag in
    λ i. rows_text (same_columns i) (same_rows i)
