-- The table of the records that were read, beside those that are left.
use Rattle.std.proofs.Common.{◌≡◌, ℕ, ◌+◌, ◌≤◌, Bool, true, false, cond, List, [], ◌∷◌, ◌++◌, Result, Ok, Err, length, refl, sym, ap, ◌∙◌, subst, arith, ◌==◌}
use Rattle.std.proofs.lemmas.List.{append-nil, length-map}
use Rattle.words.specs.Columns.{kinds_of, word_of}
use Rattle.words.specs.declared.column.Column.{Column}
use Rattle.words.specs.declared.column.Kind.{Kind}
use Rattle.tables.specs.Outcome.{Gives, and_then, map_ok}
use Rattle.tables.specs.Content.{Content, with_row}
use Rattle.tables.specs.File.{at_place, fields_fault, row_of, record_rows, table_under, within, words_of}
use Rattle.tables.specs.Records.{BytesReader, IsReading, TakesRecord, unread}
use Rattle.tables.specs.declared.fault.TableFault.{TableFault}
use Rattle.tables.proofs.Fields.{map_ok-push}
use Rattle.tables.proofs.Outcomes.{fits_within, gives_along, no_more, within_fits}

-- behind a header, i records were read into the table, and the reader has the rest of them
pub record RowsSoFar (columns : List Column) (behind : List (List (List ℕ))) (reader : BytesReader) (table : Content) (i : ℕ) : Type 0 where
  pub reading : IsReading reader
  pub same_columns : table.columns ≡ columns
  pub count : length behind ≡ i + length (unread reader)
  pub rows : record_rows 2 (kinds_of columns) behind ≡ map_ok (λ rows. table.rows ++ rows) (record_rows (2 + i) (kinds_of columns) (unread reader))

-- no row before an answer leaves it
map_ok-nil : {E X : Type 0} (r : Result (List X) E) → r ≡ map_ok (λ rows. [] ++ rows) r
map_ok-nil (Ok x) = refl
map_ok-nil (Err e) = refl

pub so_far-start : (columns : List Column) (reader : BytesReader) (table : Content) → IsReading reader → table ≡ record { columns = columns; rows = [] }
    → RowsSoFar columns (unread reader) reader table 0
so_far-start columns reader table reading is =
    let P : Content → Type 0 = λ t. RowsSoFar columns (unread reader) reader t 0 in
    subst P (sym is) (record { reading = reading; same_columns = refl; count = omega arith; rows = map_ok-nil _ })

-- a record that is a row, and the records behind it
rows_step : (line : ℕ) (kinds : List Kind) (fields : List (List ℕ)) (rest : List (List (List ℕ))) (row : List ℕ) → row_of line kinds fields ≡ Ok row
    → record_rows line kinds (fields ∷ rest) ≡ map_ok (λ rows. row ∷ rows) (record_rows (line + 1) kinds rest)
rows_step line kinds fields rest row is = ap (λ first. and_then first (λ words. map_ok (λ rows. words ∷ rows) (record_rows (line + 1) kinds rest))) is

-- one record more
pub so_far-more : (columns : List Column) (behind : List (List (List ℕ))) (old new : BytesReader) (table : Content) (i : ℕ) (fields : List (List ℕ)) (row : List ℕ)
    → RowsSoFar columns behind old table i → TakesRecord old new fields → row_of (2 + i) (kinds_of columns) fields ≡ Ok row
    → RowsSoFar columns behind new (with_row table row) (i + 1)
so_far-more columns behind old new table i fields row before takes is =
    let line : 2 + i + 1 ≡ 2 + (i + 1) = omega arith in
    record {
      reading = takes.reading;
      same_columns = before.same_columns;
      count = omega (arith, before.count, ap length takes.taken);
      rows =
          before.rows
          ∙ ap (λ left. map_ok (λ rows. table.rows ++ rows) (record_rows (2 + i) (kinds_of columns) left)) takes.taken
          ∙ ap (map_ok (λ rows. table.rows ++ rows)) (rows_step (2 + i) (kinds_of columns) fields (unread new) row is)
          ∙ map_ok-push table.rows row _
          ∙ ap (λ n. map_ok (λ rows. (table.rows ++ row ∷ []) ++ rows) (record_rows n (kinds_of columns) (unread new))) line;
    }

whole : (columns : List Column) (table : Content) → table.columns ≡ columns → (let t : Content = record { columns = columns; rows = table.rows ++ [] } in t) ≡ table
whole columns table same =
    ap (λ c. let t : Content = record { columns = c; rows = table.rows ++ [] } in t) (sym same)
    ∙ ap (λ r. let t : Content = record { columns = table.columns; rows = r } in t) (append-nil table.rows)

-- the table's rows where the count of records fits
counted : (columns : List Column) (declared : ℕ) (behind : List (List (List ℕ))) → within declared (length behind) ≡ Ok tt
    → table_under columns declared behind ≡ map_ok (λ rows. record { columns = columns; rows = rows }) (record_rows 2 (kinds_of columns) behind)
counted columns declared behind fits = rw fits refl

-- every record was read
pub so_far-end : (columns : List Column) (behind : List (List (List ℕ))) (reader : BytesReader) (table : Content) (i declared : ℕ)
    → RowsSoFar columns behind reader table i → unread reader ≡ [] → i ≤ declared
    → table_under columns declared behind ≡ Ok table
so_far-end columns behind reader table i declared before none within =
    counted columns declared behind (fits_within declared (length behind) (omega (arith, before.count, ap length none)))
    ∙ ap (map_ok (λ rows. record { columns = columns; rows = rows }))
    (before.rows ∙ ap (λ left. map_ok (λ rows. table.rows ++ rows) (record_rows (2 + i) (kinds_of columns) left)) none)
    ∙ ap Ok (whole columns table before.same_columns)

-- as many as were declared were read, and no more are left
pub so_far-full : (columns : List Column) (behind : List (List (List ℕ))) (reader : BytesReader) (table : Content) (declared : ℕ)
    → RowsSoFar columns behind reader table declared → within declared (declared + length (unread reader)) ≡ Ok tt
    → table_under columns declared behind ≡ Ok table
so_far-full columns behind reader table declared before fits =
    let none = no_more (unread reader) declared (within_fits declared (declared + length (unread reader)) fits) in
    so_far-end columns behind reader table declared declared before none (omega arith)

-- records whose count doesn't fit
over : (columns : List Column) (declared found : ℕ) (behind : List (List (List ℕ))) (fault : TableFault) → length behind ≡ found
    → within declared found ≡ Err fault → table_under columns declared behind ≡ Err fault
over columns declared found behind fault count is = rw (count, is) refl

pub so_far-over : {V : Type 0} (view : V → Unit {0}) (columns : List Column) (behind : List (List (List ℕ))) (reader : BytesReader) (table : Content) (i declared : ℕ) (fault : TableFault)
    → RowsSoFar columns behind reader table i → Gives view (within declared (i + length (unread reader))) (Err fault)
    → Gives {A = Content} {B = Content} (λ t. t) (table_under columns declared behind) (Err fault)
so_far-over view columns behind reader table i declared fault before given =
    gives_along view (λ (t : Content). t) (within declared (i + length (unread reader))) (table_under columns declared behind) fault
    (over columns declared (i + length (unread reader)) behind fault before.count) given

-- the count of records, the one that was taken last with them
pub so_far-count : (columns : List Column) (behind : List (List (List ℕ))) (old new : BytesReader) (table : Content) (i : ℕ) (fields : List (List ℕ))
    → RowsSoFar columns behind old table i → TakesRecord old new fields → length behind ≡ i + 1 + length (unread new)
so_far-count columns behind old new table i fields before takes = omega (arith, before.count, ap length takes.taken)

-- the same behind one more record, which is no row
pub so_far-over-next : {V : Type 0} (view : V → Unit {0}) (columns : List Column) (behind : List (List (List ℕ))) (old new : BytesReader) (table : Content) (i declared : ℕ)
    (fields : List (List ℕ)) (fault : TableFault)
    → RowsSoFar columns behind old table i → TakesRecord old new fields → Gives view (within declared (i + 1 + length (unread new))) (Err fault)
    → Gives {A = Content} {B = Content} (λ t. t) (table_under columns declared behind) (Err fault)
so_far-over-next view columns behind old new table i declared fields fault before takes given =
    gives_along view (λ (t : Content). t) (within declared (i + 1 + length (unread new))) (table_under columns declared behind) fault
    (over columns declared (i + 1 + length (unread new)) behind fault (so_far-count columns behind old new table i fields before takes)) given

-- a record that is no row, where the count of records fits
pub so_far-fails : {V : Type 0} (view : V → List ℕ) (columns : List Column) (behind : List (List (List ℕ))) (old new : BytesReader) (table : Content) (i declared : ℕ)
    (fields : List (List ℕ)) (fault : TableFault)
    → RowsSoFar columns behind old table i → TakesRecord old new fields → within declared (i + 1 + length (unread new)) ≡ Ok tt
    → Gives view (row_of (2 + i) (kinds_of columns) fields) (Err fault)
    → Gives {A = Content} {B = Content} (λ t. t) (table_under columns declared behind) (Err fault)
so_far-fails view columns behind old new table i declared fields fault before takes fits given =
    let first = λ (r : Result (List ℕ) TableFault). and_then r (λ words. map_ok (λ rows. words ∷ rows) (record_rows (2 + i + 1) (kinds_of columns) (unread new))) in
    let content = λ (rows : List (List ℕ)). let t : Content = record { columns = columns; rows = rows } in t in
    gives_along view (λ (t : Content). t) (row_of (2 + i) (kinds_of columns) fields) (table_under columns declared behind) fault
    (λ is. counted columns declared behind (ap (within declared) (so_far-count columns behind old new table i fields before takes) ∙ fits)
    ∙ ap (map_ok content) (before.rows
    ∙ ap (λ left. map_ok (λ rows. table.rows ++ rows) (record_rows (2 + i) (kinds_of columns) left)) takes.taken
    ∙ ap (λ r. map_ok (λ rows. table.rows ++ rows) (first r)) is)) given

-- what an answer's parts are, where it is Ok
and_then-ok : {A B E : Type 0} (r : Result A E) (next : A → Result B E) (y : B) → and_then r next ≡ Ok y → (x : A) × (r ≡ Ok x) × (next x ≡ Ok y)
and_then-ok (Ok x) next y is = (x, refl, is)
and_then-ok (Err e) next y is = cc

map_ok-ok : {A B E : Type 0} (f : A → B) (r : Result A E) (y : B) → map_ok f r ≡ Ok y → (x : A) × (r ≡ Ok x) × (f x ≡ y)
map_ok-ok f (Ok x) y is = (x, refl, cc)
map_ok-ok f (Err e) y is = cc

-- a row has a word for each column
length-words_of : (line column : ℕ) (kinds : List Kind) (fields : List (List ℕ)) (row : List ℕ) → words_of line column kinds fields ≡ Ok row → length row ≡ length kinds
length-words_of line column [] fields row is =
    let none : [] ≡ row = cc in
    sym (ap length none)
length-words_of line column (kind ∷ kinds) [] row is = cc
length-words_of line column (kind ∷ kinds) (field ∷ fields) row is =
    let behind = words_of line (column + 1) kinds fields in
    let first = and_then-ok (at_place line column (word_of kind field)) (λ word. map_ok (λ words. word ∷ words) behind) row is in
    let rest = map_ok-ok (λ words. first.0 ∷ words) behind row first.2 in
    let more = length-words_of line (column + 1) kinds fields rest.0 rest.1 in
    omega (arith, more, ap length rest.2)

row_cases : (b : Bool) (line : ℕ) (kinds : List Kind) (fields : List (List ℕ)) (row : List ℕ) → cond b (words_of line 0 kinds fields) (Err (fields_fault line)) ≡ Ok row
    → length row ≡ length kinds
row_cases true line kinds fields row is = length-words_of line 0 kinds fields row is
row_cases false line kinds fields row is = cc

pub length-row_of : (line : ℕ) (columns : List Column) (fields : List (List ℕ)) (row : List ℕ) → row_of line (kinds_of columns) fields ≡ Ok row
    → length row ≡ length columns
length-row_of line columns fields row is =
    row_cases (length fields == length (kinds_of columns)) line (kinds_of columns) fields row is ∙ length-map columns (λ (c : Column). c.kind)
