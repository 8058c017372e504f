-- Reading a file: the records behind its header, and its table.
use Rattle.std.proofs.Common.{◌≡◌, ℕ, suc, ◌+◌, ◌≤◌, Bool, true, false, if◌then◌else◌, nat_lt, arith, List, [], ◌∷◌, length, Result, Ok, Err, refl, ap, subst}
use Rattle.std.specs.List.{AllZip}
use Rattle.std.proofs.lemmas.Bool.Decides.{nat_tests}
use Rattle.std.proofs.lemmas.Grind.{common_steps}
use Rattle.std.proofs.lemmas.Slice.Eq.{bytes_eq-Decides, slice_eq-Decides}
use Rattle.words.specs.Columns.{kinds_of, names_of}
use Rattle.words.specs.declared.column.Column.{Column}
use Rattle.words.specs.declared.column.Kind.{Kind}
use Rattle.tables.specs.Content.{Content}
use Rattle.tables.specs.File as file
use Rattle.tables.specs.Outcome.{and_then, map_ok}
use Rattle.tables.specs.declared.fault.TableFault.{TableFault}
use Rattle.table_laws.specs.Files.{FilesAreTables, WritesRow, records_of}
use Rattle.table_laws.proofs.Rows.{row_back, row_read}

-- as many of each
pub all_zip_lengths : {A B : Type 0} (R : A → B → Type 0) (xs : List A) (ys : List B) → AllZip R xs ys → length xs ≡ length ys
all_zip_lengths R [] [] all = refl
all_zip_lengths R [] (y ∷ ys) all = absurd all
all_zip_lengths R (x ∷ xs) [] all = absurd all
all_zip_lengths R (x ∷ xs) (y ∷ ys) all = ap suc (all_zip_lengths R xs ys all.1)

record_step : (kinds : List Kind) (first : List (List ℕ)) (rest : List (List (List ℕ))) (read : Result (List ℕ) TableFault) (others : Result (List (List ℕ)) TableFault) (rows : List (List ℕ))
    → ((row : List ℕ) → read ≡ Ok row → WritesRow kinds first row) → ((more : List (List ℕ)) → others ≡ Ok more → AllZip (WritesRow kinds) rest more)
    → and_then read (λ row. map_ok (λ rows. row ∷ rows) others) ≡ Ok rows → AllZip (WritesRow kinds) (first ∷ rest) rows
record_step kinds first rest (Ok row) (Ok more) rows here behind all =
    let same : row ∷ more ≡ rows = cc in
    subst (AllZip (WritesRow kinds) (first ∷ rest)) same (here row refl, behind more refl)
record_step kinds first rest (Ok row) (Err fault) rows here behind all = cc
record_step kinds first rest (Err fault) others rows here behind all = cc

records_read : (line : ℕ) (kinds : List Kind) (records : List (List (List ℕ))) (rows : List (List ℕ)) → file.record_rows line kinds records ≡ Ok rows → AllZip (WritesRow kinds) records rows
records_read line kinds [] rows all =
    let same : [] ≡ rows = cc in
    subst (AllZip (WritesRow kinds) []) same tt
records_read line kinds (first ∷ rest) rows all =
    record_step kinds first rest (file.row_of line kinds first) (file.record_rows (line + 1) kinds rest) rows (row_read line kinds first) (records_read (line + 1) kinds rest) all

records_back : (line : ℕ) (kinds : List Kind) (records : List (List (List ℕ))) (rows : List (List ℕ)) → AllZip (WritesRow kinds) records rows → file.record_rows line kinds records ≡ Ok rows
records_back line kinds [] [] all = refl
records_back line kinds [] (row ∷ rows) all = absurd all
records_back line kinds (first ∷ rest) [] all = absurd all
records_back line kinds (first ∷ rest) (row ∷ rows) all = rw (row_back line kinds first row all.0, records_back (line + 1) kinds rest rows all.1) refl

-- a first record is the names where they are equal
pub header_is : (names header : List (List ℕ)) → file.is_header names header ≡ true → header ≡ names
header_is names header same = (slice_eq-Decides bytes_eq-Decides header names (file.is_header names header) refl).0 same

pub is_header_of : (names : List (List ℕ)) → file.is_header names names ≡ true
is_header_of names = (slice_eq-Decides bytes_eq-Decides names names (file.is_header names names) refl).1 refl

-- the table of records: its header, and a row for each record behind it
pub record IsTableOfRecords (columns : List Column) (declared : ℕ) (records : List (List (List ℕ))) (table : Content) : Type 0 where
  pub same : table.columns ≡ columns
  pub few : length table.rows ≤ declared
  pub behind : List (List (List ℕ))
  pub headed : records ≡ names_of columns ∷ behind
  pub rows : AllZip (WritesRow (kinds_of columns)) behind table.rows

under_step : (columns : List Column) (declared : ℕ) (header : List (List ℕ)) (rest : List (List (List ℕ))) (over : Bool) (rows : Result (List (List ℕ)) TableFault) (table : Content)
    → header ≡ names_of columns → nat_lt declared (length rest) ≡ over → file.record_rows 2 (kinds_of columns) rest ≡ rows
    → and_then (if over then Err (file.rows_fault declared (length rest)) else Ok (tt {0})) (λ _. map_ok (λ rows. record { columns = columns; rows = rows }) rows) ≡ Ok table
    → IsTableOfRecords columns declared (header ∷ rest) table
under_step columns declared header rest true rows table named far read is = cc
under_step columns declared header rest false (Err fault) table named far read is = cc
under_step columns declared header rest false (Ok rows) table named far read is =
    let made : Content = record { columns = columns; rows = rows } in
    let same : made ≡ table = cc in
    let all = records_read 2 (kinds_of columns) rest rows read in
    let most : length rest ≤ declared = grind (arith, common_steps) in
    let few : length rows ≤ declared = omega (arith, all_zip_lengths (WritesRow (kinds_of columns)) rest rows all) in
    subst (IsTableOfRecords columns declared (header ∷ rest)) same (record { same = refl; few = few; behind = rest; headed = ap (λ h. h ∷ rest) named; rows = all })

header_step : (columns : List Column) (declared : ℕ) (header : List (List ℕ)) (rest : List (List (List ℕ))) (named : Bool) (table : Content) → file.is_header (names_of columns) header ≡ named
    → (if named then file.table_under columns declared rest else Err file.header_fault) ≡ Ok table → IsTableOfRecords columns declared (header ∷ rest) table
header_step columns declared header rest false table named is = cc
header_step columns declared header rest true table named is =
    under_step columns declared header rest (nat_lt declared (length rest)) (file.record_rows 2 (kinds_of columns) rest) table (header_is (names_of columns) header named) refl refl is

table_read : (columns : List Column) (declared : ℕ) (records : List (List (List ℕ))) (table : Content) → file.table_of columns declared records ≡ Ok table → IsTableOfRecords columns declared records table
table_read columns declared [] table is = cc
table_read columns declared (header ∷ rest) table is = header_step columns declared header rest (file.is_header (names_of columns) header) table refl is

-- and back
within_few : (declared found : ℕ) → found ≤ declared → file.within declared found ≡ Ok tt
within_few declared found few = grind (arith, nat_tests)

same_table : (columns : List Column) (table : Content) → table.columns ≡ columns → record { columns = columns; rows = table.rows } ≡ table
same_table columns table same = rw (← same) refl

table_back : (columns : List Column) (declared : ℕ) (records : List (List (List ℕ))) (table : Content) → IsTableOfRecords columns declared records table → file.table_of columns declared records ≡ Ok table
table_back columns declared records table is =
    let few : length is.behind ≤ declared = omega (arith, is.few, all_zip_lengths (WritesRow (kinds_of columns)) is.behind table.rows is.rows) in
    rw (is.headed, is_header_of (names_of columns), within_few declared (length is.behind) few, records_back 2 (kinds_of columns) is.behind table.rows is.rows) (ap Ok (same_table columns table is.same))

pub files_are_tables : FilesAreTables
files_are_tables columns declared bytes table = (
  (λ is. let t = table_read columns declared (records_of bytes) table is in record { same = t.same; few = t.few; behind = t.behind; headed = t.headed; rows = t.rows }),
  (λ is. table_back columns declared (records_of bytes) table (record { same = is.same; few = is.few; behind = is.behind; headed = is.headed; rows = is.rows })),
)
