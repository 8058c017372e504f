-- The fault of a file is its first.
use Rattle.std.proofs.Common.{◌≡◌, ℕ, suc, ◌+◌, ◌≤◌, ◌<◌, Bool, true, false, if◌then◌else◌, nat_lt, arith, List, [], ◌∷◌, length, Result, Ok, Err, refl, sym, ap, ◌∙◌, subst}
use Rattle.std.specs.Prelude.{◌≢◌}
use Rattle.std.proofs.lemmas.Bool.Decides.{nat_tests}
use Rattle.std.proofs.lemmas.Grind.{common_steps}
use Rattle.std.proofs.lemmas.List.{length-map}
use Rattle.words.specs.Columns.{kinds_of, names_of}
use Rattle.words.specs.declared.column.Column.{Column}
use Rattle.words.specs.declared.column.Kind.{Kind}
use Rattle.tables.specs.Content.{Content}
use Rattle.tables.specs.File as file
use Rattle.tables.specs.Outcome.{and_then, map_ok}
use Rattle.tables.specs.declared.fault.TableFault.{TableFault}
use Rattle.tables.specs.declared.fault.TableFault.TheVariants.{Header, Rows, Fields, Value, Memory}
use Rattle.table_laws.specs.Files.{IsHeaded, records_of}
use Rattle.table_laws.specs.Faults.{FaultsAreFirst, IsFirst, IsFirstFault, IsRow, IsWrongAt, StopsAt}
use Rattle.table_laws.proofs.Files.{header_is, is_header_of}
use Rattle.table_laws.proofs.Rows.{IsRowFault, first_here, first_later, row_fault, row_read}

-- the first record of these that has a fault, the first one having this number
record StopsIn (line : ℕ) (kinds : List Kind) (records : List (List (List ℕ))) (fault : TableFault) : Type 0 where
  place : ℕ
  fields : List (List ℕ)
  first : IsFirst (IsRow kinds) records place fields
  here : IsRowFault (line + place) kinds fields fault

stops_later : (line : ℕ) (kinds : List Kind) (before : List (List ℕ)) (records : List (List (List ℕ))) (fault : TableFault) → IsRow kinds before
    → StopsIn (line + 1) kinds records fault → StopsIn line kinds (before ∷ records) fault
stops_later line kinds before records fault row stops =
    let number : line + 1 + stops.place ≡ line + suc stops.place = omega arith in
    record { place = suc stops.place; fields = stops.fields; first = first_later (IsRow kinds) before stops.fields records stops.place row stops.first; here = subst (λ n. IsRowFault n kinds stops.fields fault) number stops.here }

record_step : (line : ℕ) (kinds : List Kind) (first : List (List ℕ)) (rest : List (List (List ℕ))) (read : Result (List ℕ) TableFault) (others : Result (List (List ℕ)) TableFault) (fault : TableFault)
    → ((row : List ℕ) → read ≡ Ok row → IsRow kinds first) → ((why : TableFault) → read ≡ Err why → IsRowFault line kinds first why) → (others ≡ Err fault → StopsIn (line + 1) kinds rest fault)
    → and_then read (λ row. map_ok (λ rows. row ∷ rows) others) ≡ Err fault → StopsIn line kinds (first ∷ rest) fault
record_step line kinds first rest (Ok row) (Ok more) fault good bad behind all = cc
record_step line kinds first rest (Ok row) (Err other) fault good bad behind all =
    stops_later line kinds first rest fault (good row refl) (behind (let same : other ≡ fault = cc in ap Err same))
record_step line kinds first rest (Err why) others fault good bad behind all =
    let same : why ≡ fault = cc in
    let number : line ≡ line + 0 = omega arith in
    record { place = 0; fields = first; first = first_here (IsRow kinds) first rest; here = subst (λ n. IsRowFault n kinds first fault) number (subst (IsRowFault line kinds first) same (bad why refl)) }

records_fault : (line : ℕ) (kinds : List Kind) (records : List (List (List ℕ))) (fault : TableFault) → file.record_rows line kinds records ≡ Err fault → StopsIn line kinds records fault
records_fault line kinds [] fault all = cc
records_fault line kinds (first ∷ rest) fault all =
    record_step line kinds first rest (file.row_of line kinds first) (file.record_rows (line + 1) kinds rest) fault
    (λ row here. (row, row_read line kinds first row here)) (row_fault line kinds first) (records_fault (line + 1) kinds rest fault) all

-- that record in its file
stops_at : (columns : List Column) (declared : ℕ) (bytes : List ℕ) (behind : List (List (List ℕ))) (line : ℕ) (fault : TableFault) (stops : StopsIn 2 (kinds_of columns) behind fault)
    (IsFaulty : List (List ℕ) → Type 0) → IsHeaded columns bytes behind → length behind ≤ declared → line ≡ 2 + stops.place → IsFaulty stops.fields → StopsAt columns declared bytes line IsFaulty
stops_at columns declared bytes behind line fault stops IsFaulty headed few number faulty =
    record { behind = behind; headed = headed; few = few; place = stops.place; fields = stops.fields; first = stops.first; number = omega (arith, number); faulty = faulty }

at_record : (columns : List Column) (declared : ℕ) (bytes : List ℕ) (behind : List (List (List ℕ))) (fault : TableFault) → IsHeaded columns bytes behind → length behind ≤ declared
    → StopsIn 2 (kinds_of columns) behind fault → IsFirstFault columns declared bytes fault
at_record columns declared bytes behind Header headed few stops = absurd stops.here
at_record columns declared bytes behind (Rows most found) headed few stops = absurd stops.here
at_record columns declared bytes behind (Fields line) headed few stops =
    stops_at columns declared bytes behind line (Fields line) stops (λ fields. length fields ≢ length columns) headed few stops.here.0
    (subst (λ n. length stops.fields ≢ n) (length-map columns (λ (c : Column). c.kind)) stops.here.1)
at_record columns declared bytes behind (Value line column why) headed few stops =
    stops_at columns declared bytes behind line (Value line column why) stops (λ fields. IsWrongAt (kinds_of columns) fields column why) headed few stops.here.0 stops.here.1
at_record columns declared bytes behind Memory headed few stops = absurd stops.here

under_step : (columns : List Column) (declared : ℕ) (bytes : List ℕ) (rest : List (List (List ℕ))) (over : Bool) (rows : Result (List (List ℕ)) TableFault) (fault : TableFault)
    → IsHeaded columns bytes rest → nat_lt declared (length rest) ≡ over → file.record_rows 2 (kinds_of columns) rest ≡ rows
    → and_then (if over then Err (file.rows_fault declared (length rest)) else Ok (tt {0})) (λ _. map_ok (λ rows. (let t : Content = record { columns = columns; rows = rows } in t)) rows) ≡ Err fault
    → IsFirstFault columns declared bytes fault
under_step columns declared bytes rest true rows fault headed far read is =
    let same : Rows declared (length rest) ≡ fault = cc in
    let over : declared < length rest = grind (arith, nat_tests) in
    subst (IsFirstFault columns declared bytes) same (refl, record { behind = rest; headed = headed; counted = refl; over = over })
under_step columns declared bytes rest false (Ok rows) fault headed far read is = cc
under_step columns declared bytes rest false (Err why) fault headed far read is =
    let same : why ≡ fault = cc in
    let few : length rest ≤ declared = grind (arith, common_steps) in
    at_record columns declared bytes rest fault headed few (records_fault 2 (kinds_of columns) rest fault (read ∙ ap Err same))

not_headed : (columns : List Column) (bytes : List ℕ) (header : List (List ℕ)) (rest : List (List (List ℕ))) → records_of bytes ≡ header ∷ rest → file.is_header (names_of columns) header ≡ false
    → (behind : List (List (List ℕ))) → IsHeaded columns bytes behind → ⊥
not_headed columns bytes header rest are named behind headed =
    let both : header ∷ rest ≡ names_of columns ∷ behind = sym are ∙ headed in
    let same : header ≡ names_of columns = cc in
    let yes : file.is_header (names_of columns) header ≡ true = rw same (is_header_of (names_of columns)) in
    (let no : false ≡ true = sym named ∙ yes in cc)

header_step : (columns : List Column) (declared : ℕ) (bytes : List ℕ) (header : List (List ℕ)) (rest : List (List (List ℕ))) (named : Bool) (fault : TableFault)
    → records_of bytes ≡ header ∷ rest → file.is_header (names_of columns) header ≡ named
    → (if named then file.table_under columns declared rest else Err file.header_fault) ≡ Err fault → IsFirstFault columns declared bytes fault
header_step columns declared bytes header rest false fault are named is =
    let same : Header ≡ fault = cc in
    subst (IsFirstFault columns declared bytes) same (not_headed columns bytes header rest are named)
header_step columns declared bytes header rest true fault are named is =
    under_step columns declared bytes rest (nat_lt declared (length rest)) (file.record_rows 2 (kinds_of columns) rest) fault
    (are ∙ ap (λ h. h ∷ rest) (header_is (names_of columns) header named)) refl refl is

table_fault : (columns : List Column) (declared : ℕ) (bytes : List ℕ) (records : List (List (List ℕ))) (fault : TableFault) → records_of bytes ≡ records
    → file.table_of columns declared records ≡ Err fault → IsFirstFault columns declared bytes fault
table_fault columns declared bytes [] fault are is =
    let same : Header ≡ fault = cc in
    subst (IsFirstFault columns declared bytes) same (λ behind headed. let both : [] ≡ names_of columns ∷ behind = sym are ∙ headed in cc)
table_fault columns declared bytes (header ∷ rest) fault are is = header_step columns declared bytes header rest (file.is_header (names_of columns) header) fault are refl is

pub faults_are_first : FaultsAreFirst
faults_are_first columns declared bytes fault is = table_fault columns declared bytes (records_of bytes) fault refl is
