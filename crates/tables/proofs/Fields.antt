-- The fields of a record from a place on, beside the columns from that place on.
use Rattle.std.proofs.Common.{◌≡◌, ℕ, zero, suc, ◌+◌, ◌<◌, Bool, true, false, List, [], ◌∷◌, ◌++◌, Option, Some, None, Result, Ok, Err, map, drop, length, get_or, refl, sym, ap, ◌∙◌, add-one, append_assoc, arith, ◌==◌, eq-eqb}
use Rattle.std.specs.Prelude.{◌&&◌, MatchOption}
use Rattle.std.specs.Str.{bytes_eq}
use Rattle.std.proofs.lemmas.List.{drop-map, length-map}
use Rattle.std.proofs.Math.Seq.{drop-cons, drop-nil}
use Rattle.csv.specs.Records.{field_at}
use Rattle.words.specs.Columns.{kinds_of, names_of}
use Rattle.words.specs.declared.column.Column.{Column}
use Rattle.words.specs.declared.column.Kind.{Kind}
use Rattle.tables.specs.Outcome.{Gives, and_then, map_ok}
use Rattle.tables.specs.File.{field_word, is_header, row_of, words_of}
use Rattle.tables.specs.declared.fault.TableFault.{TableFault}
use Rattle.tables.proofs.Outcomes.{gives_along}

-- the fields from a place on begin with the field at that place
abbrev BeginsAt : List (List ℕ) → ℕ → Option (List ℕ) → Type 0
BeginsAt fields i None = drop i fields ≡ []
BeginsAt fields i (Some field) = drop i fields ≡ field ∷ drop (i + 1) fields

begins_later : (f : List ℕ) (fs : List (List ℕ)) (i : ℕ) (o : Option (List ℕ)) → BeginsAt fs i o → BeginsAt (f ∷ fs) (suc i) o
begins_later f fs i None begins = begins
begins_later f fs i (Some field) begins =
    let one : suc i + 1 ≡ suc (i + 1) = omega arith in
    rw one begins

pub begins_at : (fields : List (List ℕ)) (i : ℕ) → BeginsAt fields i (field_at fields i)
unfolding field_at
begins_at [] i = drop-nil i
begins_at (f ∷ fs) zero = refl
begins_at (f ∷ fs) (suc i) = begins_later f fs i (field_at fs i) (begins_at fs i)

-- what columns have, from a place on, begins with what the column at that place has
pub column_rest : {Y : Type 0} (f : Column → Y) (columns : List Column) (i : ℕ) (column : Column) → i < length columns → column ≡ get_or columns i column
    → drop i (map f columns) ≡ f column ∷ drop (i + 1) (map f columns)
column_rest f columns i column inside is =
    drop-map f i columns
    ∙ ap (map f) (drop-cons columns i column inside)
    ∙ ap (λ c. f c ∷ map f (drop (suc i) columns)) (sym is)
    ∙ ap (λ rest. f column ∷ rest) (ap (λ n. map f (drop n columns)) (sym (add-one i)) ∙ sym (drop-map f (i + 1) columns))

-- one column of a header
abbrev IsNamed : Bool → List ℕ → Option (List ℕ) → Type 0
IsNamed same name o = MatchOption o (same ≡ false) (λ field. same ≡ bytes_eq field name)

header_cases : (fields : List (List ℕ)) (i : ℕ) (name : List ℕ) (names : List (List ℕ)) (same : Bool) (o : Option (List ℕ)) → BeginsAt fields i o
    → IsNamed same name o → is_header (name ∷ names) (drop i fields) ≡ (same && is_header names (drop (i + 1) fields))
header_cases fields i name names same None begins named = rw (begins, named) refl
header_cases fields i name names same (Some field) begins named = rw (begins, named) refl

pub header_step : (columns : List Column) (fields : List (List ℕ)) (i : ℕ) (column : Column) (same : Bool) → i < length columns
    → column ≡ get_or columns i column → IsNamed same column.name (field_at fields i)
    → is_header (drop i (names_of columns)) (drop i fields) ≡ (same && is_header (drop (i + 1) (names_of columns)) (drop (i + 1) fields))
header_step columns fields i column same inside is named =
    ap (λ names. is_header names (drop i fields)) (column_rest (λ c. c.name) columns i column inside is)
    ∙ header_cases fields i column.name _ same _ (begins_at fields i) named

-- one field of a row
words_cases : (line i : ℕ) (fields : List (List ℕ)) (kind : Kind) (kinds : List Kind) (o : Option (List ℕ)) → BeginsAt fields i o
    → words_of line i (kind ∷ kinds) (drop i fields)
    ≡ and_then (field_word line i kind o) (λ word. map_ok (λ words. word ∷ words) (words_of line (i + 1) kinds (drop (i + 1) fields)))
words_cases line i fields kind kinds None begins = rw begins refl
words_cases line i fields kind kinds (Some field) begins = rw begins refl

pub words_step : (line : ℕ) (columns : List Column) (fields : List (List ℕ)) (i : ℕ) (column : Column) → i < length columns → column ≡ get_or columns i column
    → words_of line i (drop i (kinds_of columns)) (drop i fields)
    ≡ and_then (field_word line i column.kind (field_at fields i))
    (λ word. map_ok (λ words. word ∷ words) (words_of line (i + 1) (drop (i + 1) (kinds_of columns)) (drop (i + 1) fields)))
words_step line columns fields i column inside is =
    ap (λ kinds. words_of line i kinds (drop i fields)) (column_rest (λ c. c.kind) columns i column inside is)
    ∙ words_cases line i fields column.kind _ _ (begins_at fields i)

-- words behind a word are those behind the row with that word
pub map_ok-push : {E X : Type 0} (row : List X) (word : X) (rest : Result (List X) E)
    → map_ok (λ words. row ++ words) (map_ok (λ words. word ∷ words) rest) ≡ map_ok (λ words. (row ++ word ∷ []) ++ words) rest
map_ok-push row word (Err e) = refl
map_ok-push row word (Ok words) = ap Ok (sym (append_assoc row (word ∷ []) words))

-- the words so far after one more field
pub words_more : (line : ℕ) (columns : List Column) (fields : List (List ℕ)) (i : ℕ) (column : Column) (row : List ℕ) (word : ℕ) → i < length columns
    → column ≡ get_or columns i column
    → words_of line 0 (kinds_of columns) fields ≡ map_ok (λ words. row ++ words) (words_of line i (drop i (kinds_of columns)) (drop i fields))
    → field_word line i column.kind (field_at fields i) ≡ Ok word
    → words_of line 0 (kinds_of columns) fields
    ≡ map_ok (λ words. (row ++ word ∷ []) ++ words) (words_of line (i + 1) (drop (i + 1) (kinds_of columns)) (drop (i + 1) fields))
words_more line columns fields i column row word inside is so_far read =
    so_far
    ∙ ap (map_ok (λ words. row ++ words)) (rw read at (words_step line columns fields i column inside is))
    ∙ map_ok-push row word _

-- a field that is no value spoils the row
pub words_fail : (line : ℕ) (columns : List Column) (fields : List (List ℕ)) (i : ℕ) (column : Column) (row : List ℕ) (fault : TableFault) → i < length columns
    → column ≡ get_or columns i column
    → words_of line 0 (kinds_of columns) fields ≡ map_ok (λ words. row ++ words) (words_of line i (drop i (kinds_of columns)) (drop i fields))
    → field_word line i column.kind (field_at fields i) ≡ Err fault
    → words_of line 0 (kinds_of columns) fields ≡ Err fault
words_fail line columns fields i column row fault inside is so_far read =
    so_far ∙ ap (map_ok (λ words. row ++ words)) (rw read at (words_step line columns fields i column inside is))

same_width : (columns : List Column) (fields : List (List ℕ)) → length fields ≡ length columns → (length fields == length (kinds_of columns)) ≡ true
same_width columns fields wide = rw (length-map, wide) (eq-eqb (length columns) (length columns) refl)

-- a field that is no value is told as the row's fault
pub row_fails : {B : Type 0} (view : B → List ℕ) (line : ℕ) (columns : List Column) (fields : List (List ℕ)) (i : ℕ) (column : Column) (row : List ℕ) (fault : TableFault)
    → i < length columns → column ≡ get_or columns i column → length fields ≡ length columns
    → words_of line 0 (kinds_of columns) fields ≡ map_ok (λ words. row ++ words) (words_of line i (drop i (kinds_of columns)) (drop i fields))
    → Gives {A = ℕ} {B = ℕ} (λ word. word) (field_word line i column.kind (field_at fields i)) (Err fault)
    → Gives view (row_of line (kinds_of columns) fields) (Err fault)
row_fails view line columns fields i column row fault inside is wide so_far given =
    gives_along (λ (word : ℕ). word) view (field_word line i column.kind (field_at fields i)) (row_of line (kinds_of columns) fields) fault
    (λ read. rw (same_width columns fields wide) (words_fail line columns fields i column row fault inside is so_far read)) given
