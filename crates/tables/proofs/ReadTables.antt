-- What is read under a declaration has its columns, at most its rows, and rows of words as long as the columns.
use Rattle.std.proofs.Common.{◌≡◌, ℕ, suc, ◌+◌, ◌≤◌, ◌<◌, ◌^◌, Bool, true, false, if◌then◌else◌, nat_lt, arith, List, [], ◌∷◌, length, Result, Ok, Err, refl, sym, ap, ◌∙◌, subst}
use Rattle.std.specs.Prelude.{◌==◌, All}
use Rattle.std.specs.Str.Parse.{digits_value}
use Rattle.std.proofs.lemmas.Bool.Decides.{nat_tests}
use Rattle.std.proofs.lemmas.Grind.{common_steps}
use Rattle.std.proofs.lemmas.List.{length-map}
use Rattle.std.proofs.lemmas.List.Elements.{All-cons, All-nil}
use Rattle.words.specs.Columns.{kinds_of, names_of, word_of}
use Rattle.words.specs.Numbers.{as_word, is_decimal, number_of}
use Rattle.words.specs.declared.column.Column.{Column}
use Rattle.words.specs.declared.column.Kind.{Kind}
use Rattle.words.specs.declared.column.Kind.TheVariants as kinds
use Rattle.words.specs.declared.num.ValueFault.{ValueFault}
use Rattle.words.specs.Texts.{TextsAreWords}
use Rattle.words.specs.declared.num.ValueFault.TheVariants.{NotNumber, TooLarge}
use Rattle.tables.specs.Content.{Content}
use Rattle.tables.specs.File as file
use Rattle.tables.specs.File.{FitsDeclaration, ReadTablesFit, table_in}
use Rattle.tables.specs.Outcome.{and_then, map_ok}
use Rattle.tables.specs.declared.fault.TableFault.{TableFault}

count_step : {A : Type 0} (first : Result A TableFault) (others : Result (List A) TableFault) (n : ℕ) (all : List A) → ((more : List A) → others ≡ Ok more → length more ≡ n)
    → and_then first (λ x. map_ok (λ xs. x ∷ xs) others) ≡ Ok all → length all ≡ suc n
count_step (Ok x) (Ok more) n all count is =
    let same : x ∷ more ≡ all = cc in
    sym (ap length same) ∙ ap suc (count more refl)
count_step (Ok x) (Err fault) n all count is = cc
count_step (Err fault) others n all count is = cc

words_count : (line column : ℕ) (kinds : List Kind) (fields : List (List ℕ)) (words : List ℕ) → file.words_of line column kinds fields ≡ Ok words → length words ≡ length kinds
words_count line column [] fields words is =
    let same : [] ≡ words = cc in
    sym (ap length same)
words_count line column (kind ∷ kinds) [] words is = cc
words_count line column (kind ∷ kinds) (field ∷ fields) words is =
    count_step (file.at_place line column (word_of kind field)) (file.words_of line (column + 1) kinds fields) (length kinds) words
    (λ more here. words_count line (column + 1) kinds fields more here) is

row_step : (line : ℕ) (kinds : List Kind) (fields : List (List ℕ)) (fits : Bool) (row : List ℕ)
    → (if fits then file.words_of line 0 kinds fields else Err (file.fields_fault line)) ≡ Ok row → length row ≡ length kinds
row_step line kinds fields true row is = words_count line 0 kinds fields row is
row_step line kinds fields false row is = cc

row_count : (line : ℕ) (kinds : List Kind) (fields : List (List ℕ)) (row : List ℕ) → file.row_of line kinds fields ≡ Ok row → length row ≡ length kinds
row_count line kinds fields row is = row_step line kinds fields (length fields == length kinds) row is

-- the word of a field is below 2^64
number_step : (digits : Bool) (n word : ℕ) → (if digits then as_word n else Err NotNumber) ≡ (let r : Result ℕ ValueFault = Ok word in r) → as_word n ≡ Ok word
number_step true n word is = is
number_step false n word is = cc

fits_step : (fits : Bool) (n word : ℕ) → nat_lt n (2 ^ 64) ≡ fits → (if fits then Ok n else Err TooLarge) ≡ (let r : Result ℕ ValueFault = Ok word in r) → word < 2 ^ 64
fits_step true n word below is =
    let same : n ≡ word = cc in
    subst (λ w. w < 2 ^ 64) same (grind (arith, nat_tests))
fits_step false n word below is = cc

number_below : (bytes : List ℕ) (word : ℕ) → number_of bytes ≡ Ok word → word < 2 ^ 64
unfolding number_of
number_below bytes word is = fits_step (nat_lt (digits_value 10 bytes) (2 ^ 64)) (digits_value 10 bytes) word refl (number_step (is_decimal bytes) (digits_value 10 bytes) word is)

field_below : TextsAreWords → (kind : Kind) (bytes : List ℕ) (word : ℕ) → word_of kind bytes ≡ Ok word → word < 2 ^ 64
field_below texts kinds.Num bytes word is = number_below bytes word is
field_below texts kinds.Text bytes word is = texts bytes word is
field_below texts kinds.Flag bytes word is = number_below bytes word is

placed_below : (line column : ℕ) (read : Result ℕ ValueFault) (word : ℕ) → ((w : ℕ) → read ≡ Ok w → w < 2 ^ 64) → file.at_place line column read ≡ Ok word → word < 2 ^ 64
placed_below line column (Ok w) word below is =
    let same : w ≡ word = cc in
    subst (λ w. w < 2 ^ 64) same (below w refl)
placed_below line column (Err fault) word below is = cc

-- a first and others of which P holds
each_step : {A : Type 0} (P : A → Type 0) (first : Result A TableFault) (others : Result (List A) TableFault) (all : List A) → ((x : A) → first ≡ Ok x → P x)
    → ((more : List A) → others ≡ Ok more → All P more) → and_then first (λ x. map_ok (λ xs. x ∷ xs) others) ≡ Ok all → All P all
each_step P (Ok x) (Ok more) all here behind is =
    let same : x ∷ more ≡ all = cc in
    subst (All P) same (All-cons P x more (here x refl) (behind more refl))
each_step P (Ok x) (Err fault) all here behind is = cc
each_step P (Err fault) others all here behind is = cc

words_below : TextsAreWords → (line column : ℕ) (kinds : List Kind) (fields : List (List ℕ)) (words : List ℕ) → file.words_of line column kinds fields ≡ Ok words → All (λ word. word < 2 ^ 64) words
words_below texts line column [] fields words is =
    let same : [] ≡ words = cc in
    subst (All (λ word. word < 2 ^ 64)) same (All-nil (λ word. word < 2 ^ 64))
words_below texts line column (kind ∷ kinds) [] words is = cc
words_below texts line column (kind ∷ kinds) (field ∷ fields) words is =
    each_step (λ word. word < 2 ^ 64) (file.at_place line column (word_of kind field)) (file.words_of line (column + 1) kinds fields) words
    (λ word read. placed_below line column (word_of kind field) word (field_below texts kind field) read) (λ more here. words_below texts line (column + 1) kinds fields more here) is

row_words : TextsAreWords → (line : ℕ) (kinds : List Kind) (fields : List (List ℕ)) (fits : Bool) (row : List ℕ)
    → (if fits then file.words_of line 0 kinds fields else Err (file.fields_fault line)) ≡ Ok row → All (λ word. word < 2 ^ 64) row
row_words texts line kinds fields true row is = words_below texts line 0 kinds fields row is
row_words texts line kinds fields false row is = cc

rows_words : TextsAreWords → (line : ℕ) (kinds : List Kind) (records : List (List (List ℕ))) (rows : List (List ℕ)) → file.record_rows line kinds records ≡ Ok rows → All (λ row. All (λ word. word < 2 ^ 64) row) rows
rows_words texts line kinds [] rows is =
    let same : [] ≡ rows = cc in
    subst (All (λ row. All (λ word. word < 2 ^ 64) row)) same (All-nil (λ row. All (λ word. word < 2 ^ 64) row))
rows_words texts line kinds (first ∷ rest) rows is =
    each_step (λ row. All (λ word. word < 2 ^ 64) row) (file.row_of line kinds first) (file.record_rows (line + 1) kinds rest) rows
    (λ row read. row_words texts line kinds first (length first == length kinds) row read) (λ more here. rows_words texts (line + 1) kinds rest more here) is

rows_wide : (line : ℕ) (kinds : List Kind) (records : List (List (List ℕ))) (rows : List (List ℕ)) → file.record_rows line kinds records ≡ Ok rows → All (λ row. length row ≡ length kinds) rows
rows_wide line kinds [] rows is =
    let same : [] ≡ rows = cc in
    subst (All (λ row. length row ≡ length kinds)) same (All-nil (λ row. length row ≡ length kinds))
rows_wide line kinds (first ∷ rest) rows is =
    each_step (λ row. length row ≡ length kinds) (file.row_of line kinds first) (file.record_rows (line + 1) kinds rest) rows (row_count line kinds first) (λ more here. rows_wide (line + 1) kinds rest more here) is

rows_count : (line : ℕ) (kinds : List Kind) (records : List (List (List ℕ))) (rows : List (List ℕ)) → file.record_rows line kinds records ≡ Ok rows → length rows ≡ length records
rows_count line kinds [] rows is =
    let same : [] ≡ rows = cc in
    sym (ap length same)
rows_count line kinds (first ∷ rest) rows is =
    count_step (file.row_of line kinds first) (file.record_rows (line + 1) kinds rest) (length rest) rows (λ more here. rows_count (line + 1) kinds rest more here) is

under_step : TextsAreWords → (columns : List Column) (declared : ℕ) (rest : List (List (List ℕ))) (over : Bool) (rows : Result (List (List ℕ)) TableFault) (t : Content) → nat_lt declared (length rest) ≡ over
    → file.record_rows 2 (kinds_of columns) rest ≡ rows
    → and_then (if over then Err (file.rows_fault declared (length rest)) else Ok (tt {0})) (λ _. map_ok (λ rows. record { columns = columns; rows = rows }) rows) ≡ Ok t
    → FitsDeclaration columns declared t
under_step texts columns declared rest true rows t far read is = cc
under_step texts columns declared rest false (Err fault) t far read is = cc
under_step texts columns declared rest false (Ok rows) t far read is =
    let made : Content = record { columns = columns; rows = rows } in
    let same : made ≡ t = cc in
    let few : length rest ≤ declared = grind (arith, common_steps) in
    let wide : All (λ row. length row ≡ length columns) rows =
    subst (λ n. All (λ row. length row ≡ n) rows) (length-map columns (λ (c : Column). c.kind)) (rows_wide 2 (kinds_of columns) rest rows read) in
    subst (FitsDeclaration columns declared) same (record { same = refl; few = subst (λ n. n ≤ declared) (sym (rows_count 2 (kinds_of columns) rest rows read)) few; wide = wide; words = rows_words texts 2 (kinds_of columns) rest rows read })

header_step : TextsAreWords → (columns : List Column) (declared : ℕ) (rest : List (List (List ℕ))) (named : Bool) (t : Content)
    → (if named then file.table_under columns declared rest else Err file.header_fault) ≡ Ok t → FitsDeclaration columns declared t
header_step texts columns declared rest false t is = cc
header_step texts columns declared rest true t is =
    under_step texts columns declared rest (nat_lt declared (length rest)) (file.record_rows 2 (kinds_of columns) rest) t refl refl is

records_fit : TextsAreWords → (columns : List Column) (declared : ℕ) (records : List (List (List ℕ))) (t : Content) → file.table_of columns declared records ≡ Ok t
    → FitsDeclaration columns declared t
records_fit texts columns declared [] t is = cc
records_fit texts columns declared (header ∷ rest) t is = header_step texts columns declared rest (file.is_header (names_of columns) header) t is

pub read_tables_fit : TextsAreWords → ReadTablesFit
read_tables_fit texts columns declared bytes t is = records_fit texts columns declared _ t is
