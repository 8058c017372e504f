-- Reading a record: its row, or its first fault.
use Rattle.std.proofs.Common.{◌≡◌, ℕ, suc, ◌+◌, Bool, true, false, if◌then◌else◌, arith, List, [], ◌∷◌, length, Result, Ok, Err, refl, sym, ap, ◌∙◌, subst}
use Rattle.std.specs.Prelude.{◌==◌, ◌≢◌}
use Rattle.std.specs.List.{AllZip, zip}
use Rattle.std.proofs.lemmas.Bool.Decides.{nat_tests}
use Rattle.std.proofs.lemmas.List.Elements.{All-cons, All-nil}
use Rattle.words.specs.Columns.{word_of}
use Rattle.words.specs.declared.column.Kind.{Kind}
use Rattle.words.specs.declared.num.ValueFault.{ValueFault}
use Rattle.tables.specs.File as file
use Rattle.tables.specs.Outcome.{and_then, map_ok}
use Rattle.tables.specs.declared.fault.TableFault.{TableFault}
use Rattle.tables.specs.declared.fault.TableFault.TheVariants.{Header, Rows, Fields, Value, Memory}
use Rattle.table_laws.specs.Files.{WritesRow, WritesWord}
use Rattle.table_laws.specs.Faults.{IsField, IsFirst, IsWrongAt}

-- an item before the first that doesn't pass
pub first_here : {A : Type 0} (Passes : A → Type 0) (item : A) (items : List A) → IsFirst Passes (item ∷ items) 0 item
first_here Passes item items = record { front = []; behind = items; split = refl; here = refl; passed = All-nil Passes }

pub first_later : {A : Type 0} (Passes : A → Type 0) (before item : A) (items : List A) (place : ℕ) → Passes before → IsFirst Passes items place item → IsFirst Passes (before ∷ items) (suc place) item
first_later Passes before item items place passes first =
    record { front = before ∷ first.front; behind = first.behind; split = ap (λ rest. before ∷ rest) first.split; here = ap suc first.here; passed = All-cons Passes before first.front passes first.passed }

-- the words of fields that are as many as the kinds
word_step : (line column : ℕ) (kind : Kind) (field : List ℕ) (kinds : List Kind) (fields : List (List ℕ)) (read : Result ℕ ValueFault) (others : Result (List ℕ) TableFault) (words : List ℕ)
    → word_of kind field ≡ read → ((more : List ℕ) → others ≡ Ok more → AllZip WritesWord (zip kinds fields) more)
    → and_then (file.at_place line column read) (λ word. map_ok (λ words. word ∷ words) others) ≡ Ok words → AllZip WritesWord ((kind, field) ∷ zip kinds fields) words
word_step line column kind field kinds fields (Ok word) (Ok more) words is behind all =
    let same : word ∷ more ≡ words = cc in
    subst (AllZip WritesWord ((kind, field) ∷ zip kinds fields)) same (is, behind more refl)
word_step line column kind field kinds fields (Ok word) (Err fault) words is behind all = cc
word_step line column kind field kinds fields (Err fault) others words is behind all = cc

fewer : (n : ℕ) → 0 ≡ suc n → ⊥
fewer n is = omega arith

words_read : (line column : ℕ) (kinds : List Kind) (fields : List (List ℕ)) (words : List ℕ) → length fields ≡ length kinds
    → file.words_of line column kinds fields ≡ Ok words → AllZip WritesWord (zip kinds fields) words
words_read line column [] fields words wide all =
    let same : [] ≡ words = cc in
    subst (AllZip WritesWord []) same tt
words_read line column (kind ∷ kinds) [] words wide all = absurd (fewer (length kinds) wide)
words_read line column (kind ∷ kinds) (field ∷ fields) words wide all =
    word_step line column kind field kinds fields (word_of kind field) (file.words_of line (column + 1) kinds fields) words refl
    (λ more here. words_read line (column + 1) kinds fields more (omega (arith, wide)) here) all

-- and back
words_back : (line column : ℕ) (kinds : List Kind) (fields : List (List ℕ)) (words : List ℕ) → length fields ≡ length kinds
    → AllZip WritesWord (zip kinds fields) words → file.words_of line column kinds fields ≡ Ok words
words_back line column [] fields [] wide all = refl
words_back line column [] fields (word ∷ words) wide all = absurd all
words_back line column (kind ∷ kinds) [] words wide all = absurd (fewer (length kinds) wide)
words_back line column (kind ∷ kinds) (field ∷ fields) [] wide all = absurd all
words_back line column (kind ∷ kinds) (field ∷ fields) (word ∷ words) wide all =
    rw (all.0, words_back line (column + 1) kinds fields words (omega (arith, wide)) all.1) refl

-- the first fault of a record's fields from this column on
pub record IsFieldFault (line column : ℕ) (kinds : List Kind) (fields : List (List ℕ)) (fault : TableFault) : Type 0 where
  pub place : ℕ
  pub why : ValueFault
  pub placed : Kind × List ℕ
  pub first : IsFirst IsField (zip kinds fields) place placed
  pub wrong : word_of placed.0 placed.1 ≡ Err why
  pub told : fault ≡ Value line (column + place) why

fault_step : (line column : ℕ) (kind : Kind) (field : List ℕ) (kinds : List Kind) (fields : List (List ℕ)) (read : Result ℕ ValueFault) (others : Result (List ℕ) TableFault) (fault : TableFault)
    → word_of kind field ≡ read → (others ≡ Err fault → IsFieldFault line (column + 1) kinds fields fault)
    → and_then (file.at_place line column read) (λ word. map_ok (λ words. word ∷ words) others) ≡ Err fault → IsFieldFault line column (kind ∷ kinds) (field ∷ fields) fault
fault_step line column kind field kinds fields (Ok word) (Ok more) fault is behind all = cc
fault_step line column kind field kinds fields (Ok word) (Err other) fault is behind all =
    let found = behind (let same : other ≡ fault = cc in ap Err same) in
    record {
      place = suc found.place;
      why = found.why;
      placed = found.placed;
      first = first_later IsField (kind, field) found.placed (zip kinds fields) found.place (word, is) found.first;
      wrong = found.wrong;
      told = found.told ∙ ap (λ n. Value line n found.why) (omega arith);
    }
fault_step line column kind field kinds fields (Err why) others fault is behind all =
    let same : Value line column why ≡ fault = cc in
    record { place = 0; why = why; placed = (kind, field); first = first_here IsField (kind, field) (zip kinds fields); wrong = is; told = sym same ∙ ap (λ n. Value line n why) (omega arith) }

fields_fault : (line column : ℕ) (kinds : List Kind) (fields : List (List ℕ)) (fault : TableFault) → length fields ≡ length kinds
    → file.words_of line column kinds fields ≡ Err fault → IsFieldFault line column kinds fields fault
fields_fault line column [] fields fault wide all = cc
fields_fault line column (kind ∷ kinds) [] fault wide all = absurd (fewer (length kinds) wide)
fields_fault line column (kind ∷ kinds) (field ∷ fields) fault wide all =
    fault_step line column kind field kinds fields (word_of kind field) (file.words_of line (column + 1) kinds fields) fault refl
    (λ here. fields_fault line (column + 1) kinds fields fault (omega (arith, wide)) here) all

-- a record's row
row_step : (line : ℕ) (kinds : List Kind) (fields : List (List ℕ)) (fits : Bool) (row : List ℕ) → (length fields == length kinds) ≡ fits
    → (if fits then file.words_of line 0 kinds fields else Err (file.fields_fault line)) ≡ Ok row → WritesRow kinds fields row
row_step line kinds fields true row is all =
    let wide : length fields ≡ length kinds = grind (arith, nat_tests) in
    record { wide = wide; words = words_read line 0 kinds fields row wide all }
row_step line kinds fields false row is all = cc

pub row_read : (line : ℕ) (kinds : List Kind) (fields : List (List ℕ)) (row : List ℕ) → file.row_of line kinds fields ≡ Ok row → WritesRow kinds fields row
row_read line kinds fields row all = row_step line kinds fields (length fields == length kinds) row refl all

as_wide : (m n : ℕ) → m ≡ n → (m == n) ≡ true
as_wide m n same = grind (arith, nat_tests)

pub row_back : (line : ℕ) (kinds : List Kind) (fields : List (List ℕ)) (row : List ℕ) → WritesRow kinds fields row → file.row_of line kinds fields ≡ Ok row
row_back line kinds fields row writes = rw (as_wide (length fields) (length kinds) writes.wide) (words_back line 0 kinds fields row writes.wide writes.words)

-- the fault of a record of this number
abbrev pub IsRowFault : ℕ → List Kind → List (List ℕ) → TableFault → Type 0
IsRowFault line kinds fields Header = ⊥
IsRowFault line kinds fields (Rows most found) = ⊥
IsRowFault line kinds fields (Fields number) = (number ≡ line) × (length fields ≢ length kinds)
IsRowFault line kinds fields (Value number column why) = (number ≡ line) × IsWrongAt kinds fields column why
IsRowFault line kinds fields Memory = ⊥

wrong_at : (line : ℕ) (kinds : List Kind) (fields : List (List ℕ)) (fault : TableFault) → length fields ≡ length kinds → IsFieldFault line 0 kinds fields fault → IsRowFault line kinds fields fault
wrong_at line kinds fields fault wide found =
    let told : fault ≡ Value line found.place found.why = found.told ∙ ap (λ n. Value line n found.why) (omega arith) in
    rw told (refl, record { wide = wide; placed = found.placed; first = found.first; wrong = found.wrong })

fault_of_row : (line : ℕ) (kinds : List Kind) (fields : List (List ℕ)) (fits : Bool) (fault : TableFault) → (length fields == length kinds) ≡ fits
    → (if fits then file.words_of line 0 kinds fields else Err (file.fields_fault line)) ≡ Err fault → IsRowFault line kinds fields fault
fault_of_row line kinds fields true fault is all =
    let wide : length fields ≡ length kinds = grind (arith, nat_tests) in
    wrong_at line kinds fields fault wide (fields_fault line 0 kinds fields fault wide all)
fault_of_row line kinds fields false fault is all =
    let same : Fields line ≡ fault = cc in
    let apart : length fields ≢ length kinds = grind (arith, nat_tests) in
    subst (IsRowFault line kinds fields) same (refl, apart)

pub row_fault : (line : ℕ) (kinds : List Kind) (fields : List (List ℕ)) (fault : TableFault) → file.row_of line kinds fields ≡ Err fault → IsRowFault line kinds fields fault
row_fault line kinds fields fault all = fault_of_row line kinds fields (length fields == length kinds) fault refl all
