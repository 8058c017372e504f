-- Records that are written one after the other are the records of the text.
use Rattle.std.proofs.Common.{◌≡◌, ℕ, zero, suc, ◌+◌, ◌≤◌, ◌<◌, Bool, true, false, if◌then◌else◌, arith, List, [], ◌∷◌, ◌++◌, length, map, refl, ap, length-append}
use Rattle.std.specs.Prelude.{◌==◌, All}
use Rattle.std.proofs.lemmas.Bool.Decides.{nat_tests}
use Rattle.csv.proofs.RoundTrip as trip
use Rattle.csv.proofs.RoundTrip.{read-write}
use Rattle.csv.specs.Machine.{next_record}
use Rattle.csv.specs.Reading.{default_config, is_bom, records, records_from, strip_bom}
use Rattle.csv.specs.Writing.{default_writer, fields_text, is_blank, needs_quotes, quoted, read_back, row_text}
use Rattle.csv.specs.declared.parser.State.TheVariants as st
use Rattle.table_laws.specs.Files.{records_of}

-- a record of a field at least is read back as it is
pub some_back : (fields : List (List ℕ)) → 0 < length fields → read_back fields ≡ fields
some_back [] some = absurd (let none : 0 < 0 = some in omega (arith, none))
some_back (field ∷ fields) some = refl

-- enough turns for all records, and more
turns : (all : List (List (List ℕ))) (n : ℕ) → length all ≤ n → records_from default_config n st.StartRecord (trip.rows_text all) ≡ map read_back all
unfolding records_from trip.rows_text next_record
turns [] zero most = refl
turns [] (suc n) most = refl
turns (fields ∷ all) zero most = absurd (let none : suc (length all) ≤ 0 = most in omega (arith, none))
turns (fields ∷ all) (suc n) most =
    rw (read-write fields (trip.rows_text all)) (ap (λ (t : List (List (List ℕ))). read_back fields ∷ t) (turns all n (omega (arith, most))))

-- each record shows a byte
long : (body blank : List ℕ) → 1 ≤ length (body ++ (blank ++ 10 ∷ []))
long body blank = omega (arith, length-append body (blank ++ 10 ∷ []), length-append blank (10 ∷ []))

lengths : (all : List (List (List ℕ))) → length all ≤ length (trip.rows_text all)
unfolding trip.rows_text
lengths [] = omega arith
lengths (fields ∷ all) =
    let some : 1 ≤ length (row_text default_writer fields) = long _ _ in
    omega (arith, length-append (row_text default_writer fields) (trip.rows_text all), some, lengths all)

pub written_records : (all : List (List (List ℕ))) → records default_config (trip.rows_text all) ≡ map read_back all
written_records all = turns all (length (trip.rows_text all) + 1) (omega (arith, lengths all))

-- a text that begins with an ASCII byte has no byte order mark
record Begins (text : List ℕ) : Type 0 where
  byte : ℕ
  rest : List ℕ
  is : text ≡ byte ∷ rest
  ascii : byte < 128

no_mark : (a b c : ℕ) → a < 128 → is_bom a b c ≡ false
no_mark a b c ascii = let other : (a == 0xEF) ≡ false = grind (arith, nat_tests) in rw other refl

plain_front : (a : ℕ) (rest : List ℕ) → a < 128 → strip_bom (a ∷ rest) ≡ a ∷ rest
unfolding strip_bom
plain_front a [] ascii = refl
plain_front a (b ∷ []) ascii = refl
plain_front a (b ∷ c ∷ rest) ascii = rw (no_mark a b c ascii) refl

no_bom : (text : List ℕ) → Begins text → strip_bom text ≡ text
no_bom text begins = rw begins.is (plain_front begins.byte begins.rest begins.ascii)

begins_more : (text more : List ℕ) → Begins text → Begins (text ++ more)
begins_more text more begins = record { byte = begins.byte; rest = begins.rest ++ more; is = ap (λ t. t ++ more) begins.is; ascii = begins.ascii }

-- a record of names of ASCII bytes begins with one
begins_field : (name : List ℕ) (rest : List ℕ) (needs : Bool) → All (λ byte. byte < 128) name → 0 < length name
    → Begins ((if needs then quoted default_writer name else name) ++ rest)
begins_field name rest true ascii some = record { byte = 34; rest = _; is = refl; ascii = omega arith }
begins_field [] rest false ascii some = absurd (let none : 0 < 0 = some in omega (arith, none))
begins_field (byte ∷ name) rest false ascii some = record { byte = byte; rest = name ++ rest; is = refl; ascii = ascii 0 byte (omega arith) }

begins_row : (name : List ℕ) (names : List (List ℕ)) → All (λ byte. byte < 128) name → Begins (row_text default_writer (name ∷ names))
unfolding is_blank fields_text
begins_row [] [] ascii = record { byte = 34; rest = _; is = refl; ascii = omega arith }
begins_row [] (next ∷ names) ascii = record { byte = 44; rest = _; is = refl; ascii = omega arith }
begins_row (byte ∷ name) names ascii =
    begins_more _ _ (begins_field (byte ∷ name) (fields_text default_writer names) (needs_quotes default_writer (byte ∷ name)) ascii (omega arith))

-- a file that is written under names of ASCII bytes has these records
pub file_records : (names : List (List ℕ)) (rest : List (List (List ℕ))) → 0 < length names → All (λ name. All (λ byte. byte < 128) name) names
    → records_of (trip.rows_text (names ∷ rest)) ≡ names ∷ map read_back rest
unfolding trip.rows_text
file_records [] rest some ascii = absurd (let none : 0 < 0 = some in omega (arith, none))
file_records (name ∷ names) rest some ascii =
    let begins = begins_more (row_text default_writer (name ∷ names)) (trip.rows_text rest) (begins_row name names (ascii 0 name (omega arith))) in
    rw (no_bom (row_text default_writer (name ∷ names) ++ trip.rows_text rest) begins) (written_records ((name ∷ names) ∷ rest))
