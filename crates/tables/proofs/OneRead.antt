-- What one read of a record says of the records that were left.
use Rattle.std.proofs.Common.{◌≡◌, ℕ, ◌∷◌, Bool, true, false, List, [], Option, Some, None, Bor, refl, sym, ◌∙◌, inl}
use Rattle.std.specs.Prelude.{IsSome}
use Rattle.std.specs.Option.{option_map_or}
use Rattle.std.proofs.lemmas.Bool.{false≢true}
use Rattle.std.specs.Prelude.{Result, Ok, Err, OnOk, IfOk, MatchResult}
use Rattle.std.specs.Result.{is_ok}
use Rattle.std.specs.Bool.{OnTrue, OnFalse}
use Rattle.csv.specs.declared.error.Error.{Error}
use Rattle.tables.specs.declared.fault.TableFault.{TableFault}
use Rattle.csv.specs.Machine.{Read, ends_at_end, next_record}
use Rattle.csv.specs.Reading.{NextIs, ReadRecord, ReadsNext, default_config, Ready, is_flexible, pending_of, reader_trim, took_first}
use Rattle.csv.specs.declared.reader.Trim.TheVariants as trim
use Rattle.csv.specs.declared.parser.Config.{Config}
use Rattle.csv.specs.declared.parser.State.{State}
use Rattle.tables.specs.Records.{BytesReader, IsReading, TakesRecord, bytes_left, records_left, unread}
use Rattle.tables.proofs.Records.{leaves_next, records_left-none, records_left-some}

-- what a known text has left, before and after a read that found a record
found_one : (cfg : Config) (s s2 : State) (fields : List (List ℕ)) (xs ys : List ℕ) (o : Option Read) → next_record cfg s [] [] xs ≡ o
    → ends_at_end s ≡ false → NextIs o true fields s2 ys
    → (ends_at_end s2 ≡ false) × (records_left cfg s xs ≡ fields ∷ records_left cfg s2 ys)
found_one cfg s s2 fields xs ys None is between next = absurd (false≢true (sym next))
found_one cfg s s2 fields xs ys (Some p) is between next =
    let rest = records_left-some cfg s xs p between is in
    let after = (leaves_next cfg s [] [] xs p is).between in
    rw (next.1, next.2, next.3) (after, rest)

found_none : (cfg : Config) (s s2 : State) (fields : List (List ℕ)) (xs ys : List ℕ) (o : Option Read) → next_record cfg s [] [] xs ≡ o
    → NextIs o false fields s2 ys → records_left cfg s xs ≡ []
found_none cfg s s2 fields xs ys None is next = records_left-none cfg s xs is
found_none cfg s s2 fields xs ys (Some p) is next = absurd (false≢true next.0)

-- the same of texts that may be known, the first being so
pub option_found : (s s2 : State) (fields : List (List ℕ)) (before after : Option (List ℕ)) → IsSome before → ends_at_end s ≡ false
    → ReadsNext default_config s before after true fields s2
    → (ends_at_end s2 ≡ false) × IsSome after × (option_map_or (records_left default_config s) before [] ≡ fields ∷ option_map_or (records_left default_config s2) after [])
option_found s s2 fields None after known between next = absurd (false≢true known)
option_found s s2 fields (Some xs) None known between next = absurd next
option_found s s2 fields (Some xs) (Some ys) known between next =
    let h = found_one default_config s s2 fields xs ys _ refl between next in
    (h.0, refl, h.1)

pub option_none : (s s2 : State) (fields : List (List ℕ)) (before after : Option (List ℕ)) → IsSome before
    → ReadsNext default_config s before after false fields s2 → option_map_or (records_left default_config s) before [] ≡ []
option_none s s2 fields None after known next = absurd (false≢true known)
option_none s s2 fields (Some xs) None known next = absurd next
option_none s s2 fields (Some xs) (Some ys) known next = found_none default_config s s2 fields xs ys _ refl next

-- a reader that has looked for a byte order mark has its bytes in its buffer
source_is_pending : (reader : BytesReader) → reader.bom_checked ≡ true
    → bytes_left reader ≡ pending_of (Some reader.rdr.now) reader
source_is_pending reader checked = rw checked refl

-- what a read that found a record says
pub takes_record : (old new : BytesReader) (fields : List (List ℕ)) → IsReading old → took_first new ≡ true → is_flexible new ≡ is_flexible old
    → ReadRecord (λ (s : Bor (List ℕ)). Some s.now) old new true fields → TakesRecord old new fields
takes_record old new fields before first same read =
    let source = source_is_pending new read.1 in
    let next = rw (before.config) at read.0 in
    let h = option_found old.state new.state fields (bytes_left old) (pending_of (Some new.rdr.now) new) before.known before.between next in
    record {
      reading = record {
        config = read.2 ∙ before.config;
        trim = read.3 ∙ before.trim;
        flexible = same ∙ before.flexible;
        ready = inl first;
        between = h.0;
        known = rw source h.1;
      };
      taken = rw source h.2;
    }

-- what a read that found none says
pub takes_none : (old new : BytesReader) (fields : List (List ℕ)) → IsReading old
    → ReadRecord (λ (s : Bor (List ℕ)). Some s.now) old new false fields → unread old ≡ []
takes_none old new fields before read =
    let next = rw (before.config) at read.0 in
    option_none old.state new.state fields (bytes_left old) (pending_of (Some new.rdr.now) new) before.known next

-- the same of an answer that is the read's where that is Ok
abbrev Passes : Result Bool Error → Result Bool TableFault → Type 0
Passes read answer = MatchResult read (λ x. answer ≡ Ok x) (λ _. is_ok answer ≡ false)

pub found_by : (old new : BytesReader) (fields : List (List ℕ)) (read : Result Bool Error) (answer : Result Bool TableFault) → IsReading old
    → OnOk read (took_first new ≡ true) → OnOk read (is_flexible new ≡ is_flexible old)
    → IfOk read (λ found. (reader_trim old ≡ trim.None) → Ready old → ReadRecord (λ (s : Bor (List ℕ)). Some s.now) old new found fields)
    → Passes read answer → IfOk answer (λ found. OnTrue found (TakesRecord old new fields)) × IfOk answer (λ found. OnFalse found (unread old ≡ []))
found_by old new fields (Ok true) answer before first same reads is = rw is (takes_record old new fields before first same (reads before.trim before.ready), tt)
found_by old new fields (Ok false) answer before first same reads is = rw is (tt, takes_none old new fields before (reads before.trim before.ready))
found_by old new fields (Err e) (Ok x) before first same reads is = absurd (false≢true (sym is))
found_by old new fields (Err e) (Err f) before first same reads is = (tt, tt)

pub passes : (read : Result Bool Error) (answer : Result Bool TableFault) (Q : Error → Type 0) → MatchResult read (λ x. answer ≡ Ok x) Q
    → is_ok answer ≡ is_ok read → Passes read answer
passes (Ok x) answer Q is same = is
passes (Err e) answer Q is same = same
