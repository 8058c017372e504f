-- From the steps of a reader to the list of a text's records, for any way of reading.
use Rattle.std.proofs.Common.{◌≡◌, ℕ, zero, suc, ◌+◌, ◌<◌, ◌≤◌, Bool, true, false, cond, List, [], ◌∷◌, Option, Some, None, length, refl, ap, subst, add-one, ◌==◌, arith}
use Rattle.csv.specs.Machine.{Read, carriage_return, ends_at_end, after_end, is_end, in_field, start_field, start_record, step, fields_after, field_after, next_record}
use Rattle.csv.specs.Reading.{records_from, records_next}
use Rattle.tables.specs.Records.{records_left}
use Rattle.csv.specs.declared.parser.Action.{Action}
use Rattle.csv.specs.declared.parser.Action.TheVariants as act
use Rattle.csv.specs.declared.parser.Config.{Config}
use Rattle.csv.specs.declared.parser.State.{State}
use Rattle.csv.specs.declared.parser.State.TheVariants as st
use Rattle.csv.specs.declared.parser.Terminator.{Terminator}
use Rattle.csv.specs.declared.parser.Terminator.TheVariants as term

-- a step that ends a record leaves a state in which a text may end
record Closes (p : State × Action) : Type 0 where
  between : is_end p.1 ≡ true → ends_at_end p.0 ≡ false

-- a choice of two such steps is one
closes_choice : (b : Bool) (p q : State × Action) → Closes p → Closes q → Closes (cond b p q)
closes_choice true p q h k = h
closes_choice false p q h k = k

-- a step that goes on ends nothing
goes_on : (s : State) (a : Action) → is_end a ≡ false → Closes (s, a)
goes_on s a on = record { between = λ ends. cc }

-- a step that ends a record
ends_in : (s : State) (a : Action) → ends_at_end s ≡ false → Closes (s, a)
ends_in s a between = record { between = λ _. between }

after_return : (b : Bool) → ends_at_end (cond b st.AfterCr st.StartRecord) ≡ false
after_return true = refl
after_return false = refl

closes_after_end : (t : Terminator) (c : ℕ) → Closes (after_end t c, act.EndRecord)
closes_after_end term.CRLF c = ends_in _ _ (after_return (c == carriage_return))
closes_after_end (term.Any t) c = ends_in _ _ refl

closes_in_field : (cfg : Config) (c : ℕ) → Closes (in_field cfg c)
closes_in_field cfg c =
    closes_choice _ _ _ (goes_on st.StartField act.EndField refl)
    (closes_choice _ _ _ (closes_after_end cfg.terminator c) (goes_on st.InField act.Copy refl))

closes_start_field : (cfg : Config) (c : ℕ) → Closes (start_field cfg c)
closes_start_field cfg c = closes_choice _ _ _ (goes_on st.InQuoted act.Skip refl) (closes_in_field cfg c)

closes_start_record : (cfg : Config) (c : ℕ) → Closes (start_record cfg c)
closes_start_record cfg c =
    closes_choice _ _ _ (goes_on st.StartRecord act.Skip refl)
    (closes_choice _ _ _ (goes_on st.InComment act.Skip refl) (closes_start_field cfg c))

closes_step : (cfg : Config) (s : State) (c : ℕ) → Closes (step cfg s c)
closes_step cfg st.StartRecord c = closes_start_record cfg c
closes_step cfg st.StartField c = closes_start_field cfg c
closes_step cfg st.InField c = closes_in_field cfg c
closes_step cfg st.InQuoted c =
    closes_choice _ _ _ (goes_on st.AfterQuote act.Skip refl)
    (closes_choice _ _ _ (goes_on st.InEscape act.Skip refl) (goes_on st.InQuoted act.Copy refl))
closes_step cfg st.InEscape c = goes_on st.InQuoted act.Copy refl
closes_step cfg st.AfterQuote c = closes_choice _ _ _ (goes_on st.InQuoted act.Copy refl) (closes_in_field cfg c)
closes_step cfg st.InComment c = closes_choice _ _ _ (goes_on st.StartRecord act.Skip refl) (goes_on st.InComment act.Skip refl)
closes_step cfg st.AfterCr c = closes_choice _ _ _ (goes_on st.StartRecord act.Skip refl) (closes_start_record cfg c)

-- what a read of a record leaves: a state in which a text may end, and no more bytes than there were
pub record Leaves (xs : List ℕ) (p : Read) : Type 0 where
  pub between : ends_at_end p.1 ≡ false
  pub shorter : length p.2 ≤ length xs

leaves_here : (s : State) (fields : List (List ℕ)) (rest xs : List ℕ) (p : Read) → ends_at_end s ≡ false → length rest ≤ length xs
    → Some (fields, s, rest) ≡ Some p → Leaves xs p
leaves_here s fields rest xs p between shorter is =
    let same : (fields, s, rest) ≡ p = cc in
    subst (λ (q : Read). Leaves xs q) same (record { between = between; shorter = shorter })

leaves_at_end : (b : Bool) (fields : List (List ℕ)) (p : Read) → cond b (Some (fields, st.StartRecord, [])) None ≡ Some p → Leaves [] p
leaves_at_end true fields p is = leaves_here _ _ _ _ _ refl (omega arith) is
leaves_at_end false fields p is = cc

none_is_some : (p : Read) → ◌≡◌ {A = Option Read} None (Some p) → ⊥
none_is_some p is = cc

-- a read that goes on behind its first byte leaves what the rest of it leaves
leaves_later : (c : ℕ) (xs : List ℕ) (p : Read) → Leaves xs p → Leaves (c ∷ xs) p
leaves_later c xs p h = record { between = h.between; shorter = omega (arith, h.shorter) }

-- a byte ends the record, or the rest of the text does
leaves_choice : (b : Bool) (s : State) (fields : List (List ℕ)) (c : ℕ) (rest : List ℕ) (more : Option Read) (p : Read)
    → (b ≡ true → ends_at_end s ≡ false) → (more ≡ Some p → Leaves rest p) → cond b (Some (fields, s, rest)) more ≡ Some p → Leaves (c ∷ rest) p
leaves_choice true s fields c rest more p here later is = leaves_here s fields rest (c ∷ rest) p (here refl) (omega arith) is
leaves_choice false s fields c rest more p here later is = leaves_later c rest p (later is)

pub leaves_next : (cfg : Config) (s : State) (fields : List (List ℕ)) (field xs : List ℕ) (p : Read)
    → next_record cfg s fields field xs ≡ Some p → Leaves xs p
unfolding next_record
leaves_next cfg s fields field [] p is = leaves_at_end (ends_at_end s) _ p is
leaves_next cfg s fields field (c ∷ rest) p is =
    let a = step cfg s c in
    leaves_choice (is_end a.1) a.0 (fields_after a.1 fields field) c rest _ p (closes_step cfg s c).between
    (leaves_next cfg a.0 (fields_after a.1 fields field) (field_after a.1 c field) rest p) is

-- a record that begins takes a byte at least
shorter_choice : (b : Bool) (s : State) (fields : List (List ℕ)) (c : ℕ) (rest : List ℕ) (more : Option Read) (p : Read)
    → (more ≡ Some p → Leaves rest p) → cond b (Some (fields, s, rest)) more ≡ Some p → length p.2 < length (c ∷ rest)
shorter_choice true s fields c rest more p later is =
    let same : rest ≡ p.2 = cc in
    omega (arith, ap length same)
shorter_choice false s fields c rest more p later is = omega (arith, (later is).shorter)

pub length-next_record : (cfg : Config) (s : State) (xs : List ℕ) (p : Read) → ends_at_end s ≡ false
    → next_record cfg s [] [] xs ≡ Some p → length p.2 < length xs
unfolding next_record
length-next_record cfg s [] p between is = absurd (none_is_some p (rw between at is))
length-next_record cfg s (c ∷ rest) p between is =
    let a = step cfg s c in
    shorter_choice (is_end a.1) a.0 (fields_after a.1 [] []) c rest _ p
    (leaves_next cfg a.0 (fields_after a.1 [] []) (field_after a.1 c []) rest p) is

-- two continuations that agree on what a read leaves give the same records
same_rest : (o : Option Read) (f g : State → List ℕ → List (List (List ℕ))) → ((p : Read) → o ≡ Some p → f p.1 p.2 ≡ g p.1 p.2)
    → records_next f o ≡ records_next g o
same_rest None f g same = refl
same_rest (Some p) f g same = ap (λ rest. p.0 ∷ rest) (same p refl)

-- more turns than bytes give all the records
enough_turns : (cfg : Config) (n m : ℕ) (s : State) (xs : List ℕ) → ends_at_end s ≡ false → length xs < n → length xs < m
    → records_from cfg n s xs ≡ records_from cfg m s xs
unfolding records_from
enough_turns cfg zero m s xs between below other = absurd (omega arith)
enough_turns cfg (suc n) zero s xs between below other = absurd (omega arith)
enough_turns cfg (suc n) (suc m) s xs between below other =
    same_rest (next_record cfg s [] [] xs) (records_from cfg n) (records_from cfg m)
    (λ p is. enough_turns cfg n m p.1 p.2 (leaves_next cfg s [] [] xs p is).between
    (omega (arith, length-next_record cfg s xs p between is)) (omega (arith, length-next_record cfg s xs p between is)))

-- where no record begins, none is left
pub records_left-none : (cfg : Config) (s : State) (xs : List ℕ) → next_record cfg s [] [] xs ≡ None → records_left cfg s xs ≡ []
unfolding records_from
records_left-none cfg s xs none = rw (add-one, none) refl

-- a record that is read is the first of those left, and the rest are left behind it
pub records_left-some : (cfg : Config) (s : State) (xs : List ℕ) (p : Read) → ends_at_end s ≡ false
    → next_record cfg s [] [] xs ≡ Some p → records_left cfg s xs ≡ p.0 ∷ records_left cfg p.1 p.2
unfolding records_from
records_left-some cfg s xs p between is =
    let shorter = length-next_record cfg s xs p between is in
    rw (add-one, is)
    (ap (λ rest. p.0 ∷ rest) (enough_turns cfg (length xs) (length p.2 + 1) p.1 p.2 (leaves_next cfg s [] [] xs p is).between shorter (omega arith)))
