-- Reading a list from its left. A reader gives a value and the rest, or in Err the list from the first
-- element on that doesn't go on.
use Rattle.std.specs.Prelude.{ℕ, zero, suc, Bool, false, List, [], ◌∷◌, length, Option, Some, None, Result, Ok, Err, if◌then◌else◌, ◌⊎◌}
use Rattle.std.proofs.Common.{inl, inr}

-- what a reader answers
abbrev pub Read : Type 0 → Type 0 → Type 0
Read T A = Result (A × List T) (List T)

infixl 10 ◌>>=◌
abbrev pub ◌>>=◌ : {A B E : Type 0} → Result A E → (A → Result B E) → Result B E
(Ok x) >>= f = f x
(Err e) >>= f = Err e

-- the first element passes the test
abbrev pub starts : {T : Type 0} → (T → Bool) → List T → Bool
starts test [] = false
starts test (t ∷ ts) = test t

-- the value that the first element stands for
abbrev pub first_value : {T A : Type 0} → (T → Option A) → List T → Option A
first_value value [] = None
first_value value (t ∷ ts) = value t

abbrev pub rest_of : {T : Type 0} → List T → List T
rest_of [] = []
rest_of (t ∷ ts) = ts

abbrev pub found : {T A : Type 0} → List T → Option A → Read T A
found ts None = Err ts
found ts (Some a) = Ok (a, rest_of ts)

-- one element that stands for a value
abbrev pub one : {T A : Type 0} → (T → Option A) → List T → Read T A
one value ts = found ts (first_value value ts)

-- one element that passes the test
abbrev pub expect : {T : Type 0} → (T → Bool) → List T → Result (List T) (List T)
expect test ts = if starts test ts then Ok (rest_of ts) else Err ts

-- behind one element that passes the test
abbrev pub after : {T A : Type 0} → (T → Bool) → (List T → Read T A) → List T → Read T A
after test r ts = expect test ts >>= r

-- nothing
abbrev pub nothing : {T : Type 0} → List T → Read T (Unit {0})
nothing ts = Ok (tt, ts)

-- the value, changed
abbrev pub mapped : {T A B : Type 0} → (A → B) → (List T → Read T A) → List T → Read T B
mapped f r ts = r ts >>= λ x. Ok (f x.0, x.1)

-- one after the other
abbrev pub pair : {T A B : Type 0} → (List T → Read T A) → (List T → Read T B) → List T → Read T (A × B)
pair r s ts = do
  x ← r ts
  y ← s x.1
  Ok ((x.0, y.0), y.1)

-- the one or the other, by the first element
abbrev pub either : {T A B : Type 0} → (T → Bool) → (List T → Read T A) → (List T → Read T B) → List T → Read T (A ⊎ B)
either test r s ts = if starts test ts then mapped inl r ts else mapped inr s ts

abbrev pub option_of : {A : Type 0} → A ⊎ Unit {0} → Option A
option_of (inl a) = Some a
option_of (inr u) = None

-- where the first element passes the test
abbrev pub maybe : {T A : Type 0} → (T → Bool) → (List T → Read T A) → List T → Read T (Option A)
maybe test r ts = mapped option_of (either test r nothing) ts

-- again and again while the first element passes the test, at most n times
abbrev pub times : {T A : Type 0} → ℕ → (T → Bool) → (List T → Read T A) → List T → Read T (List A)
times zero test r ts = Ok ([], ts)
times (suc n) test r ts = if starts test ts then (r ts >>= λ x. times n test r x.1 >>= λ xs. Ok (x.0 ∷ xs.0, xs.1)) else Ok ([], ts)

-- again and again while the first element passes the test
abbrev pub many : {T A : Type 0} → (T → Bool) → (List T → Read T A) → List T → Read T (List A)
many test r ts = times (length ts) test r ts

abbrev pub cons_of : {A : Type 0} → A × List A → List A
cons_of p = p.0 ∷ p.1

-- one or more, with an element that passes the test between them
abbrev pub several : {T A : Type 0} → (T → Bool) → (List T → Read T A) → List T → Read T (List A)
several test r ts = mapped cons_of (pair r (many test (after test r))) ts

abbrev pub value_of : {A : Type 0} → A × Unit {0} → A
value_of p = p.0

-- ended by an element that passes the test
abbrev pub ended_by : {T A : Type 0} → (T → Bool) → (List T → Read T A) → List T → Read T A
ended_by test r ts = mapped value_of (pair r (after test nothing)) ts

abbrev pub all_read : {T A : Type 0} → A → List T → Result A (List T)
all_read a [] = Ok a
all_read a (t ∷ ts) = Err (t ∷ ts)

-- all of the list
abbrev pub whole : {T A : Type 0} → (List T → Read T A) → List T → Result A (List T)
whole r ts = r ts >>= λ x. all_read x.0 x.1
