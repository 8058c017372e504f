-- Reading again and again, as a loop does.
use Rattle.std.proofs.Common.{◌≡◌, ℕ, suc, ◌+◌, ◌-◌, ◌<◌, ◌≤◌, Bool, true, false, List, [], ◌∷◌, ◌++◌, length, Option, Some, None, Ok, Err, refl, sym, ap, ◌∙◌, append_assoc, arith}
use Rattle.std.proofs.lemmas.List.{append-nil}
use Rattle.query_tokens.specs.Token.{Token}
use Rattle.query_text.specs.declared.stop.Stop.{Stop}
use Rattle.query_text.specs.declared.stop.Stop.TheVariants as stops
use Rattle.query_text.specs.Reading.{Read, ◌>>=◌, starts, first_value, rest_of, after, times, cons_of, several}
use Rattle.query_text.specs.Answers.{Stops}
use Rattle.query_text.specs.Forms.{party_above, rising}

-- what was read before, and what is still read
abbrev pub with_front : {A T : Type 0} → List A → Read T (List A) → Read T (List A)
with_front front read = read >>= λ x. Ok (front ++ x.0, x.1)

pub regroup : {A T : Type 0} (front : List A) (a : A) (read : Read T (List A)) → with_front front (with_front (a ∷ []) read) ≡ with_front (front ++ a ∷ []) read
regroup {A} {T} front a (Ok x) = ap (λ (l : List A). Ok (l, x.1)) (sym (append_assoc front (a ∷ []) x.0))
regroup front a (Err d) = refl

module _ {A T : Type 0} (test : T → Bool) (s : List T → Read T A) where
  -- one value more of at most n
  pub times_goes_on : (front : List A) (n i : ℕ) (ts : List T) (x : A × List T) (total : Read T (List A)) → i < n → starts test ts ≡ true → s ts ≡ Ok x
      → with_front front (times (n - i) test s ts) ≡ total → with_front (front ++ x.0 ∷ []) (times (n - (i + 1)) test s x.1) ≡ total
  times_goes_on front n i ts x total l h e so_far =
      let k : n - i ≡ suc (n - (i + 1)) = omega arith in
      let one : with_front front (times (n - i) test s ts) ≡ with_front front (with_front (x.0 ∷ []) (times (n - (i + 1)) test s x.1)) = rw (k, h, e) refl in
      sym (regroup front x.0 (times (n - (i + 1)) test s x.1)) ∙ sym one ∙ so_far

  pub times_stops : (e : Stop) (front : List A) (n i : ℕ) (ts d : List T) (total : Read T (List A)) → i < n → starts test ts ≡ true → Stops e d (s ts)
      → with_front front (times (n - i) test s ts) ≡ total → Stops e d total
  times_stops stops.Memory front n i ts d total l h e so_far = tt
  times_stops stops.Text front n i ts d total l h e so_far =
      let k : n - i ≡ suc (n - (i + 1)) = omega arith in
      let one : with_front front (times (n - i) test s ts) ≡ Err d = rw (k, h, e) refl in
      sym so_far ∙ one

  -- no value more
  pub times_ends : (front : List A) (n i : ℕ) (ts : List T) (total : Read T (List A)) → i < n → starts test ts ≡ false → with_front front (times (n - i) test s ts) ≡ total → total ≡ Ok (front, ts)
  times_ends front n i ts total l h so_far =
      let k : n - i ≡ suc (n - (i + 1)) = omega arith in
      let one : with_front front (times (n - i) test s ts) ≡ Ok (front ++ [], ts) = rw (k, h) refl in
      sym so_far ∙ one ∙ ap (λ (l : List A). Ok (l, ts)) (append-nil front)

  -- no place more
  pub times_full : (front : List A) (n i : ℕ) (ts : List T) (total : Read T (List A)) → n ≤ i → with_front front (times (n - i) test s ts) ≡ total → total ≡ Ok (front, ts)
  times_full front n i ts total l so_far =
      let k : n - i ≡ 0 = omega arith in
      let one : with_front front (times (n - i) test s ts) ≡ Ok (front ++ [], ts) = rw k refl in
      sym so_far ∙ one ∙ ap (λ (l : List A). Ok (l, ts)) (append-nil front)

-- the first value of a list, and then the loop
pub several_begins : {A T : Type 0} (test : T → Bool) (r : List T → Read T A) (ts : List T) (x : A × List T) → r ts ≡ Ok x
    → with_front (x.0 ∷ []) (times (length x.1) test (after test r) x.1) ≡ several test r ts
several_begins {A} {T} test r ts x e = rw e (go (times (length x.1) test (after test r) x.1))
  where
    go : (m : Read T (List A)) → with_front (x.0 ∷ []) m ≡ ((m >>= λ y. Ok ((x.0, y.0), y.1)) >>= λ (p : (A × List A) × List T). Ok (cons_of p.0, p.1))
    go (Ok y) = refl
    go (Err d) = refl

pub several_first_stops : {A T : Type 0} (test : T → Bool) (r : List T → Read T A) (e : Stop) (ts d : List T) → Stops e d (r ts) → Stops e d (several test r ts)
several_first_stops test r stops.Memory ts d h = tt
several_first_stops test r stops.Text ts d h = rw h refl

-- behind a separator
pub after_read : {A T : Type 0} (test : T → Bool) (r : List T → Read T A) (ts : List T) (y : Read T A) → starts test ts ≡ true → r (rest_of ts) ≡ y → after test r ts ≡ y
after_read test r ts y h e = rw h e

pub after_stops : {A T : Type 0} (test : T → Bool) (r : List T → Read T A) (e : Stop) (ts d : List T) → starts test ts ≡ true → Stops e d (r (rest_of ts)) → Stops e d (after test r ts)
after_stops test r stops.Memory ts d h s = tt
after_stops test r stops.Text ts d h s = rw h s

-- ---- rising parties

pub rising_goes_on : (front : List ℕ) (n p : ℕ) (ts : List Token) (total : Read Token (List ℕ)) → first_value (party_above n) ts ≡ Some p
    → with_front front (rising n ts) ≡ total → with_front (front ++ p ∷ []) (rising p (rest_of ts)) ≡ total
rising_goes_on front n p [] total e so_far = absurd cc
rising_goes_on front n p (t ∷ ts) total e so_far =
    let one : with_front front (rising n (t ∷ ts)) ≡ with_front front (with_front (p ∷ []) (rising p ts)) = rw e refl in
    sym (regroup front p (rising p ts)) ∙ sym one ∙ so_far

pub rising_ends : (front : List ℕ) (n : ℕ) (ts : List Token) (total : Read Token (List ℕ)) → first_value (party_above n) ts ≡ None → with_front front (rising n ts) ≡ total → total ≡ Ok (front, ts)
rising_ends front n [] total e so_far = sym so_far ∙ ap (λ (l : List ℕ). Ok (l, [])) (append-nil front)
rising_ends front n (t ∷ ts) total e so_far =
    let one : with_front front (rising n (t ∷ ts)) ≡ Ok (front ++ [], t ∷ ts) = rw e refl in
    sym so_far ∙ one ∙ ap (λ (l : List ℕ). Ok (l, t ∷ ts)) (append-nil front)

pub first_value-shorter : {A T : Type 0} (value : T → Option A) (ts : List T) (a : A) → first_value value ts ≡ Some a → length (rest_of ts) < length ts
first_value-shorter value [] a e = absurd cc
first_value-shorter value (t ∷ ts) a e = omega arith
