-- The test whether numbers are an order: each number below the length occurs.
use Rattle.std.proofs.Common.{◌≡◌, ℕ, zero, suc, ◌<◌, Bool, true, false, List, [], ◌∷◌, length, get_or, refl, sym, subst, ◌∙◌, ap, inl, inr, arith}
use Rattle.std.specs.Prelude.{IsTrue, ◌&&◌, nat_lt}
use Rattle.std.specs.List.{list_all}
use Rattle.std.proofs.lemmas.Bool.{ltb-true, lt-ltb}
use Rattle.std.proofs.lemmas.Bool.Decides.{eqb_tells}
use Rattle.std.proofs.lemmas.List.{ext_get_or}
use Rattle.std.proofs.lemmas.List.FromFn.{length-map-range_with_len, length-range_with_len, get_or-map-range_with_len, get_or-range_with_len}
use Rattle.tapes.specs.Order.{IsOrder, composed, identity_of, inverse_of, place_of}
use Rattle.step_lists.specs.Part.{is_order}
use Rattle.twin.proofs.Facts.{Facts}
use Rattle.twin.proofs.Lists.{true_apart, both}
use Rattle.twin.proofs.Orders.{HasItems, inverse_has, regrouped, neutral}

both_true : (a b : Bool) → IsTrue a → IsTrue b → IsTrue (a && b)
both_true true b h i = i
both_true false b h i = absurd (true_apart h)

-- a test of all items is one of each place
test_at : (test : ℕ → Bool) (xs : List ℕ) (k : ℕ) → IsTrue (list_all test xs) → k < length xs → IsTrue (test (get_or xs k 0))
test_at test [] k h lt = absurd (omega arith)
test_at test (x ∷ xs) zero h lt = (both (test x) (list_all test xs) h).0
test_at test (x ∷ xs) (suc k) h lt = test_at test xs k (both (test x) (list_all test xs) h).1 (omega arith)

tests_all : (test : ℕ → Bool) (xs : List ℕ) → ((k : ℕ) → k < length xs → IsTrue (test (get_or xs k 0))) → IsTrue (list_all test xs)
tests_all test [] h = refl
tests_all test (x ∷ xs) h = both_true (test x) (list_all test xs) (h 0 (omega arith)) (tests_all test xs (λ k lt. h (suc k) (omega arith)))

number_at : (n k : ℕ) → k < n → get_or (identity_of n) k 0 ≡ k
number_at n k h = get_or-range_with_len 0 n k 0 h ∙ omega arith

-- the place of each number
place_found : (v : ℕ) (o : List ℕ) → place_of v o < length o → get_or o (place_of v o) 0 ≡ v
place_found v [] h = absurd (omega arith)
place_found v (x ∷ xs) h =
    elim (eqb_tells v x) [ inl e ↦ rw e.0 (sym e.1) | inr n ↦ rw n.0 (place_found v xs (let g = rw n.0 at h in omega arith)) ]

places_long : (o : List ℕ) → length (inverse_of o) ≡ length o
places_long o = length-map-range_with_len _ 0 (length o)

place_at : (o : List ℕ) (k : ℕ) → k < length o → get_or (inverse_of o) k 0 ≡ place_of k o
place_at o k h = get_or-map-range_with_len _ 0 (length o) k k 0 h (omega arith)

-- an order passes the test
pub order_passes : Facts → (o : List ℕ) → IsOrder o → is_order o ≡ true
order_passes facts o h =
    tests_all (λ k. nat_lt (place_of k o) (length o)) (identity_of (length o))
    (λ k lt.
    let within : k < length o = omega (arith, length-range_with_len 0 (length o)) in
    let is = facts.closed.inverse o h in
    let there : get_or (inverse_of o) k 0 < length (inverse_of o) = is.below k (omega (arith, places_long o)) in
    let number = number_at (length o) k within in
    let place = place_at o k within in
    let below : place_of k o < length o = omega (arith, places_long o) in
    subst (λ k. IsTrue (nat_lt (place_of k o) (length o))) (sym number) (lt-ltb (place_of k o) (length o) below))

-- and what passes it is one: it is the inverse of the places, which are an order
places_order : (o : List ℕ) → ((k : ℕ) → k < length o → place_of k o < length o) → IsOrder (inverse_of o)
places_order o h = record {
  below = λ k lt.
      let within : k < length o = omega (arith, places_long o) in
      let there = h k within in
      let place = place_at o k within in
      omega (arith, places_long o);
  apart = λ i j a b e.
      let x : i < length o = omega (arith, places_long o) in
      let y : j < length o = omega (arith, places_long o) in
      sym (place_found i o (h i x)) ∙ (ap (λ w. get_or o w 0) (sym (place_at o i x) ∙ (e ∙ place_at o j y)) ∙ place_found j o (h j y));
}

places_undo : Facts → (o : List ℕ) → ((k : ℕ) → k < length o → place_of k o < length o) → composed o (inverse_of o) ≡ identity_of (length o)
places_undo facts o h =
    ext_get_or 0 (composed o (inverse_of o)) (identity_of (length o))
    (facts.lengths.pick (inverse_of o) o ∙ (places_long o ∙ sym (length-range_with_len 0 (length o))))
    (λ k lt.
    let within : k < length o = omega (arith, facts.lengths.pick (inverse_of o) o, places_long o) in
    facts.items.pick (inverse_of o) o k (omega (arith, places_long o))
    ∙ (ap (λ w. get_or o w 0) (place_at o k within) ∙ (place_found k o (h k within) ∙ sym (number_at (length o) k within))))

pub passing_order : Facts → (o : List ℕ) → is_order o ≡ true → HasItems (length o) o
passing_order facts o test =
    let n = length o in
    let all : (k : ℕ) → k < n → place_of k o < n = λ k lt. all_there o k test lt in
    let q = inverse_of o in
    let hq : HasItems n q = record { order = places_order o all; long = places_long o } in
    let r = inverse_of q in
    let hr = inverse_has facts n q hq in
    let same : o ≡ r =
    sym (facts.identity.after o)
    ∙ (ap (composed o) (ap identity_of (sym (places_long o)) ∙ sym (facts.inverse.after q hq.order))
    ∙ (sym (regrouped facts n o q r hq hr)
    ∙ (ap (λ x. composed x r) (places_undo facts o all) ∙ neutral facts n r hr))) in
    subst (HasItems n) (sym same) hr
  where
    all_there : (o : List ℕ) (k : ℕ) → is_order o ≡ true → k < length o → place_of k o < length o
    all_there o k test lt =
        let there = test_at (λ k. nat_lt (place_of k o) (length o)) (identity_of (length o)) k test (omega (arith, length-range_with_len 0 (length o))) in
        ltb-true (place_of k o) (length o) (subst (λ k. IsTrue (nat_lt (place_of k o) (length o))) (number_at (length o) k lt) there)
