-- Orders are a group.
use Rattle.std.proofs.Common.{◌≡◌, ◌≢◌, ℕ, suc, zero, ◌+◌, ◌<◌, ◌≤◌, true, false, eqb, List, [], ◌∷◌, ◌++◌, length, get_or, set, map, subst, ◌^◌, refl, sym, ◌∙◌, ap, ⊎_elim, inl, inr, arith, add-one, add-zero}
use Rattle.std.specs.List.{range_with_len, list_any, IsDistinct, AllByRecursion}
use Rattle.std.proofs.lemmas.List.{get_or-map, length-map, get_or_default, ext_get_or, length-set, get_or-set_same, get_or-set_other}
use Rattle.std.proofs.lemmas.List.FromFn.{length-range_with_len, get_or-range_with_len}
use Rattle.std.proofs.lemmas.Map.Keys.{IsDistinct-cons, IsDistinct-from_apart}
use Rattle.std.proofs.lemmas.Map.Steps.{length-le_from_distinct_below}
use Rattle.std.proofs.lemmas.Bool.{cases_lt, cases_eq, ne_eqb}
use Rattle.std.proofs.lemmas.Bool.Decides.{eqb_tells}
use Rattle.lanes.specs.Lanes.{picked}
use Rattle.tapes.proofs.Picks.{length-picked, get_or-picked, picked-picked}
use Rattle.tapes.specs.Order.{IsOrder, IsShortOrder, identity_of, applied, composed, place_of, inverse_of}

-- ---- the place of a number

-- what stands at the place of a number that is there
pub place_of-found : (v : ℕ) (o : List ℕ) → place_of v o < length o → get_or o (place_of v o) 0 ≡ v
place_of-found v [] h = absurd (omega arith)
place_of-found v (x ∷ xs) h =
    elim (eqb_tells v x) [ inl e ↦ rw e.0 (sym e.1) | inr n ↦ rw n.0 (place_of-found v xs (let g = rw n.0 at h in omega arith)) ]

-- a number that stands at k has its place there or before
pub place_of-le : (v : ℕ) (o : List ℕ) (k : ℕ) → k < length o → get_or o k 0 ≡ v → place_of v o ≤ k
place_of-le v [] k h e = absurd (omega arith)
place_of-le v (x ∷ xs) zero h e =
    elim (eqb_tells v x) [ inl s ↦ rw s.0 (omega arith) | inr n ↦ absurd (n.1 (sym e)) ]
place_of-le v (x ∷ xs) (suc k) h e =
    elim (eqb_tells v x) [ inl s ↦ rw s.0 (omega arith) | inr n ↦ rw n.0 (let r = place_of-le v xs k (omega arith) e in omega arith) ]

-- ---- every number below the length stands in an order

-- a test that a list's item passes
any_below : (o : List ℕ) (n : ℕ) → ((k : ℕ) → k < length o → get_or o k 0 < n) → (q : ℕ) → list_any (eqb q) o ≡ true → q < n
any_below [] n h q e = absurd (cc)
any_below (x ∷ xs) n h q e =
    elim (eqb_tells q x) [
      | inl s ↦ let first : x < n = h 0 (omega arith) in omega arith
      | inr d ↦ any_below xs n (λ k i. h (suc k) (omega arith)) q (rw d.0 at e)
    ]

-- no item is v, if its place is past the end
none_is : (v : ℕ) (o : List ℕ) → length o ≤ place_of v o → AllByRecursion (λ y. eqb v y ≡ false) o
none_is v [] h = tt
none_is v (x ∷ xs) h =
    elim (eqb_tells v x) [
      | inl s ↦ absurd (let g = rw s.0 at h in omega arith)
      | inr d ↦ (d.0, none_is v xs (let g = rw d.0 at h in omega arith))
    ]

pub distinct : (o : List ℕ) → IsOrder o → IsDistinct eqb o
distinct o ok =
    IsDistinct-from_apart eqb o
    (λ i j d below within. ne_eqb (get_or o i d) (get_or o j d)
    (λ e. absurd (let same : i ≡ j = ok.apart i j (omega arith) within (rw (get_or_default o i 0 d (omega arith), get_or_default o j 0 d within) e) in omega arith)))

-- the place of a number below the length is within the order
pub place_of-within : (o : List ℕ) → IsOrder o → (v : ℕ) → v < length o → place_of v o < length o
place_of-within o ok v h =
    ⊎_elim (λ i. i)
    (λ past. absurd
    (let long : length (v ∷ o) ≤ length o
    = length-le_from_distinct_below (v ∷ o) (length o) (IsDistinct-cons eqb v o (none_is v o past) (distinct o ok))
    (any_below (v ∷ o) (length o) (below_cons v o ok h))
    in omega arith))
    (cases_lt (place_of v o) (length o))
  where
    below_cons : (v : ℕ) (o : List ℕ) → IsOrder o → v < length o → (k : ℕ) → k < length (v ∷ o) → get_or (v ∷ o) k 0 < length o
    below_cons v o ok h zero i = h
    below_cons v o ok h (suc k) i = ok.below k (omega arith)

pub place_of-is : (o : List ℕ) → IsOrder o → (v : ℕ) → v < length o → get_or o (place_of v o) 0 ≡ v
place_of-is o ok v h = place_of-found v o (place_of-within o ok v h)

-- the place of the number that stands at k is k
pub place_of-at : (o : List ℕ) → IsOrder o → (k : ℕ) → k < length o → place_of (get_or o k 0) o ≡ k
place_of-at o ok k h =
    let early : place_of (get_or o k 0) o ≤ k = place_of-le (get_or o k 0) o k h refl in
    ok.apart (place_of (get_or o k 0) o) k (omega arith) h (place_of-found (get_or o k 0) o (omega arith))

-- ---- the identity

pub length-identity : (n : ℕ) → length (identity_of n) ≡ n
length-identity n = length-range_with_len 0 n

pub get_or-identity : (n k : ℕ) → k < n → get_or (identity_of n) k 0 ≡ k
get_or-identity n k h = get_or-range_with_len 0 n k 0 h ∙ omega arith

pub IsOrder-identity : (n : ℕ) → IsOrder (identity_of n)
IsOrder-identity n = record {
  below = λ k h. let within : k < n = omega (arith, length-identity n) in rw (length-identity n, get_or-identity n k within) within;
  apart = λ i j h g e.
      let a : i < n = omega (arith, length-identity n) in
      let b : j < n = omega (arith, length-identity n) in
      sym (get_or-identity n i a) ∙ e ∙ get_or-identity n j b;
}

pub identity_left : (o : List ℕ) → IsOrder o → composed (identity_of (length o)) o ≡ o
identity_left o ok =
    ext_get_or 0 (picked o (identity_of (length o))) o (length-picked o (identity_of (length o)))
    (λ k h. let within : k < length o = omega (arith, length-picked o (identity_of (length o))) in
    get_or-picked o (identity_of (length o)) k within ∙ get_or-identity (length o) (get_or o k 0) (ok.below k within))

-- any list is as it was under the identity of its length
pub identity_right : (xs : List ℕ) (n : ℕ) → n ≡ length xs → picked (identity_of n) xs ≡ xs
identity_right xs n e =
    ext_get_or 0 (picked (identity_of n) xs) xs (length-picked (identity_of n) xs ∙ length-identity n ∙ e)
    (λ k h. let within : k < n = omega (arith, length-picked (identity_of n) xs, length-identity n) in
    get_or-picked (identity_of n) xs k (rw (length-identity n) within) ∙ ap (λ i. get_or xs i 0) (get_or-identity n k within))

-- ---- one order and then another one

pub length-composed : (a b : List ℕ) → length (composed a b) ≡ length b
length-composed a b = length-picked b a

pub get_or-composed : (a b : List ℕ) (k : ℕ) → k < length b → get_or (composed a b) k 0 ≡ get_or a (get_or b k 0) 0
get_or-composed a b k h = get_or-picked b a k h

pub IsOrder-composed : (a b : List ℕ) → IsOrder a → IsOrder b → length a ≡ length b → IsOrder (composed a b)
IsOrder-composed a b p q e = record {
  below = λ k h.
      let within : k < length b = omega (arith, length-picked b a) in
      rw (length-picked b a, get_or-picked b a k within)
      (let inner : get_or b k 0 < length b = q.below k within in
      let outer : get_or a (get_or b k 0) 0 < length a = p.below (get_or b k 0) (omega arith) in omega arith);
  apart = λ i j h g s.
      let x : i < length b = omega (arith, length-picked b a) in
      let y : j < length b = omega (arith, length-picked b a) in
      let u : get_or b i 0 < length b = q.below i x in
      let v : get_or b j 0 < length b = q.below j y in
      q.apart i j x y
      (p.apart (get_or b i 0) (get_or b j 0) (omega arith) (omega arith) (sym (get_or-picked b a i x) ∙ s ∙ get_or-picked b a j y));
}

-- items that are picked after one order and then another one
pub applied_twice : (a b xs : List ℕ) → IsOrder b → length a ≡ length b → applied (composed a b) xs ≡ applied b (applied a xs)
applied_twice a b xs q e = sym (picked-picked b a xs (λ k h. let i : get_or b k 0 < length b = q.below k h in omega arith))

pub composed_assoc : (a b c : List ℕ) → IsOrder c → length b ≡ length c → composed (composed a b) c ≡ composed a (composed b c)
composed_assoc a b c q e = picked-picked c b a (λ k h. let i : get_or c k 0 < length c = q.below k h in omega arith)

-- ---- the inverse

pub length-inverse : (o : List ℕ) → length (inverse_of o) ≡ length o
length-inverse o =
    length-map (range_with_len 0 (length o)) (λ v. place_of v o) ∙ length-range_with_len 0 (length o)

pub get_or-inverse : (o : List ℕ) (v : ℕ) → v < length o → get_or (inverse_of o) v 0 ≡ place_of v o
get_or-inverse o v h =
    get_or-map (λ w. place_of w o) (range_with_len 0 (length o)) v 0 0 (rw (length-range_with_len 0 (length o)) h)
    ∙ ap (λ w. place_of w o) (get_or-identity (length o) v h)

pub IsOrder-inverse : (o : List ℕ) → IsOrder o → IsOrder (inverse_of o)
IsOrder-inverse o ok = record {
  below = λ k h.
      let within : k < length o = omega (arith, length-inverse o) in
      rw (length-inverse o, get_or-inverse o k within) (place_of-within o ok k within);
  apart = λ i j h g s.
      let a : i < length o = omega (arith, length-inverse o) in
      let b : j < length o = omega (arith, length-inverse o) in
      sym (place_of-is o ok i a) ∙ ap (λ w. get_or o w 0) (sym (get_or-inverse o i a) ∙ s ∙ get_or-inverse o j b) ∙ place_of-is o ok j b;
}

pub inverse_right : (o : List ℕ) → IsOrder o → composed o (inverse_of o) ≡ identity_of (length o)
inverse_right o ok =
    ext_get_or 0 (picked (inverse_of o) o) (identity_of (length o)) (length-picked (inverse_of o) o ∙ length-inverse o ∙ sym (length-identity (length o)))
    (λ k h.
    let within : k < length o = omega (arith, length-picked (inverse_of o) o, length-inverse o) in
    get_or-picked (inverse_of o) o k (rw (length-inverse o) within) ∙ ap (λ w. get_or o w 0) (get_or-inverse o k within)
    ∙ place_of-is o ok k within ∙ sym (get_or-identity (length o) k within))

pub inverse_left : (o : List ℕ) → IsOrder o → composed (inverse_of o) o ≡ identity_of (length o)
inverse_left o ok =
    ext_get_or 0 (picked o (inverse_of o)) (identity_of (length o)) (length-picked o (inverse_of o) ∙ sym (length-identity (length o)))
    (λ k h.
    let within : k < length o = omega (arith, length-picked o (inverse_of o)) in
    get_or-picked o (inverse_of o) k within ∙ get_or-inverse o (get_or o k 0) (ok.below k within)
    ∙ place_of-at o ok k within ∙ sym (get_or-identity (length o) k within))

-- a list that gives the identity after an order is its inverse
pub only_inverse : (o p : List ℕ) → IsOrder o → length p ≡ length o → ((k : ℕ) → k < length p → get_or p k 0 < length o)
    → composed o p ≡ identity_of (length o) → p ≡ inverse_of o
only_inverse o p ok e small is =
    ext_get_or 0 p (inverse_of o) (e ∙ sym (length-inverse o))
    (λ k h.
    let within : k < length o = omega arith in
    let there : get_or o (get_or p k 0) 0 ≡ k = sym (get_or-picked p o k h) ∙ ap (λ w. get_or w k 0) is ∙ get_or-identity (length o) k within in
    sym (place_of-at o ok (get_or p k 0) (small k h)) ∙ ap (λ w. place_of w o) there ∙ sym (get_or-inverse o k within))

-- the first i numbers of an order have written where they stand
pub record PlacesBack (o r : List ℕ) (i : ℕ) : Type 0 where
  pub long : length r ≡ length o
  pub back : (k : ℕ) → k < i → get_or r (get_or o k 0) 0 ≡ k

pub places_back_more : (o r : List ℕ) (i : ℕ) → IsOrder o → PlacesBack o r i → i < length o → PlacesBack o (set r (get_or o i 0) i) (i + 1)
places_back_more o r i ok p h =
    let within : get_or o i 0 < length r = let b : get_or o i 0 < length o = ok.below i h in omega (arith, p.long) in
    record {
      long = length-set r (get_or o i 0) i ∙ p.long;
      back = λ k b.
          ⊎_elim
          (λ same. subst (λ (n : ℕ). get_or (set r (get_or o i 0) i) (get_or o n 0) 0 ≡ n) (sym same) (get_or-set_same r (get_or o i 0) i 0 within))
          (λ other.
          let early : k < i = omega arith in
          let apart : get_or o k 0 ≢ get_or o i 0 = λ e. other (ok.apart k i (omega arith) h e) in
          get_or-set_other r (get_or o i 0) (get_or o k 0) i 0 apart ∙ p.back k early)
          (cases_eq k i);
    }

pub places_back_all : (o r : List ℕ) (i : ℕ) → IsOrder o → PlacesBack o r i → length o ≤ i → r ≡ inverse_of o
places_back_all o r i ok p h =
    ext_get_or 0 r (inverse_of o) (p.long ∙ sym (length-inverse o))
    (λ v b.
    let within : v < length o = omega (arith, p.long) in
    let place : place_of v o < length o = place_of-within o ok v within in
    ap (λ n. get_or r n 0) (sym (place_of-is o ok v within)) ∙ p.back (place_of v o) (omega arith) ∙ sym (get_or-inverse o v within))

-- an order whose numbers have 32 bits is short
pub short_from_numbers : (o : List ℕ) → IsOrder o → ((k : ℕ) → k < length o → get_or o k 0 < 2 ^ 32) → length o ≤ 2 ^ 32
short_from_numbers o ok small =
    ⊎_elim
    (λ long. absurd
    (let b : get_or o (place_of (2 ^ 32) o) 0 < 2 ^ 32 = small (place_of (2 ^ 32) o) (place_of-within o ok (2 ^ 32) long) in
    let e : get_or o (place_of (2 ^ 32) o) 0 ≡ 2 ^ 32 = place_of-is o ok (2 ^ 32) long in omega arith))
    (λ short. short)
    (cases_lt (2 ^ 32) (length o))

-- ---- orders of at most 2 ^ 32 items

range_more : (a n : ℕ) → range_with_len a (suc n) ≡ range_with_len a n ++ (a + n) ∷ []
range_more a zero = rw add-zero refl
range_more a (suc n) =
    ap (λ xs. a ∷ xs) (range_more (a + 1) n ∙ ap (λ i. range_with_len (a + 1) n ++ i ∷ []) (omega arith))

-- the identity of one more item
pub identity_more : (n : ℕ) → identity_of (n + 1) ≡ identity_of n ++ n ∷ []
identity_more n =
    rw add-one (range_more 0 n ∙ ap (λ i. range_with_len 0 n ++ i ∷ []) (omega arith))

pub short_identity : (n : ℕ) → n ≤ 2 ^ 32 → IsShortOrder (identity_of n)
short_identity n h = record { order = IsOrder-identity n; short = omega (arith, length-identity n) }

pub short_composed : (a b : List ℕ) → IsShortOrder a → IsShortOrder b → length b ≡ length a → IsShortOrder (composed a b)
short_composed a b p q e = record {
  order = IsOrder-composed a b p.order q.order (sym e);
  short = let s : length b ≤ 2 ^ 32 = q.short in omega (arith, length-picked b a);
}

pub short_inverse : (o : List ℕ) → IsShortOrder o → IsShortOrder (inverse_of o)
short_inverse o p = record {
  order = IsOrder-inverse o p.order;
  short = let s : length o ≤ 2 ^ 32 = p.short in omega (arith, length-inverse o);
}

-- ---- what applying goes through

-- a pick of places within the list goes through any function
picked-map : (f : ℕ → ℕ) (ps xs : List ℕ) → ((k : ℕ) → k < length ps → get_or ps k 0 < length xs) → picked ps (map f xs) ≡ map f (picked ps xs)
picked-map f [] xs h = refl
picked-map f (p ∷ ps) xs h =
    rw (get_or-map f xs p 0 0 (h 0 (omega arith)), picked-map f ps xs (λ k i. h (suc k) (omega arith))) refl

pub applied-map : (f : ℕ → ℕ) (o xs : List ℕ) → IsOrder o → length o ≡ length xs → applied o (map f xs) ≡ map f (applied o xs)
applied-map f o xs ok e = picked-map f o xs (λ k h. let b : get_or o k 0 < length o = ok.below k h in omega arith)
