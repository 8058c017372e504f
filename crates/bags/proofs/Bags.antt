-- Lists that are the same bag: the equivalence, appending, induction, and the functions that keep it.
use Rattle.std.proofs.Common.{◌≡◌, ◌+◌, ◌<◌, Bool, true, false, cond, List, [], ◌∷◌, ◌++◌, map, refl, sym, ◌∙◌, ap, subst, arith, true≢false, zero, zero-add}
use Rattle.std.specs.Bool.{Decides}
use Rattle.std.specs.List.{flat_map, filter}
use Rattle.std.proofs.lemmas.List.{append_assoc, map-append}
use Rattle.std.proofs.lemmas.List.Concat.{flat_map-append}
use Rattle.std.proofs.lemmas.List.Elements.{filter-append}
use Rattle.bags.specs.Bag.{occurrences, SameBagBy}

-- the test answers true exactly where the two are equal
pub record IsEqualityTest {X : Type 0} (eq : X → X → Bool) : Type 0 where
  pub decides : (x y : X) → Decides (eq x y) (x ≡ y)

pub occurrences-append : {X : Type 0} (eq : X → X → Bool) (x : X) (xs ys : List X) → occurrences eq x (xs ++ ys) ≡ occurrences eq x xs + occurrences eq x ys
occurrences-append eq x [] ys = omega arith
occurrences-append eq x (z ∷ zs) ys = let rest = occurrences-append eq x zs ys in omega arith

module _ {X : Type 0} {eq : X → X → Bool} where
  pub SameBag-refl : (xs : List X) → SameBagBy eq xs xs
  SameBag-refl xs = record { counts = λ x. refl }

  pub SameBag-sym : {xs ys : List X} → SameBagBy eq xs ys → SameBagBy eq ys xs
  SameBag-sym h = record { counts = λ x. sym (h.counts x) }

  pub SameBag-trans : {xs ys zs : List X} → SameBagBy eq xs ys → SameBagBy eq ys zs → SameBagBy eq xs zs
  SameBag-trans h k = record { counts = λ x. h.counts x ∙ k.counts x }

  pub SameBag-same : {xs ys : List X} → xs ≡ ys → SameBagBy eq xs ys
  SameBag-same {xs} e = subst (SameBagBy eq xs) e (SameBag-refl xs)

  pub SameBag-append : {xs ys us vs : List X} → SameBagBy eq xs ys → SameBagBy eq us vs → SameBagBy eq (xs ++ us) (ys ++ vs)
  SameBag-append {xs} {ys} {us} {vs} h k = record { counts = λ x. rw (occurrences-append eq x xs us, occurrences-append eq x ys vs, h.counts x, k.counts x) refl }

  pub SameBag-append_comm : (xs ys : List X) → SameBagBy eq (xs ++ ys) (ys ++ xs)
  SameBag-append_comm xs ys = record { counts = λ x. omega (arith, occurrences-append eq x xs ys, occurrences-append eq x ys xs) }

  pub SameBag-cons : (x : X) {xs ys : List X} → SameBagBy eq xs ys → SameBagBy eq (x ∷ xs) (x ∷ ys)
  SameBag-cons x h = record { counts = λ y. ap (λ n. cond (eq y x) 1 0 + n) (h.counts y) }

  pub SameBag-middle : (us : List X) (x : X) (vs : List X) → SameBagBy eq (us ++ x ∷ vs) (x ∷ (us ++ vs))
  SameBag-middle us x vs = record { counts = λ y. omega (arith, occurrences-append eq y us (x ∷ vs), occurrences-append eq y us vs) }

  pub SameBag-middle_part : (xs us vs : List X) → SameBagBy eq (xs ++ (us ++ vs)) (us ++ (xs ++ vs))
  SameBag-middle_part xs us vs = record { counts = λ y. omega (arith, occurrences-append eq y xs (us ++ vs), occurrences-append eq y us vs, occurrences-append eq y us (xs ++ vs), occurrences-append eq y xs vs) }

  -- equal fronts may be left out
  pub SameBag-append_cancel : (xs : List X) {ys zs : List X} → SameBagBy eq (xs ++ ys) (xs ++ zs) → SameBagBy eq ys zs
  SameBag-append_cancel xs {ys} {zs} h = record { counts = λ x. omega (arith, occurrences-append eq x xs ys, occurrences-append eq x xs zs, h.counts x) }

  pub SameBag-cons_cancel : (x : X) {ys zs : List X} → SameBagBy eq (x ∷ ys) (x ∷ zs) → SameBagBy eq ys zs
  SameBag-cons_cancel x h = SameBag-append_cancel (x ∷ []) h

-- a list with x in it, cut before and after x
pub record IsSplit {X : Type 0} (x : X) (xs : List X) : Type 0 where
  pub before : List X
  pub after : List X
  pub is : xs ≡ before ++ x ∷ after

cond_nothing : (b : Bool) → cond b zero zero ≡ zero
cond_nothing true = refl
cond_nothing false = refl

module _ {X : Type 0} {eq : X → X → Bool} (test : IsEqualityTest eq) where
  pub eq_itself : (x : X) → eq x x ≡ true
  eq_itself x = (test.decides x x).1 refl

  pub occurrences_here : (x : X) (xs : List X) → 0 < occurrences eq x (x ∷ xs)
  occurrences_here x xs = rw (eq_itself x) (omega arith)

  -- an element that occurs stands somewhere
  pub split_at : (x : X) (xs : List X) → 0 < occurrences eq x xs → IsSplit x xs
  split_at x [] h = absurd (omega arith)
  split_at x (y ∷ ys) h = by (λ later. split_at x ys later) (eq x y) refl
    where
      by : (0 < occurrences eq x ys → IsSplit x ys) → (b : Bool) → eq x y ≡ b → IsSplit x (y ∷ ys)
      by in_rest true e = record { before = []; after = ys; is = ap (λ z. z ∷ ys) (sym ((test.decides x y).0 e)) }
      by in_rest false e =
          let counted = rw e at h in
          let later : 0 < occurrences eq x ys = omega arith in
          let rest = in_rest later in
          record { before = y ∷ rest.before; after = rest.after; is = ap (λ zs. y ∷ zs) rest.is }

  -- a filter keeps each occurrence of an element that passes, and none of another
  pub occurrences-filter : (p : X → Bool) (x : X) (xs : List X) → occurrences eq x (filter p xs) ≡ cond (p x) (occurrences eq x xs) 0
  occurrences-filter p x [] = sym (cond_nothing (p x))
  occurrences-filter p x (y ∷ ys) = by (p y) refl (eq x y) refl (p x) refl (occurrences-filter p x ys)
    where
      by : (b : Bool) → p y ≡ b → (c : Bool) → eq x y ≡ c → (d : Bool) → p x ≡ d → occurrences eq x (filter p ys) ≡ cond d (occurrences eq x ys) 0
          → occurrences eq x (cond b (y ∷ filter p ys) (filter p ys)) ≡ cond d (cond c 1 0 + occurrences eq x ys) 0
      by true e true f true g rest = rw (f, rest) refl
      by true e true f false g rest = absurd (true≢false (sym e ∙ sym (ap p ((test.decides x y).0 f)) ∙ g))
      by true e false f true g rest = rw (f, rest) refl
      by true e false f false g rest = rw (f, rest) refl
      by false e true f true g rest = absurd (true≢false (sym g ∙ ap p ((test.decides x y).0 f) ∙ e))
      by false e true f false g rest = rest
      by false e false f true g rest = rest ∙ sym (zero-add (occurrences eq x ys))
      by false e false f false g rest = rest

  -- Induction over lists that are the same bag: an element in front of the one stands anywhere in the other.
  module _ (P : List X → List X → Type 0) (none : P [] []) (step : (x : X) (xs us vs : List X) → P xs (us ++ vs) → P (x ∷ xs) (us ++ x ∷ vs)) where
    pub by_bag : (xs ys : List X) → SameBagBy eq xs ys → P xs ys
    by_bag [] [] h = none
    by_bag [] (y ∷ ys) h = absurd (omega (arith, h.counts y, occurrences_here y ys))
    by_bag (x ∷ xs) ys h =
        let there = split_at x ys (omega (arith, h.counts x, occurrences_here x xs)) in
        let moved = SameBag-trans (SameBag-trans h (SameBag-same there.is)) (SameBag-middle there.before x there.after) in
        subst (P (x ∷ xs)) (sym there.is) (step x xs there.before there.after (by_bag xs (there.before ++ there.after) (SameBag-cons_cancel x moved)))

-- A function of lists that keeps appending keeps bags.
module _ {X Y : Type 0} {eq : X → X → Bool} (test : IsEqualityTest eq) {eqY : Y → Y → Bool} where
  pub SameBag-through : (F : List X → List Y) → ((xs ys : List X) → F (xs ++ ys) ≡ F xs ++ F ys) → {xs ys : List X} → SameBagBy eq xs ys → SameBagBy eqY (F xs) (F ys)
  SameBag-through F keeps {xs} {ys} = by_bag test (λ us vs. SameBagBy eqY (F us) (F vs)) (SameBag-refl (F [])) step xs ys
    where
      step : (x : X) (xs us vs : List X) → SameBagBy eqY (F xs) (F (us ++ vs)) → SameBagBy eqY (F (x ∷ xs)) (F (us ++ x ∷ vs))
      step x xs us vs h =
          let one = F (x ∷ []) in
          let front = SameBag-same (keeps (x ∷ []) xs) in
          let moved = SameBag-append (SameBag-refl one) (SameBag-trans h (SameBag-same (keeps us vs))) in
          let back : F (us ++ x ∷ vs) ≡ F us ++ (one ++ F vs) = keeps us (x ∷ vs) ∙ ap (λ l. F us ++ l) (keeps (x ∷ []) vs) in
          let around = SameBag-middle_part one (F us) (F vs) in
          SameBag-trans front (SameBag-trans moved (SameBag-trans around (SameBag-same (sym back))))

  pub SameBag-map : (f : X → Y) {xs ys : List X} → SameBagBy eq xs ys → SameBagBy eqY (map f xs) (map f ys)
  SameBag-map f h = SameBag-through (map f) (map-append f) h

  -- the same pieces, whatever the order within each
  pub SameBag-pieces : (f g : X → List Y) → ((x : X) → SameBagBy eqY (f x) (g x)) → (xs : List X) → SameBagBy eqY (flat_map f xs) (flat_map g xs)
  SameBag-pieces f g each [] = SameBag-refl []
  SameBag-pieces f g each (x ∷ xs) = SameBag-append (each x) (SameBag-pieces f g each xs)

  pub SameBag-flat_map : (f g : X → List Y) → ((x : X) → SameBagBy eqY (f x) (g x)) → {xs ys : List X} → SameBagBy eq xs ys → SameBagBy eqY (flat_map f xs) (flat_map g ys)
  SameBag-flat_map f g each {xs} {ys} h = SameBag-trans (SameBag-through (flat_map f) (flat_map-append f) h) (SameBag-pieces f g each ys)

pub SameBag-filter : {X : Type 0} {eq : X → X → Bool} (test : IsEqualityTest eq) (p : X → Bool) {xs ys : List X} → SameBagBy eq xs ys → SameBagBy eq (filter p xs) (filter p ys)
SameBag-filter test p h = SameBag-through test (filter p) (filter-append p) h

module _ {X Y : Type 0} {eqY : Y → Y → Bool} where
  -- two pieces from each element, or first all the one and then all the other
  pub SameBag-flat_map_append : (f g : X → List Y) (xs : List X) → SameBagBy eqY (flat_map (λ x. f x ++ g x) xs) (flat_map f xs ++ flat_map g xs)
  SameBag-flat_map_append f g [] = SameBag-refl []
  SameBag-flat_map_append f g (x ∷ xs) =
      let rest = SameBag-append (SameBag-refl (f x ++ g x)) (SameBag-flat_map_append f g xs) in
      let four = SameBag-append (SameBag-refl (f x)) (SameBag-middle_part (g x) (flat_map f xs) (flat_map g xs)) in
      let left : (f x ++ g x) ++ (flat_map f xs ++ flat_map g xs) ≡ f x ++ (g x ++ (flat_map f xs ++ flat_map g xs)) = append_assoc (f x) (g x) (flat_map f xs ++ flat_map g xs) in
      let right : (f x ++ flat_map f xs) ++ (g x ++ flat_map g xs) ≡ f x ++ (flat_map f xs ++ (g x ++ flat_map g xs)) = append_assoc (f x) (flat_map f xs) (g x ++ flat_map g xs) in
      SameBag-trans rest (SameBag-trans (SameBag-same left) (SameBag-trans four (SameBag-same (sym right))))

-- pairs of two lists, by the one or by the other first
pub SameBag-nested : {X Y Z : Type 0} {eqZ : Z → Z → Bool} (f : X → Y → List Z) (xs : List X) (ys : List Y) → SameBagBy eqZ (flat_map (λ x. flat_map (f x) ys) xs) (flat_map (λ y. flat_map (λ x. f x y) xs) ys)
SameBag-nested f [] [] = SameBag-refl []
SameBag-nested f [] (y ∷ ys) = SameBag-nested f [] ys
SameBag-nested f (x ∷ xs) ys = SameBag-trans (SameBag-append (SameBag-refl (flat_map (f x) ys)) (SameBag-nested f xs ys)) (SameBag-sym (SameBag-flat_map_append (f x) (λ y. flat_map (λ z. f z y) xs) ys))
