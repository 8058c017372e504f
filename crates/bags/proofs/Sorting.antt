-- `sorted_by`: it has the bag of the list, ascends, and is the same for the same bag; and a list that ascends is sorted already.
use Rattle.std.proofs.Common.{◌≡◌, Bool, true, false, cond, List, [], ◌∷◌, ◌++◌, map, Ordering, refl, sym, ◌∙◌, ap, arith, true≢false, zero, suc, add-one}
use Rattle.std.specs.Ordering.{is_lt, ordering_reverse}
use Rattle.std.specs.declared.cmp.Ordering.TheVariants.{Less, Equal, Greater}
use Rattle.std.specs.List.Sorted.{IsSorted, IsSortedByKey}
use Rattle.std.specs.Cmp.{IsStrictWeakOrder, IsTotalOrder}
use Rattle.std.proofs.lemmas.Bool.{true_from_ne_false}
use Rattle.std.proofs.lemmas.List.Sorted.{ranks_by}
use Rattle.bags.specs.Bag.{SameBagBy}
use Rattle.bags.specs.Sorted.{insert_by, sorted_by}
use Rattle.bags.proofs.Bags.{IsEqualityTest, SameBag-refl, SameBag-sym, SameBag-trans, SameBag-same, SameBag-cons, SameBag-middle, by_bag}

-- a total order in which only equal elements tie
pub record IsLinearOrder {X : Type 0} (cmp : X → X → Ordering) : Type 0 where
  pub total : IsTotalOrder cmp
  pub ties : (x y : X) → cmp x y ≡ Equal → x ≡ y

-- x isn't above the first element
abbrev pub IsFirst : {X : Type 0} → (X → X → Ordering) → X → List X → Type 0
IsFirst cmp x [] = Unit {0}
IsFirst cmp x (y ∷ ys) = is_lt (cmp y x) ≡ false

-- no element is below the one before it
abbrev pub Ascends : {X : Type 0} → (X → X → Ordering) → List X → Type 0
Ascends cmp [] = Unit {0}
Ascends cmp (x ∷ xs) = IsFirst cmp x xs × Ascends cmp xs

module _ {X : Type 0} (cmp : X → X → Ordering) where
  -- from the form that std's sorts ensure, of the keys that the elements are sorted by
  pub Ascends-from_sorted : {Y : Type 0} (key : Y → X) (ys : List Y) → IsSortedByKey key cmp ys → Ascends cmp (map key ys)
  Ascends-from_sorted key [] h = tt
  Ascends-from_sorted key (x ∷ []) h = (tt, tt)
  Ascends-from_sorted key (x ∷ y ∷ ys) h = (h 0 x (omega arith) (omega arith), Ascends-from_sorted key (y ∷ ys) (λ k d low high. simp add-one (simp add-one at (h (suc k) d (omega arith) (omega arith)))))

  pub sorted_from-Ascends : (xs : List X) → Ascends cmp xs → IsSorted cmp xs
  sorted_from-Ascends [] h k d low high = absurd (omega arith)
  sorted_from-Ascends (x ∷ []) h k d low high = absurd (omega arith)
  sorted_from-Ascends (x ∷ y ∷ ys) h zero d low high = h.0
  sorted_from-Ascends (x ∷ y ∷ ys) h (suc k) d low high = simp add-one (simp add-one at (sorted_from-Ascends (y ∷ ys) h.1 k d (omega arith) (omega arith)))

  pub sorted_by-Ascends : (xs : List X) → Ascends cmp xs → sorted_by cmp xs ≡ xs
  sorted_by-Ascends [] h = refl
  sorted_by-Ascends (x ∷ []) h = refl
  sorted_by-Ascends (x ∷ y ∷ ys) h = rw (sorted_by-Ascends (y ∷ ys) h.1, h.0) refl

-- what stays when x is put into a list
module _ {X : Type 0} (cmp : X → X → Ordering) where
  pub SameBag-insert_by : {eq : X → X → Bool} (x : X) (xs : List X) → SameBagBy eq (insert_by cmp x xs) (x ∷ xs)
  SameBag-insert_by x [] = SameBag-refl (x ∷ [])
  SameBag-insert_by {eq} x (y ∷ ys) = by (SameBag-insert_by x ys) (is_lt (cmp y x))
    where
      by : SameBagBy eq (insert_by cmp x ys) (x ∷ ys) → (b : Bool) → SameBagBy eq (cond b (y ∷ insert_by cmp x ys) (x ∷ y ∷ ys)) (x ∷ y ∷ ys)
      by rest true = SameBag-trans (SameBag-cons y rest) (SameBag-middle (y ∷ []) x ys)
      by rest false = SameBag-refl (x ∷ y ∷ ys)

  -- sorting moves elements, and no more
  pub SameBag-sorted_by : {eq : X → X → Bool} (xs : List X) → SameBagBy eq (sorted_by cmp xs) xs
  SameBag-sorted_by [] = SameBag-refl []
  SameBag-sorted_by (x ∷ xs) = SameBag-trans (SameBag-insert_by x (sorted_by cmp xs)) (SameBag-cons x (SameBag-sorted_by xs))

module _ {X : Type 0} {cmp : X → X → Ordering} (order : IsLinearOrder cmp) where
  -- of two elements, one isn't below the other
  above : (x y : X) → is_lt (cmp x y) ≡ true → is_lt (cmp y x) ≡ false
  above x y h = rw (order.total.antisymm y x) (by (cmp x y) h)
    where
      by : (o : Ordering) → is_lt o ≡ true → is_lt (ordering_reverse o) ≡ false
      by Less h = refl
      by Equal h = absurd (true≢false (sym h))
      by Greater h = absurd (true≢false (sym h))

  first-insert_by : (x z : X) (ys : List X) → is_lt (cmp x z) ≡ false → IsFirst cmp z ys → IsFirst cmp z (insert_by cmp x ys)
  first-insert_by x z [] h f = h
  first-insert_by x z (y ∷ ys) h f = by (is_lt (cmp y x))
    where
      by : (b : Bool) → IsFirst cmp z (cond b (y ∷ insert_by cmp x ys) (x ∷ y ∷ ys))
      by true = f
      by false = h

  Ascends-insert_by : (x : X) (xs : List X) → Ascends cmp xs → Ascends cmp (insert_by cmp x xs)
  Ascends-insert_by x [] h = (tt, tt)
  Ascends-insert_by x (y ∷ ys) h = by (Ascends-insert_by x ys h.1) (is_lt (cmp y x)) refl
    where
      by : Ascends cmp (insert_by cmp x ys) → (b : Bool) → is_lt (cmp y x) ≡ b → Ascends cmp (cond b (y ∷ insert_by cmp x ys) (x ∷ y ∷ ys))
      by rest true e = (first-insert_by x y ys (above y x e) h.0, rest)
      by rest false e = (e, h)

  pub Ascends-sorted_by : (xs : List X) → Ascends cmp (sorted_by cmp xs)
  Ascends-sorted_by [] = tt
  Ascends-sorted_by (x ∷ xs) = Ascends-insert_by x (sorted_by cmp xs) (Ascends-sorted_by xs)

  below : (x y z : X) → is_lt (cmp z x) ≡ false → is_lt (cmp z y) ≡ true → is_lt (cmp x y) ≡ true
  below x y z h k =
      let weak : IsStrictWeakOrder (λ a b. is_lt (cmp a b)) = ranks_by order.total (λ a. a) in
      true_from_ne_false (is_lt (cmp x y)) (λ e. true≢false (sym k ∙ weak.chain z x y h e))

  tied : (x y : X) → is_lt (cmp x y) ≡ false → is_lt (cmp y x) ≡ false → x ≡ y
  tied x y h k = order.ties x y (by (cmp x y) (cmp y x) (order.total.antisymm x y) h k)
    where
      by : (o p : Ordering) → o ≡ ordering_reverse p → is_lt o ≡ false → is_lt p ≡ false → o ≡ Equal
      by Less p e h k = absurd (true≢false h)
      by Equal p e h k = refl
      by Greater Less e h k = absurd (true≢false k)
      by Greater Equal e h k = e
      by Greater Greater e h k = absurd (true≢false (sym (ap is_lt e)))

  -- two fronts of a list, each put in by the test of the other
  pair_front : (x y : X) (zs : List X) → cond (is_lt (cmp y x)) (y ∷ x ∷ zs) (x ∷ y ∷ zs) ≡ cond (is_lt (cmp x y)) (x ∷ y ∷ zs) (y ∷ x ∷ zs)
  pair_front x y zs = by (is_lt (cmp y x)) refl (is_lt (cmp x y)) refl
    where
      by : (b : Bool) → is_lt (cmp y x) ≡ b → (c : Bool) → is_lt (cmp x y) ≡ c → cond b (y ∷ x ∷ zs) (x ∷ y ∷ zs) ≡ cond c (x ∷ y ∷ zs) (y ∷ x ∷ zs)
      by true e true f = absurd (true≢false (sym f ∙ above y x e))
      by true e false f = refl
      by false e true f = refl
      by false e false f = ap (λ v. x ∷ v ∷ zs) (sym (tied x y f e)) ∙ ap (λ v. v ∷ x ∷ zs) (tied x y f e)

  insert_by_comm : (x y : X) (zs : List X) → insert_by cmp x (insert_by cmp y zs) ≡ insert_by cmp y (insert_by cmp x zs)
  insert_by_comm x y [] = pair_front x y []
  insert_by_comm x y (z ∷ zs) = by (insert_by_comm x y zs) (is_lt (cmp z y)) refl (is_lt (cmp z x)) refl
    where
      by : insert_by cmp x (insert_by cmp y zs) ≡ insert_by cmp y (insert_by cmp x zs) → (p : Bool) → is_lt (cmp z y) ≡ p → (q : Bool) → is_lt (cmp z x) ≡ q
          → insert_by cmp x (cond p (z ∷ insert_by cmp y zs) (y ∷ z ∷ zs)) ≡ insert_by cmp y (cond q (z ∷ insert_by cmp x zs) (x ∷ z ∷ zs))
      by rest true e true f = rw (e, f) (ap (λ l. z ∷ l) rest)
      by rest true e false f = rw (f, below x y z f e, e) refl
      by rest false e true f = rw (e, below y x z e f, f) refl
      by rest false e false f = rw (e, f) (pair_front x y (z ∷ zs))

  sorted_by-middle : (x : X) (us vs : List X) → sorted_by cmp (us ++ x ∷ vs) ≡ insert_by cmp x (sorted_by cmp (us ++ vs))
  sorted_by-middle x [] vs = refl
  sorted_by-middle x (u ∷ us) vs = ap (insert_by cmp u) (sorted_by-middle x us vs) ∙ insert_by_comm u x (sorted_by cmp (us ++ vs))

  -- the same bag is sorted into the same list
  pub sorted_by-SameBag : {eq : X → X → Bool} → IsEqualityTest eq → {xs ys : List X} → SameBagBy eq xs ys → sorted_by cmp xs ≡ sorted_by cmp ys
  sorted_by-SameBag test {xs} {ys} = by_bag test (λ us vs. sorted_by cmp us ≡ sorted_by cmp vs) refl step xs ys
    where
      step : (x : X) (xs us vs : List X) → sorted_by cmp xs ≡ sorted_by cmp (us ++ vs) → sorted_by cmp (x ∷ xs) ≡ sorted_by cmp (us ++ x ∷ vs)
      step x xs us vs h = ap (insert_by cmp x) h ∙ sym (sorted_by-middle x us vs)

  pub SameBag-from_sorted_by : {eq : X → X → Bool} {xs ys : List X} → sorted_by cmp xs ≡ sorted_by cmp ys → SameBagBy eq xs ys
  SameBag-from_sorted_by {eq} {xs} {ys} e = SameBag-trans (SameBag-sym (SameBag-sorted_by cmp xs)) (SameBag-trans (SameBag-same e) (SameBag-sorted_by cmp ys))

  -- a list that ascends and has the bag of xs is what `sorted_by` gives of xs
  pub sorted_by_unique : {eq : X → X → Bool} → IsEqualityTest eq → {xs ys : List X} → SameBagBy eq xs ys → Ascends cmp ys → ys ≡ sorted_by cmp xs
  sorted_by_unique test {xs} {ys} h up = sym (sorted_by-Ascends cmp ys up) ∙ sym (sorted_by-SameBag test h)
