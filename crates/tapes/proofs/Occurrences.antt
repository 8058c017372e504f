-- Where places are sorted by their rows, how often a row came before is how often it stands before
-- in the sorted list.
use Rattle.std.proofs.Common.{◌≡◌, ℕ, suc, zero, ◌+◌, ◌<◌, ◌≤◌, Bool, true, false, cond, ◌&&◌, ltb, List, [], ◌∷◌, ◌++◌, length, get_or, map, take, drop, refl, sym, ◌∙◌, ap, subst, ⊎_elim, ◌⊎◌, inl, inr, arith, zero-add}
use Rattle.std.specs.List.{sum_by}
use Rattle.std.specs.List.Sorted.{IsPermutation}
use Rattle.std.specs.declared.cmp.Ordering.TheVariants.{Less, Equal}
use Rattle.std.proofs.lemmas.Bool.{lt-ltb, le-ltb}
use Rattle.std.proofs.lemmas.List.{take-append-drop, get_or-take, get_or-drop, get_or_default, length-take, length-drop}
use Rattle.std.proofs.lemmas.List.Recursion.{is_sum_by}
use Rattle.std.proofs.lemmas.List.Sorted.{sum_by-IsPermutation}
use Rattle.std.proofs.lemmas.Cmp.{tied_itself}
use Rattle.bags.specs.Bag.{row_eq, count_of}
use Rattle.bags.specs.Sorted.{row_cmp}
use Rattle.std.specs.Cmp.Lexicographic.{bytes_decides, nat_list_cmp_total}
use Rattle.tapes.specs.Align.{Numbered}
use Rattle.tapes.proofs.Keyed.{KeyedBelow}

-- how many items pass a test
abbrev pub passing : {X : Type 0} → (X → Bool) → List X → ℕ
passing p [] = 0
passing p (x ∷ xs) = (cond (p x) 1 0) + passing p xs

-- a permutation has as many
pub passing-permutation : {X : Type 0} (p : X → Bool) (xs ys : List X) → IsPermutation xs ys → passing p xs ≡ passing p ys
passing-permutation {X} p xs ys h =
    counted xs ∙ sym (sum_by-IsPermutation (λ y. cond (p y) 1 0) xs ys h) ∙ sym (counted ys)
  where
    counted : (zs : List X) → passing p zs ≡ sum_by (λ y. cond (p y) 1 0) zs
    counted zs = is_sum_by (passing p) (λ y. cond (p y) 1 0) refl (λ _ _. refl) zs

passing-append : {X : Type 0} (p : X → Bool) (xs ys : List X) → passing p (xs ++ ys) ≡ passing p xs + passing p ys
passing-append p [] ys = omega arith
passing-append p (x ∷ xs) ys = let rest = passing-append p xs ys in omega arith

-- no item passes
passing_none : {X : Type 0} (p : X → Bool) (zs : List X) → ((k : ℕ) (d : X) → k < length zs → p (get_or zs k d) ≡ false) → passing p zs ≡ 0
passing_none p [] h = refl
passing_none p (z ∷ zs) h = rw (h 0 z (omega arith), zero-add) (passing_none p zs (λ k d i. h (suc k) d (omega arith)))

-- the items pass whose rows are equal to a row
passing_rows : {X : Type 0} (p : X → Bool) (f : X → List ℕ) (r : List ℕ) (zs : List X) → ((k : ℕ) (d : X) → k < length zs → p (get_or zs k d) ≡ row_eq r (f (get_or zs k d)))
    → passing p zs ≡ count_of r (map f zs)
passing_rows p f r [] h = refl
passing_rows p f r (z ∷ zs) h =
    rw (h 0 z (omega arith)) (ap (λ n. cond (row_eq r (f z)) 1 0 + n) (passing_rows p f r zs (λ k d i. h (suc k) d (omega arith))))

and_true : (b c : Bool) → c ≡ true → (b && c) ≡ b
and_true true c e = e
and_true false c e = refl

and_false : (b c : Bool) → c ≡ false → (b && c) ≡ false
and_false true c e = e
and_false false c e = refl

-- ---- the places before one, of items in the order of the places

none_before : {X : Type 0} (f : X → List ℕ) (g : X → ℕ) (r : List ℕ) (a b : ℕ) (rs : List (List ℕ)) (xs : List X) → Numbered f g a rs xs → b ≤ a
    → passing (λ y. row_eq r (f y) && ltb (g y) b) xs ≡ 0
none_before f g r a b [] [] n h = refl
none_before f g r a b [] (x ∷ xs) n h = absurd n
none_before f g r a b (s ∷ rs) [] n h = absurd n
none_before f g r a b (s ∷ rs) (x ∷ xs) n h =
    rw (and_false (row_eq r (f x)) (ltb (g x) b) (le-ltb (g x) b (omega (arith, n.1))), zero-add) (none_before f g r (suc a) b rs xs n.2 (omega arith))

pub passing_numbered : {X : Type 0} (f : X → List ℕ) (g : X → ℕ) (r : List ℕ) (a b m : ℕ) (rs : List (List ℕ)) (xs : List X) → Numbered f g a rs xs → b ≡ a + m
    → passing (λ y. row_eq r (f y) && ltb (g y) b) xs ≡ count_of r (take m rs)
passing_numbered f g r a b zero rs xs n e = none_before f g r a b rs xs n (omega arith)
passing_numbered f g r a b (suc m) [] [] n e = refl
passing_numbered f g r a b (suc m) [] (x ∷ xs) n e = absurd n
passing_numbered f g r a b (suc m) (s ∷ rs) [] n e = absurd n
passing_numbered f g r a b (suc m) (s ∷ rs) (x ∷ xs) n e =
    rw (and_true (row_eq r (f x)) (ltb (g x) b) (lt-ltb (g x) b (omega (arith, n.1))), n.0)
    (ap (λ i. cond (row_eq r s) 1 0 + i) (passing_numbered f g r (suc a) b m rs xs n.2 (omega arith)))

-- ---- the same of items in order

rows_differ : (x y : List ℕ) → row_cmp x y ≡ Less → row_eq y x ≡ false
rows_differ x y less = cases (row_eq y x) refl where
  cases : (b : Bool) → row_eq y x ≡ b → b ≡ false
  cases false e = refl
  cases true e = absurd
      (let same : y ≡ x = (bytes_decides y x).0 e in
      let tied : row_cmp x y ≡ Equal = ap (λ z. row_cmp x z) same ∙ tied_itself nat_list_cmp_total x in
      let both : Less ≡ Equal = sym less ∙ tied in cc)

rows_differ_back : (x y : List ℕ) → row_cmp x y ≡ Less → row_eq x y ≡ false
rows_differ_back x y less = cases (row_eq x y) refl where
  cases : (b : Bool) → row_eq x y ≡ b → b ≡ false
  cases false e = refl
  cases true e = absurd
      (let same : x ≡ y = (bytes_decides x y).0 e in
      let tied : row_cmp x y ≡ Equal = ap (λ z. row_cmp x z) (sym same) ∙ tied_itself nat_list_cmp_total x in
      let both : Less ≡ Equal = sym less ∙ tied in cc)

earlier : {X : Type 0} (f : X → List ℕ) (g : X → ℕ) (q y : X) → KeyedBelow row_cmp f g y q → (row_eq (f q) (f y) && ltb (g y) (g q)) ≡ row_eq (f q) (f y)
earlier f g q y (inl less) = rw (rows_differ (f y) (f q) less) refl
earlier f g q y (inr tie) = and_true (row_eq (f q) (f y)) (ltb (g y) (g q)) (lt-ltb (g y) (g q) tie.1)

later : {X : Type 0} (f : X → List ℕ) (g : X → ℕ) (q y : X) → KeyedBelow row_cmp f g q y → (row_eq (f q) (f y) && ltb (g y) (g q)) ≡ false
later f g q y (inl less) = rw (rows_differ_back (f q) (f y) less) refl
later f g q y (inr tie) = and_false (row_eq (f q) (f y)) (ltb (g y) (g q)) (le-ltb (g y) (g q) (omega (arith, tie.1)))

zero_or_more : (k : ℕ) → (k ≡ 0) ⊎ (0 < k)
zero_or_more zero = inl refl
zero_or_more (suc k) = inr (omega arith)

pub passing_sorted : {X : Type 0} (f : X → List ℕ) (g : X → ℕ) (ys : List X)
    → ((i j : ℕ) (d : X) → i < j → j < length ys → KeyedBelow row_cmp f g (get_or ys i d) (get_or ys j d))
    → (j : ℕ) (q : X) → j < length ys → get_or ys j q ≡ q
    → passing (λ y. row_eq (f q) (f y) && ltb (g y) (g q)) ys ≡ count_of (f q) (map f (take j ys))
passing_sorted {X} f g ys below j q h e =
    ap (passing test) (sym (take-append-drop j ys)) ∙ passing-append test (take j ys) (drop j ys)
    ∙ ap (λ n. n + passing test (drop j ys)) front ∙ ap (λ n. count_of (f q) (map f (take j ys)) + n) back ∙ omega arith
  where
    test : X → Bool
    test y = row_eq (f q) (f y) && ltb (g y) (g q)

    at_j : (d : X) → get_or ys j d ≡ q
    at_j d = get_or_default ys j d q h ∙ e

    front : passing test (take j ys) ≡ count_of (f q) (map f (take j ys))
    front = passing_rows test f (f q) (take j ys)
        (λ k d i.
        let small : k < j = omega (arith, length-take j ys) in
        subst (λ (y : X). test y ≡ row_eq (f q) (f y)) (sym (get_or-take j ys k d small))
        (earlier f g q (get_or ys k d) (subst (λ (z : X). KeyedBelow row_cmp f g (get_or ys k d) z) (at_j d) (below k j d small h))))

    back : passing test (drop j ys) ≡ 0
    back = passing_none test (drop j ys)
        (λ k d i.
        let within : j + k < length ys = omega (arith, length-drop j ys) in
        subst (λ (y : X). test y ≡ false) (sym (get_or-drop j ys k d))
        (⊎_elim
        (λ first. subst (λ (n : ℕ). test (get_or ys n d) ≡ false) (omega arith)
        (subst (λ (y : X). test y ≡ false) (sym (at_j d)) (and_false (row_eq (f q) (f q)) (ltb (g q) (g q)) (le-ltb (g q) (g q) (omega arith)))))
        (λ more. later f g q (get_or ys (j + k) d) (subst (λ (z : X). KeyedBelow row_cmp f g z (get_or ys (j + k) d)) (at_j d) (below j (j + k) d (omega arith) within)))
        (zero_or_more k)))
