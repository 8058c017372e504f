-- Lists whose images under a function are the same bag.
use Rattle.std.proofs.Common.{◌≡◌, ◌<◌, Bool, true, false, List, [], ◌∷◌, ◌++◌, map, refl, sym, ◌∙◌, ap, subst, arith}
use Rattle.std.specs.List.{All}
use Rattle.std.proofs.lemmas.List.{map-append}
use Rattle.std.proofs.lemmas.List.Elements.{All-cons, All-head, All-tail}
use Rattle.bags.specs.Bag.{occurrences, SameBagBy}
use Rattle.bags.proofs.Bags.{IsEqualityTest, SameBag-append, SameBag-cons_cancel, SameBag-middle, SameBag-middle_part, SameBag-refl, SameBag-same, SameBag-trans, occurrences_here}

-- a list with an element in it whose image is k, cut before and after that element
pub record IsSplitAt {X K : Type 0} (h : X → K) (k : K) (xs : List X) : Type 0 where
  pub before : List X
  pub here : X
  pub after : List X
  pub is : xs ≡ before ++ here ∷ after
  pub image : h here ≡ k

-- what holds of each element holds of one in the middle, and of the others
All-without : {X : Type 0} (Q : X → Type 0) (us : List X) (y : X) (vs : List X) → All Q (us ++ y ∷ vs) → Q y × All Q (us ++ vs)
All-without Q [] y vs all = (All-head Q y vs all, All-tail Q y vs all)
All-without Q (u ∷ us) y vs all =
    let rest = All-without Q us y vs (All-tail Q u (us ++ y ∷ vs) all) in
    (rest.0, All-cons Q u (us ++ vs) (All-head Q u (us ++ y ∷ vs) all) rest.1)

module _ {X K : Type 0} {eq : K → K → Bool} (test : IsEqualityTest eq) (h : X → K) where
  pub split_image : (k : K) (xs : List X) → 0 < occurrences eq k (map h xs) → IsSplitAt h k xs
  split_image k [] some = absurd (omega arith)
  split_image k (x ∷ xs) some = by (λ later. split_image k xs later) (eq k (h x)) refl
    where
      by : (0 < occurrences eq k (map h xs) → IsSplitAt h k xs) → (b : Bool) → eq k (h x) ≡ b → IsSplitAt h k (x ∷ xs)
      by in_rest true e = record { before = []; here = x; after = xs; is = refl; image = sym ((test.decides k (h x)).0 e) }
      by in_rest false e =
          let counted = rw e at some in
          let later : 0 < occurrences eq k (map h xs) = omega arith in
          let rest = in_rest later in
          record { before = x ∷ rest.before; here = rest.here; after = rest.after; is = ap (λ l. x ∷ l) rest.is; image = rest.image }

  -- Induction over lists of elements with Q whose images are the same bag: one in front has its partner anywhere in the other.
  module _ (Q : X → Type 0) (P : List X → List X → Type 0) (none : P [] []) (step : (x y : X) (xs us vs : List X) → Q x → Q y → h x ≡ h y → P xs (us ++ vs) → P (x ∷ xs) (us ++ y ∷ vs)) where
    pub by_image : (xs ys : List X) → All Q xs → All Q ys → SameBagBy eq (map h xs) (map h ys) → P xs ys
    by_image [] [] all all_too same = none
    by_image [] (y ∷ ys) all all_too same = absurd (omega (arith, same.counts (h y), occurrences_here test (h y) (map h ys)))
    by_image (x ∷ xs) ys all all_too same =
        let there = split_image (h x) ys (omega (arith, same.counts (h x), occurrences_here test (h x) (map h xs))) in
        let images : map h ys ≡ map h there.before ++ h x ∷ map h there.after = ap (map h) there.is ∙ map-append h there.before (there.here ∷ there.after) ∙ ap (λ k. map h there.before ++ k ∷ map h there.after) there.image in
        let moved = SameBag-trans (SameBag-trans same (SameBag-same images)) (SameBag-middle (map h there.before) (h x) (map h there.after)) in
        let rest : SameBagBy eq (map h xs) (map h (there.before ++ there.after)) = SameBag-trans (SameBag-cons_cancel (h x) moved) (SameBag-same (sym (map-append h there.before there.after))) in
        let parts = All-without Q there.before there.here there.after (subst (All Q) there.is all_too) in
        subst (P (x ∷ xs)) (sym there.is) (step x there.here xs there.before there.after (All-head Q x xs all) parts.0 (sym there.image) (by_image xs (there.before ++ there.after) (All-tail Q x xs all) parts.1 rest))

-- A function of lists that keeps appending, and that gives the same bag for two elements with one image.
module _ {X K Y : Type 0} {eq : K → K → Bool} (test : IsEqualityTest eq) (h : X → K) (Q : X → Type 0) {eqY : Y → Y → Bool} where
  pub SameBag-through_image : (F : List X → List Y) → ((xs ys : List X) → F (xs ++ ys) ≡ F xs ++ F ys)
      → ((x y : X) → Q x → Q y → h x ≡ h y → SameBagBy eqY (F (x ∷ [])) (F (y ∷ [])))
      → {xs ys : List X} → All Q xs → All Q ys → SameBagBy eq (map h xs) (map h ys) → SameBagBy eqY (F xs) (F ys)
  SameBag-through_image F keeps each {xs} {ys} = by_image test h Q (λ us vs. SameBagBy eqY (F us) (F vs)) (SameBag-refl (F [])) step xs ys
    where
      step : (x y : X) (xs us vs : List X) → Q x → Q y → h x ≡ h y → SameBagBy eqY (F xs) (F (us ++ vs)) → SameBagBy eqY (F (x ∷ xs)) (F (us ++ y ∷ vs))
      step x y xs us vs q r e rest =
          let front = SameBag-same (keeps (x ∷ []) xs) in
          let moved = SameBag-append (each x y q r e) (SameBag-trans rest (SameBag-same (keeps us vs))) in
          let back : F (us ++ y ∷ vs) ≡ F us ++ (F (y ∷ []) ++ F vs) = keeps us (y ∷ vs) ∙ ap (λ l. F us ++ l) (keeps (y ∷ []) vs) in
          SameBag-trans front (SameBag-trans moved (SameBag-trans (SameBag-middle_part (F (y ∷ [])) (F us) (F vs)) (SameBag-same (sym back))))
