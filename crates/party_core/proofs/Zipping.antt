-- Tests, and lists that go with one another item by item.
use Rattle.std.proofs.Common.{◌≡◌, ℕ, zero, suc, ◌<◌, Bool, true, false, List, [], ◌∷◌, ◌++◌, length, map, arith}
use Rattle.std.specs.Prelude.{IsTrue, nat_lt, ◌==◌, slice_index_or}
use Rattle.std.specs.List.{AllZip, AllByRecursion, list_all}
use Rattle.std.proofs.lemmas.Bool.{ltb-true, eqb-true}
use Rattle.party_core.proofs.Fine.{both}

pub true_apart : false ≡ true → ⊥
true_apart h = cc

pub below : (a b : ℕ) → IsTrue (nat_lt a b) → a < b
below a b h = ltb-true a b h

pub equal : (a b : ℕ) → IsTrue (a == b) → a ≡ b
equal a b h = eqb-true a b h

pub all_hold : {X : Type 0} (test : X → Bool) (xs : List X) → IsTrue (list_all test xs) → AllByRecursion (λ x. IsTrue (test x)) xs
all_hold test [] h = tt
all_hold test (x ∷ xs) h = let p = both (test x) (list_all test xs) h in (p.0, all_hold test xs p.1)

pub zip_at : {A B : Type 0} (R : A → B → Type 0) (xs : List A) (ys : List B) (k : ℕ) (d : A) (e : B)
    → AllZip R xs ys → k < length xs → R (slice_index_or xs k d) (slice_index_or ys k e)
zip_at R [] ys k d e h i = absurd (omega arith)
zip_at R (x ∷ xs) [] k d e h i = absurd h
zip_at R (x ∷ xs) (y ∷ ys) zero d e h i = h.0
zip_at R (x ∷ xs) (y ∷ ys) (suc k) d e h i = zip_at R xs ys k d e h.1 (omega arith)

pub zip_append : {A B : Type 0} (R : A → B → Type 0) (xs us : List A) (ys vs : List B) → AllZip R xs ys → AllZip R us vs → AllZip R (xs ++ us) (ys ++ vs)
zip_append R [] us [] vs h i = i
zip_append R [] us (y ∷ ys) vs h i = absurd h
zip_append R (x ∷ xs) us [] vs h i = absurd h
zip_append R (x ∷ xs) us (y ∷ ys) vs h i = (h.0, zip_append R xs us ys vs h.1 i)

-- two lists made of one
pub zip_maps : {X A B : Type 0} (R : A → B → Type 0) (f : X → A) (g : X → B) (P : X → Type 0) → ((x : X) → P x → R (f x) (g x))
    → (xs : List X) → AllByRecursion P xs → AllZip R (map f xs) (map g xs)
zip_maps R f g P each [] h = tt
zip_maps R f g P each (x ∷ xs) h = (each x h.0, zip_maps R f g P each xs h.1)

-- a list made of one, beside another one of as many items
pub zip_beside : {X A B : Type 0} (R : A → B → Type 0) (f : X → A) (P : X → Type 0) (Q : B → Type 0) → ((x : X) (y : B) → P x → Q y → R (f x) y)
    → (xs : List X) (ys : List B) → length ys ≡ length xs → AllByRecursion P xs → AllByRecursion Q ys → AllZip R (map f xs) ys
zip_beside R f P Q each [] [] e h k = tt
zip_beside R f P Q each [] (y ∷ ys) e h k = absurd (omega (arith, e))
zip_beside R f P Q each (x ∷ xs) [] e h k = absurd (omega (arith, e))
zip_beside R f P Q each (x ∷ xs) (y ∷ ys) e h k = (each x y h.0 k.0, zip_beside R f P Q each xs ys (omega (arith, e)) h.1 k.1)

-- an item of a list, all of whose items have a property that the default has too
pub item_has : {A : Type 0} (P : A → Type 0) (xs : List A) (k : ℕ) (d : A) → AllByRecursion P xs → P d → P (slice_index_or xs k d)
item_has P [] k d h i = i
item_has P (x ∷ xs) zero d h i = h.0
item_has P (x ∷ xs) (suc k) d h i = item_has P xs k d h.1 i

-- an item that stands in such a list
pub all_at : {A : Type 0} (P : A → Type 0) (xs : List A) (k : ℕ) (d : A) → AllByRecursion P xs → k < length xs → P (slice_index_or xs k d)
all_at P [] k d h i = absurd (omega arith)
all_at P (x ∷ xs) zero d h i = h.0
all_at P (x ∷ xs) (suc k) d h i = all_at P xs k d h.1 (omega arith)

pub mapped_all : {A B : Type 0} (P : A → Type 0) (Q : B → Type 0) (f : A → B) → ((x : A) → P x → Q (f x)) → (xs : List A) → AllByRecursion P xs → AllByRecursion Q (map f xs)
mapped_all P Q f each [] h = tt
mapped_all P Q f each (x ∷ xs) h = (each x h.0, mapped_all P Q f each xs h.1)
