-- Tests, and lists that go with one another item by item.
use Rattle.std.proofs.Common.{◌≡◌, ℕ, zero, suc, ◌<◌, Bool, true, false, List, [], ◌∷◌, ◌++◌, length, map, refl, arith}
use Rattle.std.specs.Prelude.{IsTrue, ◌&&◌, nat_lt, ◌==◌, slice_index_or}
use Rattle.std.specs.List.{AllZip, AllByRecursion, list_all}
use Rattle.std.proofs.lemmas.Bool.{ltb-true, eqb-true}

pub true_apart : false ≡ true → ⊥
true_apart h = cc

pub both : (a b : Bool) → IsTrue (a && b) → IsTrue a × IsTrue b
both true b h = (refl, h)
both false b h = absurd (true_apart h)

pub below : (a b : ℕ) → IsTrue (nat_lt a b) → a < b
below a b h = ltb-true a b h

pub equal : (a b : ℕ) → IsTrue (a == b) → a ≡ b
equal a b h = eqb-true a b h

pub all_hold : {X : Type 0} (test : X → Bool) (xs : List X) → IsTrue (list_all test xs) → AllByRecursion (λ x. IsTrue (test x)) xs
all_hold test [] h = tt
all_hold test (x ∷ xs) h = let p = both (test x) (list_all test xs) h in (p.0, all_hold test xs p.1)

pub zip_at : {A B : Type 0} (R : A → B → Type 0) (xs : List A) (ys : List B) (k : ℕ) (d : A) (e : B)
    → AllZip R xs ys → k < length xs → R (slice_index_or xs k d) (slice_index_or ys k e)
zip_at R [] ys k d e h i = absurd (omega arith)
zip_at R (x ∷ xs) [] k d e h i = absurd h
zip_at R (x ∷ xs) (y ∷ ys) zero d e h i = h.0
zip_at R (x ∷ xs) (y ∷ ys) (suc k) d e h i = zip_at R xs ys k d e h.1 (omega arith)

-- also past the end, where the defaults go with one another
pub zip_any : {A B : Type 0} (R : A → B → Type 0) (xs : List A) (ys : List B) (k : ℕ) (d : A) (e : B)
    → AllZip R xs ys → R d e → R (slice_index_or xs k d) (slice_index_or ys k e)
zip_any R [] [] k d e h i = i
zip_any R [] (y ∷ ys) k d e h i = absurd h
zip_any R (x ∷ xs) [] k d e h i = absurd h
zip_any R (x ∷ xs) (y ∷ ys) zero d e h i = h.0
zip_any R (x ∷ xs) (y ∷ ys) (suc k) d e h i = zip_any R xs ys k d e h.1 i

pub zip_append : {A B : Type 0} (R : A → B → Type 0) (xs us : List A) (ys vs : List B) → AllZip R xs ys → AllZip R us vs → AllZip R (xs ++ us) (ys ++ vs)
zip_append R [] us [] vs h i = i
zip_append R [] us (y ∷ ys) vs h i = absurd h
zip_append R (x ∷ xs) us [] vs h i = absurd h
zip_append R (x ∷ xs) us (y ∷ ys) vs h i = (h.0, zip_append R xs us ys vs h.1 i)

-- two lists made of one
pub zip_maps : {X A B : Type 0} (R : A → B → Type 0) (f : X → A) (g : X → B) (P : X → Type 0) → ((x : X) → P x → R (f x) (g x))
    → (xs : List X) → AllByRecursion P xs → AllZip R (map f xs) (map g xs)
zip_maps R f g P each [] h = tt
zip_maps R f g P each (x ∷ xs) h = (each x h.0, zip_maps R f g P each xs h.1)

pub same_maps : {X A : Type 0} (f g : X → A) → ((x : X) → f x ≡ g x) → (xs : List X) → map f xs ≡ map g xs
same_maps f g e [] = refl
same_maps f g e (x ∷ xs) = let h = e x in let t = same_maps f g e xs in cc

-- an item of a mapped list, also past its end
pub item_mapped : {A B : Type 0} (f : A → B) (xs : List A) (k : ℕ) (d : A) → f (slice_index_or xs k d) ≡ slice_index_or (map f xs) k (f d)
item_mapped f [] k d = refl
item_mapped f (x ∷ xs) zero d = refl
item_mapped f (x ∷ xs) (suc k) d = item_mapped f xs k d

-- an item of a list, all of whose items have a property that the default has too
pub item_has : {A : Type 0} (P : A → Type 0) (xs : List A) (k : ℕ) (d : A) → AllByRecursion P xs → P d → P (slice_index_or xs k d)
item_has P [] k d h i = i
item_has P (x ∷ xs) zero d h i = h.0
item_has P (x ∷ xs) (suc k) d h i = item_has P xs k d h.1 i
