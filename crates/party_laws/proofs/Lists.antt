-- Lists: tests, parts, and lists that go with one another.
use Rattle.std.proofs.Common.{◌≡◌, ℕ, zero, suc, ◌<◌, Bool, true, false, List, [], ◌∷◌, ◌++◌, length, map, take, drop, refl, ap, ◌∙◌, arith}
use Rattle.std.specs.Prelude.{IsTrue, ◌&&◌, ◌==◌, nat_lt, slice_index_or}
use Rattle.std.specs.List.{AllZip, AllByRecursion, list_all, flat_map}
use Rattle.std.proofs.lemmas.Bool.{ltb-true, eqb-true}
use Rattle.std.proofs.lemmas.List.{append-nil, append_assoc}

pub true_apart : false ≡ true → ⊥
true_apart h = cc

pub both : (a b : Bool) → IsTrue (a && b) → IsTrue a × IsTrue b
both true b h = (refl, h)
both false b h = absurd (true_apart h)

pub below : (a b : ℕ) → IsTrue (nat_lt a b) → a < b
below a b h = ltb-true a b h

pub equal : (a b : ℕ) → IsTrue (a == b) → a ≡ b
equal a b h = eqb-true a b h

pub all_hold : {X : Type 0} (test : X → Bool) (xs : List X) → IsTrue (list_all test xs) → AllByRecursion (λ x. IsTrue (test x)) xs
all_hold test [] h = tt
all_hold test (x ∷ xs) h = let p = both (test x) (list_all test xs) h in (p.0, all_hold test xs p.1)

pub zip_at : {A B : Type 0} (R : A → B → Type 0) (xs : List A) (ys : List B) (k : ℕ) (d : A) (e : B)
    → AllZip R xs ys → k < length xs → R (slice_index_or xs k d) (slice_index_or ys k e)
zip_at R [] ys k d e h i = absurd (omega arith)
zip_at R (x ∷ xs) [] k d e h i = absurd h
zip_at R (x ∷ xs) (y ∷ ys) zero d e h i = h.0
zip_at R (x ∷ xs) (y ∷ ys) (suc k) d e h i = zip_at R xs ys k d e h.1 (omega arith)

pub zip_behind : {A B : Type 0} (R : A → B → Type 0) (xs us : List A) (ys vs : List B) → AllZip R xs ys → AllZip R (xs ++ us) (ys ++ vs) → AllZip R us vs
zip_behind R [] us [] vs h i = i
zip_behind R [] us (y ∷ ys) vs h i = absurd h
zip_behind R (x ∷ xs) us [] vs h i = absurd h
zip_behind R (x ∷ xs) us (y ∷ ys) vs h i = zip_behind R xs us ys vs h.1 i.1

pub zip_long : {A B : Type 0} (R : A → B → Type 0) (xs : List A) (ys : List B) → AllZip R xs ys → length xs ≡ length ys
zip_long R [] [] h = refl
zip_long R [] (y ∷ ys) h = absurd h
zip_long R (x ∷ xs) [] h = absurd h
zip_long R (x ∷ xs) (y ∷ ys) h = ap suc (zip_long R xs ys h.1)

pub same_maps : {X A : Type 0} (f g : X → A) → ((x : X) → f x ≡ g x) → (xs : List X) → map f xs ≡ map g xs
same_maps f g e [] = refl
same_maps f g e (x ∷ xs) = let h = e x in let t = same_maps f g e xs in cc

pub mapped_twice : {X A B : Type 0} (f : X → A) (g : A → B) (xs : List X) → map g (map f xs) ≡ map (λ x. g (f x)) xs
mapped_twice f g [] = refl
mapped_twice f g (x ∷ xs) = ap (λ t. g (f x) ∷ t) (mapped_twice f g xs)

-- an item of a mapped list, also past its end
pub item_mapped : {A B : Type 0} (f : A → B) (xs : List A) (k : ℕ) (d : A) → f (slice_index_or xs k d) ≡ slice_index_or (map f xs) k (f d)
item_mapped f [] k d = refl
item_mapped f (x ∷ xs) zero d = refl
item_mapped f (x ∷ xs) (suc k) d = item_mapped f xs k d

pub flat_of_map : {X A B : Type 0} (f : X → A) (g : A → List B) (xs : List X) → flat_map g (map f xs) ≡ flat_map (λ x. g (f x)) xs
flat_of_map f g [] = refl
flat_of_map f g (x ∷ xs) = ap (λ t. g (f x) ++ t) (flat_of_map f g xs)

pub same_flat : {X B : Type 0} (f g : X → List B) → ((x : X) → f x ≡ g x) → (xs : List X) → flat_map f xs ≡ flat_map g xs
same_flat f g e [] = refl
same_flat f g e (x ∷ xs) = let h = e x in let t = same_flat f g e xs in cc

-- ---- the first words, and those behind them

pub take_front : {A : Type 0} (n : ℕ) (xs ys : List A) → length xs ≡ n → take n (xs ++ ys) ≡ xs
take_front zero [] ys h = take-none ys where
  take-none : {A : Type 0} (ys : List A) → take 0 ys ≡ []
  take-none [] = refl
  take-none (y ∷ ys) = refl
take_front zero (x ∷ xs) ys h = absurd (omega arith)
take_front (suc n) [] ys h = absurd (omega arith)
take_front (suc n) (x ∷ xs) ys h = ap (λ t. x ∷ t) (take_front n xs ys (omega arith))

pub drop_front : {A : Type 0} (n : ℕ) (xs ys : List A) → length xs ≡ n → drop n (xs ++ ys) ≡ ys
drop_front zero [] ys h = refl
drop_front zero (x ∷ xs) ys h = absurd (omega arith)
drop_front (suc n) [] ys h = absurd (omega arith)
drop_front (suc n) (x ∷ xs) ys h = drop_front n xs ys (omega arith)

-- of two lists and what follows them
pub take_first : {A : Type 0} (n : ℕ) (xs ys rest : List A) → length xs ≡ n → take n ((xs ++ ys) ++ rest) ≡ xs
take_first n xs ys rest h = ap (take n) (append_assoc xs ys rest) ∙ take_front n xs (ys ++ rest) h

pub drop_first : {A : Type 0} (n : ℕ) (xs ys rest : List A) → length xs ≡ n → drop n ((xs ++ ys) ++ rest) ≡ ys ++ rest
drop_first n xs ys rest h = ap (drop n) (append_assoc xs ys rest) ∙ drop_front n xs (ys ++ rest) h

pub nil_between : {A : Type 0} (xs rest : List A) → (xs ++ []) ++ rest ≡ xs ++ rest
nil_between xs rest = ap (λ x. x ++ rest) (append-nil xs)

pub take_whole : {A : Type 0} (n : ℕ) (xs : List A) → length xs ≡ n → take n xs ≡ xs
take_whole zero [] h = refl
take_whole zero (x ∷ xs) h = absurd (omega arith)
take_whole (suc n) [] h = absurd (omega arith)
take_whole (suc n) (x ∷ xs) h = ap (λ t. x ∷ t) (take_whole n xs (omega arith))

pub take_more_than_all : {A : Type 0} (n : ℕ) (xs : List A) → length xs ≡ n → take (suc n) xs ≡ xs
take_more_than_all zero [] h = refl
take_more_than_all zero (x ∷ xs) h = absurd (omega arith)
take_more_than_all (suc n) [] h = absurd (omega arith)
take_more_than_all (suc n) (x ∷ xs) h = ap (λ t. x ∷ t) (take_more_than_all n xs (omega arith))

-- ---- short lists

pub same_two : {A : Type 0} (a b a' b' : A) → a ≡ a' → b ≡ b' → a ∷ b ∷ [] ≡ a' ∷ b' ∷ []
same_two a b a' b' e f = cc

pub same_three_of : {A : Type 0} (a b c a' b' c' : A) → a ≡ a' → b ≡ b' → c ≡ c' → a ∷ b ∷ c ∷ [] ≡ a' ∷ b' ∷ c' ∷ []
same_three_of a b c a' b' c' e f g = cc

pub same_four : {A : Type 0} (a b c d a' b' c' d' : A) → a ≡ a' → b ≡ b' → c ≡ c' → d ≡ d' → a ∷ b ∷ c ∷ d ∷ [] ≡ a' ∷ b' ∷ c' ∷ d' ∷ []
same_four a b c d a' b' c' d' e f g h = cc
