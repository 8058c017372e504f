-- Lists by their elements.
use Rattle.std.proofs.Common.{◌≡◌, ℕ, zero, suc, ◌+◌, ◌<◌, ◌≤◌, List, [], ◌∷◌, ◌++◌, Vec, Global, vec_len, get_or, length, map, take, inl, inr, refl, sym, ap, ◌∙◌, subst, arith, append_assoc, append-nil, take_all}
use Rattle.std.specs.List.{AllByRecursion, AllZip, flat_map, range_with_len}
use Rattle.std.specs.Prelude.{◌⊎◌, Some, None, slice_get}

-- a vector has as many items as its length says
pub vec_length : {A : Type 0} (v : Vec A Global) → vec_len v ≡ length v.items
vec_length v = v.ok.0

-- an element that is there
pub within : {A : Type 0} (xs : List A) (i : ℕ) → i < length xs → (x : A) × (slice_get xs i ≡ Some x)
within [] i h = absurd (omega arith)
within (x ∷ xs) zero h = (x, refl)
within (x ∷ xs) (suc i) h = within xs i (omega arith)

pub at_within : {A : Type 0} (xs : List A) (i : ℕ) (d : A) → i < length xs → slice_get xs i ≡ Some (get_or xs i d)
at_within [] i d h = absurd (omega arith)
at_within (x ∷ xs) zero d h = refl
at_within (x ∷ xs) (suc i) d h = at_within xs i d (omega arith)

pub none_beyond : {A : Type 0} (xs : List A) (i : ℕ) → length xs ≤ i → slice_get xs i ≡ None
none_beyond [] i h = refl
none_beyond (x ∷ xs) zero h = absurd (omega arith)
none_beyond (x ∷ xs) (suc i) h = none_beyond xs i (omega arith)

-- an element of a list with one more: one of the list, or the last
pub appended : {A : Type 0} (xs : List A) (y z : A) (i : ℕ) → slice_get (xs ++ y ∷ []) i ≡ Some z → (slice_get xs i ≡ Some z) ⊎ ((i ≡ length xs) × (y ≡ z))
appended [] y z zero h = let e : y ≡ z = cc in inr (refl, e)
appended [] y z (suc i) h = cc
appended (x ∷ xs) y z zero h = inl h
appended (x ∷ xs) y z (suc i) h = elim (appended xs y z i h) [ inl k ↦ inl k | inr k ↦ inr (omega (arith, k.0), k.1) ]

pub get_appended : (xs : List ℕ) (y i : ℕ) → i < length xs → get_or (xs ++ y ∷ []) i 0 ≡ get_or xs i 0
get_appended [] y i h = absurd (omega arith)
get_appended (x ∷ xs) y zero h = refl
get_appended (x ∷ xs) y (suc i) h = get_appended xs y i (omega arith)

pub get_last : (xs : List ℕ) (y : ℕ) → get_or (xs ++ y ∷ []) (length xs) 0 ≡ y
get_last [] y = refl
get_last (x ∷ xs) y = get_last xs y

pub get_behind : (xs : List ℕ) (y i : ℕ) → length xs < i → get_or (xs ++ y ∷ []) i 0 ≡ 0
get_behind [] y zero h = absurd (omega arith)
get_behind [] y (suc i) h = refl
get_behind (x ∷ xs) y zero h = absurd (omega arith)
get_behind (x ∷ xs) y (suc i) h = get_behind xs y i (omega arith)

-- an element that is there has a number below the length
pub below_length : {A : Type 0} (xs : List A) (i : ℕ) (x : A) → slice_get xs i ≡ Some x → i < length xs
below_length [] i x h = cc
below_length (y ∷ xs) zero x h = omega arith
below_length (y ∷ xs) (suc i) x h = let k = below_length xs i x h in omega (arith, k)

-- one element more of a list, mapped
pub flat_map_more : {A B : Type 0} (f : A → List B) (xs : List A) (i : ℕ) (x : A) → slice_get xs i ≡ Some x → flat_map f (take (i + 1) xs) ≡ flat_map f (take i xs) ++ f x
flat_map_more f [] i x h = cc
flat_map_more f (y ∷ xs) zero x h = let e : y ≡ x = cc in append-nil (f y) ∙ ap f e
flat_map_more f (y ∷ xs) (suc i) x h =
    let e : suc i + 1 ≡ suc (i + 1) = omega arith in
    ap (λ n. flat_map f (take n (y ∷ xs))) e ∙ ap (λ ys. f y ++ ys) (flat_map_more f xs i x h) ∙ sym (append_assoc (f y) (flat_map f (take i xs)) (f x))

pub take_whole : {A : Type 0} (xs : List A) (n : ℕ) → n ≡ length xs → take n xs ≡ xs
take_whole xs n e = take_all n xs (omega (arith, e))

-- the same numbers of a list, mapped alike
pub map_range_same : {A : Type 0} (f g : ℕ → A) (a n : ℕ) → ((j : ℕ) → j < n → f (a + j) ≡ g (a + j)) → map f (range_with_len a n) ≡ map g (range_with_len a n)
map_range_same f g a zero h = refl
map_range_same f g a (suc n) h =
    let e : a + 0 ≡ a = omega arith in
    ap (λ x. x ∷ map f (range_with_len (a + 1) n)) (subst (λ k. f k ≡ g k) e (h 0 (omega arith)))
    ∙ ap (λ xs. g a ∷ xs) (map_range_same f g (a + 1) n (λ j k. let s : a + suc j ≡ (a + 1) + j = omega arith in subst (λ m. f m ≡ g m) s (h (suc j) (omega (arith, k)))))

pub map_all_same : {A B : Type 0} (P : A → Type 0) (f g : A → B) (xs : List A) → ((x : A) → P x → f x ≡ g x) → AllByRecursion P xs → map f xs ≡ map g xs
map_all_same P f g [] same h = refl
map_all_same P f g (x ∷ xs) same h = ap (λ y. y ∷ map f xs) (same x h.0) ∙ ap (λ ys. g x ∷ ys) (map_all_same P f g xs same h.1)

pub below_or_last : {A : Type 0} (xs : List A) (y : A) (i : ℕ) → i < length (xs ++ y ∷ []) → (i < length xs) ⊎ (i ≡ length xs)
below_or_last [] y zero h = inr refl
below_or_last [] y (suc i) h = absurd (omega arith)
below_or_last (x ∷ xs) y zero h = inl (omega arith)
below_or_last (x ∷ xs) y (suc i) h = elim (below_or_last xs y i (omega arith)) [ inl k ↦ inl (omega arith) | inr k ↦ inr (omega arith) ]

-- numbers of two ranges, mapped alike
pub map_range_shift : {A : Type 0} (f g : ℕ → A) (a b n : ℕ) → ((j : ℕ) → j < n → f (a + j) ≡ g (b + j)) → map f (range_with_len a n) ≡ map g (range_with_len b n)
map_range_shift f g a b zero h = refl
map_range_shift f g a b (suc n) h =
    let d : a + 0 ≡ a = omega arith in
    let e : b + 0 ≡ b = omega arith in
    ap (λ x. x ∷ map f (range_with_len (a + 1) n)) (ap f (sym d) ∙ h 0 (omega arith) ∙ ap g e)
    ∙ ap (λ xs. g b ∷ xs) (map_range_shift f g (a + 1) (b + 1) n (λ j k.
    let s : a + suc j ≡ (a + 1) + j = omega arith in
    let t : b + suc j ≡ (b + 1) + j = omega arith in
    ap f (sym s) ∙ h (suc j) (omega (arith, k)) ∙ ap g t))

pub map_map : {A B C : Type 0} (f : A → B) (g : B → C) (xs : List A) → map g (map f xs) ≡ map (λ x. g (f x)) xs
map_map f g [] = refl
map_map f g (x ∷ xs) = ap (λ ys. g (f x) ∷ ys) (map_map f g xs)

pub take_more_some : {A : Type 0} (xs : List A) (i : ℕ) (x : A) → slice_get xs i ≡ Some x → take (i + 1) xs ≡ take i xs ++ x ∷ []
take_more_some [] i x h = cc
take_more_some (y ∷ xs) zero x h = let e : y ≡ x = cc in ap (λ z. z ∷ []) e
take_more_some (y ∷ xs) (suc i) x h = let e : suc i + 1 ≡ suc (i + 1) = omega arith in ap (λ n. take n (y ∷ xs)) e ∙ ap (λ ys. y ∷ ys) (take_more_some xs i x h)

pub zip_more : {A B : Type 0} (R : A → B → Type 0) (xs : List A) (ys : List B) (x : A) (y : B) → AllZip R xs ys → R x y → AllZip R (xs ++ x ∷ []) (ys ++ y ∷ [])
zip_more R [] [] x y h k = (k, tt)
zip_more R [] (z ∷ ys) x y h k = absurd h
zip_more R (z ∷ xs) [] x y h k = absurd h
zip_more R (z ∷ xs) (u ∷ ys) x y h k = (h.0, zip_more R xs ys x y h.1 k)
