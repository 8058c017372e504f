-- Maps, filters and appended pieces of lists of any elements.
use Rattle.std.proofs.Common.{◌≡◌, ℕ, zero, suc, ◌+◌, ◌<◌, ◌≤◌, Bool, true, false, cond, List, [], ◌∷◌, ◌++◌, map, length, get_or, refl, ◌∙◌, ap, subst, arith}
use Rattle.std.specs.List.{All, filter, flat_map, range_with_len}
use Rattle.std.proofs.lemmas.List.{map-append}
use Rattle.std.proofs.lemmas.List.Elements.{All-append, All-cons, All-head, All-nil, All-tail, All-weaker}

pub map_same : {X Y : Type 0} (f g : X → Y) → ((x : X) → f x ≡ g x) → (xs : List X) → map f xs ≡ map g xs
map_same f g each [] = refl
map_same f g each (x ∷ xs) = λ i. each x i ∷ map_same f g each xs i

-- functions that agree on each element of a list
pub map_agree : {X Y : Type 0} (f g : X → Y) (xs : List X) → All (λ x. f x ≡ g x) xs → map f xs ≡ map g xs
map_agree f g [] all = refl
map_agree f g (x ∷ xs) all = λ i. All-head (λ z. f z ≡ g z) x xs all i ∷ map_agree f g xs (All-tail (λ z. f z ≡ g z) x xs all) i

pub map_map : {X Y Z : Type 0} (g : Y → Z) (f : X → Y) (xs : List X) → map g (map f xs) ≡ map (λ x. g (f x)) xs
map_map g f [] = refl
map_map g f (x ∷ xs) = ap (λ l. g (f x) ∷ l) (map_map g f xs)

pub flat_map_same : {X Y : Type 0} (f g : X → List Y) → ((x : X) → f x ≡ g x) → (xs : List X) → flat_map f xs ≡ flat_map g xs
flat_map_same f g each [] = refl
flat_map_same f g each (x ∷ xs) = λ i. each x i ++ flat_map_same f g each xs i

pub flat_map-map : {X Y Z : Type 0} (f : Y → List Z) (g : X → Y) (xs : List X) → flat_map f (map g xs) ≡ flat_map (λ x. f (g x)) xs
flat_map-map f g [] = refl
flat_map-map f g (x ∷ xs) = ap (λ l. f (g x) ++ l) (flat_map-map f g xs)

pub map-flat_map : {X Y Z : Type 0} (g : Y → Z) (f : X → List Y) (xs : List X) → map g (flat_map f xs) ≡ flat_map (λ x. map g (f x)) xs
map-flat_map g f [] = refl
map-flat_map g f (x ∷ xs) = map-append g (f x) (flat_map f xs) ∙ ap (λ l. map g (f x) ++ l) (map-flat_map g f xs)

pub All-each : {X : Type 0} (P : X → Type 0) → ((x : X) → P x) → (xs : List X) → All P xs
All-each P each xs k d below = each (get_or xs k d)

-- what holds of each piece holds of the pieces appended
pub All-flat_map : {X Y : Type 0} (P : Y → Type 0) (f : X → List Y) (xs : List X) → All (λ x. All P (f x)) xs → All P (flat_map f xs)
All-flat_map P f [] all = All-nil P
All-flat_map P f (x ∷ xs) all = All-append P (f x) (flat_map f xs) (All-head (λ z. All P (f z)) x xs all) (All-flat_map P f xs (All-tail (λ z. All P (f z)) x xs all))

-- filters that keep all and that keep none
pub filter_all : {X : Type 0} (p : X → Bool) (xs : List X) → All (λ x. p x ≡ true) xs → filter p xs ≡ xs
filter_all p [] all = refl
filter_all p (x ∷ xs) all = rw (All-head (λ z. p z ≡ true) x xs all) (ap (λ l. x ∷ l) (filter_all p xs (All-tail (λ z. p z ≡ true) x xs all)))

pub filter_none : {X : Type 0} (p : X → Bool) (xs : List X) → All (λ x. p x ≡ false) xs → filter p xs ≡ []
filter_none p [] all = refl
filter_none p (x ∷ xs) all = rw (All-head (λ z. p z ≡ false) x xs all) (filter_none p xs (All-tail (λ z. p z ≡ false) x xs all))

-- one filter after another is one filter
pub filter_filter : {X : Type 0} (p q r : X → Bool) → ((x : X) → cond (q x) (p x) false ≡ r x) → (xs : List X) → filter p (filter q xs) ≡ filter r xs
filter_filter p q r each [] = refl
filter_filter p q r each (x ∷ xs) = subst (λ d. filter p (cond (q x) (x ∷ filter q xs) (filter q xs)) ≡ cond d (x ∷ filter r xs) (filter r xs)) (each x) (by (q x) (p x) refl (filter_filter p q r each xs))
  where
    by : (b c : Bool) → p x ≡ c → filter p (filter q xs) ≡ filter r xs → filter p (cond b (x ∷ filter q xs) (filter q xs)) ≡ cond (cond b c false) (x ∷ filter r xs) (filter r xs)
    by true true f rest = rw f (ap (λ l. x ∷ l) rest)
    by true false f rest = rw f rest
    by false c f rest = rest

-- tests that agree on each element of a list
pub filter_agree_on : {X : Type 0} (p q : X → Bool) (xs : List X) → All (λ x. p x ≡ q x) xs → filter p xs ≡ filter q xs
filter_agree_on p q [] all = refl
filter_agree_on p q (x ∷ xs) all = λ i. cond (All-head (λ z. p z ≡ q z) x xs all i) (x ∷ filter_agree_on p q xs (All-tail (λ z. p z ≡ q z) x xs all) i) (filter_agree_on p q xs (All-tail (λ z. p z ≡ q z) x xs all) i)

pub filter-map : {X Y : Type 0} (p : Y → Bool) (f : X → Y) (xs : List X) → filter p (map f xs) ≡ map f (filter (λ x. p (f x)) xs)
filter-map p f [] = refl
filter-map p f (x ∷ xs) = by (p (f x)) (filter-map p f xs)
  where
    by : (b : Bool) → filter p (map f xs) ≡ map f (filter (λ z. p (f z)) xs) → cond b (f x ∷ filter p (map f xs)) (filter p (map f xs)) ≡ map f (cond b (x ∷ filter (λ z. p (f z)) xs) (filter (λ z. p (f z)) xs))
    by true rest = ap (λ l. f x ∷ l) rest
    by false rest = rest

pub length-filter-le : {X : Type 0} (p : X → Bool) (xs : List X) → length (filter p xs) ≤ length xs
length-filter-le p [] = omega arith
length-filter-le p (x ∷ xs) = by (p x) (length-filter-le p xs)
  where
    by : (b : Bool) → length (filter p xs) ≤ length xs → length (cond b (x ∷ filter p xs) (filter p xs)) ≤ length (x ∷ xs)
    by true rest = omega arith
    by false rest = omega arith

pub range_below : (a n : ℕ) → All (λ i. i < a + n) (range_with_len a n)
range_below a zero = All-nil (λ i. i < a + zero)
range_below a (suc n) =
    let rest = range_below (a + 1) n in
    All-cons (λ i. i < a + suc n) a (range_with_len (a + 1) n) (omega arith) (All-weaker (λ i. i < a + 1 + n) (λ i. i < a + suc n) (λ i h. omega arith) (range_with_len (a + 1) n) rest)
