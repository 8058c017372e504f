-- Maps, filters and ranges of lists of any elements.
use Rattle.std.proofs.Common.{◌≡◌, ℕ, zero, suc, ◌+◌, ◌<◌, ◌≤◌, Bool, true, false, cond, List, [], ◌∷◌, ◌++◌, map, length, get_or, refl, sym, ◌∙◌, ap, arith}
use Rattle.std.specs.List.{All, filter, range_with_len}
use Rattle.std.proofs.lemmas.List.Elements.{All-cons, All-head, All-nil, All-tail, All-weaker}
use Rattle.std.proofs.lemmas.List.FromFn.{fill_by_all}

-- functions that agree on each element of a list
pub map_agree : {X Y : Type 0} (f g : X → Y) (xs : List X) → All (λ x. f x ≡ g x) xs → map f xs ≡ map g xs
map_agree f g [] all = refl
map_agree f g (x ∷ xs) all = λ i. All-head (λ z. f z ≡ g z) x xs all i ∷ map_agree f g xs (All-tail (λ z. f z ≡ g z) x xs all) i

pub map_map : {X Y Z : Type 0} (g : Y → Z) (f : X → Y) (xs : List X) → map g (map f xs) ≡ map (λ x. g (f x)) xs
map_map g f [] = refl
map_map g f (x ∷ xs) = ap (λ l. g (f x) ∷ l) (map_map g f xs)

-- tests that agree on each element of a list
pub filter_agree_on : {X : Type 0} (p q : X → Bool) (xs : List X) → All (λ x. p x ≡ q x) xs → filter p xs ≡ filter q xs
filter_agree_on p q [] all = refl
filter_agree_on p q (x ∷ xs) all = λ i. cond (All-head (λ z. p z ≡ q z) x xs all i) (x ∷ filter_agree_on p q xs (All-tail (λ z. p z ≡ q z) x xs all) i) (filter_agree_on p q xs (All-tail (λ z. p z ≡ q z) x xs all) i)

pub filter-map : {X Y : Type 0} (p : Y → Bool) (f : X → Y) (xs : List X) → filter p (map f xs) ≡ map f (filter (λ x. p (f x)) xs)
filter-map p f [] = refl
filter-map p f (x ∷ xs) = by (p (f x)) (filter-map p f xs)
  where
    by : (b : Bool) → filter p (map f xs) ≡ map f (filter (λ z. p (f z)) xs) → cond b (f x ∷ filter p (map f xs)) (filter p (map f xs)) ≡ map f (cond b (x ∷ filter (λ z. p (f z)) xs) (filter (λ z. p (f z)) xs))
    by true rest = ap (λ l. f x ∷ l) rest
    by false rest = rest

-- one filter after another is one filter
pub filter_filter : {X : Type 0} (p q : X → Bool) (xs : List X) → filter p (filter q xs) ≡ filter (λ x. cond (q x) (p x) false) xs
filter_filter p q [] = refl
filter_filter p q (x ∷ xs) = by (q x) (p x) refl (filter_filter p q xs)
  where
    by : (b c : Bool) → p x ≡ c → filter p (filter q xs) ≡ filter (λ z. cond (q z) (p z) false) xs
        → filter p (cond b (x ∷ filter q xs) (filter q xs)) ≡ cond (cond b (p x) false) (x ∷ filter (λ z. cond (q z) (p z) false) xs) (filter (λ z. cond (q z) (p z) false) xs)
    by true true f rest = rw f (ap (λ l. x ∷ l) rest)
    by true false f rest = rw f rest
    by false c f rest = rest

pub filter_none : {X : Type 0} (p : X → Bool) (xs : List X) → All (λ x. p x ≡ false) xs → filter p xs ≡ []
filter_none p [] all = refl
filter_none p (x ∷ xs) all = rw (All-head (λ z. p z ≡ false) x xs all) (filter_none p xs (All-tail (λ z. p z ≡ false) x xs all))

-- ---- numbers of a range

pub range_within : (a n : ℕ) → All (λ i. (a ≤ i) × (i < a + n)) (range_with_len a n)
range_within a zero = All-nil (λ i. (a ≤ i) × (i < a + zero))
range_within a (suc n) =
    All-cons (λ i. (a ≤ i) × (i < a + suc n)) a (range_with_len (a + 1) n) (omega arith, omega arith)
    (All-weaker (λ i. (a + 1 ≤ i) × (i < a + 1 + n)) (λ i. (a ≤ i) × (i < a + suc n)) (λ i h. let low : a + 1 ≤ i = h.0 in let high : i < a + 1 + n = h.1 in (omega arith, omega arith)) (range_with_len (a + 1) n) (range_within (a + 1) n))

pub range_below : (n : ℕ) → All (λ i. i < n) (range_with_len 0 n)
range_below n = All-weaker (λ i. (0 ≤ i) × (i < 0 + n)) (λ i. i < n) (λ i h. let high : i < 0 + n = h.1 in omega arith) (range_with_len 0 n) (range_within 0 n)

-- a range in two parts
range_append : (a m n t : ℕ) → m + n ≡ t → range_with_len a t ≡ range_with_len a m ++ range_with_len (a + m) n
range_append a zero n t e =
    let same : t ≡ n = omega arith in
    let start : a ≡ a + 0 = omega arith in
    λ i. range_with_len (start i) (same i)
range_append a (suc m) n zero e = absurd (omega arith)
range_append a (suc m) n (suc t) e =
    let start : a + 1 + m ≡ a + suc m = omega arith in
    ap (λ l. a ∷ l) (range_append (a + 1) m n t (omega arith) ∙ ap (λ b. range_with_len (a + 1) m ++ range_with_len b n) start)

range_shifted : (a b n t : ℕ) → a + b ≡ t → range_with_len t n ≡ map (λ j. a + j) (range_with_len b n)
range_shifted a b zero t e = refl
range_shifted a b (suc n) t e = λ i. sym e i ∷ range_shifted a (b + 1) n (t + 1) (omega arith) i

pub range_split : (m n : ℕ) → range_with_len 0 (m + n) ≡ range_with_len 0 m ++ map (λ j. m + j) (range_with_len 0 n)
range_split m n = range_append 0 m n (m + n) refl ∙ ap (λ l. range_with_len 0 m ++ l) (range_shifted m 0 n (0 + m) (omega arith))

pub range_more : (n : ℕ) → range_with_len 0 (n + 1) ≡ range_with_len 0 n ++ n ∷ []
range_more n = range_append 0 n 1 (n + 1) refl ∙ ap (λ a. range_with_len 0 n ++ a ∷ []) (omega arith)

-- the elements at all places in their order are the list
pub at_places : {X : Type 0} (d : X) (xs : List X) → map (λ k. get_or xs k d) (range_with_len 0 (length xs)) ≡ xs
at_places d xs = sym (fill_by_all (λ k. get_or xs k d) xs (length xs) d refl (λ k h. refl))

-- what holds of each word of a mapped list, and of 0 past its end
pub each_of_map : {X : Type 0} (P : ℕ → Type 0) (f : X → ℕ) (xs : List X) → P 0 → All (λ x. P (f x)) xs → (k : ℕ) → P (get_or (map f xs) k 0)
each_of_map P f [] none all k = none
each_of_map P f (x ∷ xs) none all zero = All-head (λ z. P (f z)) x xs all
each_of_map P f (x ∷ xs) none all (suc k) = each_of_map P f xs none (All-tail (λ z. P (f z)) x xs all) k
