-- Maps of lists, and ranges.
use Rattle.std.proofs.Common.{◌≡◌, ℕ, zero, suc, ◌+◌, ◌<◌, List, [], ◌∷◌, ◌++◌, map, refl, sym, ◌∙◌, ap, arith}
use Rattle.std.specs.Prelude.{All}
use Rattle.std.specs.List.{range_with_len}
use Rattle.std.proofs.lemmas.List.{map-id}
use Rattle.std.proofs.lemmas.List.FromFn.{map-range_with_len_more}
use Rattle.std.proofs.lemmas.List.Elements.{All-cons, All-head, All-nil, All-tail, All-weaker}

-- functions that agree on each element of a list
pub map_agree : {X Y : Type 0} (f g : X → Y) (xs : List X) → All (λ x. f x ≡ g x) xs → map f xs ≡ map g xs
map_agree f g [] all = refl
map_agree f g (x ∷ xs) all = λ i. All-head (λ z. f z ≡ g z) x xs all i ∷ map_agree f g xs (All-tail (λ z. f z ≡ g z) x xs all) i

pub map_map : {X Y Z : Type 0} (g : Y → Z) (f : X → Y) (xs : List X) → map g (map f xs) ≡ map (λ x. g (f x)) xs
map_map g f [] = refl
map_map g f (x ∷ xs) = ap (λ l. g (f x) ∷ l) (map_map g f xs)

below : (a n : ℕ) → All (λ i. i < a + n) (range_with_len a n)
below a zero = All-nil (λ i. i < a + zero)
below a (suc n) =
    All-cons (λ i. i < a + suc n) a (range_with_len (a + 1) n) (omega arith)
    (All-weaker (λ i. i < a + 1 + n) (λ i. i < a + suc n) (λ i h. omega arith) (range_with_len (a + 1) n) (below (a + 1) n))

pub range_below : (n : ℕ) → All (λ i. i < n) (range_with_len 0 n)
range_below n = All-weaker (λ i. i < 0 + n) (λ i. i < n) (λ i h. omega arith) (range_with_len 0 n) (below 0 n)

pub range_more : (n : ℕ) → range_with_len 0 (n + 1) ≡ range_with_len 0 n ++ n ∷ []
range_more n = sym (map-id (range_with_len 0 (n + 1))) ∙ map-range_with_len_more (λ (k : ℕ). k) 0 n n (omega arith) ∙ ap (λ l. l ++ n ∷ []) (map-id (range_with_len 0 n))

pub mapped_more : {X : Type 0} (f : ℕ → X) (n : ℕ) → map f (range_with_len 0 (n + 1)) ≡ map f (range_with_len 0 n) ++ f n ∷ []
mapped_more f n = map-range_with_len_more f 0 n n (omega arith)
