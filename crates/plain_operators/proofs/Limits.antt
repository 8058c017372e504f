-- Lists that are cut off at a limit.
use Rattle.std.proofs.Common.{◌≡◌, ℕ, zero, suc, ◌-◌, ◌<◌, ◌≤◌, Bool, true, false, cond, not, nat_lt, List, [], ◌∷◌, ◌++◌, Option, Some, None, map, take, length, vec_len, Vec, Global, refl, sym, ◌∙◌, ap, arith, true≢false}
use Rattle.std.specs.List.{All}
use Rattle.std.proofs.lemmas.Bool.Decides.{nat_tests}
use Rattle.std.proofs.lemmas.List.{append-nil, take-map}
use Rattle.std.proofs.lemmas.List.Elements.{All-take}
use Rattle.plain_operators.specs.Limits.{first_of, is_reached, left_of}

pub first_of-map : {X Y : Type 0} (limit : Option ℕ) (f : X → Y) (xs : List X) → first_of limit (map f xs) ≡ map f (first_of limit xs)
first_of-map None f xs = refl
first_of-map (Some limit) f xs = take-map f limit xs

pub All-first_of : {X : Type 0} (limit : Option ℕ) (P : X → Type 0) (xs : List X) → All P xs → All P (first_of limit xs)
All-first_of None P xs all = all
All-first_of (Some limit) P xs all = All-take P limit xs all

taken : {X : Type 0} (limit : ℕ) (xs ys : List X) → take limit xs ++ take (limit - length (take limit xs)) ys ≡ take limit (xs ++ ys)
taken zero xs ys = refl
taken (suc limit) [] ys = let all : suc limit - 0 ≡ suc limit = omega arith in ap (λ n. take n ys) all
taken (suc limit) (x ∷ xs) ys =
    let n = length (take limit xs) in
    let one : suc limit - suc n ≡ limit - n = omega arith in
    ap (λ l. x ∷ l) (ap (λ m. take limit xs ++ take m ys) one ∙ taken limit xs ys)

pub first_of-append : {X : Type 0} (limit : Option ℕ) (xs ys : List X) → first_of limit xs ++ first_of (left_of limit (length (first_of limit xs))) ys ≡ first_of limit (xs ++ ys)
first_of-append None xs ys = refl
first_of-append (Some limit) xs ys = taken limit xs ys

not_below : (n limit : ℕ) (b : Bool) → nat_lt n limit ≡ b → not b ≡ true → limit ≤ n
not_below n limit true e is = absurd (true≢false (sym is))
not_below n limit false e is = grind (arith, nat_tests)

below : (n limit : ℕ) (b : Bool) → nat_lt n limit ≡ b → not b ≡ false → n < limit
below n limit true e is = grind (arith, nat_tests)
below n limit false e is = absurd (true≢false is)

none_left : {X : Type 0} (limit : Option ℕ) (n : ℕ) (ys : List X) → is_reached limit n ≡ true → first_of (left_of limit n) ys ≡ []
none_left None n ys reached = absurd (true≢false (sym reached))
none_left (Some limit) n ys reached =
    let some = not_below n limit (nat_lt n limit) refl reached in
    let none : limit - n ≡ 0 = omega arith in
    ap (λ m. take m ys) none

one_left : {X : Type 0} (limit : Option ℕ) (n : ℕ) (y : X) (b : Bool) → is_reached limit n ≡ false → first_of (left_of limit n) (cond b (y ∷ []) []) ≡ cond b (y ∷ []) []
one_left None n y b short = refl
one_left (Some limit) n y b short = by b (limit - n) (let some = below n limit (nat_lt n limit) refl short in omega arith)
  where
    by : (b : Bool) (m : ℕ) → 0 < m → take m (cond b (y ∷ []) []) ≡ cond b (y ∷ []) []
    by b zero some = absurd (omega arith)
    by true (suc zero) some = refl
    by true (suc (suc m)) some = refl
    by false (suc m) some = refl

-- where a limit is reached nothing behind is among the first
pub full : {X : Type 0} (limit : Option ℕ) (xs ys : List X) → is_reached limit (length (first_of limit xs)) ≡ true → first_of limit (xs ++ ys) ≡ first_of limit xs
full limit xs ys reached = sym (first_of-append limit xs ys) ∙ ap (λ l. first_of limit xs ++ l) (none_left limit (length (first_of limit xs)) ys reached) ∙ append-nil (first_of limit xs)

-- and else one more is
pub room : {X : Type 0} (limit : Option ℕ) (xs : List X) (y : X) (b : Bool) → is_reached limit (length (first_of limit xs)) ≡ false → first_of limit (xs ++ cond b (y ∷ []) []) ≡ first_of limit xs ++ cond b (y ∷ []) []
room limit xs y b short = sym (first_of-append limit xs (cond b (y ∷ []) [])) ∙ ap (λ l. first_of limit xs ++ l) (one_left limit (length (first_of limit xs)) y b short)

-- how many elements a vector has so far
pub vec_length : {X : Type 0} (v : Vec X Global) → vec_len v ≡ length v.items
vec_length v = v.ok.0
