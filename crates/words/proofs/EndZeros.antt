-- Lists without the zeros at their end.
use Rattle.std.proofs.Common.{◌≡◌, ◌≢◌, ℕ, zero, suc, ◌-◌, Bool, true, false, cond, List, [], ◌∷◌, ◌++◌, length, replicate, refl, ap, arith}
use Rattle.std.specs.List.{list_all}
use Rattle.std.proofs.lemmas.List.Folds.{list_all-append}
use Rattle.std.proofs.lemmas.Grind.{common_steps}
use Rattle.words.specs.Texts.{is_text_byte, is_zero, without_end_zeros}

-- one more zero changes nothing
pub zero_more : (xs : List ℕ) → without_end_zeros (xs ++ 0 ∷ []) ≡ without_end_zeros xs
unfolding without_end_zeros
zero_more [] = refl
zero_more (x ∷ xs) =
    let more = zero_more xs in
    let all = list_all-append is_zero xs (0 ∷ []) in
    grind (arith, common_steps, more, all)

-- and one more byte that isn't zero keeps all
pub byte_more : (xs : List ℕ) (b : ℕ) → b ≢ 0 → without_end_zeros (xs ++ b ∷ []) ≡ xs ++ b ∷ []
unfolding without_end_zeros
byte_more [] b other = grind (arith, common_steps)
byte_more (x ∷ xs) b other =
    let more = byte_more xs b other in
    let all = list_all-append is_zero xs (b ∷ []) in
    grind (arith, common_steps, more, all)

all_zeros : (k : ℕ) → list_all is_zero (replicate k 0) ≡ true
all_zeros zero = refl
all_zeros (suc k) = all_zeros k

no_zeros : (k : ℕ) → without_end_zeros (replicate k 0) ≡ []
unfolding without_end_zeros
no_zeros zero = refl
no_zeros (suc k) =
    let all = all_zeros k in
    grind (arith, common_steps, all)

-- zeros behind a text are taken away, and no more
pub zeros_behind : (k : ℕ) (bytes : List ℕ) → list_all is_text_byte bytes ≡ true → without_end_zeros (bytes ++ replicate k 0) ≡ bytes
unfolding without_end_zeros
zeros_behind k [] all = no_zeros k
zeros_behind k (x ∷ xs) all =
    let more = zeros_behind k xs in
    grind (arith, common_steps, more)

zeros_are : (xs : List ℕ) → list_all is_zero xs ≡ true → replicate (length xs) 0 ≡ xs
zeros_are [] all = refl
zeros_are (x ∷ xs) all =
    let more = zeros_are xs in
    grind (arith, common_steps, more)

-- a list that was cut down to its front, or to nothing where it is all zeros, is filled up again
filled_from : (x : ℕ) (xs front : List ℕ) (all : Bool) → (all ≡ true → replicate (length (x ∷ xs)) 0 ≡ x ∷ xs)
    → front ++ replicate (length xs - length front) 0 ≡ xs
    → cond all [] (x ∷ front) ++ replicate (length (x ∷ xs) - length (cond all [] (x ∷ front))) 0 ≡ x ∷ xs
filled_from x xs front true zeros more =
    let whole : length (x ∷ xs) - 0 ≡ length (x ∷ xs) = omega arith in
    rw whole (zeros refl)
filled_from x xs front false zeros more =
    let same : length (x ∷ xs) - length (x ∷ front) ≡ length xs - length front = omega arith in
    rw same (ap (λ rest. x ∷ rest) more)

-- zeros in their place give the list back
pub filled_up : (xs : List ℕ) → without_end_zeros xs ++ replicate (length xs - length (without_end_zeros xs)) 0 ≡ xs
unfolding without_end_zeros
filled_up [] = refl
filled_up (x ∷ xs) = filled_from x xs (without_end_zeros xs) (list_all is_zero (x ∷ xs)) (zeros_are (x ∷ xs)) (filled_up xs)
