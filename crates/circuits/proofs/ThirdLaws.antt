-- Sums of blocks: the laws on lists of words by which three blocks are two with the same sums.
use Rattle.std.proofs.Common.{◌≡◌, ℕ, zero, suc, ◌+◌, ◌-◌, ◌*◌, ◌/◌, ◌%◌, ◌^◌, ◌<◌, ◌≤◌, List, ◌++◌, length, map, drop, get_or, refl, sym, ap, ◌∙◌, arith, length-append}
use Rattle.std.specs.Prelude.{bit_and, bit_xor, slice_range}
use Rattle.std.specs.List.{range_with_len}
use Rattle.std.proofs.Math.ListN.{get_or-map}
use Rattle.std.proofs.Math.Nat.{mul-le-mul_right}
use Rattle.std.proofs.lemmas.List.{get_or-append_right, get_or-drop, get_or-take, get_or_append_left, length-drop, length-map, length-take}
use Rattle.lanes.specs.CarrySave.{CarrySaveKeepsSum, saved_carry, saved_sum}
use Rattle.lanes.specs.Lanes.{lanewise}
use Rattle.lanes.specs.Shifts.{shifted_left}
use Rattle.lanes.specs.Sums.{sum_word}
use Rattle.lanes.specs.Folds.{words_folded}
use Rattle.circuits.specs.Blocks.{blocks_folded, lane_of_blocks, thirds_saved}
use Rattle.circuits.specs.Values.{moved_carries, saved_carries, saved_sums}
use Rattle.circuits.proofs.LaneLists.{get_or-lanewise, length-lanewise}
use Rattle.circuits.proofs.BlockLaws.{folded_to, folded_words, lane_within, same_lanes}

-- the sum of the first so many numbers of a sequence
abbrev total : (ℕ → ℕ) → ℕ → ℕ
total f zero = 0
total f (suc n) = total f n + f n

total_split : (f : ℕ → ℕ) (m n : ℕ) → total f (m + n) ≡ total f m + total (λ j. f (m + j)) n
total_split f m zero = let at : m + 0 ≡ m = omega arith in ap (total f) at ∙ omega arith
total_split f m (suc n) =
    let at : m + suc n ≡ suc (m + n) = omega arith in
    ap (total f) at ∙ omega (arith, total_split f m n)

total_pairs : (f g : ℕ → ℕ) (n : ℕ) → total (λ j. f j + g j) n ≡ total f n + total g n
total_pairs f g zero = refl
total_pairs f g (suc n) = omega (arith, total_pairs f g n)

total_same : (f g : ℕ → ℕ) (n : ℕ) → ((j : ℕ) → j < n → f j % 2 ^ 64 ≡ g j % 2 ^ 64) → total f n % 2 ^ 64 ≡ total g n % 2 ^ 64
total_same f g zero same = refl
total_same f g (suc n) same = omega (arith, total_same f g n (λ j h. same j (omega arith)), same n (omega arith))

-- a sum of at least two words is their sum modulo 2 ^ 64
sums_total : (b : ℕ → ℕ) (n : ℕ) → folded_to sum_word b (suc n) ≡ total b (suc (suc n)) % 2 ^ 64
sums_total b zero = omega arith
sums_total b (suc n) = omega (arith, sums_total b n)

-- three thirds as two, and the numbers behind them
thirds_total : (b c : ℕ → ℕ) (t r : ℕ)
    → ((j : ℕ) → j < t → (c j + c (t + j)) % 2 ^ 64 ≡ (b j + b (t + j) + b (t + t + j)) % 2 ^ 64)
    → ((j : ℕ) → j < r → c (t + t + j) ≡ b (t + t + t + j))
    → total c (t + t + r) % 2 ^ 64 ≡ total b (t + t + t + r) % 2 ^ 64
thirds_total b c t r both rest =
    omega (
      arith,
      total_split c (t + t) r,
      total_split c t t,
      total_pairs c (λ j. c (t + j)) t,
      total_split b (t + t + t) r,
      total_split b (t + t) t,
      total_split b t t,
      total_pairs b (λ j. b (t + j)) t,
      total_pairs (λ j. b j + b (t + j)) (λ j. b (t + t + j)) t,
      total_same (λ j. c j + c (t + j)) (λ j. b j + b (t + j) + b (t + t + j)) t both,
      total_same (λ j. c (t + t + j)) (λ j. b (t + t + t + j)) r (λ j h. ap (λ x. x % 2 ^ 64) (rest j h)),
    )

-- the words of a part of a list
slice_word : (from to p : ℕ) (xs : List ℕ) → p < to - from → get_or (slice_range xs from to) p 0 ≡ get_or xs (from + p) 0
slice_word from to p xs inside = get_or-take (to - from) (drop from xs) p 0 inside ∙ get_or-drop from xs p 0

first_word : (to p : ℕ) (xs : List ℕ) → p < to - 0 → get_or (slice_range xs 0 to) p 0 ≡ get_or xs p 0
first_word to p xs inside = let at : 0 + p ≡ p = omega arith in slice_word 0 to p xs inside ∙ ap (λ k. get_or xs k 0) at

slice_long : (from to : ℕ) (xs : List ℕ) → from ≤ to → to ≤ length xs → length (slice_range xs from to) ≡ to - from
slice_long from to xs ordered within = length-take (to - from) (drop from xs) ∙ omega (arith, length-drop from xs)

-- three lists of one length as two, word by word
sums_long : (n : ℕ) (xs ys zs : List ℕ) → length xs ≡ n → length ys ≡ n → length zs ≡ n → length (saved_sums xs ys zs) ≡ n
unfolding saved_sums
sums_long n xs ys zs first second third = omega (arith, length-lanewise bit_xor (lanewise bit_xor xs ys) zs, length-lanewise bit_xor xs ys, first, second, third)

sums_word : (n p : ℕ) (xs ys zs : List ℕ) → length xs ≡ n → length ys ≡ n → length zs ≡ n → p < n
    → get_or (saved_sums xs ys zs) p 0 ≡ saved_sum (get_or xs p 0) (get_or ys p 0) (get_or zs p 0)
unfolding saved_sums
sums_word n p xs ys zs first second third inside =
    get_or-lanewise bit_xor (lanewise bit_xor xs ys) zs p (omega (arith, length-lanewise bit_xor xs ys, first, second)) (omega (arith, third))
    ∙ ap (λ x. bit_xor x (get_or zs p 0)) (get_or-lanewise bit_xor xs ys p (omega (arith, first)) (omega (arith, second)))

carries_long : (n : ℕ) (xs ys zs : List ℕ) → length xs ≡ n → length ys ≡ n → length zs ≡ n → length (saved_carries xs ys zs) ≡ n
unfolding saved_carries moved_carries
carries_long n xs ys zs first second third =
    let d = lanewise bit_xor xs ys in
    let e = lanewise bit_xor xs zs in
    length-map (lanewise bit_xor (lanewise bit_and d e) xs) (shifted_left 1)
    ∙ omega (arith, length-lanewise bit_xor (lanewise bit_and d e) xs, length-lanewise bit_and d e, length-lanewise bit_xor xs ys, length-lanewise bit_xor xs zs, first, second, third)

carries_word : (n p : ℕ) (xs ys zs : List ℕ) → length xs ≡ n → length ys ≡ n → length zs ≡ n → p < n
    → get_or (saved_carries xs ys zs) p 0 ≡ saved_carry (get_or xs p 0) (get_or ys p 0) (get_or zs p 0)
unfolding saved_carries moved_carries
carries_word n p xs ys zs first second third inside =
    let d = lanewise bit_xor xs ys in
    let e = lanewise bit_xor xs zs in
    let d_long = length-lanewise bit_xor xs ys in
    let e_long = length-lanewise bit_xor xs zs in
    get_or-map (shifted_left 1) (lanewise bit_xor (lanewise bit_and d e) xs) p 0
    ∙ ap (shifted_left 1)
    (get_or-lanewise bit_xor (lanewise bit_and d e) xs p (omega (arith, length-lanewise bit_and d e, d_long, e_long, first, second, third)) (omega (arith, first))
    ∙ ap (λ x. bit_xor x (get_or xs p 0))
    (get_or-lanewise bit_and d e p (omega (arith, d_long, first, second)) (omega (arith, e_long, first, third))
    ∙ ap (λ x. bit_and x (get_or e p 0)) (get_or-lanewise bit_xor xs ys p (omega (arith, first)) (omega (arith, second)))
    ∙ ap (bit_and (bit_xor (get_or xs p 0) (get_or ys p 0))) (get_or-lanewise bit_xor xs zs p (omega (arith, first)) (omega (arith, third)))))

-- the words of thirds that were saved
record Thirds (third : ℕ) (xs : List ℕ) : Type 0 where
  sums : (p : ℕ) → p < third → get_or (thirds_saved third xs) p 0 ≡ saved_sum (get_or xs p 0) (get_or xs (third + p) 0) (get_or xs (2 * third + p) 0)
  carries : (p : ℕ) → p < third → get_or (thirds_saved third xs) (third + p) 0 ≡ saved_carry (get_or xs p 0) (get_or xs (third + p) 0) (get_or xs (2 * third + p) 0)
  rest : (p : ℕ) → p < length xs - 3 * third → get_or (thirds_saved third xs) (2 * third + p) 0 ≡ get_or xs (3 * third + p) 0

thirds : (third : ℕ) (xs : List ℕ) → 3 * third ≤ length xs → Thirds third xs
unfolding thirds_saved
thirds third xs enough =
    let first = slice_range xs 0 third in
    let second = slice_range xs third (2 * third) in
    let last = slice_range xs (2 * third) (3 * third) in
    let behind = slice_range xs (3 * third) (length xs) in
    let first_long : length first ≡ third = slice_long 0 third xs (omega arith) (omega arith) ∙ omega arith in
    let second_long : length second ≡ third = slice_long third (2 * third) xs (omega arith) (omega arith) ∙ omega arith in
    let last_long : length last ≡ third = slice_long (2 * third) (3 * third) xs (omega arith) (omega arith) ∙ omega arith in
    let sums = saved_sums first second last in
    let carries = saved_carries first second last in
    let sums_are : length sums ≡ third = sums_long third first second last first_long second_long last_long in
    let carries_are : length carries ≡ third = carries_long third first second last first_long second_long last_long in
    let both_long : length (sums ++ carries) ≡ 2 * third = length-append sums carries ∙ omega (arith, sums_are, carries_are) in
    record {
      sums = λ p inside.
          get_or_append_left (sums ++ carries) behind 0 p (omega (arith, both_long))
          ∙ get_or_append_left sums carries 0 p (omega (arith, sums_are))
          ∙ sums_word third p first second last first_long second_long last_long inside
          ∙ ap (λ x. saved_sum x (get_or second p 0) (get_or last p 0)) (first_word third p xs (omega arith))
          ∙ ap (λ x. saved_sum (get_or xs p 0) x (get_or last p 0)) (slice_word third (2 * third) p xs (omega arith))
          ∙ ap (saved_sum (get_or xs p 0) (get_or xs (third + p) 0)) (slice_word (2 * third) (3 * third) p xs (omega arith));
      carries = λ p inside.
          let at : third + p - third ≡ p = omega arith in
          get_or_append_left (sums ++ carries) behind 0 (third + p) (omega (arith, both_long))
          ∙ get_or-append_right sums carries third (third + p) 0 sums_are (omega arith)
          ∙ ap (λ k. get_or carries k 0) at
          ∙ carries_word third p first second last first_long second_long last_long inside
          ∙ ap (λ x. saved_carry x (get_or second p 0) (get_or last p 0)) (first_word third p xs (omega arith))
          ∙ ap (λ x. saved_carry (get_or xs p 0) x (get_or last p 0)) (slice_word third (2 * third) p xs (omega arith))
          ∙ ap (saved_carry (get_or xs p 0) (get_or xs (third + p) 0)) (slice_word (2 * third) (3 * third) p xs (omega arith));
      rest = λ p inside.
          let at : 2 * third + p - 2 * third ≡ p = omega arith in
          get_or-append_right (sums ++ carries) behind (2 * third) (2 * third + p) 0 both_long (omega arith)
          ∙ ap (λ k. get_or behind k 0) at
          ∙ slice_word (3 * third) (length xs) p xs inside;
    }

-- the sum of one lane stays the same
lane_stays : CarrySaveKeepsSum → (e width i left r : ℕ) (xs : List ℕ) → length xs ≡ left * width → i < width → left ≡ suc e + suc e + suc e + r
    → words_folded sum_word (lane_of_blocks (left - suc e) width (thirds_saved (suc e * width) xs) i) ≡ words_folded sum_word (lane_of_blocks left width xs i)
lane_stays law e width i left r xs long inside is =
    let fewer : left - suc e ≡ suc (suc (e + e + r)) = omega arith in
    let all : left ≡ suc (suc (suc (e + e + e + r))) = omega arith in
    let few : suc e + suc e + r ≡ suc (suc (e + e + r)) = omega arith in
    ap (λ n. words_folded sum_word (map c (range_with_len 0 n))) fewer
    ∙ folded_words sum_word c (suc (e + e + r))
    ∙ sums_total c (e + e + r)
    ∙ ap (λ n. total c n % 2 ^ 64) (sym few)
    ∙ thirds_total b c (suc e) r both rest
    ∙ ap (λ n. total b n % 2 ^ 64) (sym is ∙ all)
    ∙ sym (sums_total b (suc (e + e + e + r)))
    ∙ sym (folded_words sum_word b (suc (suc (e + e + e + r))))
    ∙ ap (λ n. words_folded sum_word (map b (range_with_len 0 n))) (sym all)
  where
    t : ℕ
    t = suc e

    b : ℕ → ℕ
    b j = get_or xs (j * width + i) 0

    c : ℕ → ℕ
    c j = get_or (thirds_saved (suc e * width) xs) (j * width + i) 0

    enough : 3 * (suc e * width) ≤ length xs
    enough =
        let most : (suc e + suc e + suc e) * width ≤ left * width = mul-le-mul_right width (omega arith) in
        omega (arith, most, long)

    both : (j : ℕ) → j < suc e → (c j + c (suc e + j)) % 2 ^ 64 ≡ (b j + b (suc e + j) + b (suc e + suc e + j)) % 2 ^ 64
    both j below =
        let p = j * width + i in
        let h = thirds (suc e * width) xs enough in
        let within : p < suc e * width = lane_within width j i (suc e) below inside in
        let second : suc e * width + p ≡ (suc e + j) * width + i = omega arith in
        let third : 2 * (suc e * width) + p ≡ (suc e + suc e + j) * width + i = omega arith in
        let sum : c j ≡ saved_sum (b j) (b (suc e + j)) (b (suc e + suc e + j)) =
        h.sums p within ∙ ap (λ k. saved_sum (get_or xs p 0) (get_or xs k 0) (get_or xs (2 * (suc e * width) + p) 0)) second
        ∙ ap (λ k. saved_sum (b j) (b (suc e + j)) (get_or xs k 0)) third in
        let carry : c (suc e + j) ≡ saved_carry (b j) (b (suc e + j)) (b (suc e + suc e + j)) =
        ap (λ k. get_or (thirds_saved (suc e * width) xs) k 0) (sym second) ∙ h.carries p within
        ∙ ap (λ k. saved_carry (get_or xs p 0) (get_or xs k 0) (get_or xs (2 * (suc e * width) + p) 0)) second
        ∙ ap (λ k. saved_carry (b j) (b (suc e + j)) (get_or xs k 0)) third in
        ap (λ x. (x + c (suc e + j)) % 2 ^ 64) sum
        ∙ ap (λ x. (saved_sum (b j) (b (suc e + j)) (b (suc e + suc e + j)) + x) % 2 ^ 64) carry
        ∙ law (b j) (b (suc e + j)) (b (suc e + suc e + j))

    rest : (j : ℕ) → j < r → c (suc e + suc e + j) ≡ b (suc e + suc e + suc e + j)
    rest j below =
        let p = j * width + i in
        let h = thirds (suc e * width) xs enough in
        let at : (suc e + suc e + j) * width + i ≡ 2 * (suc e * width) + p = omega arith in
        let from : 3 * (suc e * width) + p ≡ (suc e + suc e + suc e + j) * width + i = omega arith in
        let most : p < r * width = lane_within width j i r below inside in
        let whole : left * width ≡ 3 * (suc e * width) + r * width = ap (λ n. n * width) is ∙ omega arith in
        ap (λ k. get_or (thirds_saved (suc e * width) xs) k 0) at
        ∙ h.rest p (omega (arith, long, whole, most))
        ∙ ap (λ k. get_or xs k 0) from

-- one level: to sum what is left is to sum all
pub thirds_stay : CarrySaveKeepsSum → (left third width : ℕ) (xs : List ℕ) → length xs ≡ left * width → third ≡ left / 3 → 2 < left
    → blocks_folded sum_word (left - third) width (thirds_saved (third * width) xs) ≡ blocks_folded sum_word left width xs
thirds_stay law left zero width xs long is some = absurd (omega arith)
thirds_stay law left (suc e) width xs long is some =
    same_lanes _ _ width (λ i inside. lane_stays law e width i left (left - (suc e + suc e + suc e)) xs long inside (omega arith))
