-- Folds of blocks: the laws on lists of words by which halves are folded until one block is left.
use Rattle.std.proofs.Common.{◌≡◌, ℕ, zero, suc, ◌+◌, ◌-◌, ◌*◌, ◌/◌, ◌<◌, ◌≤◌, ⊎_elim, List, ◌∷◌, length, map, drop, get_or, refl, sym, ap, ◌∙◌, add-one, arith}
use Rattle.std.specs.Prelude.{◌⊎◌, slice_range}
use Rattle.std.specs.List.{fold, range_with_len}
use Rattle.std.proofs.Math.Nat.{mul-le-mul_right}
use Rattle.std.proofs.lemmas.List.{ext_get_or, get_or-append_right, get_or-drop, get_or-take, get_or_append_left, length-drop, length-take, take_all, take_rest}
use Rattle.std.proofs.lemmas.List.FromFn.{fill_by_all, get_or-map-range_with_len, get_or-range_with_len, length-map-range_with_len, length-range_with_len, map-range_with_len_more}
use Rattle.std.proofs.lemmas.List.Sums.{fold_push}
use Rattle.lanes.specs.Lanes.{lanewise, picked}
use Rattle.circuits.specs.declared.folds.Fold.{Fold}
use Rattle.lanes.specs.Folds.{words_folded}
use Rattle.circuits.specs.Blocks.{blocks_folded, halves_folded, lane_of_blocks}
use Rattle.circuits.specs.Folds.{combined_word}
use Rattle.circuits.proofs.LaneLists.{get_or-lanewise, get_or-picked, length-lanewise, length-picked}
use Rattle.circuits.proofs.FoldValues.{combined_assoc, combined_comm}

-- the fold of a sequence of words, from the first up to the one of this number
abbrev pub folded_to : (ℕ → ℕ → ℕ) → (ℕ → ℕ) → ℕ → ℕ
folded_to op b zero = b 0
folded_to op b (suc n) = op (folded_to op b n) (b (suc n))

-- an operation by which words may be folded in any order
pub record IsCommutativeSemigroup (op : ℕ → ℕ → ℕ) : Type 0 where
  pub associates : (x y z : ℕ) → op (op x y) z ≡ op x (op y z)
  pub commutes : (x y : ℕ) → op x y ≡ op y x

pub combined_semigroup : (fold : Fold) → IsCommutativeSemigroup (combined_word fold)
combined_semigroup fold = record { associates = combined_assoc fold; commutes = combined_comm fold }

exchanged : (op : ℕ → ℕ → ℕ) → IsCommutativeSemigroup op → (a b c d : ℕ) → op (op a b) (op c d) ≡ op (op a c) (op b d)
exchanged op h a b c d =
    h.associates a b (op c d)
    ∙ ap (op a) (sym (h.associates b c d) ∙ ap (λ x. op x d) (h.commutes b c) ∙ h.associates c b d)
    ∙ sym (h.associates a c (op b d))

same_folds : (op : ℕ → ℕ → ℕ) (b c : ℕ → ℕ) (n : ℕ) → ((j : ℕ) → j ≤ n → b j ≡ c j) → folded_to op b n ≡ folded_to op c n
same_folds op b c zero same = same 0 (omega arith)
same_folds op b c (suc n) same =
    ap (λ x. op x (b (suc n))) (same_folds op b c n (λ j h. same j (omega arith)))
    ∙ ap (op (folded_to op c n)) (same (suc n) (omega arith))

folds_of_pairs : (op : ℕ → ℕ → ℕ) → IsCommutativeSemigroup op → (b c : ℕ → ℕ) (n : ℕ) → folded_to op (λ j. op (b j) (c j)) n ≡ op (folded_to op b n) (folded_to op c n)
folds_of_pairs op h b c zero = refl
folds_of_pairs op h b c (suc n) =
    ap (λ x. op x (op (b (suc n)) (c (suc n)))) (folds_of_pairs op h b c n)
    ∙ exchanged op h (folded_to op b n) (folded_to op c n) (b (suc n)) (c (suc n))

-- a fold goes on with the words behind it
folds_join : (op : ℕ → ℕ → ℕ) → IsCommutativeSemigroup op → (b : ℕ → ℕ) (m n : ℕ) → op (folded_to op b m) (folded_to op (λ j. b (suc m + j)) n) ≡ folded_to op b (suc m + n)
folds_join op h b m zero =
    let at : suc m + 0 ≡ suc m = omega arith in
    ap (λ k. op (folded_to op b m) (b k)) at ∙ ap (folded_to op b) (sym at)
folds_join op h b m (suc n) =
    let at : suc m + suc n ≡ suc (suc m + n) = omega arith in
    sym (h.associates (folded_to op b m) (folded_to op (λ j. b (suc m + j)) n) (b (suc m + suc n)))
    ∙ ap (λ x. op x (b (suc m + suc n))) (folds_join op h b m n)
    ∙ ap (λ k. op (folded_to op b (suc m + n)) (b k)) at ∙ ap (folded_to op b) (sym at)

-- a sequence whose words are those of two halves folded
halves_join : (op : ℕ → ℕ → ℕ) → IsCommutativeSemigroup op → (b c : ℕ → ℕ) (e : ℕ) → ((j : ℕ) → j < suc e → c j ≡ op (b j) (b (suc e + j)))
    → folded_to op c e ≡ folded_to op b (suc e + e)
halves_join op h b c e lower =
    same_folds op c (λ j. op (b j) (b (suc e + j))) e (λ j inside. lower j (omega arith))
    ∙ folds_of_pairs op h b (λ j. b (suc e + j)) e
    ∙ folds_join op h b e e

-- and behind them one word more
halves_join_rest : (op : ℕ → ℕ → ℕ) → IsCommutativeSemigroup op → (b c : ℕ → ℕ) (e : ℕ) → ((j : ℕ) → j < suc e → c j ≡ op (b j) (b (suc e + j)))
    → c (suc e) ≡ b (suc e + suc e) → folded_to op c (suc e) ≡ folded_to op b (suc e + suc e)
halves_join_rest op h b c e lower rest =
    let at : suc e + suc e ≡ suc (suc e + e) = omega arith in
    ap (λ x. op x (c (suc e))) (halves_join op h b c e lower)
    ∙ ap (op (folded_to op b (suc e + e))) rest
    ∙ ap (λ k. op (folded_to op b (suc e + e)) (b k)) at ∙ ap (folded_to op b) (sym at)

-- the fold of a list that is told word by word
pub folded_words : (op : ℕ → ℕ → ℕ) (b : ℕ → ℕ) (n : ℕ) → words_folded op (map b (range_with_len 0 (suc n))) ≡ folded_to op b n
folded_words op b zero = refl
folded_words op b (suc n) =
    ap (λ k. fold op (b 0) (map b (range_with_len 1 k))) (sym (add-one n))
    ∙ ap (fold op (b 0)) (map-range_with_len_more b 1 n (suc n) (omega arith))
    ∙ fold_push op (b 0) (map b (range_with_len 1 n)) (b (suc n))
    ∙ ap (λ x. op x (b (suc n))) (folded_words op b n)

-- the fold of a list, word by word
pub folded_list : (op : ℕ → ℕ → ℕ) (x : ℕ) (xs : List ℕ) → words_folded op (x ∷ xs) ≡ folded_to op (λ j. get_or (x ∷ xs) j 0) (length xs)
folded_list op x xs =
    ap (words_folded op) (fill_by_all (λ j. get_or (x ∷ xs) j 0) (x ∷ xs) (suc (length xs)) 0 refl (λ k inside. refl))
    ∙ folded_words op (λ j. get_or (x ∷ xs) j 0) (length xs)

-- the words of folded halves
lower_word : (op : ℕ → ℕ → ℕ) (half p : ℕ) (xs : List ℕ) → half + half ≤ length xs → p < half
    → get_or (halves_folded op half xs) p 0 ≡ op (get_or xs p 0) (get_or xs (half + p) 0)
unfolding halves_folded
lower_word op half p xs enough inside =
    let first = slice_range xs 0 half in
    let second = slice_range xs half (half + half) in
    let first_long : length first ≡ half = length-take (half - 0) xs ∙ omega arith in
    let second_long : length second ≡ half = length-take (half + half - half) (drop half xs) ∙ omega (arith, length-drop half xs) in
    let whole : half - 0 ≡ half = omega arith in
    get_or_append_left (lanewise op first second) _ 0 p (omega (arith, length-lanewise op first second, first_long, second_long))
    ∙ get_or-lanewise op first second p (omega (arith, first_long)) (omega (arith, second_long))
    ∙ ap (λ x. op x (get_or second p 0)) (get_or-take (half - 0) xs p 0 (omega arith))
    ∙ ap (op (get_or xs p 0)) (get_or-take (half + half - half) (drop half xs) p 0 (omega arith) ∙ get_or-drop half xs p 0)

upper_word : (op : ℕ → ℕ → ℕ) (half p : ℕ) (xs : List ℕ) → half + half ≤ length xs → half ≤ p
    → get_or (halves_folded op half xs) p 0 ≡ get_or xs (half + p) 0
unfolding halves_folded
upper_word op half p xs enough behind =
    let first = slice_range xs 0 half in
    let second = slice_range xs half (half + half) in
    let first_long : length first ≡ half = length-take (half - 0) xs ∙ omega arith in
    let second_long : length second ≡ half = length-take (half + half - half) (drop half xs) ∙ omega (arith, length-drop half xs) in
    let at : half + half + (p - half) ≡ half + p = omega arith in
    get_or-append_right (lanewise op first second) _ half p 0 (omega (arith, length-lanewise op first second, first_long, second_long)) behind
    ∙ ap (λ ys. get_or ys (p - half) 0) (take_rest xs (half + half))
    ∙ get_or-drop (half + half) xs (p - half) 0
    ∙ ap (λ k. get_or xs k 0) at

-- a lane of a block below the last
pub lane_within : (width j i blocks : ℕ) → j < blocks → i < width → j * width + i < blocks * width
lane_within width j i blocks below inside =
    let all : suc j * width ≤ blocks * width = mul-le-mul_right width (omega arith) in
    omega (arith, all)

-- one lane of folded halves: the word of the lane in a block, and in one behind the halves
lower_block : (op : ℕ → ℕ → ℕ) (half width j i : ℕ) (xs : List ℕ) → half * width + half * width ≤ length xs → j < half → i < width
    → get_or (halves_folded op (half * width) xs) (j * width + i) 0 ≡ op (get_or xs (j * width + i) 0) (get_or xs ((half + j) * width + i) 0)
lower_block op half width j i xs enough below inside =
    let at : half * width + (j * width + i) ≡ (half + j) * width + i = omega arith in
    lower_word op (half * width) (j * width + i) xs enough (lane_within width j i half below inside)
    ∙ ap (λ k. op (get_or xs (j * width + i) 0) (get_or xs k 0)) at

upper_block : (op : ℕ → ℕ → ℕ) (half width i : ℕ) (xs : List ℕ) → half * width + half * width ≤ length xs
    → get_or (halves_folded op (half * width) xs) (half * width + i) 0 ≡ get_or xs ((half + half) * width + i) 0
upper_block op half width i xs enough =
    let at : half * width + (half * width + i) ≡ (half + half) * width + i = omega arith in
    upper_word op (half * width) (half * width + i) xs enough (omega arith)
    ∙ ap (λ k. get_or xs k 0) at

-- the fold of one lane stays the same
lane_stays : (op : ℕ → ℕ → ℕ) → IsCommutativeSemigroup op → (e width i left : ℕ) (xs : List ℕ) → suc e * width + suc e * width ≤ length xs → i < width
    → (left ≡ suc e + suc e) ⊎ (left ≡ suc (suc e + suc e))
    → words_folded op (lane_of_blocks (left - suc e) width (halves_folded op (suc e * width) xs) i) ≡ words_folded op (lane_of_blocks left width xs i)
lane_stays op h e width i left xs enough inside parity = ⊎_elim even odd parity
  where
    b : ℕ → ℕ
    b j = get_or xs (j * width + i) 0

    c : ℕ → ℕ
    c j = get_or (halves_folded op (suc e * width) xs) (j * width + i) 0

    lower : (j : ℕ) → j < suc e → c j ≡ op (b j) (b (suc e + j))
    lower j below = lower_block op (suc e) width j i xs enough below inside

    even : left ≡ suc e + suc e → words_folded op (map c (range_with_len 0 (left - suc e))) ≡ words_folded op (map b (range_with_len 0 left))
    even is =
        let fewer : left - suc e ≡ suc e = omega arith in
        let all : left ≡ suc (suc e + e) = omega arith in
        ap (λ n. words_folded op (map c (range_with_len 0 n))) fewer
        ∙ folded_words op c e ∙ halves_join op h b c e lower ∙ sym (folded_words op b (suc e + e))
        ∙ ap (λ n. words_folded op (map b (range_with_len 0 n))) (sym all)

    odd : left ≡ suc (suc e + suc e) → words_folded op (map c (range_with_len 0 (left - suc e))) ≡ words_folded op (map b (range_with_len 0 left))
    odd is =
        let fewer : left - suc e ≡ suc (suc e) = omega arith in
        ap (λ n. words_folded op (map c (range_with_len 0 n))) fewer
        ∙ folded_words op c (suc e) ∙ halves_join_rest op h b c e lower (upper_block op (suc e) width i xs enough) ∙ sym (folded_words op b (suc e + suc e))
        ∙ ap (λ n. words_folded op (map b (range_with_len 0 n))) (sym is)

-- two lists of folds of lanes that agree lane by lane
pub same_lanes : (f g : ℕ → ℕ) (n : ℕ) → ((i : ℕ) → i < n → f i ≡ g i) → map f (range_with_len 0 n) ≡ map g (range_with_len 0 n)
same_lanes f g n same =
    fill_by_all g (map f (range_with_len 0 n)) n 0 (length-map-range_with_len f 0 n)
    (λ i inside. get_or-map-range_with_len f 0 n i i 0 inside (omega arith) ∙ same i inside)

-- one level: to fold what is left is to fold all
pub halves_stay : (op : ℕ → ℕ → ℕ) → IsCommutativeSemigroup op → (left half width : ℕ) (xs : List ℕ) → length xs ≡ left * width → half ≡ left / 2 → 1 < left
    → blocks_folded op (left - half) width (halves_folded op (half * width) xs) ≡ blocks_folded op left width xs
halves_stay op h left zero width xs long is some = absurd (omega arith)
halves_stay op h left (suc e) width xs long is some =
    let most : (suc e + suc e) * width ≤ left * width = mul-le-mul_right width (omega arith) in
    same_lanes _ _ width (λ i inside. lane_stays op h e width i left xs (omega (arith, most, long)) inside (parity (omega arith)))
  where
    parity : (suc e + suc e ≤ left) × (left ≤ suc (suc e + suc e)) → (left ≡ suc e + suc e) ⊎ (left ≡ suc (suc e + suc e))
    parity within = grind arith

-- one block is its own fold
pub one_block : (op : ℕ → ℕ → ℕ) (width : ℕ) (xs : List ℕ) → length xs ≡ width → xs ≡ blocks_folded op 1 width xs
one_block op width xs long =
    fill_by_all (λ i. words_folded op (lane_of_blocks 1 width xs i)) xs width 0 long
    (λ i inside. let at : i ≡ 0 * width + i = omega arith in ap (λ k. get_or xs k 0) at)

-- a pick of the places between two lanes
pub between_is : (from to : ℕ) (xs : List ℕ) → from ≤ to → to ≤ length xs → picked (range_with_len from (to - from)) xs ≡ slice_range xs from to
between_is from to xs ordered within =
    let places = range_with_len from (to - from) in
    let long : length (slice_range xs from to) ≡ to - from = length-take (to - from) (drop from xs) ∙ omega (arith, length-drop from xs) in
    ext_get_or 0 (picked places xs) (slice_range xs from to) (length-picked places xs ∙ length-range_with_len from (to - from) ∙ sym long)
    (λ k inside.
    let below : k < to - from = omega (arith, inside, length-picked places xs, length-range_with_len from (to - from)) in
    get_or-picked places xs k (omega (arith, length-range_with_len from (to - from)))
    ∙ ap (λ p. get_or xs p 0) (get_or-range_with_len from (to - from) k 0 below)
    ∙ sym (get_or-take (to - from) (drop from xs) k 0 below ∙ get_or-drop from xs k 0))

-- a pick of all places in order
pub all_is : (n : ℕ) (xs : List ℕ) → length xs ≡ n → picked (range_with_len 0 (n - 0)) xs ≡ xs
all_is n xs long = between_is 0 n xs (omega arith) (omega arith) ∙ take_all (n - 0) xs (omega arith)

-- a place between two lanes
pub between_within : (from to k : ℕ) → k < to - from → get_or (range_with_len from (to - from)) k 0 < to
between_within from to k inside = omega (arith, get_or-range_with_len from (to - from) k 0 inside)
