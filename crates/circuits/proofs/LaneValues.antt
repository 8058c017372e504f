-- The values of circuits, from words to lanes.
use Rattle.std.proofs.Common.{◌≡◌, ℕ, suc, ◌+◌, ◌%◌, ◌^◌, ◌<◌, ◌≤◌, ⊎_elim, true, false, min, max, List, [], ◌∷◌, refl, ap, ◌∙◌, arith}
use Rattle.std.specs.Prelude.{bit_and, bit_or, bit_xor, nat_lt}
use Rattle.std.proofs.lemmas.Bool.{cases_lt}
use Rattle.std.proofs.lemmas.Nat.Bits.{bit_at_and, bit_at_or, bit_at_xor, bit_at-lt, same_from_bits}
use Rattle.std.specs.Int.{bit_at}
use Rattle.std.proofs.lemmas.Bool.Decides.{nat_tests}
use Rattle.lanes.specs.Prefix.{carries_word, half_products, half_tops, joined_generate, joined_propagate, lower_places, span_after, spread_down, top_places, upper_places, upper_twice}
use Rattle.lanes.specs.Fold.{folded_word}
use Rattle.lanes.specs.Lanes.{lanewise, lanewise1}
use Rattle.lanes.specs.CarrySave.{saved_terms}
use Rattle.lanes.specs.Product.{product_term}
use Rattle.lanes.specs.Shifts.{shifted_left, shifted_right}
use Rattle.lanes.specs.Sums.{chosen_word, difference_word, equal_word, less_word, product_word, sum_word}
use Rattle.lanes.specs.Word.{AreWords, word_not}
use Rattle.lanes.specs.WordLaws.{WordsByBits, WordsUnderFlags}
use Rattle.circuits.specs.Values.{chosen_lanes, difference_lanes, fold_lanes, less_lanes, masked_choice, generates_lanes, moved_carries, nearer_lanes, or_lanes, propagates_lanes, saved_carries, saved_sums, shared_fold, sum_lanes, term_lanes, tops_lanes, twice_lanes}

-- the first word of a list of words, and the rest
pub head_word : (x : ℕ) (xs : List ℕ) → AreWords (x ∷ xs) → x < 2 ^ 64
head_word x xs h = h.below 0

pub tail_words : (x : ℕ) (xs : List ℕ) → AreWords (x ∷ xs) → AreWords xs
tail_words x xs h = record { below = λ k. h.below (suc k) }

-- two functions that agree on words agree on lists of words
same_lanes : (f g : ℕ → ℕ → ℕ) → ((x y : ℕ) → x < 2 ^ 64 → y < 2 ^ 64 → f x y ≡ g x y) → (xs ys : List ℕ) → AreWords xs → AreWords ys
    → lanewise f xs ys ≡ lanewise g xs ys
same_lanes f g same [] ys first second = refl
same_lanes f g same (x ∷ xs) [] first second = refl
same_lanes f g same (x ∷ xs) (y ∷ ys) first second =
    ap (λ h. h ∷ lanewise f xs ys) (same x y (head_word x xs first) (head_word y ys second))
    ∙ ap (λ rest. g x y ∷ rest) (same_lanes f g same xs ys (tail_words x xs first) (tail_words y ys second))

-- a function after another, lane by lane
pub lanewise1_after : (h : ℕ → ℕ) (f : ℕ → ℕ → ℕ) (xs ys : List ℕ) → lanewise1 h (lanewise f xs ys) ≡ lanewise (λ x y. h (f x y)) xs ys
lanewise1_after h f [] ys = refl
lanewise1_after h f (x ∷ xs) [] = refl
lanewise1_after h f (x ∷ xs) (y ∷ ys) = ap (λ rest. h (f x y) ∷ rest) (lanewise1_after h f xs ys)

pub lanewise_after : (h f g : ℕ → ℕ → ℕ) (xs ys : List ℕ) → lanewise h (lanewise f xs ys) (lanewise g xs ys) ≡ lanewise (λ x y. h (f x y) (g x y)) xs ys
lanewise_after h f g [] ys = refl
lanewise_after h f g (x ∷ xs) [] = refl
lanewise_after h f g (x ∷ xs) (y ∷ ys) = ap (λ rest. h (f x y) (g x y) ∷ rest) (lanewise_after h f g xs ys)

pub lanewise_first : (f : ℕ → ℕ → ℕ) (h : ℕ → ℕ) (xs ys : List ℕ) → lanewise f (lanewise1 h xs) ys ≡ lanewise (λ x y. f (h x) y) xs ys
lanewise_first f h [] ys = refl
lanewise_first f h (x ∷ xs) [] = refl
lanewise_first f h (x ∷ xs) (y ∷ ys) = ap (λ rest. f (h x) y ∷ rest) (lanewise_first f h xs ys)

pub lanewise_own : (f : ℕ → ℕ → ℕ) (h : ℕ → ℕ) (xs : List ℕ) → lanewise f xs (lanewise1 h xs) ≡ lanewise1 (λ x. f x (h x)) xs
lanewise_own f h [] = refl
lanewise_own f h (x ∷ xs) = ap (λ rest. f x (h x) ∷ rest) (lanewise_own f h xs)

pub lanewise1_twice : (h k : ℕ → ℕ) (xs : List ℕ) → lanewise1 h (lanewise1 k xs) ≡ lanewise1 (λ x. h (k x)) xs
lanewise1_twice h k [] = refl
lanewise1_twice h k (x ∷ xs) = ap (λ rest. h (k x) ∷ rest) (lanewise1_twice h k xs)

lanewise_nil : (f : ℕ → ℕ → ℕ) (xs : List ℕ) → lanewise f xs [] ≡ []
lanewise_nil f [] = refl
lanewise_nil f (x ∷ xs) = refl

-- a choice
pub choice_is : WordsUnderFlags → (flags ones others : List ℕ) → AreWords ones → AreWords others → masked_choice flags ones others ≡ chosen_lanes flags ones others
unfolding masked_choice
choice_is laws [] ones others first second = lanewise_nil bit_xor others
choice_is laws (flag ∷ flags) [] others first second = lanewise_nil bit_xor others
choice_is laws (flag ∷ flags) (one ∷ ones) [] first second = refl
choice_is laws (flag ∷ flags) (one ∷ ones) (other ∷ others) first second =
    ap (λ h. h ∷ masked_choice flags ones others) (laws.choice flag one other (head_word one ones first) (head_word other others second))
    ∙ ap (λ rest. chosen_word flag one other ∷ rest) (choice_is laws flags ones others (tail_words one ones first) (tail_words other others second))

-- equality as bit 0 of the fold
pub equality_is : WordsByBits → (xs ys : List ℕ) → AreWords xs → AreWords ys → lanewise1 (λ x. bit_and x 1) (shared_fold xs ys) ≡ lanewise equal_word xs ys
unfolding shared_fold
equality_is laws xs ys first second =
    ap (λ zs. lanewise1 (λ x. bit_and x 1) (lanewise1 (folded_word 6) zs)) (lanewise1_after word_not bit_xor xs ys)
    ∙ ap (lanewise1 (λ x. bit_and x 1)) (lanewise1_after (folded_word 6) (λ x y. word_not (bit_xor x y)) xs ys)
    ∙ lanewise1_after (λ x. bit_and x 1) (λ x y. folded_word 6 (word_not (bit_xor x y))) xs ys
    ∙ same_lanes _ equal_word laws.equality xs ys first second

-- no step of a fold, and one
pub fold_start : (xs : List ℕ) → xs ≡ lanewise1 (folded_word 0) xs
unfolding folded_word
fold_start [] = refl
fold_start (x ∷ xs) = ap (λ rest. x ∷ rest) (fold_start xs)

pub fold_step : (level : ℕ) (xs : List ℕ) → fold_lanes (2 ^ level) (lanewise1 (folded_word level) xs) ≡ lanewise1 (folded_word (suc level)) xs
unfolding fold_lanes folded_word
fold_step level xs =
    lanewise_own bit_and (shifted_right (2 ^ level)) (lanewise1 (folded_word level) xs)
    ∙ lanewise1_twice (λ x. bit_and x (shifted_right (2 ^ level) x)) (folded_word level) xs

-- the factors of a level's products, and the products
pub spread_begins : (xs : List ℕ) → xs ≡ lanewise1 (spread_down 0) xs
unfolding spread_down
spread_begins [] = refl
spread_begins (x ∷ xs) = ap (λ rest. x ∷ rest) (spread_begins xs)

pub spread_step : (steps : ℕ) (xs : List ℕ) → nearer_lanes (2 ^ steps) (lanewise1 (spread_down steps) xs) ≡ lanewise1 (spread_down (suc steps)) xs
unfolding nearer_lanes spread_down
spread_step steps xs =
    lanewise_own bit_xor (shifted_right (2 ^ steps)) (lanewise1 (spread_down steps) xs)
    ∙ lanewise1_twice (λ x. bit_xor x (shifted_right (2 ^ steps) x)) (spread_down steps) xs

pub products_are : (level : ℕ) (gs ps : List ℕ)
    → lanewise bit_and (twice_lanes (2 ^ level) (upper_places level) ps) (lanewise1 (spread_down level) (tops_lanes (2 ^ level) (top_places level) gs ps))
    ≡ lanewise (half_products level) gs ps
unfolding twice_lanes tops_lanes half_products upper_twice half_tops
products_are level [] ps = lanewise_nil bit_and _
products_are level (g ∷ gs) [] = refl
products_are level (g ∷ gs) (p ∷ ps) = ap (λ rest. half_products level g p ∷ rest) (products_are level gs ps)

-- what a level makes of its products
pub generates_join : (level : ℕ) (xs ys : List ℕ)
    → generates_lanes (2 ^ level) (lower_places level) (lanewise (λ x y. (span_after level x y).generate) xs ys)
    (lanewise (half_products level) (lanewise (λ x y. (span_after level x y).generate) xs ys) (lanewise (λ x y. (span_after level x y).propagate) xs ys))
    ≡ lanewise (λ x y. (span_after (suc level) x y).generate) xs ys
unfolding generates_lanes span_after joined_generate
generates_join level [] ys = refl
generates_join level (x ∷ xs) [] = refl
generates_join level (x ∷ xs) (y ∷ ys) = ap (λ rest. (span_after (suc level) x y).generate ∷ rest) (generates_join level xs ys)

pub propagates_join : (level : ℕ) (xs ys : List ℕ)
    → propagates_lanes (lower_places level) (upper_places level) (lanewise (λ x y. (span_after level x y).propagate) xs ys)
    (lanewise (half_products level) (lanewise (λ x y. (span_after level x y).generate) xs ys) (lanewise (λ x y. (span_after level x y).propagate) xs ys))
    ≡ lanewise (λ x y. (span_after (suc level) x y).propagate) xs ys
unfolding propagates_lanes span_after joined_propagate
propagates_join level [] ys = refl
propagates_join level (x ∷ xs) [] = refl
propagates_join level (x ∷ xs) (y ∷ ys) = ap (λ rest. (span_after (suc level) x y).propagate ∷ rest) (propagates_join level xs ys)

-- sums, differences, comparisons
pub sum_is : WordsByBits → (xs ys : List ℕ) → AreWords xs → AreWords ys → sum_lanes xs ys ≡ lanewise sum_word xs ys
unfolding sum_lanes
sum_is laws xs ys first second =
    ap (lanewise bit_xor (lanewise bit_xor xs ys)) (lanewise1_after (shifted_left 1) carries_word xs ys)
    ∙ lanewise_after bit_xor bit_xor (λ x y. shifted_left 1 (carries_word x y)) xs ys
    ∙ same_lanes _ sum_word laws.sum xs ys first second

pub less_is : WordsByBits → (xs ys : List ℕ) → AreWords xs → AreWords ys → less_lanes xs ys ≡ lanewise less_word xs ys
unfolding less_lanes
less_is laws xs ys first second =
    ap (lanewise1 (shifted_right 63)) (lanewise_first carries_word word_not xs ys)
    ∙ lanewise1_after (shifted_right 63) (λ x y. carries_word (word_not x) y) xs ys
    ∙ same_lanes _ less_word laws.less xs ys first second

pub difference_is : WordsByBits → (xs ys : List ℕ) → AreWords xs → AreWords ys → difference_lanes xs ys ≡ lanewise difference_word xs ys
unfolding difference_lanes
difference_is laws xs ys first second =
    ap (lanewise1 word_not) (lanewise_first sum_word word_not xs ys)
    ∙ lanewise1_after word_not (λ x y. sum_word (word_not x) y) xs ys
    ∙ same_lanes _ difference_word laws.difference xs ys first second

-- the lesser and the greater of two words by a choice
lesser : (x y : ℕ) → chosen_word (less_word x y) x y ≡ min x y
lesser x y = ⊎_elim
    (λ (less : x < y). let yes : nat_lt x y ≡ true = grind (arith, nat_tests) in rw yes (omega arith))
    (λ (more : y ≤ x). let no : nat_lt x y ≡ false = grind (arith, nat_tests) in rw no (omega arith))
    (cases_lt x y)

greater : (x y : ℕ) → chosen_word (less_word x y) y x ≡ max x y
greater x y = ⊎_elim
    (λ (less : x < y). let yes : nat_lt x y ≡ true = grind (arith, nat_tests) in rw yes (omega arith))
    (λ (more : y ≤ x). let no : nat_lt x y ≡ false = grind (arith, nat_tests) in rw no (omega arith))
    (cases_lt x y)

pub least_is : (xs ys : List ℕ) → chosen_lanes (lanewise less_word xs ys) xs ys ≡ lanewise min xs ys
least_is [] ys = refl
least_is (x ∷ xs) [] = refl
least_is (x ∷ xs) (y ∷ ys) = ap (λ h. h ∷ chosen_lanes (lanewise less_word xs ys) xs ys) (lesser x y) ∙ ap (λ rest. min x y ∷ rest) (least_is xs ys)

pub greatest_is : (xs ys : List ℕ) → chosen_lanes (lanewise less_word xs ys) ys xs ≡ lanewise max xs ys
greatest_is [] ys = refl
greatest_is (x ∷ xs) [] = refl
greatest_is (x ∷ xs) (y ∷ ys) = ap (λ h. h ∷ chosen_lanes (lanewise less_word xs ys) ys xs) (greater x y) ∙ ap (λ rest. max x y ∷ rest) (greatest_is xs ys)

-- an or as a xor
or_by_xor : (x y : ℕ) → bit_xor (bit_xor x y) (bit_and x y) ≡ bit_or x y
or_by_xor x y = same_from_bits _ _ (λ i. simp (bit_at_and, bit_at_or, bit_at_xor) (either (bit_at x i) (bit_at y i) (bit_at-lt x i) (bit_at-lt y i)))
  where
    either : (a b : ℕ) → a < 2 → b < 2 → ((a + b) % 2 + min a b) % 2 ≡ max a b
    either a b first second = omega arith

pub or_is : (xs ys : List ℕ) → or_lanes xs ys ≡ lanewise bit_or xs ys
unfolding or_lanes
or_is [] ys = refl
or_is (x ∷ xs) [] = refl
or_is (x ∷ xs) (y ∷ ys) = ap (λ h. h ∷ or_lanes xs ys) (or_by_xor x y) ∙ ap (λ rest. bit_or x y ∷ rest) (or_is xs ys)

-- products, term by term
pub terms_begin : (place : ℕ) (xs ys : List ℕ) → term_lanes place xs ys ≡ lanewise (product_term place) xs ys
unfolding term_lanes
terms_begin place [] ys = lanewise_nil bit_and _
terms_begin place (x ∷ xs) [] = refl
terms_begin place (x ∷ xs) (y ∷ ys) = ap (λ rest. product_term place x y ∷ rest) (terms_begin place xs ys)

pub saved_begins : (xs ys : List ℕ) → (term_lanes 0 xs ys ≡ lanewise (λ x y. (saved_terms 0 x y).sum) xs ys) × (term_lanes 1 xs ys ≡ lanewise (λ x y. (saved_terms 0 x y).carry) xs ys)
unfolding saved_terms
saved_begins xs ys = (terms_begin 0 xs ys, terms_begin 1 xs ys)

pub sums_step : (more : ℕ) (xs ys : List ℕ)
    → saved_sums (lanewise (λ x y. (saved_terms more x y).sum) xs ys) (lanewise (λ x y. (saved_terms more x y).carry) xs ys) (term_lanes (suc (suc more)) xs ys)
    ≡ lanewise (λ x y. (saved_terms (suc more) x y).sum) xs ys
unfolding saved_sums saved_terms term_lanes
sums_step more [] ys = refl
sums_step more (x ∷ xs) [] = refl
sums_step more (x ∷ xs) (y ∷ ys) = ap (λ rest. (saved_terms (suc more) x y).sum ∷ rest) (sums_step more xs ys)

pub carries_step : (more : ℕ) (xs ys : List ℕ)
    → saved_carries (lanewise (λ x y. (saved_terms more x y).sum) xs ys) (lanewise (λ x y. (saved_terms more x y).carry) xs ys) (term_lanes (suc (suc more)) xs ys)
    ≡ lanewise (λ x y. (saved_terms (suc more) x y).carry) xs ys
unfolding saved_carries moved_carries saved_terms term_lanes
carries_step more [] ys = refl
carries_step more (x ∷ xs) [] = refl
carries_step more (x ∷ xs) (y ∷ ys) = ap (λ rest. (saved_terms (suc more) x y).carry ∷ rest) (carries_step more xs ys)

pub product_is : WordsByBits → (xs ys : List ℕ) → AreWords xs → AreWords ys
    → lanewise sum_word (lanewise (λ x y. (saved_terms 62 x y).sum) xs ys) (lanewise (λ x y. (saved_terms 62 x y).carry) xs ys) ≡ lanewise product_word xs ys
product_is laws xs ys first second =
    lanewise_after sum_word (λ x y. (saved_terms 62 x y).sum) (λ x y. (saved_terms 62 x y).carry) xs ys
    ∙ same_lanes _ product_word (λ x y above below. laws.product x y below) xs ys first second
