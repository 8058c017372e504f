-- The values of circuits on lists of words.
use Rattle.std.specs.Prelude.{ℕ, List, [], ◌∷◌, bit_and, bit_xor}
use Rattle.lanes.specs.Prefix.{carries_word}
use Rattle.lanes.specs.Fold.{folded_word}
use Rattle.lanes.specs.Lanes.{lanewise, lanewise1}
use Rattle.lanes.specs.Shifts.{shifted_left, shifted_right, spread_word}
use Rattle.lanes.specs.Sums.{chosen_word, sum_word}
use Rattle.lanes.specs.Word.{word_not}

-- in each lane the first word where bit 0 of the flag is 1, and else the second
abbrev pub chosen_lanes : List ℕ → List ℕ → List ℕ → List ℕ
chosen_lanes [] ones others = []
chosen_lanes (flag ∷ flags) [] others = []
chosen_lanes (flag ∷ flags) (one ∷ ones) [] = []
chosen_lanes (flag ∷ flags) (one ∷ ones) (other ∷ others) = chosen_word flag one other ∷ chosen_lanes flags ones others

-- the same as the second words, changed where the spread flag lets the difference through
unfoldable pub masked_choice : List ℕ → List ℕ → List ℕ → List ℕ
masked_choice flags ones others = lanewise bit_xor others (lanewise bit_and (lanewise1 spread_word flags) (lanewise bit_xor ones others))

-- one step of a fold: each bit with the one so many places above it
unfoldable pub fold_lanes : ℕ → List ℕ → List ℕ
fold_lanes places xs = lanewise bit_and xs (lanewise1 (shifted_right places) xs)

-- the fold of the bits that two words share
unfoldable pub shared_fold : List ℕ → List ℕ → List ℕ
shared_fold xs ys = lanewise1 (folded_word 6) (lanewise1 word_not (lanewise bit_xor xs ys))

-- one level of a prefix, where a half has so many places, and the masks tell which they are: both factors of its
-- products, and what it makes of them
unfoldable pub twice_lanes : ℕ → ℕ → List ℕ → List ℕ
twice_lanes places upper ps = lanewise bit_xor (lanewise1 (λ x. bit_and x upper) ps) (lanewise1 (shifted_right places) (lanewise1 (λ x. bit_and x upper) ps))

unfoldable pub tops_lanes : ℕ → ℕ → List ℕ → List ℕ → List ℕ
tops_lanes places top gs ps = lanewise bit_xor (lanewise1 (λ x. bit_and x top) gs) (lanewise1 (shifted_left places) (lanewise1 (λ x. bit_and x top) ps))

unfoldable pub nearer_lanes : ℕ → List ℕ → List ℕ
nearer_lanes places xs = lanewise bit_xor xs (lanewise1 (shifted_right places) xs)

unfoldable pub generates_lanes : ℕ → ℕ → List ℕ → List ℕ → List ℕ
generates_lanes places lower gs qs = lanewise bit_xor gs (lanewise1 (shifted_left places) (lanewise1 (λ x. bit_and x lower) qs))

unfoldable pub propagates_lanes : ℕ → ℕ → List ℕ → List ℕ → List ℕ
propagates_lanes lower upper ps qs = lanewise bit_xor (lanewise1 (λ x. bit_and x lower) ps) (lanewise1 (λ x. bit_and x upper) qs)

-- a sum by its carries, a comparison by the last of them, and a difference by a sum
unfoldable pub sum_lanes : List ℕ → List ℕ → List ℕ
sum_lanes xs ys = lanewise bit_xor (lanewise bit_xor xs ys) (lanewise1 (shifted_left 1) (lanewise carries_word xs ys))

unfoldable pub less_lanes : List ℕ → List ℕ → List ℕ
less_lanes xs ys = lanewise1 (shifted_right 63) (lanewise carries_word (lanewise1 word_not xs) ys)

unfoldable pub difference_lanes : List ℕ → List ℕ → List ℕ
difference_lanes xs ys = lanewise1 word_not (lanewise sum_word (lanewise1 word_not xs) ys)

-- an or as the bits of which one word has a 1, and those of which both have
unfoldable pub or_lanes : List ℕ → List ℕ → List ℕ
or_lanes xs ys = lanewise bit_xor (lanewise bit_xor xs ys) (lanewise bit_and xs ys)

-- a term of a product
unfoldable pub term_lanes : ℕ → List ℕ → List ℕ → List ℕ
term_lanes place xs ys = lanewise bit_and (lanewise1 spread_word (lanewise1 (shifted_right place) ys)) (lanewise1 (shifted_left place) xs)

-- three words as two with the same sum; where the first two differ may be there already
unfoldable pub saved_sums : List ℕ → List ℕ → List ℕ → List ℕ
saved_sums xs ys zs = lanewise bit_xor (lanewise bit_xor xs ys) zs

unfoldable pub moved_carries : List ℕ → List ℕ → List ℕ → List ℕ
moved_carries ds xs zs = lanewise1 (shifted_left 1) (lanewise bit_xor (lanewise bit_and ds (lanewise bit_xor xs zs)) xs)

unfoldable pub saved_carries : List ℕ → List ℕ → List ℕ → List ℕ
saved_carries xs ys zs = moved_carries (lanewise bit_xor xs ys) xs zs

-- the words where a flag is 1, and else 0; and else all ones
unfoldable pub cleared_lanes : List ℕ → List ℕ → List ℕ
cleared_lanes flags xs = lanewise bit_and (lanewise1 spread_word flags) xs

unfoldable pub raised_lanes : List ℕ → List ℕ → List ℕ
raised_lanes flags xs = lanewise1 word_not (cleared_lanes flags (lanewise1 word_not xs))
