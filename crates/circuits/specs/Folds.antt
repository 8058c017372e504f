-- What words are folded by.
use Rattle.std.specs.Prelude.{ℕ, ◌^◌, ◌-◌, min, max, bit_or}
use Rattle.lanes.specs.Sums.{chosen_word, sum_word}
use Rattle.circuits.specs.declared.folds.Fold.{Fold}
use Rattle.circuits.specs.declared.folds.Fold.TheVariants.{Sum, Least, Greatest, Any}

-- two words as one
abbrev pub combined_word : Fold → ℕ → ℕ → ℕ
combined_word Sum = sum_word
combined_word Least = min
combined_word Greatest = max
combined_word Any = bit_or

-- the AND words a lane of it, its AND calls, and the wires it makes
abbrev pub combine_cost : Fold → ℕ
combine_cost Sum = 7
combine_cost Least = 8
combine_cost Greatest = 8
combine_cost Any = 1

abbrev pub combine_calls : Fold → ℕ
combine_calls Sum = 7
combine_calls Least = 8
combine_calls Greatest = 8
combine_calls Any = 1

abbrev pub combine_wires : Fold → ℕ
combine_wires Sum = 116
combine_wires Least = 119
combine_wires Greatest = 119
combine_wires Any = 3

-- the word that changes no fold
abbrev pub neutral_word : Fold → ℕ
neutral_word Sum = 0
neutral_word Least = 2 ^ 64 - 1
neutral_word Greatest = 0
neutral_word Any = 0

-- a word where bit 0 of the flag is 1, and else the neutral one
abbrev pub masked_word : Fold → ℕ → ℕ → ℕ
masked_word fold flag word = chosen_word flag word (neutral_word fold)
