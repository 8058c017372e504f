-- The AND words, AND calls and wires of a fold of blocks.
use Rattle.std.specs.Prelude.{ℕ, zero, suc, ◌+◌, ◌-◌, ◌*◌}
use Rattle.circuits.specs.declared.folds.Fold.{Fold}
use Rattle.circuits.specs.declared.folds.Fold.TheVariants.{Sum, Least, Greatest, Any}
use Rattle.circuits.specs.Folds.{combine_calls, combine_cost, combine_wires}

-- the AND words of the sum of so many blocks: one a lane for each block but two, and an addition
abbrev pub sum_cost : ℕ → ℕ → ℕ
sum_cost width zero = 0
sum_cost width (suc zero) = 0
sum_cost width (suc (suc more)) = width * more + 7 * width

-- those of a fold of so many blocks
abbrev pub blocks_cost : Fold → ℕ → ℕ → ℕ
blocks_cost Sum width count = sum_cost width count
blocks_cost Least width count = combine_cost Least * width * (count - 1)
blocks_cost Greatest width count = combine_cost Greatest * width * (count - 1)
blocks_cost Any width count = combine_cost Any * width * (count - 1)

-- the AND calls of a fold of blocks of so many levels, and the wires that it makes
abbrev pub blocks_calls : Fold → ℕ → ℕ
blocks_calls Sum levels = 2 * levels + 7
blocks_calls Least levels = combine_calls Least * levels
blocks_calls Greatest levels = combine_calls Greatest * levels
blocks_calls Any levels = combine_calls Any * levels

abbrev pub blocks_wires : Fold → ℕ → ℕ
blocks_wires Sum levels = 24 * levels + 120
blocks_wires Least levels = (combine_wires Least + 4) * levels
blocks_wires Greatest levels = (combine_wires Greatest + 4) * levels
blocks_wires Any levels = (combine_wires Any + 4) * levels
