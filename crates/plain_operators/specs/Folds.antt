-- Aggregates as folds of a column by one operation on words, the same operations as those of circuits.
use Rattle.std.specs.Prelude.{◌≡◌, ℕ, ◌-◌, ◌^◌, ◌<◌, min, max, List, length, map}
use Rattle.std.specs.List.{All, fold}
use Rattle.lanes.specs.Folds.{words_folded}
use Rattle.lanes.specs.Sums.{sum_word}
use Rattle.plain_operators.specs.Columns.{word_at}
use Rattle.plain_operators.specs.declared.aggregate.Aggregate.{Aggregate}
use Rattle.plain_operators.specs.declared.aggregate.Aggregate.TheVariants.{Sum, Count, Least, Greatest}
use Rattle.plain_operators.specs.Operators.{aggregated}
use Rattle.plain_operators.specs.Sizes.{IsOfWords}

-- the words that an aggregate folds: a column, or for a count a 1 for each row
abbrev pub folded_column : Aggregate → List (List ℕ) → List ℕ
folded_column (Sum column) rows = map (word_at column) rows
folded_column Count rows = map (λ row. 1) rows
folded_column (Least column) rows = map (word_at column) rows
folded_column (Greatest column) rows = map (word_at column) rows

-- the operation by which it folds them
abbrev pub folded_by : Aggregate → ℕ → ℕ → ℕ
folded_by (Sum column) = sum_word
folded_by Count = sum_word
folded_by (Least column) = min
folded_by (Greatest column) = max

-- the word that changes no such fold of words
abbrev pub folded_from : Aggregate → ℕ
folded_from (Sum column) = 0
folded_from Count = 0
folded_from (Least column) = 2 ^ 64 - 1
folded_from (Greatest column) = 0

-- rows of words, of which there are fewer than 2^64
pub record AreFewOfWords (rows : List (List ℕ)) : Type 0 where
  pub few : length rows < 2 ^ 64
  pub words : All IsOfWords rows

-- an aggregate is the fold of its column from the neutral word, and where there is a row, from the first word
pub record AggregatesAreFolds : Type 0 where
  pub from_neutral : (aggregate : Aggregate) (rows : List (List ℕ)) → length rows < 2 ^ 64 → aggregated aggregate rows ≡ fold (folded_by aggregate) (folded_from aggregate) (folded_column aggregate rows)
  pub from_first : (aggregate : Aggregate) (rows : List (List ℕ)) → AreFewOfWords rows → 0 < length rows → aggregated aggregate rows ≡ words_folded (folded_by aggregate) (folded_column aggregate rows)
