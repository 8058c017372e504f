-- Aggregates as folds of their columns.
use Rattle.std.proofs.Common.{◌≡◌, ℕ, ◌+◌, ◌%◌, ◌^◌, ◌<◌, min, max, List, [], ◌∷◌, map, length, refl, sym, ◌∙◌, ap, arith}
use Rattle.std.specs.List.{fold}
use Rattle.std.proofs.lemmas.List.Elements.{All-head}
use Rattle.lanes.specs.Folds.{words_folded}
use Rattle.lanes.specs.Sums.{sum_word}
use Rattle.plain_operators.specs.Columns.{word_at}
use Rattle.plain_operators.specs.declared.aggregate.Aggregate.{Aggregate}
use Rattle.plain_operators.specs.declared.aggregate.Aggregate.TheVariants.{Sum, Count, Least, Greatest}
use Rattle.plain_operators.specs.Folds.{AggregatesAreFolds, AreFewOfWords, folded_by, folded_column, folded_from}
use Rattle.plain_operators.specs.Operators.{aggregated}
use Rattle.plain_operators.specs.Sizes.{IsOfWords}
use Rattle.std.proofs.Math.Nat.{mod-add-mod}
use Rattle.plain_operators.proofs.Sizes.{cut-IsOfWords}

-- the remainder taken once at the end, or at each step
sum_by_words : (start : ℕ) (words : List ℕ) → fold (λ a w. a + w) start words % 2 ^ 64 ≡ fold sum_word (start % 2 ^ 64) words
sum_by_words start [] = refl
sum_by_words start (w ∷ ws) = sum_by_words (start + w) ws ∙ ap (λ a. fold sum_word a ws) (sym (mod-add-mod start (2 ^ 64) w))

sum_of_ones : (start : ℕ) (rows : List (List ℕ)) → fold (λ a w. a + w) start (map (λ row. 1) rows) ≡ start + length rows
sum_of_ones start [] = omega arith
sum_of_ones start (row ∷ rows) = let rest = sum_of_ones (start + 1) rows in omega arith

from_neutral : (aggregate : Aggregate) (rows : List (List ℕ)) → length rows < 2 ^ 64 → aggregated aggregate rows ≡ fold (folded_by aggregate) (folded_from aggregate) (folded_column aggregate rows)
from_neutral (Sum column) rows few = sum_by_words 0 (map (word_at column) rows)
from_neutral Count rows few =
    let all = sum_of_ones 0 rows in
    let same : length rows ≡ fold (λ a w. a + w) 0 (map (λ row. 1) rows) % 2 ^ 64 = rw all (omega arith) in
    same ∙ sum_by_words 0 (map (λ row. 1) rows)
from_neutral (Least column) rows few = refl
from_neutral (Greatest column) rows few = refl

-- the neutral word changes no word
neutral_at : (aggregate : Aggregate) (row : List ℕ) (rows : List (List ℕ)) → IsOfWords row
    → fold (folded_by aggregate) (folded_from aggregate) (folded_column aggregate (row ∷ rows)) ≡ words_folded (folded_by aggregate) (folded_column aggregate (row ∷ rows))
neutral_at (Sum column) row rows words =
    let below : word_at column row < 2 ^ 64 = All-head (λ word. word < 2 ^ 64) (word_at column row) [] (cut-IsOfWords (column ∷ []) row words) in
    ap (λ start. fold sum_word start (map (word_at column) rows)) (omega arith)
neutral_at Count row rows words = ap (λ start. fold sum_word start (map (λ other. 1) rows)) (omega arith)
neutral_at (Least column) row rows words =
    let below : word_at column row < 2 ^ 64 = All-head (λ word. word < 2 ^ 64) (word_at column row) [] (cut-IsOfWords (column ∷ []) row words) in
    ap (λ start. fold min start (map (word_at column) rows)) (omega arith)
neutral_at (Greatest column) row rows words = ap (λ start. fold max start (map (word_at column) rows)) (omega arith)

from_first : (aggregate : Aggregate) (rows : List (List ℕ)) → AreFewOfWords rows → 0 < length rows → aggregated aggregate rows ≡ words_folded (folded_by aggregate) (folded_column aggregate rows)
from_first aggregate [] h some = absurd (omega arith)
from_first aggregate (row ∷ rows) h some = from_neutral aggregate (row ∷ rows) h.few ∙ neutral_at aggregate row rows (All-head IsOfWords row rows h.words)

pub aggregates_are_folds : AggregatesAreFolds
aggregates_are_folds = record { from_neutral = from_neutral; from_first = from_first }
