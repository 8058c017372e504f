-- One row more: for loops over rows.
use Rattle.std.proofs.Common.{◌≡◌, ℕ, ◌+◌, ◌-◌, ◌%◌, ◌^◌, ◌==◌, not, Bool, true, false, min, max, cond, List, [], ◌∷◌, ◌++◌, map, refl, sym, ap, ◌∙◌, zero-add}
use Rattle.std.specs.List.{filter, fold, list_all, list_any, range_with_len, sum}
use Rattle.std.proofs.Math.Nat.{mod-add-mod}
use Rattle.std.proofs.lemmas.List.{map-append, map_push}
use Rattle.std.proofs.lemmas.List.Elements.{filter-append}
use Rattle.std.proofs.lemmas.List.Folds.{list_all-map}
use Rattle.std.proofs.lemmas.List.Sums.{fold_push}
use Rattle.plain_operators.specs.declared.aggregate.Aggregate.TheVariants.{Sum, Least, Greatest}
use Rattle.plain_operators.specs.declared.item.Test.{Test}
use Rattle.plain_operators.specs.declared.item.Item.{Item}
use Rattle.plain_operators.specs.Columns.{cut, other_columns, word_at}
use Rattle.plain_operators.specs.Items.{holds_of, item_word}
use Rattle.plain_operators.specs.Operators.{aggregated, kept_rows, rows_of_items}
use Rattle.plain_operators.proofs.KeyPlaces.{range_push}
use Rattle.plain_operators.proofs.Lists.{map_map}

pub sum_more : (column : ℕ) (rows : List (List ℕ)) (row : List ℕ) → aggregated (Sum column) (rows ++ row ∷ []) ≡ (aggregated (Sum column) rows + word_at column row) % 2 ^ 64
sum_more column rows row =
    let words = map (word_at column) rows in
    let total : sum (map (word_at column) (rows ++ row ∷ [])) ≡ sum words + word_at column row = ap sum (map_push (word_at column) rows row) ∙ fold_push (λ a x. a + x) 0 words (word_at column row) in
    ap (λ n. n % 2 ^ 64) total ∙ sym (mod-add-mod (sum words) (2 ^ 64) (word_at column row))

pub least_more : (column : ℕ) (rows : List (List ℕ)) (row : List ℕ) → aggregated (Least column) (rows ++ row ∷ []) ≡ min (aggregated (Least column) rows) (word_at column row)
least_more column rows row = ap (fold min (2 ^ 64 - 1)) (map_push (word_at column) rows row) ∙ fold_push min (2 ^ 64 - 1) (map (word_at column) rows) (word_at column row)

pub greatest_more : (column : ℕ) (rows : List (List ℕ)) (row : List ℕ) → aggregated (Greatest column) (rows ++ row ∷ []) ≡ max (aggregated (Greatest column) rows) (word_at column row)
greatest_more column rows row = ap (fold max 0) (map_push (word_at column) rows row) ∙ fold_push max 0 (map (word_at column) rows) (word_at column row)

pub kept_more : (tests : List Test) (rows : List (List ℕ)) (row : List ℕ)
    → kept_rows (map holds_of tests) (rows ++ row ∷ []) ≡ kept_rows (map holds_of tests) rows ++ cond (list_all (λ test. holds_of test row) tests) (row ∷ []) []
kept_more tests rows row =
    let one = λ (row : List ℕ). list_all (λ test. test row) (map holds_of tests) in
    filter-append one rows (row ∷ []) ∙ ap (λ b. kept_rows (map holds_of tests) rows ++ cond b (row ∷ []) []) (list_all-map (λ test. test row) holds_of tests)

pub items_more : (items : List Item) (rows : List (List ℕ)) (row : List ℕ)
    → rows_of_items (map item_word items) (rows ++ row ∷ []) ≡ rows_of_items (map item_word items) rows ++ map (λ item. item_word item row) items ∷ []
items_more items rows row =
    let one = λ (row : List ℕ). map (λ item. item row) (map item_word items) in
    map_push one rows row ∙ ap (λ words. map one rows ++ words ∷ []) (map_map (λ item. item row) item_word items)

pub others_more : (keys : List ℕ) (column : ℕ) (row : List ℕ)
    → cut (other_columns keys (column + 1)) row ≡ cut (other_columns keys column) row ++ cond (not (list_any (λ key. key == column) keys)) (word_at column row ∷ []) []
others_more keys column row =
    let p = λ (c : ℕ). not (list_any (λ key. key == c) keys) in
    let word = λ (c : ℕ). word_at c row in
    let columns = filter p (range_with_len 0 column) in
    let more : other_columns keys (column + 1) ≡ columns ++ cond (p column) (column ∷ []) [] =
    ap (filter p) (range_push 0 column ∙ ap (λ n. range_with_len 0 column ++ n ∷ []) (zero-add column)) ∙ filter-append p (range_with_len 0 column) (column ∷ []) in
    ap (map word) more ∙ map-append word columns (cond (p column) (column ∷ []) []) ∙ ap (λ l. map word columns ++ l) (one (p column))
  where
    one : (b : Bool) → map (λ c. word_at c row) (cond b (column ∷ []) []) ≡ cond b (word_at column row ∷ []) []
    one true = refl
    one false = refl
