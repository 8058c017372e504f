-- The words of items.
use Rattle.std.proofs.Common.{ℕ, ◌<◌, ◌^◌, Bool, true, false, cond, List, [], ◌∷◌, map, arith}
use Rattle.std.specs.List.{All}
use Rattle.std.proofs.lemmas.List.Elements.{All-head, All-map, All-weaker}
use Rattle.std.proofs.lemmas.Nat.{or_lt}
use Rattle.std.specs.Int.Bits.{and_lt}
use Rattle.plain_operators.specs.Columns.{word_at}
use Rattle.plain_operators.specs.declared.item.Item.{Item}
use Rattle.plain_operators.specs.declared.item.Item.TheVariants.{Plain, Computed}
use Rattle.plain_operators.specs.declared.item.Operand.{Operand}
use Rattle.plain_operators.specs.declared.item.Operand.TheVariants.{Column, Constant}
use Rattle.plain_operators.specs.declared.item.Operation.{Operation}
use Rattle.plain_operators.specs.declared.item.Operation.TheVariants as operations
use Rattle.plain_operators.specs.Items.{compares, computed, item_word, operand_word}
use Rattle.plain_operators.specs.Operators.{rows_of_items}
use Rattle.plain_operators.specs.Sizes.{HasWordConstant, HasWordConstants, IsOfWords, ItemsGiveWords}
use Rattle.plain_operators.proofs.Sizes.{cut-IsOfWords}

operand_words : (operand : Operand) (row : List ℕ) → HasWordConstant operand → IsOfWords row → operand_word operand row < 2 ^ 64
operand_words (Column column) row h words = All-head (λ word. word < 2 ^ 64) (word_at column row) [] (cut-IsOfWords (column ∷ []) row words)
operand_words (Constant word) row h words = h

one_or_none : (b : Bool) → cond b 1 0 < 2 ^ 64
one_or_none true = omega arith
one_or_none false = omega arith

computed_words : (operation : Operation) (a b : ℕ) → a < 2 ^ 64 → b < 2 ^ 64 → computed operation a b < 2 ^ 64
computed_words (operations.Compare comparison) a b h k = one_or_none (compares comparison a b)
computed_words operations.Add a b h k = omega arith
computed_words operations.Subtract a b h k = omega arith
computed_words operations.Multiply a b h k = omega arith
computed_words operations.And a b h k = and_lt 64 a b h k
computed_words operations.Or a b h k = or_lt 64 a b h k

pub items_give_words : ItemsGiveWords
items_give_words (Plain operand) row h words = operand_words operand row h words
items_give_words (Computed left operation right) row h words =
    computed_words operation (operand_word left row) (operand_word right row) (operand_words left row h.0 words) (operand_words right row h.1 words)

pub rows_of_items-IsOfWords : (items : List Item) (rows : List (List ℕ)) → All HasWordConstants items → All IsOfWords rows → All IsOfWords (rows_of_items (map item_word items) rows)
rows_of_items-IsOfWords items rows constants words =
    let W : ℕ → Type 0 = λ word. word < 2 ^ 64 in
    let made = λ (row : List ℕ). map (λ item. item row) (map item_word items) in
    let of_row : (row : List ℕ) → IsOfWords row → IsOfWords (made row) = λ row h.
    All-map W (λ item. item row) (map item_word items) (All-map (λ item. item row < 2 ^ 64) item_word items (All-weaker HasWordConstants (λ item. item_word item row < 2 ^ 64) (λ item k. items_give_words item row k h) items constants)) in
    All-map IsOfWords made rows (All-weaker IsOfWords (λ row. IsOfWords (made row)) of_row rows words)
