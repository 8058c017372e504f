-- What items give, and their AND words.
use Rattle.std.proofs.Common.{◌≡◌, ℕ, ◌+◌, ◌*◌, ◌<◌, ◌≤◌, List, [], map, length, take, get_or, refl, sym, ap, ◌∙◌, arith}
use Rattle.std.specs.Prelude.{All}
use Rattle.std.specs.List.{range_with_len}
use Rattle.std.proofs.Math.Nat.{mul-add, mul-le-mul_left, mul_comm}
use Rattle.std.proofs.lemmas.List.{length-map}
use Rattle.std.proofs.lemmas.List.FromFn.{fill_by_all}
use Rattle.std.proofs.lemmas.List.Sums.{sum-map, sum_by-take-le, sum_by_more}
use Rattle.lanes.specs.Items.{LaneItems}
use Rattle.plain_operators.specs.declared.item.Item.{Item}
use Rattle.plain_operators.specs.declared.item.Item.TheVariants.{Plain, Computed}
use Rattle.plain_operators.specs.Items.{computed, item_word}
use Rattle.plain_operators.specs.Within.{AreItemsOf, IsItemOf}
use Rattle.tapes.specs.RowLaws.{row_across}
use Rattle.shared_ops.specs.Costs.{item_cost, items_cost}
use Rattle.shared_ops.specs.Lanes.{item_lanes, lanes_of_item, operand_lanes}
use Rattle.shared_ops.proofs.Elements.{map_agree, map_map}
use Rattle.shared_ops.proofs.Passing.{operand_at, operand_long}

module _ (lanes : LaneItems) (count : ℕ) (columns : List (List ℕ)) (long : All (λ column. length column ≡ count) columns) where
  item_at : (item : Item) (k : ℕ) → IsItemOf (length columns) item → k < count → get_or (item_lanes item count columns) k 0 ≡ item_word item (row_across columns k)
  item_at (Plain operand) k fits h = operand_at operand count columns k h
  item_at (Computed left operation right) k fits h =
      let xs = operand_lanes left count columns in
      let ys = operand_lanes right count columns in
      let first : length xs ≡ count = operand_long left count columns long fits.0 in
      let second : length ys ≡ count = operand_long right count columns long fits.1 in
      lanes.lane (computed operation) xs ys k (omega arith) (omega arith)
      ∙ (λ i. computed operation (operand_at left count columns k h i) (operand_at right count columns k h i))

  -- the row of the words of items is the items of the row
  pub items_across : (items : List Item) (k : ℕ) → AreItemsOf items (length columns) → k < count
      → row_across (map (λ item. item_lanes item count columns) items) k ≡ map (λ item. item (row_across columns k)) (map item_word items)
  items_across items k fits h =
      map_map (λ column. get_or column k 0) (λ item. item_lanes item count columns) items
      ∙ map_agree (λ item. get_or (item_lanes item count columns) k 0) (λ item. item_word item (row_across columns k)) items (λ j d w. item_at (get_or items j d) k (fits j d w) h)
      ∙ sym (map_map (λ item. item (row_across columns k)) item_word items)

-- the words of items one by one are those of all
pub all_items : (items : List Item) (count : ℕ) (columns : List (List ℕ)) (n : ℕ) → n ≡ length items
    → map (λ k. lanes_of_item k items count columns) (range_with_len 0 n) ≡ map (λ item. item_lanes item count columns) items
all_items items count columns n same =
    let each = λ (item : Item). item_lanes item count columns in
    ap (λ m. map (λ k. lanes_of_item k items count columns) (range_with_len 0 m)) same
    ∙ sym (fill_by_all (λ k. lanes_of_item k items count columns) (map each items) (length items) [] (length-map items each) (λ k h. refl))

-- ---- AND words

more_items : (items : List Item) (i : ℕ) (d : Item) → i < length items → items_cost (take (i + 1) items) ≡ items_cost (take i items) + item_cost (get_or items i d)
more_items items i d h = sum-map item_cost (take (i + 1) items) ∙ sum_by_more item_cost items i d h ∙ ap (λ n. n + item_cost (get_or items i d)) (sym (sum-map item_cost (take i items)))

pub item_spent : (rows : ℕ) (items : List Item) (i : ℕ) (d : Item) → i < length items
    → rows * items_cost (take i items) + item_cost (get_or items i d) * rows ≡ rows * items_cost (take (i + 1) items)
item_spent rows items i d h =
    let one = item_cost (get_or items i d) in
    ap (λ n. rows * items_cost (take i items) + n) (mul_comm one rows) ∙ sym (mul-add rows (items_cost (take i items)) one) ∙ ap (λ n. rows * n) (sym (more_items items i d h))

pub items_at_most : (rows first next : ℕ) (items : List Item) (i : ℕ) → next ≤ first + rows * items_cost (take i items) → next ≤ first + rows * items_cost items
items_at_most rows first next items i paid =
    let fewer : items_cost (take i items) ≤ items_cost items = omega (arith, sum-map item_cost (take i items), sum-map item_cost items, sum_by-take-le item_cost items i) in
    let told : rows * items_cost (take i items) ≤ rows * items_cost items = mul-le-mul_left rows fewer in
    omega (arith, paid, told)
