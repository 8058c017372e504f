-- The most AND words of each shared operator.
use Rattle.std.specs.Prelude.{ℕ, ◌+◌, ◌*◌, List, [], ◌∷◌, length, map, slice_index, sum}
use Rattle.plain_operators.specs.declared.aggregate.Aggregate.{Aggregate}
use Rattle.plain_operators.specs.declared.item.Comparison.{Comparison}
use Rattle.plain_operators.specs.declared.item.Comparison.TheVariants as comparisons
use Rattle.plain_operators.specs.declared.item.Item.{Item}
use Rattle.plain_operators.specs.declared.item.Item.TheVariants.{Plain, Computed}
use Rattle.plain_operators.specs.declared.item.Operation.{Operation}
use Rattle.plain_operators.specs.declared.item.Operation.TheVariants as operations
use Rattle.plain_operators.specs.declared.item.Test.{Test}
use Rattle.plain_operators.specs.OnSources.{Operator, Filter, Select, Concat, Join, Group, Distinct}

-- a row of a comparison, and of an operation
abbrev pub comparison_cost : Comparison → ℕ
comparison_cost comparisons.Equal = 6
comparison_cost comparisons.Different = 6
comparison_cost comparisons.Less = 13
comparison_cost comparisons.LessOrEqual = 13
comparison_cost comparisons.Greater = 13
comparison_cost comparisons.GreaterOrEqual = 13

abbrev pub operation_cost : Operation → ℕ
operation_cost (operations.Compare comparison) = comparison_cost comparison
operation_cost operations.Add = 13
operation_cost operations.Subtract = 13
operation_cost operations.Multiply = 883
operation_cost operations.And = 1
operation_cost operations.Or = 1

abbrev pub item_cost : Item → ℕ
item_cost (Plain operand) = 0
item_cost (Computed left operation right) = operation_cost operation

-- a row of a filter: each test, and the and with the valid word
abbrev pub tests_cost : List Test → ℕ
tests_cost tests = sum (map (λ test. comparison_cost test.comparison + 1) tests)

-- a row of a select
abbrev pub items_cost : List Item → ℕ
items_cost items = sum (map item_cost items)

-- a pair of rows of a join with so many keys
abbrev pub join_cost : ℕ → ℕ
join_cost keys = 7 * keys + 2

-- a group of so many rows: with keys each pair of rows is looked at, without keys each row
abbrev pub group_cost : List ℕ → List Aggregate → ℕ → ℕ
group_cost [] aggregates rows = rows * (17 * length aggregates + 4)
group_cost (key ∷ keys) aggregates rows = rows * rows * (7 * length (key ∷ keys) + 4 + 17 * length aggregates)

-- distinct rows of so many columns
abbrev pub distinct_cost : ℕ → ℕ → ℕ
distinct_cost columns rows = rows * rows * (7 * columns + 4)

-- an operator on its sources, from their rows and their columns
abbrev pub operator_cost : Operator → List ℕ → List ℕ → ℕ
operator_cost (Filter tests) sizes widths = slice_index sizes 0 * tests_cost tests
operator_cost (Select items) sizes widths = slice_index sizes 0 * items_cost items
operator_cost Concat sizes widths = 0
operator_cost (Join keys) sizes widths = slice_index sizes 0 * slice_index sizes 1 * join_cost (length keys)
operator_cost (Group keys aggregates) sizes widths = group_cost keys aggregates (slice_index sizes 0)
operator_cost Distinct sizes widths = distinct_cost (slice_index widths 0) (slice_index sizes 0)
