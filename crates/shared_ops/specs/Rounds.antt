-- The most AND calls of each shared operator, which bound its rounds: they go by its tests, items, keys, columns and aggregates, and by the
-- logarithm of the rows.
use Rattle.std.specs.Prelude.{ℕ, ◌+◌, ◌*◌, List, [], ◌∷◌, length, map, slice_index, sum}
use Rattle.lanes.specs.Logarithm.{ceil_log2}
use Rattle.plain_operators.specs.declared.aggregate.Aggregate.{Aggregate}
use Rattle.plain_operators.specs.declared.aggregate.Aggregate.TheVariants.{Sum, Count, Least, Greatest}
use Rattle.plain_operators.specs.declared.item.Comparison.{Comparison}
use Rattle.plain_operators.specs.declared.item.Comparison.TheVariants as comparisons
use Rattle.plain_operators.specs.declared.item.Item.{Item}
use Rattle.plain_operators.specs.declared.item.Item.TheVariants.{Plain, Computed}
use Rattle.plain_operators.specs.declared.item.Operation.{Operation}
use Rattle.plain_operators.specs.declared.item.Operation.TheVariants as operations
use Rattle.plain_operators.specs.declared.item.Test.{Test}
use Rattle.plain_operators.specs.OnSources.{Operator, Filter, Select, Concat, Join, Group, Distinct}

-- a comparison, and an operation, of all rows at once
abbrev pub comparison_calls : Comparison → ℕ
comparison_calls comparisons.Equal = 6
comparison_calls comparisons.Different = 6
comparison_calls comparisons.Less = 7
comparison_calls comparisons.LessOrEqual = 7
comparison_calls comparisons.Greater = 7
comparison_calls comparisons.GreaterOrEqual = 7

abbrev pub operation_calls : Operation → ℕ
operation_calls (operations.Compare comparison) = comparison_calls comparison
operation_calls operations.Add = 7
operation_calls operations.Subtract = 7
operation_calls operations.Multiply = 133
operation_calls operations.And = 1
operation_calls operations.Or = 1

abbrev pub item_calls : Item → ℕ
item_calls (Plain operand) = 0
item_calls (Computed left operation right) = operation_calls operation

-- a filter: each test, and the and with the valid words
abbrev pub tests_calls : List Test → ℕ
tests_calls tests = sum (map (λ test. comparison_calls test.comparison + 1) tests)

-- a select
abbrev pub items_calls : List Item → ℕ
items_calls items = sum (map item_calls items)

-- a join with so many keys: the valid words, and each key's comparison and the and with it
abbrev pub join_calls : ℕ → ℕ
join_calls keys = 7 * keys + 1

-- the rows that are first with so many keys: all pairs of rows as in a join, the levels of those before a row, and the valid words
abbrev pub firsts_calls : ℕ → ℕ → ℕ
firsts_calls keys rows = 7 * keys + 2 + ceil_log2 rows

-- an aggregate over so many rows, each left in by a mask but where flags are counted
abbrev pub aggregate_calls : Aggregate → ℕ → ℕ
aggregate_calls (Sum column) rows = 2 * ceil_log2 rows + 8
aggregate_calls Count rows = 2 * ceil_log2 rows + 7
aggregate_calls (Least column) rows = 8 * ceil_log2 rows + 1
aggregate_calls (Greatest column) rows = 8 * ceil_log2 rows + 1

abbrev pub aggregates_calls : List Aggregate → ℕ → ℕ
aggregates_calls aggregates rows = sum (map (λ aggregate. aggregate_calls aggregate rows) aggregates)

-- a group of so many rows: without keys the levels of its valid words
abbrev pub group_calls : List ℕ → List Aggregate → ℕ → ℕ
group_calls [] aggregates rows = aggregates_calls aggregates rows + ceil_log2 rows
group_calls (key ∷ keys) aggregates rows = firsts_calls (length (key ∷ keys)) rows + aggregates_calls aggregates rows

-- an operator on its sources, from their rows and their columns
abbrev pub operator_calls : Operator → List ℕ → List ℕ → ℕ
operator_calls (Filter tests) sizes widths = tests_calls tests
operator_calls (Select items) sizes widths = items_calls items
operator_calls Concat sizes widths = 0
operator_calls (Join keys) sizes widths = join_calls (length keys)
operator_calls (Group keys aggregates) sizes widths = group_calls keys aggregates (slice_index sizes 0)
operator_calls Distinct sizes widths = firsts_calls (slice_index widths 0) (slice_index sizes 0)
