-- What tests and items say of a row.
use Rattle.std.specs.Prelude.{ℕ, ◌+◌, ◌-◌, ◌*◌, ◌%◌, ◌^◌, Bool, not, if◌then◌else◌, List, bit_and, bit_or, nat_eq, nat_lt}
use Rattle.plain_operators.specs.declared.item.Comparison.{Comparison}
use Rattle.plain_operators.specs.declared.item.Comparison.TheVariants as comparisons
use Rattle.plain_operators.specs.declared.item.Item.{Item}
use Rattle.plain_operators.specs.declared.item.Item.TheVariants.{Plain, Computed}
use Rattle.plain_operators.specs.declared.item.Operand.{Operand}
use Rattle.plain_operators.specs.declared.item.Operand.TheVariants.{Column, Constant}
use Rattle.plain_operators.specs.declared.item.Operation.{Operation}
use Rattle.plain_operators.specs.declared.item.Operation.TheVariants as operations
use Rattle.plain_operators.specs.declared.item.Test.{Test}
use Rattle.plain_operators.specs.Columns.{word_at}

-- the word of an operand in a row
abbrev pub operand_word : Operand → List ℕ → ℕ
operand_word (Column column) row = word_at column row
operand_word (Constant word) row = word

abbrev pub compares : Comparison → ℕ → ℕ → Bool
compares comparisons.Equal a b = nat_eq a b
compares comparisons.Different a b = not (nat_eq a b)
compares comparisons.Less a b = nat_lt a b
compares comparisons.LessOrEqual a b = not (nat_lt b a)
compares comparisons.Greater a b = nat_lt b a
compares comparisons.GreaterOrEqual a b = not (nat_lt a b)

-- whether a test holds of a row
abbrev pub holds_of : Test → List ℕ → Bool
holds_of test row = compares test.comparison (operand_word test.left row) (operand_word test.right row)

-- an operation on two words: a comparison gives 1 where it holds and else 0; numbers are modulo 2^64
abbrev pub computed : Operation → ℕ → ℕ → ℕ
computed (operations.Compare comparison) a b = (if compares comparison a b then 1 else 0)
computed operations.Add a b = (a + b) % 2 ^ 64
computed operations.Subtract a b = (a + (2 ^ 64 - b)) % 2 ^ 64
computed operations.Multiply a b = (a * b) % 2 ^ 64
computed operations.And a b = bit_and a b
computed operations.Or a b = bit_or a b

-- the word of an item in a row
abbrev pub item_word : Item → List ℕ → ℕ
item_word (Plain operand) row = operand_word operand row
item_word (Computed left operation right) row = computed operation (operand_word left row) (operand_word right row)
