-- Which columns a row must have for what is asked of it.
use Rattle.std.specs.Prelude.{ℕ, ◌<◌, List, length}
use Rattle.std.specs.Borrow.{Bor}
use Rattle.std.specs.List.{All}
use Rattle.plain_operators.specs.declared.aggregate.Aggregate.{Aggregate}
use Rattle.plain_operators.specs.declared.aggregate.Aggregate.TheVariants.{Sum, Count, Least, Greatest}
use Rattle.plain_operators.specs.declared.item.Item.{Item}
use Rattle.plain_operators.specs.declared.item.Item.TheVariants.{Plain, Computed}
use Rattle.plain_operators.specs.declared.item.Operand.{Operand}
use Rattle.plain_operators.specs.declared.item.Operand.TheVariants.{Column, Constant}
use Rattle.plain_operators.specs.declared.item.Test.{Test}

-- rows of this many words have these columns
abbrev pub HasColumns : List ℕ → ℕ → Type 0
HasColumns columns width = All (λ column. column < width) columns

-- an operand of rows of this many words
abbrev pub IsOperandOf : ℕ → Operand → Type 0
IsOperandOf width (Column column) = column < width
IsOperandOf width (Constant word) = Unit {0}

abbrev pub IsTestOf : ℕ → Test → Type 0
IsTestOf width test = IsOperandOf width test.left × IsOperandOf width test.right

abbrev pub IsItemOf : ℕ → Item → Type 0
IsItemOf width (Plain operand) = IsOperandOf width operand
IsItemOf width (Computed left operation right) = IsOperandOf width left × IsOperandOf width right

abbrev pub IsAggregateOf : ℕ → Aggregate → Type 0
IsAggregateOf width (Sum column) = column < width
IsAggregateOf width Count = Unit {0}
IsAggregateOf width (Least column) = column < width
IsAggregateOf width (Greatest column) = column < width

-- all of them
abbrev pub AreTestsOf : List Test → ℕ → Type 0
AreTestsOf tests width = All (IsTestOf width) tests

abbrev pub AreItemsOf : List Item → ℕ → Type 0
AreItemsOf items width = All (IsItemOf width) items

abbrev pub AreAggregatesOf : List Aggregate → ℕ → Type 0
AreAggregatesOf aggregates width = All (IsAggregateOf width) aggregates

-- each row that is lent has what is asked of a row of its width
abbrev pub EachFits : (ℕ → Type 0) → List (Bor (List ℕ)) → Type 0
EachFits asked rows = All (λ row. asked (length row.now)) rows
