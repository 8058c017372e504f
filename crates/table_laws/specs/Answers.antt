-- The text of an answer is read back as the table's rows in order.
use Rattle.std.specs.Prelude.{◌≡◌, ℕ, ◌≤◌, ◌<◌, List, Ok, All, length}
use Rattle.std.specs.List.{AllZip}
use Rattle.std.specs.List.Sorted.{IsSorted}
use Rattle.bags.specs.Bag.{SameBag}
use Rattle.bags.specs.Sorted.{row_cmp}
use Rattle.words.specs.Columns.{kinds_of, names_of}
use Rattle.tables.specs.Answer.{answer_of}
use Rattle.tables.specs.Content.{Content}
use Rattle.tables.specs.File.{table_in}
use Rattle.table_laws.specs.Fields.{IsValue}

-- a table that a file can have: a column at least, names of ASCII bytes, and in each row one value for each column
pub record IsWritable (table : Content) : Type 0 where
  pub some : 0 < length table.columns
  pub names : All (λ name. All (λ byte. byte < 128) name) (names_of table.columns)
  pub rows : All (λ row. AllZip IsValue (kinds_of table.columns) row) table.rows

-- the bytes, read under a table's columns, are its rows in order and none else
pub record ReadsAs (table : Content) (declared : ℕ) (bytes : List ℕ) : Type 0 where
  pub again : Content
  pub read : table_in table.columns declared bytes ≡ Ok again
  pub columns : again.columns ≡ table.columns
  pub bag : SameBag again.rows table.rows
  pub ordered : IsSorted row_cmp again.rows

-- the answer of a table is read as it, wherever its rows were declared
abbrev pub AnswersComeBack : Type 0
AnswersComeBack = (table : Content) (declared : ℕ) → IsWritable table → length table.rows ≤ declared → ReadsAs table declared (answer_of table)

-- an answer tells the bag of rows
abbrev pub AnswersTellBags : Type 0
AnswersTellBags = (a b : Content) → a.columns ≡ b.columns → IsWritable a → IsWritable b → answer_of a ≡ answer_of b → SameBag a.rows b.rows
