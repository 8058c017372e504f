-- The parts of a statement, and what a node has for each: names, parties, operands, tests, items, keys and aggregates.
use Rattle.std.specs.Prelude.{◌≡◌, ◌↔◌, ℕ, true, List, Some, Ok, Contains, slice_get}
use Rattle.words.specs.Texts.{text_of}
use Rattle.words.specs.declared.column.Column.{Column}
use Rattle.query_text.specs.Parties.{IsParty}
use Rattle.query_text.specs.declared.operand.OperandText.{OperandText}
use Rattle.query_text.specs.declared.operand.OperandText.TheVariants.{Name, Number, Quoted, True, False}
use Rattle.query_text.specs.declared.parts.AggregateText.{AggregateText}
use Rattle.query_text.specs.declared.parts.AggregateText.TheVariants as aggregates
use Rattle.query_text.specs.declared.parts.ItemText.{ItemText}
use Rattle.query_text.specs.declared.parts.ItemText.TheVariants as items
use Rattle.query_text.specs.declared.parts.TestText.{TestText}
use Rattle.query_graph.specs.Parties.{has}
use Rattle.query_graph.specs.declared.node.Node.{Node}
use Rattle.query_graph.specs.declared.operand.Aggregate.{Aggregate}
use Rattle.query_graph.specs.declared.operand.Aggregate.TheVariants.{Sum, Count, Least, Greatest}
use Rattle.query_graph.specs.declared.operand.Item.{Item}
use Rattle.query_graph.specs.declared.operand.Item.TheVariants.{Plain, Computed}
use Rattle.query_graph.specs.declared.operand.Operand.{Operand}
use Rattle.query_graph.specs.declared.operand.Operand.TheVariants as operand
use Rattle.query_graph.specs.declared.operand.Test.{Test}
use Rattle.query_graph.specs.declared.parties.Parties.{Parties}

-- the set has exactly the parties with these numbers
abbrev pub WritesParties : List ℕ → Parties → Type 0
WritesParties numbers set = (party : ℕ) → IsParty party → (has set party ≡ true) ↔ Contains numbers party

-- the node with this number, which has this name
pub record IsNodeNamed (nodes : List Node) (name : List ℕ) (number : ℕ) (node : Node) : Type 0 where
  pub stands : slice_get nodes number ≡ Some node
  pub named : node.name ≡ name

-- the column with this number, which has this name
pub record IsColumnNamed (source : List Column) (name : List ℕ) (number : ℕ) (column : Column) : Type 0 where
  pub stands : slice_get source number ≡ Some column
  pub named : column.name ≡ name

-- the number is that of a column with this name
abbrev pub WritesName : List Column → List ℕ → ℕ → Type 0
WritesName source name number = (column : Column) × IsColumnNamed source name number column

-- the number is that of a node with this name
abbrev pub WritesSource : List Node → List ℕ → ℕ → Type 0
WritesSource nodes name number = (node : Node) × IsNodeNamed nodes name number node

-- a key of a join: on either side the number of a column with this name
abbrev pub WritesKey : List Column → List Column → List ℕ → ℕ × ℕ → Type 0
WritesKey left right name key = WritesName left name key.0 × WritesName right name key.1

-- an operand is the column with the written name, or the written word: of a text its word, of true 1 and of false 0
abbrev pub WritesOperand : List Column → OperandText → Operand → Type 0
WritesOperand source (Name name) (operand.Column number) = WritesName source name number
WritesOperand source (Number n) (operand.Constant word) = word ≡ n
WritesOperand source (Quoted text) (operand.Constant word) = text_of text ≡ Ok word
WritesOperand source True (operand.Constant word) = word ≡ 1
WritesOperand source False (operand.Constant word) = word ≡ 0
WritesOperand source _ _ = ⊥

pub record WritesTest (source : List Column) (written : TestText) (test : Test) : Type 0 where
  pub left : WritesOperand source written.left test.left
  pub cmp : test.cmp ≡ written.cmp
  pub right : WritesOperand source written.right test.right

abbrev pub WritesItem : List Column → ItemText → Item → Type 0
WritesItem source (items.Same name) (Plain operand) = WritesOperand source (Name name) operand
WritesItem source (items.Copied new written) (Plain operand) = WritesOperand source written operand
WritesItem source (items.Computed new first written second) (Computed left op right) =
    WritesOperand source first left × (op ≡ written) × WritesOperand source second right
WritesItem source _ _ = ⊥

abbrev pub WritesAggregate : List Column → AggregateText → Aggregate → Type 0
WritesAggregate source (aggregates.Sum new name) (Sum number) = WritesName source name number
WritesAggregate source (aggregates.Count new) Count = Unit {0}
WritesAggregate source (aggregates.Least new name) (Least number) = WritesName source name number
WritesAggregate source (aggregates.Greatest new name) (Greatest number) = WritesName source name number
WritesAggregate source _ _ = ⊥
