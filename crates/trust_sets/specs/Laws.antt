-- Laws of the sets.
use Rattle.std.specs.Prelude.{◌≡◌, ℕ, true, List, Some, ⊤, length, take, slice_get}
use Rattle.std.specs.List.{All}
use Rattle.query_graph.specs.Content as graph_content
use Rattle.query_graph.specs.IsGraph.{IsGraph}
use Rattle.query_graph.specs.declared.node.Node.{Node}
use Rattle.query_graph.specs.declared.operand.Item.{Item}
use Rattle.query_graph.specs.declared.operand.Item.TheVariants as items
use Rattle.query_graph.specs.declared.operand.Operand.{Operand}
use Rattle.query_graph.specs.declared.operand.Operand.TheVariants as operands
use Rattle.query_graph.specs.declared.operand.Test.{Test}
use Rattle.query_graph.specs.declared.operator.Group.{Group}
use Rattle.query_graph.specs.declared.operator.Join.{Join}
use Rattle.query_graph.specs.declared.operator.Operator.TheVariants as operators
use Rattle.query_graph.specs.declared.parties.Parties.{Parties}
use Rattle.query_graph.specs.Parties.{has}
use Rattle.trust_sets.specs.declared.known.Known.{Known}
use Rattle.trust_sets.specs.Known.{column_set, distinct_set, grouped_set, item_set, joined_set, known_at, known_filter, known_node, known_nodes}

-- the party may know the rows of a node, or a column
abbrev pub KnowsRows : ℕ → Known → Type 0
KnowsRows party source = has source.rows party ≡ true

abbrev pub KnowsColumn : ℕ → Known → ℕ → Type 0
KnowsColumn party source column = has (column_set source column) party ≡ true

-- in each graph who may know a column of a node may know its rows
abbrev pub ColumnsWithinRows : Type 0
ColumnsWithinRows = (nodes : List Node) (node column party : ℕ) → KnowsColumn party (known_at (known_nodes nodes) node) column → KnowsRows party (known_at (known_nodes nodes) node)

-- the party may know the column that an operand is, and what a test uses
abbrev pub KnowsOperand : ℕ → Known → Operand → Type 0
KnowsOperand party source (operands.Column column) = KnowsColumn party source column
KnowsOperand party source (operands.Constant word) = ⊤

pub record KnowsTest (party : ℕ) (source : Known) (test : Test) : Type 0 where
  pub left : KnowsOperand party source test.left
  pub right : KnowsOperand party source test.right

-- and what an item uses
pub record KnowsBoth (party : ℕ) (source : Known) (left right : Operand) : Type 0 where
  pub first : KnowsOperand party source left
  pub second : KnowsOperand party source right

abbrev pub KnowsItem : ℕ → Known → Item → Type 0
KnowsItem party source (items.Plain operand) = KnowsOperand party source operand
KnowsItem party source (items.Computed left op right) = KnowsBoth party source left right

-- a key of a join, on both sides
pub record KnowsKey (party : ℕ) (left right : Known) (key : ℕ × ℕ) : Type 0 where
  pub on_left : KnowsColumn party left key.0
  pub on_right : KnowsColumn party right key.1

-- the party may know the rows of a source, and some parts of it
pub record KnowsParts {A : Type 0} (party : ℕ) (source : Known) (Knows : A → Type 0) (parts : List A) : Type 0 where
  pub rows : KnowsRows party source
  pub each : All Knows parts

pub record KnowsSides (party : ℕ) (left right : Known) (keys : List (ℕ × ℕ)) : Type 0 where
  pub on_left : KnowsRows party left
  pub on_right : KnowsRows party right
  pub each : All (KnowsKey party left right) keys

-- who may know the rows of an operator, or an item's column, may know the rows of its sources and all columns on
-- which these rows, or this column, depend
pub record WhatRowsNeed : Type 0 where
  pub tested : (party : ℕ) (source : Known) (tests : List Test) → KnowsRows party (known_filter source tests) → KnowsParts party source (KnowsTest party source) tests
  pub item : (party : ℕ) (source : Known) (item : Item) → has (item_set source item) party ≡ true → KnowsItem party source item
  pub joined : (party : ℕ) (left right : Known) (keys : List (ℕ × ℕ)) → has (joined_set left right keys) party ≡ true → KnowsSides party left right keys
  pub grouped : (party : ℕ) (source : Known) (keys : List ℕ) → has (grouped_set source keys) party ≡ true → KnowsParts party source (KnowsColumn party source) keys
  pub distinct : (party : ℕ) (source : Known) → has (distinct_set source) party ≡ true → KnowsParts party source (λ (set : Parties). has set party ≡ true) source.columns

-- as many sets as nodes; those of a node come from its operator and those of the earlier nodes, and in a graph they
-- have a place for each of its columns
pub record NodesKnowFromEarlier : Type 0 where
  pub count : (nodes : List Node) → length (known_nodes nodes) ≡ length nodes
  pub each : (nodes : List Node) (i : ℕ) (node : Node) → slice_get nodes i ≡ Some node
      → known_at (known_nodes nodes) i ≡ known_node node.shape (take i (known_nodes nodes))
  pub wide : (graph : graph_content.Content) → IsGraph graph → (i : ℕ) (node : Node) → slice_get graph.nodes i ≡ Some node
      → length (known_at (known_nodes graph.nodes) i).columns ≡ length node.columns

-- in each graph who may know the rows of a join, or of a group, may know the rows of its sources and each key of each
pub record KeysAreKnown : Type 0 where
  pub joined : (graph : graph_content.Content) → IsGraph graph → (party i : ℕ) (node : Node) (j : Join) → slice_get graph.nodes i ≡ Some node → node.shape ≡ operators.Join j
      → KnowsRows party (known_at (known_nodes graph.nodes) i)
      → KnowsSides party (known_at (known_nodes graph.nodes) j.left) (known_at (known_nodes graph.nodes) j.right) j.keys
  pub grouped : (graph : graph_content.Content) → IsGraph graph → (party i : ℕ) (node : Node) (g : Group) → slice_get graph.nodes i ≡ Some node → node.shape ≡ operators.Group g
      → KnowsRows party (known_at (known_nodes graph.nodes) i)
      → KnowsParts party (known_at (known_nodes graph.nodes) g.source) (KnowsColumn party (known_at (known_nodes graph.nodes) g.source)) g.keys
