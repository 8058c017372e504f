-- What is true of every graph: its nodes and outputs, with numbers for names.
use Rattle.std.specs.Prelude.{◌≡◌, ◌≢◌, ℕ, ◌+◌, ◌*◌, ◌<◌, ◌≤◌, ◌^◌, true, ◌||◌, List, [], ◌++◌, Some, None, Ok, is_none, length, map, take, drop, sum, slice_get, All, AllPairs, IsSomeAnd}
use Rattle.std.specs.List.{AllZip}
use Rattle.std.specs.Option.{option_map_or}
use Rattle.words.specs.Texts.{text_of}
use Rattle.words.specs.declared.column.Column.{Column}
use Rattle.words.specs.declared.column.Kind.{Kind}
use Rattle.words.specs.declared.column.Kind.TheVariants.{Num, Text, Flag}
use Rattle.query_tokens.specs.Token.{IsName}
use Rattle.query_text.specs.Grammar.{IsFilled, IsMaybeParty, IsNotBoth}
use Rattle.query_text.specs.Parties.{IsParty}
use Rattle.query_text.specs.declared.operand.Op.{Op}
use Rattle.query_text.specs.declared.operand.Op.TheVariants as ops
use Rattle.query_graph.specs.declared.node.Node.{Node}
use Rattle.query_graph.specs.declared.node.Output.{Output}
use Rattle.query_graph.specs.declared.operand.Operand.{Operand}
use Rattle.query_graph.specs.declared.operand.Operand.TheVariants as operands
use Rattle.query_graph.specs.declared.operand.Test.{Test}
use Rattle.query_graph.specs.declared.operand.Item.{Item}
use Rattle.query_graph.specs.declared.operand.Item.TheVariants as items
use Rattle.query_graph.specs.declared.operand.Aggregate.{Aggregate}
use Rattle.query_graph.specs.declared.operand.Aggregate.TheVariants as aggregates
use Rattle.query_graph.specs.declared.operator.Relation.{Relation}
use Rattle.query_graph.specs.declared.operator.Filter.{Filter}
use Rattle.query_graph.specs.declared.operator.Select.{Select}
use Rattle.query_graph.specs.declared.operator.Concat.{Concat}
use Rattle.query_graph.specs.declared.operator.Join.{Join}
use Rattle.query_graph.specs.declared.operator.Group.{Group}
use Rattle.query_graph.specs.declared.operator.Distinct.{Distinct}
use Rattle.query_graph.specs.declared.operator.Operator.{Operator}
use Rattle.query_graph.specs.declared.operator.Operator.TheVariants as operators
use Rattle.query_graph.specs.Columns.{other_columns}
use Rattle.query_graph.specs.Content.{Content}
use Rattle.query_graph.specs.Kinds.{result_kind}
use Rattle.query_graph.specs.Parties.{no_party}
use Rattle.query_graph.specs.Sizes.{bounded, cell_limit, cells_of, column_limit, group_rows, is_bound, row_limit}

-- the kind of the column with this number
abbrev pub kind_at : List Column → ℕ → Kind
kind_at columns c = option_map_or (λ column. column.kind) (slice_get columns c) Num

-- the rows of the node with this number
abbrev pub rows_at : List Node → ℕ → ℕ
rows_at nodes s = option_map_or (λ n. n.rows) (slice_get nodes s) 0

-- a column of these with this kind
pub record IsColumnOf (columns : List Column) (kind : Kind) (c : ℕ) : Type 0 where
  pub within : c < length columns
  pub same : kind_at columns c ≡ kind

-- a word that a column of this kind may hold: a number below 2^64, the word of a text, 0 or 1
abbrev pub IsWordOf : Kind → ℕ → Type 0
IsWordOf Num word = word < 2 ^ 64
IsWordOf Text word = (bytes : List ℕ) × (text_of bytes ≡ Ok word)
IsWordOf Flag word = word ≤ 1

abbrev pub IsOperandOf : List Column → Kind → Operand → Type 0
IsOperandOf columns kind (operands.Column c) = IsColumnOf columns kind c
IsOperandOf columns kind (operands.Constant word) = IsWordOf kind word

-- both operands have this kind
pub record AreOperandsOf (columns : List Column) (kind : Kind) (left right : Operand) : Type 0 where
  pub left_fits : IsOperandOf columns kind left
  pub right_fits : IsOperandOf columns kind right

-- what an operation takes: two operands of one kind, two numbers or two flags
abbrev pub AreTaken : List Column → Op → Operand → Operand → Type 0
AreTaken columns (ops.Compare cmp) left right = (kind : Kind) × AreOperandsOf columns kind left right
AreTaken columns ops.Add left right = AreOperandsOf columns Num left right
AreTaken columns ops.Sub left right = AreOperandsOf columns Num left right
AreTaken columns ops.Mul left right = AreOperandsOf columns Num left right
AreTaken columns ops.And left right = AreOperandsOf columns Flag left right
AreTaken columns ops.Or left right = AreOperandsOf columns Flag left right

abbrev pub IsTest : List Column → Test → Type 0
IsTest columns test = AreTaken columns (ops.Compare test.cmp) test.left test.right

-- an item makes this column of a select
abbrev pub Makes : List Column → Item → Column → Type 0
Makes source (items.Plain operand) column = IsOperandOf source column.kind operand
Makes source (items.Computed left op right) column = (column.kind ≡ result_kind op) × AreTaken source op left right

-- an aggregate makes this column of a group
abbrev pub Gathers : List Column → Aggregate → Column → Type 0
Gathers source (aggregates.Sum c) column = (column.kind ≡ Num) × IsColumnOf source Num c
Gathers source aggregates.Count column = column.kind ≡ Num
Gathers source (aggregates.Least c) column = (column.kind ≢ Flag) × IsColumnOf source column.kind c
Gathers source (aggregates.Greatest c) column = (column.kind ≢ Flag) × IsColumnOf source column.kind c

-- a key of a join: a column on both sides, of one name and kind
pub record IsKey (left right : List Column) (key : ℕ × ℕ) : Type 0 where
  pub on_left : key.0 < length left
  pub on_right : key.1 < length right
  pub same : slice_get left key.0 ≡ slice_get right key.1

pub record IsRelation (n : Node) (r : Relation) : Type 0 where
  pub owner : IsParty r.owner
  pub trusted : length r.trusted ≡ length n.columns
  pub stored : All (λ column. column.kind ≢ Flag) n.columns

-- over a source with these columns and rows
pub record IsFilter (source : List Column) (rows : ℕ) (n : Node) (f : Filter) : Type 0 where
  pub columns : n.columns ≡ source
  pub size : n.rows ≡ bounded f.at_most rows
  pub filled : IsFilled f.tests
  pub tests : All (IsTest source) f.tests
  pub bound : is_bound f.at_most ≡ true
  pub clear : IsMaybeParty f.clear_at

pub record IsSelect (source : List Column) (rows : ℕ) (n : Node) (s : Select) : Type 0 where
  pub columns : AllZip (Makes source) s.items n.columns
  pub size : n.rows ≡ rows
  pub clear : IsMaybeParty s.clear_at

pub record IsDistinctOf (source : List Column) (rows : ℕ) (n : Node) (d : Distinct) : Type 0 where
  pub columns : n.columns ≡ source
  pub size : n.rows ≡ bounded d.at_most rows
  pub bound : is_bound d.at_most ≡ true
  pub clear : IsMaybeParty d.clear_at

-- the keys are different columns and stand first; then each aggregate makes a column
pub record IsGroup (source : List Column) (rows : ℕ) (n : Node) (g : Group) : Type 0 where
  pub keys : All (λ k. k < length source) g.keys
  pub different : AllPairs (λ a b. a ≢ b) g.keys
  pub key_columns : map Some (take (length g.keys) n.columns) ≡ map (slice_get source) g.keys
  pub filled : IsFilled g.aggregates
  pub columns : AllZip (Gathers source) g.aggregates (drop (length g.keys) n.columns)
  pub width : length n.columns ≡ length g.keys + length g.aggregates
  pub size : n.rows ≡ bounded g.at_most (group_rows g.keys g.parts_at_most rows)
  pub bound : is_bound g.at_most ≡ true
  pub bound_of_parts : is_bound g.parts_at_most ≡ true
  pub keyless : g.keys ≡ [] → (g.via ≡ None) × (g.at_most ≡ None) × (g.parts_at_most ≡ None)
  pub apart : (is_none g.parts_at_most || is_none g.clear_at) ≡ true
  pub via : IsMaybeParty g.via
  pub clear : IsMaybeParty g.clear_at
  pub one_place : IsNotBoth g.via g.clear_at

-- the names of the first columns, so many
abbrev pub first_names : ℕ → List Column → List (List ℕ)
first_names count columns = map (λ column. column.name) (take count columns)

-- over a left and a right source: the keys are different columns of both and stand first; then come the
-- columns that aren't keys, first the left's and then the right's
pub record IsJoin (left right : List Column) (left_rows right_rows : ℕ) (n : Node) (j : Join) : Type 0 where
  pub filled : IsFilled j.keys
  pub keys : All (IsKey left right) j.keys
  pub different_left : AllPairs (λ a b. a ≢ b) (map (λ key. key.0) j.keys)
  pub different_right : AllPairs (λ a b. a ≢ b) (map (λ key. key.1) j.keys)
  pub key_columns : map Some (take (length j.keys) n.columns) ≡ map (λ key. slice_get left key.0) j.keys
  pub others : drop (length j.keys) n.columns ≡ other_columns (first_names (length j.keys) n.columns) left ++ other_columns (first_names (length j.keys) n.columns) right
  pub width : length n.columns + length j.keys ≡ length left + length right
  pub size : n.rows ≡ bounded j.at_most (left_rows * right_rows)
  pub bound : is_bound j.at_most ≡ true
  pub via : IsMaybeParty j.via
  pub clear : IsMaybeParty j.clear_at
  pub one_place : IsNotBoth j.via j.clear_at

-- the node with this number is one of the first of these nodes, and its columns and rows are so
pub record IsSource (nodes : List Node) (first s : ℕ) (P : List Column → ℕ → Type 0) : Type 0 where
  pub earlier : s < first
  pub fits : IsSomeAnd (slice_get nodes s) (λ n. P n.columns n.rows)

pub record IsConcat (nodes : List Node) (i : ℕ) (n : Node) (c : Concat) : Type 0 where
  pub some : 2 ≤ length c.sources
  pub few : length c.sources ≤ 8
  pub columns : All (λ s. IsSource nodes i s (λ columns rows. n.columns ≡ columns)) c.sources
  pub size : n.rows ≡ sum (map (rows_at nodes) c.sources)

-- what the node with this number does fits the earlier nodes
abbrev pub FitsSources : List Node → ℕ → Node → Operator → Type 0
FitsSources nodes i n (operators.Relation r) = IsRelation n r
FitsSources nodes i n (operators.Filter f) = IsSource nodes i f.source (λ columns rows. IsFilter columns rows n f)
FitsSources nodes i n (operators.Select s) = IsSource nodes i s.source (λ columns rows. IsSelect columns rows n s)
FitsSources nodes i n (operators.Concat c) = IsConcat nodes i n c
FitsSources nodes i n (operators.Join j) =
    IsSource nodes i j.left (λ left left_rows. IsSource nodes i j.right (λ right right_rows. IsJoin left right left_rows right_rows n j))
FitsSources nodes i n (operators.Group g) = IsSource nodes i g.source (λ columns rows. IsGroup columns rows n g)
FitsSources nodes i n (operators.Distinct d) = IsSource nodes i d.source (λ columns rows. IsDistinctOf columns rows n d)

-- the node with this number: its name and those of its columns are names, its size is within the limits, and it
-- uses earlier nodes as they are
pub record IsNode (nodes : List Node) (i : ℕ) (n : Node) : Type 0 where
  pub name : IsName n.name
  pub column_names : All (λ column. IsName column.name) n.columns
  pub some_rows : 1 ≤ n.rows
  pub few_rows : n.rows ≤ row_limit
  pub some_columns : 1 ≤ length n.columns
  pub few_columns : length n.columns ≤ column_limit
  pub different : AllPairs (λ a b. a.name ≢ b.name) n.columns
  pub sources : FitsSources nodes i n n.shape

-- an output of one of these nodes, to some party
pub record IsOutput (nodes : List Node) (o : Output) : Type 0 where
  pub node : o.node < length nodes
  pub some : o.recipients ≢ no_party

-- each node stands on a later line than those before it, each output does, and none of both on one line
pub record HasRisingLines (graph : Content) : Type 0 where
  pub nodes : AllPairs (λ a b. a.line < b.line) graph.nodes
  pub outputs : AllPairs (λ a b. a.line < b.line) graph.outputs
  pub apart : All (λ (n : Node). All (λ (o : Output). n.line ≢ o.line) graph.outputs) graph.nodes

-- every graph
pub record IsGraph (graph : Content) : Type 0 where
  pub few : length graph.nodes ≤ 63
  pub few_cells : cells_of graph.nodes ≤ cell_limit
  pub names : AllPairs (λ a b. a.name ≢ b.name) graph.nodes
  pub nodes : (i : ℕ) (n : Node) → slice_get graph.nodes i ≡ Some n → IsNode graph.nodes i n
  pub some_output : 1 ≤ length graph.outputs
  pub outputs : All (IsOutput graph.nodes) graph.outputs
  pub different_outputs : AllPairs (λ a b. a.node ≢ b.node) graph.outputs
  pub lines : HasRisingLines graph
