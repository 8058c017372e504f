-- What the pieces of a segment add to a list, for all first slots.
use Rattle.std.specs.Prelude.{◌≡◌, ℕ, ◌+◌, ◌*◌, Bool, true, false, IsTrue, List, [], ◌∷◌, ◌++◌, Option, Some, None, length, map, slice_get}
use Rattle.std.specs.List.{AllZip, range_with_len}
use Rattle.bags.specs.Bag.{SameBag}
use Rattle.clear_tasks.specs.ClearTask.{accepts, answer}
use Rattle.clear_tasks.specs.declared.task.ClearTask.{ClearTask}
use Rattle.emit.specs.Adds.{Adds, is_circuit, wants_nothing}
use Rattle.emit.specs.Emit.{opened}
use Rattle.lanes.specs.Three.{at}
use Rattle.padded.specs.Table.{AreBits, zeroed_columns}
use Rattle.plain_meaning.specs.Operators.{operator_of}
use Rattle.plain_operators.specs.OnSources as on_sources
use Rattle.query_graph.specs.Content.{Content}
use Rattle.query_graph.specs.IsGraph.{rows_at}
use Rattle.query_graph.specs.NodeSizes.{width_at}
use Rattle.query_graph.specs.Observers.{is_relation, sources_of}
use Rattle.query_graph.specs.Parties.{has}
use Rattle.query_graph.specs.declared.node.Node.{Node}
use Rattle.query_graph.specs.declared.parties.Parties.{Parties}
use Rattle.shared_ops.specs.Joint.{AllBits, column_words, joint_rows, valid_words}
use Rattle.shared_ops.specs.declared.joint.Joint.{Joint}
use Rattle.step_lists.specs.Draws.{ThreeTapes}
use Rattle.step_lists.specs.Layout.{Steps, layout_of, party_of}
use Rattle.step_lists.specs.declared.step.Step.{Step}
use Rattle.step_lists.specs.declared.step.Step.TheVariants.{Reveal, Share}
use Rattle.step_lists.specs.Open.{SlotWords, open_of}
use Rattle.step_lists.specs.Possible.{Possible, behind}
use Rattle.step_lists.specs.Rules.{is_fine}
use Rattle.wires.specs.Environment.{Environment}
use Rattle.wires.specs.declared.wire.Wire.{Wire}
use Rattle.lowering.specs.Costs.{node_cost}
use Rattle.lowering.specs.Segments.{is_on_shares}
use Rattle.lowering.specs.Stored.{AreRegisters, table_in}
use Rattle.lowering.specs.Unbuilt.{is_written}
use Rattle.lowering.specs.declared.stored.Stored.{Stored}
use Rattle.lowering.specs.declared.stored.Stored.TheVariants.{Shared}

-- a piece that shows nothing to anyone
abbrev pub AddsQuietly : Steps ClearTask → Steps ClearTask → (Step ClearTask → Bool) → ℕ → Type 0
AddsQuietly a b may most = Adds answer (λ (slots : SlotWords). slots) a b may most wants_nothing

-- what holds in each environment of a list
abbrev pub Always : Steps ClearTask → (Environment → Type 0) → Type 0
Always list P = (slots : SlotWords) (ds : ThreeTapes) → Possible answer list slots ds → P (opened answer list slots ds)

-- ---- tables in registers

abbrev pub wire : ℕ → Wire
wire number = record { 0 = number }

-- so many slots of a party, from this one on, are shared
abbrev pub shares : ℕ → ℕ → ℕ → List (Step ClearTask)
shares party first count = map (λ slot. Share party slot) (range_with_len first count)

-- a table in new registers: from this one on a register for each column, and then that of the valid words
pub record IsTableFrom (register rows width : ℕ) (t : Joint) : Type 0 where
  pub columns : t.columns.items ≡ map wire (range_with_len register width)
  pub valid : t.valid ≡ wire (register + width)
  pub rows_are : t.rows ≡ rows

-- a party's table was shared
pub record IsShared (a b : Steps ClearTask) (rows width party first : ℕ) (t : Joint) : Type 0 where
  pub is : b ≡ behind a (shares party first (width + 1))
  pub table : IsTableFrom (length (layout_of a).registers) rows width t

-- registers that hold what is stored
pub record HoldsSame (list : Steps ClearTask) (rows width : ℕ) (stored : Stored) (t : Joint) : Type 0 where
  pub made : AreRegisters (layout_of list) rows width t
  pub same : (slots : SlotWords) (ds : ThreeTapes) → Possible answer list slots ds
      → table_in (open_of answer list slots ds) width (Shared t) ≡ table_in (open_of answer list slots ds) width stored

-- so they do behind some Shares
pub record IsJoined (a b : Steps ClearTask) (rows width : ℕ) (stored : Stored) (t : Joint) : Type 0 where
  pub adds : AddsQuietly a b is_on_shares 0
  pub holds : HoldsSame b rows width stored t

-- what is stored of the node with this number, in registers
pub record IsSource (nodes : List Node) (a b : Steps ClearTask) (parts : List Stored) (s : ℕ) (t : Joint) : Type 0 where
  pub adds : AddsQuietly a b is_on_shares 0
  pub part : Stored
  pub is_part : slice_get parts s ≡ Some part
  pub holds : HoldsSame b (rows_at nodes s) (width_at nodes s) part t

-- a table for each of these nodes, in registers that hold what is stored of it
abbrev pub HoldsNode : List Node → Steps ClearTask → List Stored → ℕ → Joint → Type 0
HoldsNode nodes b parts s t = (part : Stored) × (slice_get parts s ≡ Some part) × HoldsSame b (rows_at nodes s) (width_at nodes s) part t

pub record AreSources (nodes : List Node) (a b : Steps ClearTask) (parts : List Stored) (sources : List ℕ) (tables : List Joint) : Type 0 where
  pub adds : AddsQuietly a b is_on_shares 0
  pub holds : AllZip (HoldsNode nodes b parts) sources tables

-- ---- circuits

-- tables of the sources of a node that is no relation and has no bound, in registers
pub record AreWorkable (graph : Content) (list : Steps ClearTask) (i : ℕ) (tables : List Joint) : Type 0 where
  pub node : Node
  pub is_node : slice_get graph.nodes i ≡ Some node
  pub no_relation : is_relation node.shape ≡ false
  pub unwritten : is_written node.shape ≡ false
  pub made : AllZip (λ s t. AreRegisters (layout_of list) (rows_at graph.nodes s) (width_at graph.nodes s) t) (sources_of node.shape) tables

-- the operator of a node on its sources' tables
pub record IsWorkedNode (nodes : List Node) (a b : Steps ClearTask) (node : Node) (tables : List Joint) (t : Joint) : Type 0 where
  pub adds : AddsQuietly a b is_circuit (node_cost nodes node)
  pub made : AreRegisters (layout_of b) node.rows (length node.columns) t
  pub bits : Always b (λ v. AllBits v tables → AreBits (valid_words v t))
  pub bag : (operator : on_sources.Operator) → operator_of node.shape ≡ Some operator
      → Always b (λ v. AllBits v tables → SameBag (joint_rows v t) (on_sources.operator_rows operator (map (joint_rows v) tables)))

abbrev pub IsWorked : Content → Steps ClearTask → Steps ClearTask → ℕ → List Joint → Joint → Type 0
IsWorked graph a b i tables t = (node : Node) → slice_get graph.nodes i ≡ Some node → IsWorkedNode graph.nodes a b node tables t

-- a table with zeros at each place without a row
pub record IsZeroed (a b : Steps ClearTask) (rows width : ℕ) (t zeroed : Joint) : Type 0 where
  pub adds : AddsQuietly a b is_circuit (rows * width)
  pub made : AreRegisters (layout_of b) rows width zeroed
  pub valid : zeroed.valid ≡ t.valid
  pub columns : Always b (λ v. AreBits (valid_words v t) → column_words v zeroed ≡ zeroed_columns (valid_words v t) (column_words v t))

-- ---- openings

-- the registers of a table: its columns and its valid words
abbrev pub registers_of : Joint → List ℕ
registers_of t = map (λ w. w.0) t.columns.items ++ t.valid.0 ∷ []

-- a table is opened whole to a party
abbrev pub opening_of : ℕ → Joint → Step ClearTask
opening_of party t = Reveal party (registers_of t) (range_with_len 0 (length t.columns.items + 1))

-- behind it the table is in slots of that party, from this one on
pub record IsOpened (a b : Steps ClearTask) (party : ℕ) (t : Joint) (first : ℕ) : Type 0 where
  pub is : b ≡ behind a (opening_of party t ∷ [])
  pub fine : IsTrue (is_fine accepts (layout_of a) (opening_of party t))
  pub first_is : first ≡ length (at (party_of party) (layout_of a).slots)

-- it is opened exactly to a recipient
abbrev pub OpensTo : Steps ClearTask → Steps ClearTask → Parties → ℕ → Joint → Option ℕ → Type 0
OpensTo a b recipients party t None = (has recipients party ≡ false) × (b ≡ a)
OpensTo a b recipients party t (Some first) = (has recipients party ≡ true) × IsOpened a b party t first
