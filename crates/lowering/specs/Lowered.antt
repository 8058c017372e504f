-- What a list has behind the segments of some nodes and outputs.
use Rattle.std.specs.Prelude.{◌≡◌, ℕ, ◌+◌, true, false, List, Option, Some, None, length, slice_get}
use Rattle.clear_tasks.specs.ClearTask.{answer}
use Rattle.clear_tasks.specs.declared.task.ClearTask.{ClearTask}
use Rattle.emit.specs.Adds.{Adds}
use Rattle.lanes.specs.Party.{number_of}
use Rattle.lanes.specs.Three.{at}
use Rattle.lanes.specs.declared.party.Party.{Party}
use Rattle.lanes.specs.declared.three.Three.{Three}
use Rattle.plain_meaning.specs.Meaning.{meanings, rows_of}
use Rattle.query_graph.specs.Content.{Content}
use Rattle.query_graph.specs.IsGraph.{rows_at}
use Rattle.query_graph.specs.NodeSizes.{width_at}
use Rattle.query_graph.specs.Parties.{has}
use Rattle.query_graph.specs.declared.node.Node.{Node}
use Rattle.query_graph.specs.declared.node.Output.{Output}
use Rattle.step_lists.specs.Layout.{Steps}
use Rattle.lowering.specs.Costs.{node_cost, output_cost}
use Rattle.lowering.specs.FirstSlots.{first_lengths, load_world}
use Rattle.lowering.specs.Segments.{ArePlaced, is_of_node, is_of_output}
use Rattle.lowering.specs.Stored.{IsShaped, Stores}
use Rattle.lowering.specs.Trace.{Traced}
use Rattle.lowering.specs.Want.{shown_by_first, shown_by_node, shown_by_output}
use Rattle.lowering.specs.declared.stored.Stored.{Stored}
use Rattle.lowering.specs.declared.stored.Stored.TheVariants.{Clear}

-- a list stores the rows of the node with this number
abbrev pub StoresNode : Content → Steps ClearTask → ℕ → Stored → Type 0
StoresNode graph list i part = Stores answer (load_world graph.nodes) list (rows_at graph.nodes i) (width_at graph.nodes i) part (λ w. rows_of (meanings graph.nodes w.rows) i)

-- the first nodes of a graph, as a list stores them
abbrev pub StoresNodes : Content → Steps ClearTask → List Stored → Type 0
StoresNodes graph list parts = (i : ℕ) (part : Stored) → slice_get parts i ≡ Some part → StoresNode graph list i part

-- a recipient has the rows of an output in slots from this one on; another party has none
abbrev pub IsAnswer : Content → Steps ClearTask → Output → Party → Option ℕ → Type 0
IsAnswer graph list output p None = has output.recipients (number_of p) ≡ false
IsAnswer graph list output p (Some first) = (has output.recipients (number_of p) ≡ true) × StoresNode graph list output.node (Clear (number_of p) first)

abbrev pub AreAnswers : Content → Steps ClearTask → Output → Three (Option ℕ) → Type 0
AreAnswers graph list output slots = (p : Party) → IsAnswer graph list output p (at p slots)

-- the segment of a node: what it adds, and where the node's rows are behind it
pub record LowersNode (graph : Content) (a b : Steps ClearTask) (i : ℕ) (node : Node) (part : Stored) : Type 0 where
  pub adds : Adds answer (load_world graph.nodes) a b (is_of_node node) (node_cost graph.nodes node) (λ w v. shown_by_node graph w.rows node v)
  pub shaped : IsShaped answer b
  pub stores : StoresNode graph b i part

-- the segment of an output: what it adds, and where its recipients have the answer behind it
pub record LowersOutput (graph : Content) (a b : Steps ClearTask) (output : Output) (slots : Three (Option ℕ)) : Type 0 where
  pub adds : Adds answer (load_world graph.nodes) a b (is_of_output output) (output_cost graph.nodes output) (λ w v. shown_by_output graph w.rows output v)
  pub shaped : IsShaped answer b
  pub answers : AreAnswers graph b output slots

-- a list behind the segments of as many nodes as there are parts, and of as many outputs as there are answers
pub record Lowered (graph : Content) (list : Steps ClearTask) (parts : List Stored) (ends : List ℕ) (answers : List (Three (Option ℕ))) : Type 0 where
  pub first : list.first ≡ first_lengths graph.nodes
  pub shaped : IsShaped answer list
  pub stores : StoresNodes graph list parts
  pub traced : Traced answer (load_world graph.nodes) list (λ w v. shown_by_first graph (length parts) (length answers) w.rows v)
  pub placed : ArePlaced graph list ends
  pub count : length ends ≡ length parts + length answers
  pub opened : (o : ℕ) (output : Output) (slots : Three (Option ℕ)) → slice_get graph.outputs o ≡ Some output → slice_get answers o ≡ Some slots → AreAnswers graph list output slots

-- a list behind all segments
pub record IsWhole (graph : Content) (list : Steps ClearTask) (ends : List ℕ) (answers : List (Three (Option ℕ))) : Type 0 where
  pub parts : List Stored
  pub nodes : length parts ≡ length graph.nodes
  pub outputs : length answers ≡ length graph.outputs
  pub lowered : Lowered graph list parts ends answers
