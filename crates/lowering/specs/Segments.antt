-- The segments of a list: one for each node, and then one for each output.
use Rattle.std.specs.Prelude.{◌≡◌, ℕ, zero, suc, ◌+◌, ◌<◌, ◌≤◌, Bool, true, false, if◌then◌else◌, List, Some, length, slice_get, slice_index, take}
use Rattle.clear_tasks.specs.declared.task.ClearTask.{ClearTask}
use Rattle.emit.specs.Adds.{AllMay}
use Rattle.query_graph.specs.Content.{Content}
use Rattle.query_graph.specs.Observers.{is_relation}
use Rattle.query_graph.specs.Parties.{has}
use Rattle.query_graph.specs.declared.node.Node.{Node}
use Rattle.query_graph.specs.declared.node.Output.{Output}
use Rattle.step_lists.specs.Layout.{Steps}
use Rattle.step_lists.specs.declared.step.Step.{Step}
use Rattle.step_lists.specs.declared.step.Step.TheVariants.{Const, Lin, And, Share, Reveal, Steer, Tell, Work, Flag}
use Rattle.step_lists.specs.Possible.{StandsIn, ands_in}
use Rattle.lowering.specs.Costs.{node_cost, output_cost}

-- the steps of work on shares: nothing is opened
abbrev pub is_on_shares : {T : Type 0} → Step T → Bool
is_on_shares (Const words) = true
is_on_shares (Lin op) = true
is_on_shares (And left right) = true
is_on_shares (Share party slot) = true
is_on_shares (Reveal to moved shown) = false
is_on_shares (Steer by slot moved) = false
is_on_shares (Tell source target slot) = false
is_on_shares (Work party task takes gives) = true
is_on_shares (Flag party slot) = false

-- a relation's segment has no step, and any other node's those of work on shares
abbrev pub is_of_node : {T : Type 0} → Node → Step T → Bool
is_of_node node step = if is_relation node.shape then false else is_on_shares step

-- an output's has any but a flag, and opens to its recipients alone
abbrev pub is_of_output : {T : Type 0} → Output → Step T → Bool
is_of_output output (Const words) = true
is_of_output output (Lin op) = true
is_of_output output (And left right) = true
is_of_output output (Share party slot) = true
is_of_output output (Reveal to moved shown) = has output.recipients to
is_of_output output (Steer by slot moved) = true
is_of_output output (Tell source target slot) = has output.recipients target
is_of_output output (Work party task takes gives) = true
is_of_output output (Flag party slot) = false

-- the first steps of a list, so many
abbrev pub first_steps : {T : Type 0} → ℕ → Steps T → Steps T
first_steps count list = record { first = list.first; steps = take count list.steps }

-- behind the first list stand steps that may, of at most so many AND words
pub record IsSegment {T : Type 0} (a b : Steps T) (may : Step T → Bool) (most : ℕ) : Type 0 where
  pub front : StandsIn a b
  pub kinds : AllMay may front.more
  pub words : ands_in b ≤ ands_in a + most

-- how many steps stand before the segment of this number, where segments end behind so many steps
abbrev pub start_of : List ℕ → ℕ → ℕ
start_of ends zero = 0
start_of ends (suc k) = slice_index ends k

abbrev pub IsSegmentOf : {T : Type 0} → Steps T → List ℕ → ℕ → (Step T → Bool) → ℕ → Type 0
IsSegmentOf list ends k may most = IsSegment (first_steps (start_of ends k) list) (first_steps (slice_index ends k) list) may most

-- the segments so far are those of the first nodes and outputs, each with steps that may stand in it and at most its shared
-- cost of AND words; each ends in the list, and no step stands behind them
pub record ArePlaced (graph : Content) (list : Steps ClearTask) (ends : List ℕ) : Type 0 where
  pub nodes : (i : ℕ) (node : Node) → slice_get graph.nodes i ≡ Some node → i < length ends → IsSegmentOf list ends i (is_of_node node) (node_cost graph.nodes node)
  pub outputs : (o : ℕ) (output : Output) → slice_get graph.outputs o ≡ Some output → length graph.nodes + o < length ends
      → IsSegmentOf list ends (length graph.nodes + o) (is_of_output output) (output_cost graph.nodes output)
  pub within : (k : ℕ) → slice_index ends k ≤ length list.steps
  pub whole : start_of ends (length ends) ≡ length list.steps
