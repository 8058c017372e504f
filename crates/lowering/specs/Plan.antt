-- What contracts see of a plan, and when it is correct and placed.
use Rattle.std.specs.Prelude.{◌≡◌, ℕ, ◌+◌, ◌==◌, not, true, false, List, [], Option, Some, None, filter, length, map, slice_get, slice_index}
use Rattle.std.specs.List.{range_with_len}
use Rattle.bags.specs.Bag.{SameBag}
use Rattle.clear_tasks.specs.ClearTask.{answer}
use Rattle.clear_tasks.specs.declared.task.ClearTask.{ClearTask}
use Rattle.lanes.specs.Party.{number_of}
use Rattle.lanes.specs.Three.{at}
use Rattle.lanes.specs.declared.party.Party.{Party}
use Rattle.lanes.specs.declared.three.Three.{Three}
use Rattle.plain_meaning.specs.Meaning.{meanings, rows_of}
use Rattle.query_graph.specs.Content.{Content}
use Rattle.query_graph.specs.NodeSizes.{width_at}
use Rattle.query_graph.specs.Parties.{has}
use Rattle.query_graph.specs.declared.node.Output.{Output}
use Rattle.step_lists.specs.Draws.{ThreeTapes}
use Rattle.step_lists.specs.Layout.{Steps}
use Rattle.step_lists.specs.Open.{item, open_of}
use Rattle.step_lists.specs.Possible.{TapesFit}
use Rattle.step_lists.specs.Seen.{AreAlike, seen}
use Rattle.tapes.specs.RowLaws.{row_across}
use Rattle.lowering.specs.FirstSlots.{WorldOf, load_world}
use Rattle.lowering.specs.Segments.{ArePlaced}
use Rattle.lowering.specs.Want.{shown_by}

-- its text, the text's graph, its list, behind how many steps the segment of each node and then of each output ends, and
-- for each output the number of each recipient's first answer slot
pub record Plan : Type 0 where
  pub text : List ℕ
  pub graph : Content
  pub list : Steps ClearTask
  pub ends : List ℕ
  pub answers : List (Three (Option ℕ))

-- the rows at the places whose valid word isn't 0
abbrev pub standing_rows : List (List ℕ) → List ℕ → List (List ℕ)
standing_rows columns valid = map (row_across columns) (filter (λ k. not (slice_index valid k == 0)) (range_with_len 0 (length valid)))

-- the rows in so many slots of a party from this one on, and the valid words behind them
abbrev pub rows_from : List (List ℕ) → ℕ → Option ℕ → List (List ℕ)
rows_from slots width None = []
rows_from slots width (Some first) = standing_rows (map (item slots) (range_with_len first width)) (item slots (first + width))

-- where a party has the answer of an output
abbrev pub answer_in : Option (Three (Option ℕ)) → Party → Option ℕ
answer_in None p = None
answer_in (Some slots) p = at p slots

abbrev pub answer_at : Plan → ℕ → Party → Option ℕ
answer_at plan o p = answer_in (slice_get plan.answers o) p

-- the rows of an output in a party's slots
abbrev pub answer_rows : Plan → Output → ℕ → Party → List (List ℕ) → List (List ℕ)
answer_rows plan output o p slots = rows_from slots (width_at plan.graph.nodes output.node) (answer_at plan o p)

-- in each world and under all tapes that fit the list doesn't stop, and each recipient of an output has the rows that it
-- plainly means in its answer slots
pub record IsCorrect (plan : Plan) : Type 0 where
  pub goes : (w : WorldOf plan.graph.nodes) (ds : ThreeTapes) → TapesFit plan.list ds → (open_of answer plan.list (load_world plan.graph.nodes w) ds).stop ≡ false
  pub answers : (w : WorldOf plan.graph.nodes) (ds : ThreeTapes) → TapesFit plan.list ds
      → (o : ℕ) (output : Output) (p : Party) → slice_get plan.graph.outputs o ≡ Some output → has output.recipients (number_of p) ≡ true
      → SameBag (answer_rows plan output o p (at p (open_of answer plan.list (load_world plan.graph.nodes w) ds).slots)) (rows_of (meanings plan.graph.nodes w.rows) output.node)

-- in each world and under all tapes that fit, a party is shown what its query's outputs show it, and nothing else
pub record ShowsAnswers (plan : Plan) : Type 0 where
  pub seen_is : (w : WorldOf plan.graph.nodes) (ds : ThreeTapes) → TapesFit plan.list ds → (v : Party)
      → AreAlike (seen answer v plan.list (load_world plan.graph.nodes w) ds) (shown_by plan.graph w.rows v)

-- the list is one segment for each node and then one for each output, each with steps that may stand in it and at most its
-- shared cost of AND words
pub record IsPlaced (plan : Plan) : Type 0 where
  pub count : length plan.ends ≡ length plan.graph.nodes + length plan.graph.outputs
  pub placed : ArePlaced plan.graph plan.list plan.ends
