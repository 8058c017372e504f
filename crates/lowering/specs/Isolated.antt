-- When a plan is isolated: of two worlds that agree for a party, it can't tell by the words that it receives which one is
-- run, since for each choice of the tape that it doesn't hold there is one under which the other world sends it the same.
use Rattle.std.specs.Prelude.{◌≡◌, ℕ, List, None}
use Rattle.clear_tasks.specs.ClearTask.{accepts, answer}
use Rattle.lanes.specs.Party.{next, number_of}
use Rattle.lanes.specs.Three.{at}
use Rattle.lanes.specs.declared.party.Party.{Party}
use Rattle.query_graph.specs.Content.{Content}
use Rattle.step_lists.specs.Draws.{ThreeTapes}
use Rattle.step_lists.specs.Machine.{Machine, joint_of, view_of}
use Rattle.step_lists.specs.Open.{stopped_at}
use Rattle.step_lists.specs.Possible.{TapesFit}
use Rattle.step_lists.specs.Rules.{IsWellFormed}
use Rattle.step_lists.specs.Seen.{AreAlike, Seen, seen}
use Rattle.step_lists.specs.Twin.{twin_tapes}
use Rattle.trust_sets.specs.Agreement.{Agree}
use Rattle.trust_sets.specs.Known.{known_nodes}
use Rattle.twin.specs.Apart.{IsApart}
use Rattle.lowering.specs.FirstSlots.{WorldOf, first_lengths, load_world}
use Rattle.lowering.specs.Plan.{Plan, ShowsAnswers}
use Rattle.lowering.specs.Want.{shown_by}

-- two worlds agree for a party. A graph that is built has no bound, so none of its worlds has an excess
abbrev pub AgreeFor : (graph : Content) → Party → WorldOf graph.nodes → WorldOf graph.nodes → Type 0
AgreeFor graph v w other = Agree graph (known_nodes graph.nodes) (number_of v) w.rows other.rows None None

-- all that is opened to the party is the same in both, rows as bags, and so are its first slots
pub record LookSame (graph : Content) (v : Party) (w other : WorldOf graph.nodes) : Type 0 where
  pub shown : AreAlike (shown_by graph w.rows v) (shown_by graph other.rows v)
  pub slots : at v (load_world graph.nodes w) ≡ at v (load_world graph.nodes other)

-- so it is in worlds that agree; no tape, step or register is in this
abbrev pub AgreeingWorldsLookSame : Type 0
AgreeingWorldsLookSame = (graph : Content) (v : Party) (w other : WorldOf graph.nodes) → AgreeFor graph v w other → LookSame graph v w other

-- the joint run of a plan's list in a world
abbrev pub run_in : (plan : Plan) → WorldOf plan.graph.nodes → ThreeTapes → Machine
run_in plan w ds = joint_of answer plan.list (load_world plan.graph.nodes w) ds

-- the tapes with the twin, from the one world to the other, in place of the tape that the party doesn't hold
abbrev pub twins : (plan : Plan) → Party → WorldOf plan.graph.nodes → WorldOf plan.graph.nodes → ThreeTapes → ThreeTapes
twins plan v w other ds = twin_tapes answer v plan.list (load_world plan.graph.nodes w) (load_world plan.graph.nodes other) ds

-- what a party sees of a plan in a world
abbrev pub seen_in : (plan : Plan) → Party → WorldOf plan.graph.nodes → ThreeTapes → List Seen
seen_in plan v w ds = seen answer v plan.list (load_world plan.graph.nodes w) ds

-- the twin is defined, since what is opened to the party is alike, and it fits; it keeps the two tapes that the party
-- holds; the words that the party receives in the other world under it are those that it receives in the one under the
-- tapes; both runs stop at the same flag, or neither stops; and the twin back is the tapes
pub record CantTell (plan : Plan) (v : Party) (w other : WorldOf plan.graph.nodes) (ds : ThreeTapes) : Type 0 where
  pub defined : AreAlike (seen_in plan v w ds) (seen_in plan v other (twins plan v w other ds))
  pub fits : TapesFit plan.list (twins plan v w other ds)
  pub own_tape : at v (twins plan v w other ds) ≡ at v ds
  pub following_tape : at (next v) (twins plan v w other ds) ≡ at (next v) ds
  pub view : view_of v (run_in plan other (twins plan v w other ds)) ≡ view_of v (run_in plan w ds)
  pub stop : stopped_at (run_in plan other (twins plan v w other ds)).stop (run_in plan other (twins plan v w other ds)).flags ≡ stopped_at (run_in plan w ds).stop (run_in plan w ds).flags
  pub back : twins plan v other w (twins plan v w other ds) ≡ ds

-- for each party, all worlds that agree for it, and all tapes that fit
pub record IsIsolated (plan : Plan) : Type 0 where
  pub cant_tell : (v : Party) (w other : WorldOf plan.graph.nodes) → AgreeFor plan.graph v w other → (ds : ThreeTapes) → TapesFit plan.list ds → CantTell plan v w other ds

-- ---- laws

-- a plan that shows no more than the answers is isolated
abbrev pub ShowingAnswersIsolates : Type 0
ShowingAnswersIsolates = (plan : Plan) → IsWellFormed accepts plan.list → plan.list.first ≡ first_lengths plan.graph.nodes → ShowsAnswers plan → IsIsolated plan

-- and there is no step at which the party could tell the two worlds apart
abbrev pub IsolatedIsNeverApart : Type 0
IsolatedIsNeverApart =
    (plan : Plan) → IsIsolated plan → (v : Party) (w other : WorldOf plan.graph.nodes) → AgreeFor plan.graph v w other → (ds : ThreeTapes) → TapesFit plan.list ds
    → (k : ℕ) (rows others : List (List ℕ)) → ¬ IsApart answer v plan.list (load_world plan.graph.nodes w) (load_world plan.graph.nodes other) ds k rows others
