-- The twin of a tape, by a call on the list and the first slots of an isolated plan.
use Rattle.std.proofs.Common.{◌≡◌, ◌∙◌, ℕ, List, ap, subst}
use Rattle.clear_tasks.specs.ClearTask.{answer}
use Rattle.clear_tasks.specs.declared.task.ClearTask.{ClearTask}
use Rattle.lanes.specs.declared.party.Party.{Party}
use Rattle.lowering.specs.Isolated.{IsIsolated, IsolatedIsNeverApart}
use Rattle.lowering.specs.Plan.{Plan}
use Rattle.plain_meaning.specs.Fits.{IsWorldOf}
use Rattle.plain_meaning.specs.Plain.{rows_of_tables}
use Rattle.step_lists.specs.Draws.{ThreeTapes}
use Rattle.step_lists.specs.Layout.{Steps}
use Rattle.step_lists.specs.Open.{SlotWords}
use Rattle.step_lists.specs.Possible.{TapesFit}
use Rattle.step_lists.specs.Twin.{twin_tape}
use Rattle.tapes.specs.declared.draw.Draw.{Draw}
use Rattle.twin.specs.Apart.{IsApart}
use Rattle.conclave_top.specs.Audit.{AgreeFor, Worlds, twin_in}
use Rattle.conclave_top.specs.Run.{first_slots_of}
use Rattle.conclave_top.proofs.AuditEnds.{world_of}

-- the call is for this party, on the plan's list and on the slots of these worlds
pub record IsCallOn (plan : Plan) (party : Party) (worlds : Worlds) (viewer : Party) (list : Steps ClearTask) (one other : SlotWords) : Type 0 where
  pub viewer_is : viewer ≡ party
  pub list_is : list ≡ plan.list
  pub one_is : one ≡ first_slots_of plan worlds.0
  pub other_is : other ≡ first_slots_of plan worlds.1

-- what holds of such a call holds of the plan
of_plan : (Holds : Party → Steps ClearTask → SlotWords → SlotWords → Type 0) (plan : Plan) (party : Party) (worlds : Worlds) (viewer : Party) (list : Steps ClearTask) (one other : SlotWords)
    → IsCallOn plan party worlds viewer list one other → Holds viewer list one other → Holds party plan.list (first_slots_of plan worlds.0) (first_slots_of plan worlds.1)
of_plan Holds plan party worlds viewer list one other call holds =
    subst (λ slots. Holds party plan.list (first_slots_of plan worlds.0) slots) call.other_is
    (subst (λ slots. Holds party plan.list slots other) call.one_is (subst (λ l. Holds party l one other) call.list_is (subst (λ v. Holds v list one other) call.viewer_is holds)))

pub twin_is : (plan : Plan) (party : Party) (worlds : Worlds) (draws : ThreeTapes) (viewer : Party) (list : Steps ClearTask) (one other : SlotWords) (tape : List Draw) → IsCallOn plan party worlds viewer list one other
    → tape ≡ twin_tape answer viewer list one other draws → tape ≡ twin_in plan party worlds draws
twin_is plan party worlds draws viewer list one other tape call is = of_plan (λ v l a b. tape ≡ twin_tape answer v l a b draws) plan party worlds viewer list one other call is

-- no step tells the party apart two worlds that agree for it
pub never_apart : IsolatedIsNeverApart → (plan : Plan) (party : Party) (worlds : Worlds) (draws : ThreeTapes) (viewer : Party) (list : Steps ClearTask) (one other : SlotWords) → IsIsolated plan
    → IsWorldOf plan.graph.nodes (rows_of_tables worlds.0) → IsWorldOf plan.graph.nodes (rows_of_tables worlds.1) → AgreeFor plan party worlds → TapesFit plan.list draws
    → IsCallOn plan party worlds viewer list one other → (k : ℕ) (rows others : List (List ℕ)) → IsApart answer viewer list one other draws k rows others → ⊥
never_apart law plan party worlds draws viewer list one other isolated first second agree fit call k rows others apart =
    law plan isolated party (world_of plan worlds.0 first) (world_of plan worlds.1 second) agree draws fit k rows others
    (of_plan (λ v l a b. IsApart answer v l a b draws k rows others) plan party worlds viewer list one other call apart)
