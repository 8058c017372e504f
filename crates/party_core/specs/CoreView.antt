-- What a core is seen as, and how far it is.
use Rattle.std.specs.Prelude.{ℕ, suc, Bool, true, false, List, ◌++◌, take, drop, nat_lt, Option, Some, None, slice_get, if◌then◌else◌}
use Rattle.lanes.specs.declared.party.Party.{Party}
use Rattle.lanes.specs.Three.{at, put}
use Rattle.tapes.specs.declared.draw.Draw.{Draw}
use Rattle.step_lists.specs.Draws.{nothing}
use Rattle.step_lists.specs.declared.step.Step.{Step}
use Rattle.step_lists.specs.Layout.{Steps, Layout, starting, layout_of}
use Rattle.step_lists.specs.Run.{rest_after}
use Rattle.step_lists.specs.Part.{Given, part_cut}
use Rattle.party_core.specs.Stages.{takes_at, takes_none, stage_count}

-- so many steps are done, and of the next one so many stages; and whether the turn of the next stage was made, whose words
-- are still to be taken
pub record Far : Type 0 where
  pub steps : ℕ
  pub stages : ℕ
  pub turned : Bool

abbrev pub at_start : Far
at_start = record { steps = 0; stages = 0; turned = false }

-- the list, the party, its first slots, its two tapes with the words that came from each party, and how far it is
pub record CoreView (T : Type 0) : Type 0 where
  pub list : Steps T
  pub party : Party
  pub slots : List (List ℕ)
  pub given : Given
  pub far : Far

-- a core that was made: no word came, and no move was made
abbrev pub fresh_core : {T : Type 0} → Steps T → Party → List (List ℕ) → List Draw → List Draw → CoreView T
fresh_core list v slots own following =
    record { list = list; party = v; slots = slots; given = record { own = own; following = following; received = nothing }; far = at_start }

-- ---- the list, cut where the core is

abbrev pub steps_done : {T : Type 0} → CoreView T → Steps T
steps_done c = record { first = c.list.first; steps = take c.far.steps c.list.steps }

abbrev pub steps_left : {T : Type 0} → CoreView T → List (Step T)
steps_left c = drop c.far.steps c.list.steps

abbrev pub next_step : {T : Type 0} → CoreView T → Option (Step T)
next_step c = slice_get c.list.steps c.far.steps

abbrev pub layout_here : {T : Type 0} → CoreView T → Layout
layout_here c = layout_of (steps_done c)

-- what is given from the next step on, and for it alone
abbrev pub given_here : {T : Type 0} → CoreView T → Given
given_here c = rest_after (part_cut c.party) (starting c.list.first) (take c.far.steps c.list.steps) c.given

abbrev pub given_for : {T : Type 0} → CoreView T → Step T → Given
given_for c s = (part_cut c.party).first (layout_here c) s (given_here c)

-- how many stages of the next step have sent their words
abbrev pub stages_begun : Far → ℕ
stages_begun far = if far.turned then suc far.stages else far.stages

-- ---- moves

-- behind a stage of a step that has so many: its next stage, or the next step
abbrev pub behind_stage : ℕ → Far → Far
behind_stage count far =
    if nat_lt (suc far.stages) count then record { steps = far.steps; stages = suc far.stages; turned = false }
    else record { steps = suc far.steps; stages = 0; turned = false }

-- behind a turn: the stage's words are to be taken, or it takes none
abbrev pub behind_turn : {T : Type 0} → Party → Layout → Step T → Far → Far
behind_turn v l s far = if takes_none (takes_at v l s far.stages) then behind_stage (stage_count v l s) far else record far { turned = true }

abbrev pub far_turned : {T : Type 0} → CoreView T → Option (Step T) → Far
far_turned c None = c.far
far_turned c (Some s) = behind_turn c.party (layout_here c) s c.far

abbrev pub far_taken : {T : Type 0} → CoreView T → Option (Step T) → Far
far_taken c None = c.far
far_taken c (Some s) = behind_stage (stage_count c.party (layout_here c) s) c.far

-- a core behind a turn
abbrev pub turned_on : {T : Type 0} → CoreView T → CoreView T
turned_on c = record c { far = far_turned c (next_step c) }

-- more words of a party
abbrev pub with_words : Given → Party → List ℕ → Given
with_words g p words = record g { received = put p (at p g.received ++ words) g.received }

-- a core behind the words of a stage
abbrev pub took : {T : Type 0} → CoreView T → Party → List ℕ → CoreView T
took c p words = record c { given = with_words c.given p words; far = far_taken c (next_step c) }
