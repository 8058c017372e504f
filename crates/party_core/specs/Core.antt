-- A core as the part of one party, so far: what it has, what it has sent and taken, what it wants, and what is left.
use Rattle.std.specs.Prelude.{ℕ, ◌^◌, ◌-◌, ◌==◌, min, Bool, false, not, ◌||◌, List, [], take, drop, Option, Some, None, slice_index_or, if◌then◌else◌}
use Rattle.lanes.specs.declared.party.Party.{Party}
use Rattle.lanes.specs.declared.three.Three.{Three}
use Rattle.step_lists.specs.declared.step.Step.{Step}
use Rattle.step_lists.specs.Layout.{Layout}
use Rattle.step_lists.specs.Draws.{nothing, joined}
use Rattle.step_lists.specs.Part.{Part, part_of, stage_sends, stage_takes, all_sent, more_taken, count_from, takes_bad_order}
use Rattle.party_core.specs.declared.want.Want.{Want}
use Rattle.party_core.specs.declared.want.Want.TheVariants.{Turn, Words, Done, Stopped}
use Rattle.party_core.specs.Stages.{takes_at, waits_at, stages_behind}
use Rattle.party_core.specs.CoreView.{CoreView, Far, steps_done, steps_left, next_step, layout_here, given_for, stages_begun, took}

-- words of the one party of which a stage takes any, or a turn where it takes none
abbrev pub words_or_turn : Three ℕ → Want
words_or_turn n =
    if not (n.first == 0) then Words 1 n.first
    else (if not (n.second == 0) then Words 2 n.second
    else (if not (n.third == 0) then Words 3 n.third else Turn))

-- in a stage: a turn first, and then its words; the words at once where the party sends nothing
abbrev pub stage_want : {T : Type 0} → Party → Layout → Step T → Far → Want
stage_want v l s far = if far.turned || waits_at v s far.stages then words_or_turn (takes_at v l s far.stages) else Turn

abbrev pub step_want : {T : Type 0} → CoreView T → Option (Step T) → Want
step_want c None = Done
step_want c (Some s) = stage_want c.party (layout_here c) s c.far

-- these words complete a private order that isn't one
abbrev pub breaks_order_in : {T : Type 0} → CoreView T → Option (Step T) → Bool
breaks_order_in c None = false
breaks_order_in c (Some s) = takes_bad_order c.party (layout_here c) s (given_for c s)

abbrev pub breaks_order : {T : Type 0} → CoreView T → Party → List ℕ → Bool
breaks_order c p words = breaks_order_in (record (took c p words) { far = c.far }) (next_step c)

module _ {T : Type 0} (answer : T → List (List ℕ) → List (List ℕ)) where
  -- the part behind the steps that are done: its pairs, its slots, its flags and its stop
  abbrev pub part_so_far : CoreView T → Part
  part_so_far c = part_of answer c.party (steps_done c) c.slots c.given

  -- ---- what it has sent and taken: that of the steps that are done, and that of the stages of the next one

  -- what is sent in each stage of the next step
  abbrev pub sends_in : CoreView T → Option (Step T) → List (Three (List ℕ))
  sends_in c None = []
  sends_in c (Some s) = stage_sends c.party (layout_here c) (part_so_far c) s (given_for c s)

  abbrev pub takes_in : CoreView T → Option (Step T) → List (Three ℕ)
  takes_in c None = []
  takes_in c (Some s) = stage_takes c.party (layout_here c) s

  abbrev pub sent_so_far : CoreView T → Three (List ℕ)
  sent_so_far c = joined (part_so_far c).sent (all_sent (take (stages_begun c.far) (sends_in c (next_step c))))

  abbrev pub taken_so_far : CoreView T → Three ℕ
  taken_so_far c = more_taken (part_so_far c).taken (take c.far.stages (takes_in c (next_step c)))

  -- what the next turn sends
  abbrev pub turn_sends : CoreView T → Three (List ℕ)
  turn_sends c = slice_index_or (sends_in c (next_step c)) c.far.stages nothing

  -- ---- what it wants

  abbrev pub want_of : CoreView T → Want
  want_of c = if (part_so_far c).stop then Stopped (part_so_far c).flags else step_want c (next_step c)

  -- how many words of a party the rest of the list takes where no flag stops it; none behind a stop
  abbrev pub still_to_come : CoreView T → Party → ℕ
  still_to_come c p = if (part_so_far c).stop then 0 else count_from p (drop c.far.stages (stages_behind c.party (layout_here c) (steps_left c)))

  -- the same as a word, the greatest one where it is more
  abbrev pub left_of : CoreView T → Party → ℕ
  left_of c p = min (still_to_come c p) (2 ^ 64 - 1)
