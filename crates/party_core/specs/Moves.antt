-- How many moves a party makes, by the layout alone: turns, and words that it takes.
use Rattle.std.specs.Prelude.{ℕ, ◌+◌, ◌-◌, Bool, List, [], ◌∷◌, drop, sum, if◌then◌else◌}
use Rattle.lanes.specs.declared.party.Party.{Party}
use Rattle.lanes.specs.declared.three.Three.{Three}
use Rattle.step_lists.specs.declared.step.Step.{Step}
use Rattle.step_lists.specs.Layout.{Layout, grown}
use Rattle.step_lists.specs.Part.{stage_takes}
use Rattle.party_core.specs.Stages.{waits_at_once, takes_none}
use Rattle.party_core.specs.CoreView.{CoreView, steps_left, layout_here}

-- the moves of a stage: a turn, or its words at once, or a turn and then its words
abbrev pub stage_moves : Bool → Three ℕ → ℕ
stage_moves at_once n = if takes_none n then 1 else (if at_once then 1 else 2)

abbrev pub moves_of_stages : List Bool → List (Three ℕ) → List ℕ
moves_of_stages [] ns = []
moves_of_stages (w ∷ ws) [] = []
moves_of_stages (w ∷ ws) (n ∷ ns) = stage_moves w n ∷ moves_of_stages ws ns

-- the moves of a step, stage by stage; a step without stages is one turn
abbrev pub or_one : List ℕ → List ℕ
or_one [] = 1 ∷ []
or_one (n ∷ ns) = n ∷ ns

abbrev pub step_moves : {T : Type 0} → Party → Layout → Step T → List ℕ
step_moves v l s = or_one (moves_of_stages (waits_at_once v s) (stage_takes v l s))

abbrev pub moves_behind : {T : Type 0} → Party → Layout → List (Step T) → ℕ
moves_behind v l [] = 0
moves_behind v l (s ∷ ss) = sum (step_moves v l s) + moves_behind v (grown l s) ss

-- the moves of a core from where it is to the end of its list
abbrev pub moves_from : {T : Type 0} → CoreView T → List (Step T) → ℕ
moves_from c [] = 0
moves_from c (s ∷ ss) =
    (sum (drop c.far.stages (step_moves c.party (layout_here c) s)) + moves_behind c.party (grown (layout_here c) s) ss) - (if c.far.turned then 1 else 0)

abbrev pub moves_left : {T : Type 0} → CoreView T → ℕ
moves_left c = moves_from c (steps_left c)
