-- The stages of a step at one party, by the layout alone: what it takes in each, and whether it waits there at once.
use Rattle.std.specs.Prelude.{ℕ, ◌==◌, Bool, false, not, ◌&&◌, List, [], ◌∷◌, ◌++◌, length, slice_index_or}
use Rattle.lanes.specs.declared.party.Party.{Party}
use Rattle.lanes.specs.declared.three.Three.{Three}
use Rattle.lanes.specs.Party.{before}
use Rattle.step_lists.specs.declared.step.Step.{Step}
use Rattle.step_lists.specs.declared.step.Step.TheVariants.{Const, Lin, And, Share, Reveal, Steer, Tell, Work, Flag}
use Rattle.step_lists.specs.Layout.{Layout, party_of, grown}
use Rattle.step_lists.specs.Seen.{same_party}
use Rattle.step_lists.specs.Part.{takes_nothing, stage_takes}

-- whether a party sends nothing in a stage and only takes words, where there are any; in an And and in a phase each party
-- makes a turn first
abbrev pub waits_at_once : {T : Type 0} → Party → Step T → List Bool
waits_at_once v (Const words) = []
waits_at_once v (Lin op) = []
waits_at_once v (And left right) = false ∷ []
waits_at_once v (Share party slot) = not (same_party v (party_of party)) ∷ []
waits_at_once v (Reveal to moved shown) = false ∷ false ∷ false ∷ same_party v (party_of to) ∷ []
waits_at_once v (Steer by slot moved) = same_party v (before (party_of by)) ∷ false ∷ false ∷ []
waits_at_once v (Tell source target slot) = same_party v (party_of target) ∷ []
waits_at_once v (Work party task takes gives) = []
waits_at_once v (Flag party slot) = not (same_party v (party_of party)) ∷ []

-- the same of the stage of a number
abbrev pub waits_at : {T : Type 0} → Party → Step T → ℕ → Bool
waits_at v s i = slice_index_or (waits_at_once v s) i false

-- the words of each party that are taken in the stage of a number: of one party at most
abbrev pub takes_at : {T : Type 0} → Party → Layout → Step T → ℕ → Three ℕ
takes_at v l s i = slice_index_or (stage_takes v l s) i takes_nothing

abbrev pub takes_none : Three ℕ → Bool
takes_none n = (n.first == 0) && (n.second == 0) && (n.third == 0)

abbrev pub stage_count : {T : Type 0} → Party → Layout → Step T → ℕ
stage_count v l s = length (stage_takes v l s)

-- what is taken in the stages of several steps
abbrev pub stages_behind : {T : Type 0} → Party → Layout → List (Step T) → List (Three ℕ)
stages_behind v l [] = []
stages_behind v l (s ∷ ss) = stage_takes v l s ++ stages_behind v (grown l s) ss
