-- How a core keeps what it has: vectors seen as lists, the part without what was sent and taken, and the stages of a step
-- by how many words it is about.
use Rattle.std.specs.Prelude.{ℕ, ◌*◌, not, Bool, List, [], ◌∷◌, Vec, None, length, take}
use Rattle.std.specs.Global.{Global}
use Rattle.lanes.specs.declared.party.Party.{Party}
use Rattle.lanes.specs.declared.party.Party.TheVariants.{First, Second, Third}
use Rattle.lanes.specs.declared.three.Three.{Three}
use Rattle.lanes.specs.Party.{next, before}
use Rattle.lanes.specs.Three.{each}
use Rattle.step_lists.specs.Draws.{nothing}
use Rattle.step_lists.specs.declared.step.Step.{Step}
use Rattle.step_lists.specs.declared.step.Step.TheVariants.{Const, Lin, And, Share, Reveal, Steer, Tell, Work, Flag}
use Rattle.step_lists.specs.Layout.{Steps, Layout, party_of, layout_of, length_of, words_in_slot, rows_moved}
use Rattle.step_lists.specs.Part.{Pair, Part, takes_nothing, takes_from, when, phase_takes}
use Rattle.step_lists.specs.Seen.{same_party}

abbrev pub lists : Three (Vec ℕ Global) → Three (List ℕ)
lists x = each (λ v. v.items) x

-- a part that has sent and taken nothing
abbrev pub kept : List Pair → List (List ℕ) → ℕ → Bool → Part
kept pairs slots flags stop = record { pairs = pairs; slots = slots; sent = nothing; taken = takes_nothing; flags = flags; stop = stop; early = None }

-- the layout before the step of a place
abbrev pub layout_at : {T : Type 0} → Steps T → ℕ → Layout
layout_at list k = layout_of (record { first = list.first; steps = take k list.steps })

-- how many words each register or slot has that a step is about
abbrev pub rows_of : {T : Type 0} → Layout → Step T → ℕ
rows_of l (Const words) = 0
rows_of l (Lin op) = 0
rows_of l (And left right) = length_of l left
rows_of l (Share party s) = words_in_slot l (party_of party) s
rows_of l (Reveal to moved shown) = rows_moved l moved
rows_of l (Steer by s moved) = rows_moved l moved
rows_of l (Tell source target s) = words_in_slot l (party_of source) s
rows_of l (Work party task takes gives) = 0
rows_of l (Flag party s) = 1

-- what a party takes in each stage of a Reveal, and of a Steer, by the words of a phase and those of the other stage
abbrev pub takes_in_reveal : Party → Party → ℕ → ℕ → List (Three ℕ)
takes_in_reveal v q words shown =
    phase_takes v First words ∷ phase_takes v Second words ∷ phase_takes v Third words ∷ when (same_party v q) (takes_from (next q) shown) ∷ []

abbrev pub takes_in_steer : Party → Party → ℕ → ℕ → List (Three ℕ)
takes_in_steer v p words rows = when (same_party v (before p)) (takes_from p rows) ∷ phase_takes v (next p) words ∷ phase_takes v p words ∷ []

-- what a party takes in each stage of a step that is about so many words
abbrev pub takes_by : {T : Type 0} → Party → Step T → ℕ → List (Three ℕ)
takes_by v (Const words) n = []
takes_by v (Lin op) n = []
takes_by v (And left right) n = takes_from (next v) n ∷ []
takes_by v (Share party s) n = when (not (same_party v (party_of party))) (takes_from (party_of party) n) ∷ []
takes_by v (Reveal to moved shown) n = takes_in_reveal v (party_of to) (length moved * n) (length shown * n)
takes_by v (Steer by s moved) n = takes_in_steer v (party_of by) (length moved * n) n
takes_by v (Tell source target s) n = when (same_party v (party_of target)) (takes_from (party_of source) n) ∷ []
takes_by v (Work party task takes gives) n = []
takes_by v (Flag party s) n = when (not (same_party v (party_of party))) (takes_from (party_of party) 1) ∷ []
