-- What each step draws from the three tapes: the schedule, and the words and orders in some draws.
use Rattle.std.specs.Prelude.{ℕ, ◌*◌, List, [], ◌∷◌, ◌++◌, length, take, drop, replicate}
use Rattle.lanes.specs.declared.party.Party.{Party}
use Rattle.lanes.specs.declared.party.Party.TheVariants.{First, Second, Third}
use Rattle.lanes.specs.declared.three.Three.{Three}
use Rattle.lanes.specs.Party.{next, before}
use Rattle.lanes.specs.Three.{at, put}
use Rattle.tapes.specs.declared.draw.Need.{Need}
use Rattle.tapes.specs.declared.draw.Need.TheVariants.{Word as NeedsWord, OrderOf}
use Rattle.tapes.specs.declared.draw.Draw.{Draw}
use Rattle.tapes.specs.declared.draw.Draw.TheVariants.{Word, Order}
use Rattle.step_lists.specs.Layout.{Step, Const, Lin, And, Share, Reveal, Steer, Tell, Work, Flag, Steps, Layout, party_of, grown, starting, length_of, words_in_slot, rows_moved}

-- the draws of the three tapes
abbrev pub ThreeTapes : Type 0
ThreeTapes = Three (List Draw)

-- a value for each party, by a function of the party
abbrev pub parties : {A : Type 0} → (Party → A) → Three A
parties f = record { first = f First; second = f Second; third = f Third }

-- lists of the three parties, one behind the other
abbrev pub joined : {A : Type 0} → Three (List A) → Three (List A) → Three (List A)
joined x y = record { first = x.first ++ y.first; second = x.second ++ y.second; third = x.third ++ y.third }

abbrev pub nothing : {A : Type 0} → Three (List A)
nothing = record { first = []; second = []; third = [] }

-- ---- the schedule

-- a word of one tape for each of n, and an order of n
abbrev pub needs_words : Party → ℕ → Three (List Need)
needs_words p n = put p (replicate n NeedsWord) nothing

abbrev pub needs_order : Party → ℕ → Three (List Need)
needs_order p n = put p (OrderOf n ∷ []) nothing

-- a word of each tape for each of n
abbrev pub needs_each : ℕ → Three (List Need)
needs_each n = parties (λ p. replicate n NeedsWord)

-- the masks of a phase of n words: tape j - 1 masks what party j takes, tape j + 1 what it gives back
abbrev pub needs_masks : Party → ℕ → Three (List Need)
needs_masks j n = joined (needs_words (before j) n) (needs_words (next j) n)

-- a phase whose order is drawn, on m registers of n rows
abbrev pub needs_phase : Party → ℕ → ℕ → Three (List Need)
needs_phase j m n = joined (needs_order j n) (needs_masks j (m * n))

abbrev pub needs_reveal : ℕ → ℕ → Three (List Need)
needs_reveal m n = joined (needs_phase First m n) (joined (needs_phase Second m n) (needs_phase Third m n))

abbrev pub needs_steer : Party → ℕ → ℕ → Three (List Need)
needs_steer p m n = joined (needs_phase (next p) m n) (needs_masks p (m * n))

-- what a step draws of each tape
abbrev pub needs_of : {T : Type 0} → Layout → Step T → Three (List Need)
needs_of l (Const words) = nothing
needs_of l (Lin op) = nothing
needs_of l (And left right) = needs_each (length_of l left)
needs_of l (Share party slot) =
    joined (needs_words (party_of party) (words_in_slot l (party_of party) slot)) (needs_words (next (party_of party)) (words_in_slot l (party_of party) slot))
needs_of l (Reveal to moved shown) = needs_reveal (length moved) (rows_moved l moved)
needs_of l (Steer by slot moved) = needs_steer (party_of by) (length moved) (rows_moved l moved)
needs_of l (Tell source target slot) = nothing
needs_of l (Work party task takes gives) = nothing
needs_of l (Flag party slot) = nothing

-- the schedule of some steps at one tape: the needs of the steps in order
abbrev pub needs : {T : Type 0} → Party → Layout → List (Step T) → List Need
needs p l [] = []
needs p l (s ∷ ss) = at p (needs_of l s) ++ needs p (grown l s) ss

-- the schedule of a list
abbrev pub schedule_of : {T : Type 0} → Steps T → Three (List Need)
schedule_of list = parties (λ p. needs p (starting list.first) list.steps)

-- ---- some draws

-- their words, in order
abbrev pub words_in : List Draw → List ℕ
words_in [] = []
words_in (Word w ∷ ds) = w ∷ words_in ds
words_in (Order o ∷ ds) = words_in ds

-- their first order
abbrev pub order_in : List Draw → List ℕ
order_in [] = []
order_in (Word w ∷ ds) = order_in ds
order_in (Order o ∷ ds) = o

-- the first draws of each tape, as many as there are needs, and what is left of them
abbrev pub taken : Three (List Need) → ThreeTapes → ThreeTapes
taken ns ds = record {
  first = take (length ns.first) ds.first;
  second = take (length ns.second) ds.second;
  third = take (length ns.third) ds.third;
}

abbrev pub dropped : Three (List Need) → ThreeTapes → ThreeTapes
dropped ns ds = record {
  first = drop (length ns.first) ds.first;
  second = drop (length ns.second) ds.second;
  third = drop (length ns.third) ds.third;
}
