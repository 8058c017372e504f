-- What goes between the parties: words below 2 ^ 64, and nothing from a party to itself.
use Rattle.std.specs.Prelude.{◌≡◌, ℕ, Bool, List, []}
use Rattle.lanes.specs.declared.party.Party.{Party}
use Rattle.lanes.specs.Word.{AreWords}
use Rattle.step_lists.specs.declared.step.Shape.{Shape}
use Rattle.step_lists.specs.Layout.{Steps}
use Rattle.step_lists.specs.Draws.{ThreeTapes}
use Rattle.step_lists.specs.Rules.{IsWellFormed}
use Rattle.step_lists.specs.Open.{SlotWords}
use Rattle.step_lists.specs.Phases.{Links, link}
use Rattle.step_lists.specs.Machine.{joint_of}
use Rattle.step_lists.specs.Possible.{Fits}

-- the words on each link
abbrev pub AreWordsOn : Links → Type 0
AreWordsOn links = (q v : Party) → AreWords (link q v links)

-- for every well-formed list, and all slots and tapes that fit it, also where it stops
abbrev pub LinksHaveWords : {T : Type 0} → (T → List Shape → List Shape → Bool) → (T → List (List ℕ) → List (List ℕ)) → Type 0
LinksHaveWords {T} accepts answer =
    (list : Steps T) (slots : SlotWords) (ds : ThreeTapes) → IsWellFormed accepts list → Fits list slots ds → AreWordsOn (joint_of answer list slots ds).links

abbrev pub OwnLinksAreEmpty : {T : Type 0} → (T → List Shape → List Shape → Bool) → (T → List (List ℕ) → List (List ℕ)) → Type 0
OwnLinksAreEmpty {T} accepts answer =
    (list : Steps T) (slots : SlotWords) (ds : ThreeTapes) → IsWellFormed accepts list → (v : Party) → link v v (joint_of answer list slots ds).links ≡ []
