-- All that is opened to a party, up to the flag that stops.
use Rattle.std.specs.Prelude.{◌≡◌, ℕ, ◌==◌, Bool, true, false, List, [], ◌∷◌, slice_index, if◌then◌else◌}
use Rattle.lanes.specs.declared.party.Party.{Party}
use Rattle.step_lists.specs.Draws.{ThreeTapes}
use Rattle.step_lists.specs.Layout.{Steps}
use Rattle.step_lists.specs.Open.{SlotWords, open_of}
use Rattle.step_lists.specs.Possible.{Fits}
use Rattle.step_lists.specs.Seen.{Seen, Rows, Told, Flagged, AreAlike, seen}

-- up to and with the first flag whose word isn't 0
abbrev pub up_to_flag : List Seen → List Seen
up_to_flag [] = []
up_to_flag (Rows rows ∷ xs) = Rows rows ∷ up_to_flag xs
up_to_flag (Told words ∷ xs) = Told words ∷ up_to_flag xs
up_to_flag (Flagged words ∷ xs) = Flagged words ∷ (if slice_index words 0 == 0 then up_to_flag xs else [])

-- whether there is one
abbrev pub has_stop : List Seen → Bool
has_stop [] = false
has_stop (Rows rows ∷ xs) = has_stop xs
has_stop (Told words ∷ xs) = has_stop xs
has_stop (Flagged words ∷ xs) = if slice_index words 0 == 0 then has_stop xs else true

-- in each world, loaded into the first slots, and under all tapes that fit: what a party sees is what is wanted up to the
-- flag that stops, and the run stops exactly where there is one
pub record Traced {T W : Type 0} (answer : T → List (List ℕ) → List (List ℕ)) (load : W → SlotWords) (list : Steps T) (want : W → Party → List Seen) : Type 0 where
  pub seen_is : (w : W) (ds : ThreeTapes) → Fits list (load w) ds → (v : Party) → AreAlike (seen answer v list (load w) ds) (up_to_flag (want w v))
  pub stop_is : (w : W) (ds : ThreeTapes) → Fits list (load w) ds → (v : Party) → (open_of answer list (load w) ds).stop ≡ has_stop (want w v)
