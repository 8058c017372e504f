-- Two worlds that the viewer tells apart by what is opened to it: the first step at which that isn't alike.
use Rattle.std.specs.Prelude.{◌≡◌, ℕ, List, [], ◌∷◌, map, take, drop}
use Rattle.lanes.specs.declared.party.Party.{Party}
use Rattle.step_lists.specs.Layout.{Steps}
use Rattle.step_lists.specs.Draws.{ThreeTapes}
use Rattle.step_lists.specs.Open.{SlotWords}
use Rattle.step_lists.specs.Seen.{Seen, Rows, Told, Flagged, Alike, AreAlike, seen, seen_behind}
use Rattle.step_lists.specs.Twin.{twin_tapes}

-- the first k steps of a list
abbrev pub front : {T : Type 0} → ℕ → Steps T → Steps T
front k list = record { first = list.first; steps = take k list.steps }

-- what step k, counted from 0, shows a party
abbrev pub seen_at : {T : Type 0} → (T → List (List ℕ) → List (List ℕ)) → Party → Steps T → ℕ → SlotWords → ThreeTapes → List Seen
seen_at answer v list k slots ds = seen_behind answer v (front k list) (take 1 (drop k list.steps)) slots ds

-- what is seen as rows: of words that are told or flagged each is a row of one word
abbrev pub rows_seen : Seen → List (List ℕ)
rows_seen (Rows rows) = rows
rows_seen (Told words) = map (λ w. w ∷ []) words
rows_seen (Flagged words) = map (λ w. w ∷ []) words

-- before step k what is seen in both worlds is alike, and at step k it isn't: one rows in the first world under the
-- tapes, and other rows in the second under their twin
pub record IsApart {T : Type 0} (answer : T → List (List ℕ) → List (List ℕ)) (v : Party) (list : Steps T) (one other : SlotWords) (ds : ThreeTapes)
    (k : ℕ) (rows others : List (List ℕ)) : Type 0 where
  pub before : AreAlike (seen answer v (front k list) one ds) (seen answer v (front k list) other (twin_tapes answer v list one other ds))
  pub first : Seen
  pub second : Seen
  pub first_is : seen_at answer v list k one ds ≡ first ∷ []
  pub second_is : seen_at answer v list k other (twin_tapes answer v list one other ds) ≡ second ∷ []
  pub differ : ¬ Alike first second
  pub first_rows : rows ≡ rows_seen first
  pub second_rows : others ≡ rows_seen second
