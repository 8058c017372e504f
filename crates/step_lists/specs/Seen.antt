-- What is opened to a party: the rows of a Reveal to it, before they are moved, the words told to it, and each flag.
use Rattle.std.specs.Prelude.{◌≡◌, ℕ, Bool, true, false, List, [], ◌∷◌, map, if◌then◌else◌}
use Rattle.bags.specs.Bag.{SameBag}
use Rattle.tapes.specs.RowLaws.{rows_across}
use Rattle.lanes.specs.declared.party.Party.{Party}
use Rattle.lanes.specs.declared.party.Party.TheVariants.{First, Second, Third}
use Rattle.step_lists.specs.Layout.{Step, Const, Lin, And, Share, Reveal, Steer, Tell, Work, Flag, Steps, Layout, party_of, starting, rows_moved, layout_of}
use Rattle.step_lists.specs.Draws.{ThreeTapes}
use Rattle.step_lists.specs.Run.{outs, tape_cut, rest_after}
use Rattle.step_lists.specs.Open.{Open, SlotWords, item, register, slot, open_going, opening, open_of}

pub data Seen : Type 0 where
  Rows : List (List ℕ) → Seen
  Told : List ℕ → Seen
  Flagged : List ℕ → Seen

-- the shown ones of the moved items
abbrev pub shown_of : List (List ℕ) → List ℕ → List (List ℕ)
shown_of moved shown = map (item moved) shown

abbrev pub same_party : Party → Party → Bool
same_party First First = true
same_party Second Second = true
same_party Third Third = true
same_party _ _ = false

abbrev pub only : {X : Type 0} → Bool → X → List X
only b x = if b then x ∷ [] else []

abbrev pub seen_step : {T : Type 0} → Party → Layout → Open → Step T → List Seen
seen_step v l o (Const words) = []
seen_step v l o (Lin op) = []
seen_step v l o (And left right) = []
seen_step v l o (Share party s) = []
seen_step v l o (Reveal to moved shown) = only (same_party v (party_of to)) (Rows (rows_across (rows_moved l moved) (shown_of (map (register o) moved) shown)))
seen_step v l o (Steer by s moved) = []
seen_step v l o (Tell source target s) = only (same_party v (party_of target)) (Told (slot o (party_of source) s))
seen_step v l o (Work party task takes gives) = []
seen_step v l o (Flag party s) = Flagged (slot o (party_of party) s) ∷ []

-- nothing is seen after a stop
abbrev pub seen_going : {T : Type 0} → Party → Layout → Open → Step T → ThreeTapes → List Seen
seen_going v l o s ds = if o.stop then [] else seen_step v l o s

module _ {T : Type 0} (answer : T → List (List ℕ) → List (List ℕ)) where
  abbrev pub seen_from : Party → Layout → Open → List (Step T) → ThreeTapes → List Seen
  seen_from v l o ss ds = outs (open_going answer) (seen_going v) tape_cut l o ss ds

  -- what a list shows a party
  abbrev pub seen : Party → Steps T → SlotWords → ThreeTapes → List Seen
  seen v list slots ds = seen_from v (starting list.first) (opening slots) list.steps ds

  -- what more steps behind a list show
  abbrev pub seen_behind : Party → Steps T → List (Step T) → SlotWords → ThreeTapes → List Seen
  seen_behind v list more slots ds =
      seen_from v (layout_of list) (open_of answer list slots ds) more (rest_after tape_cut (starting list.first) list.steps ds)

-- rows as bags, words as lists
pub data Alike : Seen → Seen → Type 0 where
  same_rows : {a b : List (List ℕ)} → SameBag a b → Alike (Rows a) (Rows b)
  same_told : {a b : List ℕ} → a ≡ b → Alike (Told a) (Told b)
  same_flag : {a b : List ℕ} → a ≡ b → Alike (Flagged a) (Flagged b)

pub data AreAlike : List Seen → List Seen → Type 0 where
  none : AreAlike [] []
  also : {x y : Seen} {xs ys : List Seen} → Alike x y → AreAlike xs ys → AreAlike (x ∷ xs) (y ∷ ys)
