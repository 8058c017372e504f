-- What pieces of a list add, one behind the other.
use Rattle.std.specs.Prelude.{◌≡◌, ℕ, ◌+◌, ◌≤◌, Bool, IsTrue, List, [], ◌∷◌, ◌++◌}
use Rattle.lanes.specs.declared.party.Party.{Party}
use Rattle.step_lists.specs.declared.step.Step.{Step}
use Rattle.step_lists.specs.Draws.{ThreeTapes}
use Rattle.step_lists.specs.Layout.{Steps, layout_of}
use Rattle.step_lists.specs.Open.{SlotWords, open_of}
use Rattle.step_lists.specs.Possible.{Possible, ands_of, behind}
use Rattle.step_lists.specs.Seen.{AreAlike, Seen, seen_step}
use Rattle.emit.specs.Adds.{Adds, wants_nothing}

-- over all slots: no piece adds nothing; one step adds itself, and shows what is wanted where that is what a party sees of
-- it; of two pieces the AND words add up, and what the second shows is seen behind what the first shows; and a piece may
-- be told with more kinds and more AND words, and with what it shows by another name
pub record PiecesAddUp {T : Type 0} (answer : T → List (List ℕ) → List (List ℕ)) : Type 0 where
  pub none : (a : Steps T) (may : Step T → Bool) → Adds answer (λ (slots : SlotWords). slots) a a may 0 wants_nothing
  pub step : (a : Steps T) (s : Step T) (may : Step T → Bool) (want : SlotWords → Party → List Seen) → IsTrue (may s)
      → ((slots : SlotWords) (ds : ThreeTapes) → Possible answer (behind a (s ∷ [])) slots ds → (v : Party)
      → AreAlike (seen_step v (layout_of a) (open_of answer a slots ds) s) (want slots v))
      → Adds answer (λ (slots : SlotWords). slots) a (behind a (s ∷ [])) may (ands_of (layout_of a) s) want
  pub joined : (a b c : Steps T) (may : Step T → Bool) (m n : ℕ) (want later : SlotWords → Party → List Seen)
      → Adds answer (λ (slots : SlotWords). slots) a b may m want → Adds answer (λ (slots : SlotWords). slots) b c may n later
      → Adds answer (λ (slots : SlotWords). slots) a c may (m + n) (λ slots v. want slots v ++ later slots v)
  pub wider : (a b : Steps T) (may wide : Step T → Bool) (m n : ℕ) (want : SlotWords → Party → List Seen)
      → ((s : Step T) → IsTrue (may s) → IsTrue (wide s)) → m ≤ n
      → Adds answer (λ (slots : SlotWords). slots) a b may m want → Adds answer (λ (slots : SlotWords). slots) a b wide n want
  pub same : (a b : Steps T) (may : Step T → Bool) (n : ℕ) (want other : SlotWords → Party → List Seen)
      → ((slots : SlotWords) (v : Party) → want slots v ≡ other slots v)
      → Adds answer (λ (slots : SlotWords). slots) a b may n want → Adds answer (λ (slots : SlotWords). slots) a b may n other
