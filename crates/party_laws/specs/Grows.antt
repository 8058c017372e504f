-- One party's part on words that came, honest or not, and on the same words with more behind them.
use Rattle.std.specs.Prelude.{◌≡◌, ℕ, ◌≤◌, Bool, true, false, Option, Some, None, List}
use Rattle.lanes.specs.declared.party.Party.{Party}
use Rattle.lanes.specs.declared.three.Three.{Three}
use Rattle.lanes.specs.Three.{at}
use Rattle.tapes.specs.declared.draw.Draw.{Draw}
use Rattle.step_lists.specs.Layout.{Steps}
use Rattle.step_lists.specs.Draws.{joined}
use Rattle.step_lists.specs.Part.{Part, Early, UsedUp, NoOrder, part_of}
use Rattle.party_laws.specs.InMachine.{GoesOn}

-- whether a part ended early for want of words
abbrev pub lacks_words : Option Early → Bool
lacks_words None = false
lacks_words (Some (UsedUp p)) = true
lacks_words (Some (NoOrder p)) = false

-- the second part has sent what the first one sent, and maybe more, and has taken no less; unless the first one lacks
-- words, they are the same part
pub record GrowsTo (a b : Part) : Type 0 where
  pub sent : GoesOn a.sent b.sent
  pub taken : (p : Party) → at p a.taken ≤ at p b.taken
  pub same : lacks_words a.early ≡ false → b ≡ a

-- a part grows with the words that come, whatever they are
abbrev pub PartsGrow : {T : Type 0} → (T → List (List ℕ) → List (List ℕ)) → Type 0
PartsGrow {T} answer =
    (v : Party) (list : Steps T) (slots : List (List ℕ)) (own following : List Draw) (words more : Three (List ℕ))
    → GrowsTo (part_of answer v list slots (record { own = own; following = following; received = words }))
    (part_of answer v list slots (record { own = own; following = following; received = joined words more }))
