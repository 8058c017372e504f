-- A core is the part of its party: what it was before its next move is the whole part on the words that came, up to where
-- that ends early; and what was sent begins what the whole part sends.
use Rattle.std.specs.Prelude.{◌≡◌, ℕ, Bool, true, Some, List, ◌++◌, length}
use Rattle.lanes.specs.declared.party.Party.{Party}
use Rattle.lanes.specs.Three.{at}
use Rattle.step_lists.specs.declared.step.Shape.{Shape}
use Rattle.step_lists.specs.Layout.{party_of}
use Rattle.step_lists.specs.Part.{Part, UsedUp, NoOrder, part_of}
use Rattle.party_core.specs.declared.want.Want.TheVariants.{Words, Done, Stopped}
use Rattle.party_core.specs.CoreView.{CoreView, with_words}
use Rattle.party_core.specs.Core.{part_so_far, sent_so_far, taken_so_far, want_of, breaks_order}
use Rattle.party_core.specs.Reached.{IsReached}

-- the part of the whole list on the words that came
abbrev pub whole : {T : Type 0} → (T → List (List ℕ) → List (List ℕ)) → CoreView T → Part
whole answer c = part_of answer c.party c.list c.slots c.given

pub record Begins (xs ys : List ℕ) : Type 0 where
  pub rest : List ℕ
  pub is : ys ≡ xs ++ rest

pub record CoresAreParts {T : Type 0} (accepts : T → List Shape → List Shape → Bool) (answer : T → List (List ℕ) → List (List ℕ)) : Type 0 where
  -- at every moment
  pub sends : (c : CoreView T) → IsReached accepts answer c → (p : Party) → Begins (at p (sent_so_far answer c)) (at p (whole answer c).sent)
  -- where it wants words, they are what the part lacks
  pub waits : (c : CoreView T) (q n : ℕ) → IsReached accepts answer c → want_of answer c ≡ Words q n
      → whole answer c ≡ record (part_so_far answer c) { sent = sent_so_far answer c; taken = taken_so_far answer c; early = Some (UsedUp (party_of q)) }
  -- where it is done or stopped, so is the part
  pub ends : (c : CoreView T) → IsReached accepts answer c → want_of answer c ≡ Done
      → whole answer c ≡ record (part_so_far answer c) { sent = sent_so_far answer c; taken = taken_so_far answer c }
  pub stops : (c : CoreView T) (flag : ℕ) → IsReached accepts answer c → want_of answer c ≡ Stopped flag
      → whole answer c ≡ record (part_so_far answer c) { sent = sent_so_far answer c; taken = taken_so_far answer c }
  -- words that complete a private order that isn't one end the part
  pub refuses : (c : CoreView T) (q n : ℕ) (words : List ℕ) → IsReached accepts answer c → want_of answer c ≡ Words q n → length words ≡ n
      → breaks_order c (party_of q) words ≡ true
      → (part_of answer c.party c.list c.slots (with_words c.given (party_of q) words)).early ≡ Some (NoOrder (party_of q))
