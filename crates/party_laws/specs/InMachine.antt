-- The part of one party in the joint machine: what the machine has, sends and stops at, cut to that party.
use Rattle.std.specs.Prelude.{◌≡◌, ℕ, Bool, false, None, List, length, map}
use Rattle.lanes.specs.declared.party.Party.{Party}
use Rattle.lanes.specs.declared.three.Three.{Three}
use Rattle.lanes.specs.Party.{next}
use Rattle.lanes.specs.Three.{at, each}
use Rattle.step_lists.specs.declared.step.Shape.{Shape}
use Rattle.step_lists.specs.Layout.{Steps, starting}
use Rattle.step_lists.specs.Draws.{ThreeTapes, parties, joined}
use Rattle.step_lists.specs.Rules.{IsWellFormed}
use Rattle.step_lists.specs.Run.{tape_cut, rest_after}
use Rattle.step_lists.specs.Open.{SlotWords}
use Rattle.step_lists.specs.Phases.{Shares, Links, link}
use Rattle.step_lists.specs.Machine.{Machine, joint_of}
use Rattle.step_lists.specs.Possible.{Fits}
use Rattle.step_lists.specs.Part.{Pair, Part, Given, part_cut, part_of}

-- of three shares those that party v holds
abbrev pub pair_of : Party → Shares → Pair
pair_of v s = record { own = at v s; following = at (next v) s }

-- the words on the links to v, by their source
abbrev pub received_by : Party → Links → Three (List ℕ)
received_by v links = parties (λ p. link p v links)

-- the machine cut to party v, with these words sent and so many taken
abbrev pub held : Party → Machine → Three (List ℕ) → Three ℕ → Part
held v m sent taken = record {
  pairs = map (pair_of v) m.registers;
  slots = at v m.slots;
  sent = sent;
  taken = taken;
  flags = m.flags;
  stop = m.stop;
  early = None;
}

-- the machine cut to party v: it has sent what is on the links from it, and taken what is on those to it
abbrev pub part_in : Party → Machine → Part
part_in v m = held v m (at v m.links) (each length (received_by v m.links))

-- lists of which each goes on behind another one
pub record GoesOn (few more : Three (List ℕ)) : Type 0 where
  pub rest : Three (List ℕ)
  pub is : more ≡ joined few rest

-- the tapes of v, and words that begin with those on the links to it
pub record IsGiven (v : Party) (ds : ThreeTapes) (links : Links) (g : Given) : Type 0 where
  pub own : g.own ≡ at v ds
  pub following : g.following ≡ at (next v) ds
  pub received : GoesOn (received_by v links) g.received

-- the part is the machine's, and where the machine didn't stop it leaves what is behind the words on the links
pub record IsPartIn {T : Type 0} (answer : T → List (List ℕ) → List (List ℕ)) (v : Party) (list : Steps T) (slots : SlotWords) (ds : ThreeTapes) (g : Given)
    (rest : Three (List ℕ)) : Type 0 where
  pub part : part_of answer v list (at v slots) g ≡ part_in v (joint_of answer list slots ds)
  pub left : (joint_of answer list slots ds).stop ≡ false
      → rest_after (part_cut v) (starting list.first) list.steps g
      ≡ record {
        own = at v (rest_after tape_cut (starting list.first) list.steps ds);
        following = at (next v) (rest_after tape_cut (starting list.first) list.steps ds);
        received = rest;
      }

-- words as far as both lists go: each begins with the shorter one
pub record Agree (few more : Three (List ℕ)) : Type 0 where
  pub behind_few : Three (List ℕ)
  pub behind_more : Three (List ℕ)
  pub same : joined few behind_few ≡ joined more behind_more

-- on the words of a joint run the part of each party is the machine's: its pairs are its shares, its slots its slots, what
-- it sends stands on its links, it takes all words on the links to it and no more, it doesn't end early, and it stops
-- where the machine stops
abbrev pub PartsAreInMachine : {T : Type 0} → (T → List Shape → List Shape → Bool) → (T → List (List ℕ) → List (List ℕ)) → Type 0
PartsAreInMachine {T} accepts answer =
    (v : Party) (list : Steps T) (slots : SlotWords) (ds : ThreeTapes) (g : Given) → IsWellFormed accepts list → Fits list slots ds
    → (h : IsGiven v ds (joint_of answer list slots ds).links g) → IsPartIn answer v list slots ds g h.received.rest

-- a part on words that agree with those of a joint run, and that doesn't end early, has all words of the run
abbrev pub PartsHaveWords : {T : Type 0} → (T → List Shape → List Shape → Bool) → (T → List (List ℕ) → List (List ℕ)) → Type 0
PartsHaveWords {T} accepts answer =
    (v : Party) (list : Steps T) (slots : SlotWords) (ds : ThreeTapes) (words : Three (List ℕ)) → IsWellFormed accepts list → Fits list slots ds
    → Agree words (received_by v (joint_of answer list slots ds).links)
    → (part_of answer v list (at v slots) (record { own = at v ds; following = at (next v) ds; received = words })).early ≡ None
    → GoesOn (received_by v (joint_of answer list slots ds).links) words
