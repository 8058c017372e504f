-- A run of three parties: three cores and the words on six links, and one move of one of them.
use Rattle.std.specs.Prelude.{◌≡◌, ℕ, zero, suc, nat_le, List, [], ◌∷◌, ◌++◌, length, take, drop, if◌then◌else◌}
use Rattle.lanes.specs.declared.party.Party.{Party}
use Rattle.lanes.specs.declared.three.Three.{Three}
use Rattle.lanes.specs.Three.{at, put}
use Rattle.step_lists.specs.Layout.{party_of}
use Rattle.step_lists.specs.Draws.{joined}
use Rattle.step_lists.specs.Phases.{Links, link}
use Rattle.party_core.specs.declared.want.Want.{Want}
use Rattle.party_core.specs.declared.want.Want.TheVariants.{Turn, Words, Done, Stopped}
use Rattle.party_core.specs.CoreView.{CoreView, turned_on, took}
use Rattle.party_core.specs.Core.{want_of, turn_sends}
use Rattle.trio.specs.declared.stepped.Stepped.{Stepped}
use Rattle.trio.specs.declared.stepped.Stepped.TheVariants.{Moved, Waits, Ended}

-- three cores, and for each link the words that were sent on it
pub record Running (T : Type 0) : Type 0 where
  pub cores : Three (CoreView T)
  pub sent : Links

abbrev pub core_at : {T : Type 0} → Party → Running T → CoreView T
core_at v r = at v r.cores

-- the words that v has taken from the link of q, and those that wait there
abbrev pub taken_on : {T : Type 0} → Party → Party → Running T → List ℕ
taken_on q v r = at q (core_at v r).given.received

abbrev pub waiting_on : {T : Type 0} → Party → Party → Running T → List ℕ
waiting_on q v r = drop (length (taken_on q v r)) (link q v r.sent)

-- ---- moves

-- more words of v on its links
abbrev pub sent_more : Party → Three (List ℕ) → Links → Links
sent_more v words links = put v (joined (at v links) words) links

-- v takes the first n words that wait on the link of q
abbrev pub by_words : {T : Type 0} → Party → Party → ℕ → Running T → Running T
by_words v q n r = record r { cores = put v (took (core_at v r) q (take n (waiting_on q v r))) r.cores }

-- what a step of v answers, by what its core wants: a turn is made; words are taken where so many wait
abbrev pub stepped_by : {T : Type 0} → Want → Party → Running T → Stepped
stepped_by Turn v r = Moved
stepped_by (Words q n) v r = if nat_le n (length (waiting_on (party_of q) v r)) then Moved else Waits q
stepped_by Done v r = Ended
stepped_by (Stopped flag) v r = Ended

-- parties 1, 2, 3, so many times
abbrev pub rounds : ℕ → List ℕ
rounds zero = []
rounds (suc n) = 1 ∷ 2 ∷ 3 ∷ rounds n

module _ {T : Type 0} (answer : T → List (List ℕ) → List (List ℕ)) where
  -- a turn of v puts its words on its links
  abbrev pub by_turn : Party → Running T → Running T
  by_turn v r = record { cores = put v (turned_on (core_at v r)) r.cores; sent = sent_more v (turn_sends answer (core_at v r)) r.sent }

  -- behind a step of v, by what its core wants
  abbrev pub moved_by : Want → Party → Running T → Running T
  moved_by Turn v r = by_turn v r
  moved_by (Words q n) v r = if nat_le n (length (waiting_on (party_of q) v r)) then by_words v (party_of q) n r else r
  moved_by Done v r = r
  moved_by (Stopped flag) v r = r

  abbrev pub moved : Party → Running T → Running T
  moved v r = moved_by (want_of answer (core_at v r)) v r

  abbrev pub stepped : Party → Running T → Stepped
  stepped v r = stepped_by (want_of answer (core_at v r)) v r

  -- one step for each of some turns, in order
  abbrev pub in_turns : List ℕ → Running T → Running T
  in_turns [] r = r
  in_turns (p ∷ ps) r = in_turns ps (moved (party_of p) r)

  abbrev pub HaveEnded : Running T → Type 0
  HaveEnded r = (v : Party) → stepped v r ≡ Ended

  -- the turns, and then rounds until all have ended
  pub record IsWholeRun (turns : List ℕ) (before after : Running T) : Type 0 where
    pub count : ℕ
    pub is : after ≡ in_turns (turns ++ rounds count) before
    pub ended : HaveEnded after
