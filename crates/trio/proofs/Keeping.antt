-- Each move keeps a run one of its list, its slots and its tapes, and leaves one move less.
use Rattle.std.proofs.Common.{◌≡◌, ℕ, suc, ◌+◌, ◌≤◌, Bool, true, false, Some, List, ◌++◌, length, take, refl, sym, ap, ◌∙◌, arith}
use Rattle.std.specs.Prelude.{nat_le, slice_get, if◌then◌else◌}
use Rattle.std.proofs.lemmas.Bool.{leb-true}
use Rattle.std.proofs.lemmas.List.{length-append, length-take-le}
use Rattle.lanes.specs.declared.party.Party.{Party}
use Rattle.lanes.specs.declared.party.Party.TheVariants.{First, Second, Third}
use Rattle.lanes.specs.declared.three.Three.{Three}
use Rattle.lanes.specs.Three.{at, put}
use Rattle.lanes.specs.Word.{AreWords}
use Rattle.step_lists.specs.declared.step.Shape.{Shape}
use Rattle.step_lists.specs.Layout.{Steps, party_of}
use Rattle.step_lists.specs.Draws.{ThreeTapes}
use Rattle.step_lists.specs.Open.{SlotWords}
use Rattle.step_lists.specs.Phases.{link}
use Rattle.step_lists.specs.Machine.{joint_of}
use Rattle.party_laws.specs.StageWords.{front}
use Rattle.party_core.specs.declared.want.Want.{Want}
use Rattle.party_core.specs.declared.want.Want.TheVariants.{Turn, Words, Done, Stopped}
use Rattle.party_core.specs.CoreView.{CoreView, with_words, turned_on, took}
use Rattle.party_core.specs.Core.{want_of, breaks_order, breaks_order_in}
use Rattle.party_core.specs.Moves.{moves_left}
use Rattle.party_core.specs.MoveLaws.{MovesKeep, TakeKept}
use Rattle.trio.specs.declared.stepped.Stepped.TheVariants.{Moved, Waits, Ended}
use Rattle.trio.specs.Running.{Running, core_at, taken_on, waiting_on, by_turn, by_words, moved, moved_by, stepped, stepped_by}
use Rattle.trio.specs.RunOf.{Begins, IsRunOf, all_moves_left}
use Rattle.trio.proofs.Facts.{Facts}
use Rattle.trio.proofs.Words.{begins_through, begins_more}
use Rattle.trio.proofs.Wanting.{WantsWords, wants_words}
use Rattle.trio.proofs.Movers.{IsKnown, known, core_is}
use Rattle.trio.proofs.Honest.{order_is_fine}
use Rattle.trio.proofs.Kept.{put_all, turn_kept, words_kept}

-- the words that wait for v are below 2 ^ 64
abbrev pub AreWaiting : {T : Type 0} → Party → Running T → Type 0
AreWaiting v r = (q : Party) (n : ℕ) → AreWords (take n (waiting_on q v r))

three_left : {T : Type 0} (v : Party) (x : Three (CoreView T)) (d : CoreView T) → moves_left (at v x) ≡ suc (moves_left d)
    → moves_left x.first + moves_left x.second + moves_left x.third
    ≡ suc (moves_left (at First (put v d x)) + moves_left (at Second (put v d x)) + moves_left (at Third (put v d x)))
three_left First x d e = omega (arith, e)
three_left Second x d e = omega (arith, e)
three_left Third x d e = omega (arith, e)

module _ {T : Type 0} (accepts : T → List Shape → List Shape → Bool) (answer : T → List (List ℕ) → List (List ℕ)) (facts : Facts accepts answer) (moves : MovesKeep accepts answer)
    (list : Steps T) (slots : SlotWords) (ds : ThreeTapes) (r : Running T) (h : IsRunOf accepts answer list slots ds r) (v : Party) where
  abbrev c : CoreView T
  c = core_at v r

  knows : IsKnown accepts answer list slots ds v c
  knows =
      known accepts answer facts list slots ds v c h.well_formed h.fits (h.cores v) (λ q. begins_through (taken_on q v r) (link q v r.sent) _ (h.taken q v) (h.begins q v))

  -- ---- words that wait

  module _ (q n : ℕ) (want : want_of answer c ≡ Words q n) (enough : n ≤ length (waiting_on (party_of q) v r)) where
    abbrev p : Party
    p = party_of q

    abbrev words : List ℕ
    words = take n (waiting_on p v r)

    abbrev got : Three (List ℕ)
    got = put p (at p c.given.received ++ words) c.given.received

    pub words_long : length words ≡ n
    words_long = length-take-le n (waiting_on p v r) enough

    got_begins : (k : Party) → Begins (at k got) (link k v (joint_of answer list slots ds).links)
    got_begins k =
        begins_through (at k got) (link k v r.sent) _
        (put_all (λ k ws. Begins ws (link k v r.sent)) p (at p c.given.received ++ words) c.given.received (begins_more (at p c.given.received) (link p v r.sent) n (h.taken p v)) (λ k. h.taken k v) k)
        (h.begins k v)

    got_long : (k : Party) → length (at k c.given.received) ≤ length (at k got)
    got_long =
        put_all (λ k ws. length (at k c.given.received) ≤ length ws) p (at p c.given.received ++ words) c.given.received (omega (arith, length-append (at p c.given.received) words)) (λ k. omega arith)

    wants : WantsWords answer c q n
    wants = wants_words answer c q n want

    there : slice_get list.steps c.far.steps ≡ Some wants.step
    there = ap (λ x. slice_get x.steps c.far.steps) (sym knows.list_is) ∙ wants.there

    -- on the core as the run has it
    pub order_fine : breaks_order c p words ≡ false
    order_fine =
        let far = c.far in
        let going : (joint_of answer (front far.steps list) slots ds).stop ≡ false = ap (λ a. a.stop) (sym knows.part) ∙ wants.going in
        let long = λ (k : Party).
        let i : length (link k v (joint_of answer (front far.steps list) slots ds).links) ≤ length (at k got) = omega (arith, knows.long k, got_long k) in
        i in
        let fine = order_is_fine accepts answer facts list slots ds h.well_formed h.fits v got far got_begins long wants.step there going in
        let here = λ (x : CoreView T). breaks_order_in (record x { given = with_words x.given p words }) (Some wants.step) in
        ap (λ o. breaks_order_in (record c { given = with_words c.given p words }) o) wants.there
        ∙ (ap here (core_is accepts answer facts list slots ds v c (h.cores v)) ∙ fine)

    pub takes_keep : AreWords words → TakeKept accepts answer c (took c p words)
    takes_keep are = moves.takes c q n words (h.cores v).reached want words_long are order_fine

    pub words_keep : AreWords words → IsRunOf accepts answer list slots ds (by_words v p n r)
    words_keep are = words_kept accepts answer facts list slots ds r h v p n (takes_keep are)

  -- ---- a turn

  pub turn_keeps : want_of answer c ≡ Turn → IsRunOf accepts answer list slots ds (by_turn answer v r)
  turn_keeps e = turn_kept accepts answer facts list slots ds r h v (moves.turns c (h.cores v).reached e)

  -- ---- a step

  pub step_keeps : AreWaiting v r → IsRunOf accepts answer list slots ds (moved answer v r)
  step_keeps are = by (want_of answer c) refl where
    by : (x : Want) → want_of answer c ≡ x → IsRunOf accepts answer list slots ds (moved_by answer x v r)
    by Turn e = turn_keeps e
    by (Words q n) e = enough (nat_le n (length (waiting_on (party_of q) v r))) refl where
      enough : (b : Bool) → nat_le n (length (waiting_on (party_of q) v r)) ≡ b → IsRunOf accepts answer list slots ds (if b then by_words v (party_of q) n r else r)
      enough true f = words_keep q n e (leb-true n (length (waiting_on (party_of q) v r)) f) (are (party_of q) n)
      enough false f = h
    by Done e = h
    by (Stopped flag) e = h

  -- ---- moves that are left

  left_at : (d : CoreView T) → moves_left c ≡ suc (moves_left d)
      → all_moves_left r ≡ suc (moves_left (at First (put v d r.cores)) + moves_left (at Second (put v d r.cores)) + moves_left (at Third (put v d r.cores)))
  left_at d e = three_left v r.cores d e

  waits_apart : (q : ℕ) → Waits q ≡ Moved → ⊥
  waits_apart q e = cc

  ended_apart : Ended ≡ Moved → ⊥
  ended_apart e = cc

  pub step_lowers : AreWaiting v r → stepped answer v r ≡ Moved → all_moves_left r ≡ suc (all_moves_left (moved answer v r))
  step_lowers are m = by (want_of answer c) refl m where
    by : (x : Want) → want_of answer c ≡ x → stepped_by x v r ≡ Moved → all_moves_left r ≡ suc (all_moves_left (moved_by answer x v r))
    by Turn e m = left_at (turned_on c) (moves.turns c (h.cores v).reached e).one_less
    by (Words q n) e m = enough (nat_le n (length (waiting_on (party_of q) v r))) refl m where
      enough : (b : Bool) → nat_le n (length (waiting_on (party_of q) v r)) ≡ b → (if b then Moved else Waits q) ≡ Moved
          → all_moves_left r ≡ suc (all_moves_left (if b then by_words v (party_of q) n r else r))
      enough true f m =
          left_at (took c (party_of q) (take n (waiting_on (party_of q) v r))) (takes_keep q n e (leb-true n (length (waiting_on (party_of q) v r)) f) (are (party_of q) n)).one_less
      enough false f m = absurd (waits_apart q m)
    by Done e m = absurd (ended_apart m)
    by (Stopped flag) e m = absurd (ended_apart m)
