-- Of the parties that want words, the one that is least far has them waiting.
use Rattle.std.proofs.Common.{◌≡◌, ℕ, zero, suc, ◌+◌, ◌*◌, ◌<◌, ◌≤◌, Bool, true, false, Some, None, List, [], ◌∷◌, length, take, drop, refl, sym, subst, ap, ◌∙◌, arith, inl, inr}
use Rattle.std.specs.Prelude.{◌⊎◌, ◌||◌, ◌&&◌, ◌==◌, not, nat_le, IsTrue, slice_get, if◌then◌else◌}
use Rattle.std.proofs.lemmas.Bool.{leb-true, leb-false, cases_lt, eq-eqb}
use Rattle.std.proofs.lemmas.List.{length-drop}
use Rattle.lanes.specs.declared.party.Party.{Party}
use Rattle.lanes.specs.declared.party.Party.TheVariants.{First, Second, Third}
use Rattle.lanes.specs.declared.three.Three.{Three}
use Rattle.lanes.specs.Party.{next, before}
use Rattle.lanes.specs.Three.{at}
use Rattle.step_lists.specs.declared.step.Shape.{Shape}
use Rattle.step_lists.specs.declared.step.Step.{Step}
use Rattle.step_lists.specs.declared.step.Step.TheVariants.{Const, Lin, And, Share, Reveal, Steer, Tell, Work, Flag}
use Rattle.step_lists.specs.Layout.{Steps, Layout, party_of, grown, grown_by, layout_of, starting, shape_of}
use Rattle.step_lists.specs.Draws.{ThreeTapes}
use Rattle.step_lists.specs.Rules.{AreFine, is_fine, is_small, fits_layout, is_party, is_slot, is_words}
use Rattle.step_lists.specs.Seen.{same_party}
use Rattle.step_lists.specs.Open.{SlotWords}
use Rattle.step_lists.specs.Phases.{Links, link, behind_on}
use Rattle.step_lists.specs.Machine.{joint_of, step_words}
use Rattle.step_lists.specs.Part.{count_from, stage_takes, takes_nothing, takes_from, when}
use Rattle.party_laws.specs.StageWords.{HoldsStages, stage_words, all_words, front, draws_at}
use Rattle.party_core.specs.declared.want.Want.{Want}
use Rattle.party_core.specs.declared.want.Want.TheVariants.{Turn, Words, Done, Stopped}
use Rattle.party_core.specs.Stages.{takes_at, waits_at}
use Rattle.party_core.specs.CoreView.{Far, layout_here, stages_begun}
use Rattle.party_core.specs.Core.{sent_so_far, takes_in, want_of}
use Rattle.trio.specs.declared.stepped.Stepped.TheVariants.{Moved, Waits, Ended}
use Rattle.trio.specs.Running.{Running, core_at, taken_on, waiting_on, stepped, stepped_by, HaveEnded}
use Rattle.trio.specs.RunOf.{IsRunOf}
use Rattle.trio.proofs.Facts.{Facts}
use Rattle.trio.proofs.Words.{link_long, words_split, begins_through}
use Rattle.trio.proofs.Placed.{true_apart}
use Rattle.trio.proofs.Wanting.{WantsWords, wants_words, is_done, is_stopped}
use Rattle.trio.proofs.Movers.{IsKnown, known, stop_stays, links_stay, stage_in_count, more_stages, past_stages, few_stages, same_some, get_none, get_some}

both : (a b : Bool) → IsTrue (a && b) → IsTrue a × IsTrue b
both true b h = (refl, h)
both false b h = absurd (true_apart h)

-- ---- a stage at which a party waits at once takes nothing of that party

two_parties : (a b : ℕ) → IsTrue (is_party a) → IsTrue (is_party b) → party_of a ≡ party_of b → a ≡ b
two_parties a b h i e = same a b (party_number a h) (party_number b i) (ap number e) where
  number : Party → ℕ
  number First = 1
  number Second = 2
  number Third = 3

  party_number : (a : ℕ) → IsTrue (is_party a) → number (party_of a) ≡ a
  party_number zero h = absurd (true_apart h)
  party_number (suc zero) h = refl
  party_number (suc (suc zero)) h = refl
  party_number (suc (suc (suc zero))) h = refl
  party_number (suc (suc (suc (suc a)))) h =
      let few = leb-true (suc (suc (suc (suc a)))) 3 (both (nat_le 1 (suc (suc (suc (suc a))))) (nat_le (suc (suc (suc (suc a)))) 3) h).1 in
      absurd (omega (arith, few))

  same : (a b : ℕ) → number (party_of a) ≡ a → number (party_of b) ≡ b → number (party_of a) ≡ number (party_of b) → a ≡ b
  same a b f g e = sym f ∙ (e ∙ g)

at_nothing : (p : Party) → at p takes_nothing ≡ 0
at_nothing First = refl
at_nothing Second = refl
at_nothing Third = refl

-- of a party that isn't the source nothing is taken
of_another : (p q : Party) (b : Bool) (n : ℕ) → same_party p q ≡ false → at p (when b (takes_from q n)) ≡ 0
of_another p q false n h = at_nothing p
of_another First First true n h = absurd (cc)
of_another First Second true n h = refl
of_another First Third true n h = refl
of_another Second First true n h = refl
of_another Second Second true n h = absurd (cc)
of_another Second Third true n h = refl
of_another Third First true n h = refl
of_another Third Second true n h = refl
of_another Third Third true n h = absurd (cc)

not_next : (p q : Party) → same_party p q ≡ true → same_party p (next q) ≡ false
not_next First First h = refl
not_next Second Second h = refl
not_next Third Third h = refl
not_next First Second h = absurd (cc)
not_next First Third h = absurd (cc)
not_next Second First h = absurd (cc)
not_next Second Third h = absurd (cc)
not_next Third First h = absurd (cc)
not_next Third Second h = absurd (cc)

not_itself : (p q : Party) → same_party p (before q) ≡ true → same_party p q ≡ false
not_itself Third First h = refl
not_itself First Second h = refl
not_itself Second Third h = refl
not_itself First First h = absurd (cc)
not_itself Second Second h = absurd (cc)
not_itself Third Third h = absurd (cc)
not_itself Second First h = absurd (cc)
not_itself Third Second h = absurd (cc)
not_itself First Third h = absurd (cc)

not_false : (b : Bool) → not b ≡ true → b ≡ false
not_false true h = absurd (cc)
not_false false h = refl

is_same : (p q : Party) → same_party p q ≡ true → p ≡ q
is_same First First h = refl
is_same Second Second h = refl
is_same Third Third h = refl
is_same First Second h = absurd (cc)
is_same First Third h = absurd (cc)
is_same Second First h = absurd (cc)
is_same Second Third h = absurd (cc)
is_same Third First h = absurd (cc)
is_same Third Second h = absurd (cc)

source_apart : (p : Party) (source target : ℕ) → IsTrue (is_party source) → IsTrue (is_party target) → IsTrue (not (source == target)) → same_party p (party_of target) ≡ true
    → same_party p (party_of source) ≡ false
source_apart p source target hs ht apart h = by (same_party p (party_of source)) refl where
  by : (b : Bool) → same_party p (party_of source) ≡ b → b ≡ false
  by false e = refl
  by true e =
      let same = two_parties source target hs ht (sym (is_same p (party_of source) e) ∙ is_same p (party_of target) h) in
      absurd (true_apart (sym (not_false (source == target) apart) ∙ eq-eqb source target same))

module _ {T : Type 0} (accepts : T → List Shape → List Shape → Bool) where
  waits_takes_none : (l : Layout) (s : Step T) (p v : Party) (i : ℕ) → IsTrue (fits_layout accepts l s) → waits_at p s i ≡ true → at p (takes_at v l s i) ≡ 0
  waits_takes_none l (Const words) p v i f h = at_nothing p
  waits_takes_none l (Lin op) p v i f h = at_nothing p
  waits_takes_none l (And left right) p v zero f h = absurd (true_apart h)
  waits_takes_none l (And left right) p v (suc i) f h = at_nothing p
  waits_takes_none l (Share party s) p v zero f h = of_another p (party_of party) _ _ (not_false _ h)
  waits_takes_none l (Share party s) p v (suc i) f h = at_nothing p
  waits_takes_none l (Reveal to moved shown) p v zero f h = absurd (true_apart h)
  waits_takes_none l (Reveal to moved shown) p v (suc zero) f h = absurd (true_apart h)
  waits_takes_none l (Reveal to moved shown) p v (suc (suc zero)) f h = absurd (true_apart h)
  waits_takes_none l (Reveal to moved shown) p v (suc (suc (suc zero))) f h = of_another p (next (party_of to)) _ _ (not_next p (party_of to) h)
  waits_takes_none l (Reveal to moved shown) p v (suc (suc (suc (suc i)))) f h = at_nothing p
  waits_takes_none l (Steer by s moved) p v zero f h = of_another p (party_of by) _ _ (not_itself p (party_of by) h)
  waits_takes_none l (Steer by s moved) p v (suc zero) f h = absurd (true_apart h)
  waits_takes_none l (Steer by s moved) p v (suc (suc zero)) f h = absurd (true_apart h)
  waits_takes_none l (Steer by s moved) p v (suc (suc (suc i))) f h = at_nothing p
  waits_takes_none l (Tell source target s) p v zero f h =
      let one = both (is_slot l source s && is_party target && not (source == target)) (is_words (shape_of l (party_of source) s)) f in
      let two = both (is_slot l source s && is_party target) (not (source == target)) one.0 in
      let three = both (is_slot l source s) (is_party target) two.0 in
      let four = both (is_party source) _ three.0 in
      of_another p (party_of source) _ _ (source_apart p source target four.0 three.1 two.1 h)
  waits_takes_none l (Tell source target s) p v (suc i) f h = at_nothing p
  waits_takes_none l (Work party task takes gives) p v i f h = at_nothing p
  waits_takes_none l (Flag party s) p v zero f h = of_another p (party_of party) _ _ (not_false _ h)
  waits_takes_none l (Flag party s) p v (suc i) f h = at_nothing p

  -- the step at a place is well-formed there
  fine_at : (k : ℕ) (l : Layout) (ss : List (Step T)) (s : Step T) → AreFine accepts l ss → slice_get ss k ≡ Some s → IsTrue (is_fine accepts (grown_by l (take k ss)) s)
  fine_at k l [] s f h = absurd (none_apart h) where
    none_apart : {x : Step T} → None ≡ Some x → ⊥
    none_apart e = cc
  fine_at zero l (x ∷ ss) s f h = subst (λ y. IsTrue (is_fine accepts l y)) (same_some h) f.0
  fine_at (suc k) l (x ∷ ss) s f h = fine_at k (grown l x) ss s f.1 h

-- ---- three parties

module _ {T : Type 0} (accepts : T → List Shape → List Shape → Bool) (answer : T → List (List ℕ) → List (List ℕ)) (facts : Facts accepts answer)
    (list : Steps T) (slots : SlotWords) (ds : ThreeTapes) (r : Running T) (h : IsRunOf accepts answer list slots ds r) where
  abbrev Knows : Party → Type 0
  Knows v = IsKnown accepts answer list slots ds v (core_at v r)

  knows : (v : Party) → Knows v
  knows v =
      known accepts answer facts list slots ds v (core_at v r) h.well_formed h.fits (h.cores v) (λ q. begins_through (taken_on q v r) (link q v r.sent) _ (h.taken q v) (h.begins q v))

  abbrev far_of : Party → Far
  far_of v = (core_at v r).far

  -- a party that wants more words than wait for it
  record IsShort (v : Party) : Type 0 where
    pub source : ℕ
    pub count : ℕ
    pub want : want_of answer (core_at v r) ≡ Words source count
    pub short : length (waiting_on (party_of source) v r) < count

  record HasEnded (v : Party) : Type 0 where
    pub ended : (want_of answer (core_at v r) ≡ Done) ⊎ ((flag : ℕ) × (want_of answer (core_at v r) ≡ Stopped flag))

  data Status (v : Party) : Type 0 where
    moves : stepped answer v r ≡ Moved → Status v
    short : IsShort v → Status v
    ended : HasEnded v → Status v

  status : (v : Party) → Status v
  status v = by (want_of answer (core_at v r)) refl where
    by : (w : Want) → want_of answer (core_at v r) ≡ w → Status v
    by Turn e = moves (ap (λ w. stepped_by w v r) e)
    by (Words q n) e = enough (nat_le n (length (waiting_on (party_of q) v r))) refl where
      enough : (b : Bool) → nat_le n (length (waiting_on (party_of q) v r)) ≡ b → Status v
      enough true f = moves (ap (λ w. stepped_by w v r) e ∙ ap (λ b. if b then Moved else Waits q) f)
      enough false f = short (record { source = q; count = n; want = e; short = leb-false n (length (waiting_on (party_of q) v r)) f })
    by Done e = ended (record { ended = inl e })
    by (Stopped flag) e = ended (record { ended = inr (flag, e) })

  -- ---- a party that wants words

  module _ (v : Party) (s : IsShort v) where
    abbrev far : Far
    far = far_of v

    abbrev p : Party
    p = party_of s.source

    abbrev n : ℕ
    n = s.count

    wants : WantsWords answer (core_at v r) s.source n
    wants = wants_words answer (core_at v r) s.source n s.want

    abbrev step : Step T
    step = wants.step

    abbrev l : Layout
    l = layout_of (front far.steps list)

    there : slice_get list.steps far.steps ≡ Some step
    there = ap (λ x. slice_get x.steps far.steps) (sym (knows v).list_is) ∙ wants.there

    before_end : far.steps < length list.steps
    before_end = get_some list.steps far.steps step there

    going : (joint_of answer (front far.steps list) slots ds).stop ≡ false
    going = ap (λ a. a.stop) (sym (knows v).part) ∙ wants.going

    layout_is : layout_here (core_at v r) ≡ l
    layout_is = ap (λ x. layout_of (front far.steps x)) (knows v).list_is

    abbrev takes : List (Three ℕ)
    takes = stage_takes v l step

    stage_is : at p (takes_at v l step far.stages) ≡ n
    stage_is =
        ap (λ x. at p (takes_at v x step far.stages)) (sym layout_is)
        ∙ (ap (λ x. at p (takes_at x (layout_here (core_at v r)) step far.stages)) (sym (knows v).party) ∙ wants.wanted.count)

    inside : far.stages < length takes
    inside = by (cases_lt far.stages (length takes)) where
      by : (far.stages < length takes) ⊎ (length takes ≤ far.stages) → far.stages < length takes
      by (inl a) = a
      by (inr a) =
          absurd (wants.wanted.some (sym stage_is ∙ (ap (at p) (past_stages takes far.stages takes_nothing a) ∙ at_nothing p)))

    few : far.stages < 4
    few = omega (arith, inside, few_stages v l step)

    -- the words that the stage and those before it take of p
    next_count : count_from p (take (suc far.stages) takes) ≡ count_from p (take far.stages takes) + n
    next_count = stage_in_count p far.stages takes takes_nothing inside ∙ ap (λ k. count_from p (take far.stages takes) + k) stage_is

    abbrev links : Links
    links = (joint_of answer (front far.steps list) slots ds).links

    taken_long : length (taken_on p v r) ≡ length (link p v links) + count_from p (take far.stages takes)
    taken_long =
        (knows v).long p
        ∙ ap (λ ts. length (link p v links) + count_from p (take far.stages ts))
        (ap (takes_in answer (core_at v r)) wants.there
        ∙ (ap (λ x. stage_takes (core_at v r).party x step) layout_is ∙ ap (λ x. stage_takes x l step) (knows v).party))

    -- more than p has sent
    too_few : length (at v (sent_so_far answer (core_at p r))) < length (link p v links) + count_from p (take (suc far.stages) takes)
    too_few =
        let sent = ap (λ x. length (at v x)) (h.sent p) in
        let waiting = length-drop (length (taken_on p v r)) (link p v r.sent) in
        omega (arith, s.short, sent, waiting, taken_long, next_count)

    holds : HoldsStages v l (joint_of answer (front far.steps list) slots ds) step (draws_at far.steps list step ds)
    holds = facts.stages v list slots ds far.steps step h.well_formed h.fits there going

    -- a source that is behind the step has sent them
    not_behind : (k : ℕ) → far.steps < k → length (link p v (joint_of answer (front k list) slots ds).links) ≤ length (at v (sent_so_far answer (core_at p r))) → ⊥
    not_behind k lt sent =
        let m = joint_of answer (front far.steps list) slots ds in
        let d = draws_at far.steps list step ds in
        let ws = stage_words l m step d in
        let b = suc far.stages in
        let grows = links_stay accepts answer facts list slots ds (suc far.steps) k p v (omega arith) in
        let next = ap (λ x. length (link p v x)) (facts.grow.step far.steps list slots ds step there going) in
        let more = link_long p v links (step_words l m step d) in
        let whole = ap (λ x. length (link p v x)) (holds.whole ∙ words_split b ws) in
        let parts = link_long p v (all_words (take b ws)) (all_words (drop b ws)) in
        omega (arith, too_few, sent, grows, next, more, whole, parts, holds.counts p b)

    -- nor is it at the same step, as far or farther, and wants words
    not_beside : (t : IsShort p) → (far_of p).steps ≡ far.steps → far.stages ≤ (far_of p).stages → ⊥
    not_beside t e at_least =
        let m = joint_of answer (front far.steps list) slots ds in
        let d = draws_at far.steps list step ds in
        let ws = stage_words l m step d in
        let w = wants_words answer (core_at p r) t.source t.count t.want in
        let there_p : slice_get list.steps (far_of p).steps ≡ Some step = ap (slice_get list.steps) e ∙ there in
        let same_step : w.step ≡ step = same_some (sym w.there ∙ (ap (λ x. slice_get x.steps (far_of p).steps) (knows p).list_is ∙ there_p)) in
        let going_p : (joint_of answer (front (far_of p).steps list) slots ds).stop ≡ false = ap (λ k. (joint_of answer (front k list) slots ds).stop) e ∙ going in
        let b = stages_begun (far_of p) in
        let sent : at v (sent_so_far answer (core_at p r)) ≡ link p v (behind_on m.links (all_words (take b ws))) =
        (knows p).in_step step v there_p going_p
        ∙ ap (λ k. link p v (behind_on (joint_of answer (front k list) slots ds).links (all_words (take b (stage_words (layout_of (front k list)) (joint_of answer (front k list) slots ds) step (draws_at k list step ds)))))) e in
        let sent_long = ap length sent ∙ link_long p v m.links (all_words (take b ws)) in
        let counted = holds.counts p b in
        let waits_same : waits_at (core_at p r).party w.step (far_of p).stages ≡ waits_at p step (far_of p).stages =
        ap (λ x. waits_at (core_at p r).party x (far_of p).stages) same_step ∙ ap (λ x. waits_at x step (far_of p).stages) (knows p).party in
        let begun : ((far_of p).turned || waits_at p step (far_of p).stages) ≡ true = ap (λ b. (far_of p).turned || b) (sym waits_same) ∙ w.begun in
        enough begun (omega (arith, sent_long, counted)) where
          -- it has begun the stage, or it waits there at once and sends nothing in it
          past : (b : ℕ) → suc far.stages ≤ b → length (at v (sent_so_far answer (core_at p r))) ≡ length (link p v links) + count_from p (take b takes) → ⊥
          past b j f = omega (arith, too_few, f, more_stages p (suc far.stages) b takes j)

          silent : waits_at p step far.stages ≡ true → ⊥
          silent g = wants.wanted.some (sym stage_is ∙ waits_takes_none accepts l step p v far.stages (both (fits_layout accepts l step) (is_small (grown l step)) fine).0 g) where
            fine : IsTrue (is_fine accepts l step)
            fine = fine_at accepts far.steps (starting list.first) list.steps step h.well_formed.fine there

          waiting : waits_at p step (far_of p).stages ≡ true → far.stages ≤ (far_of p).stages → length (at v (sent_so_far answer (core_at p r))) ≡ length (link p v links) + count_from p (take (far_of p).stages takes) → ⊥
          waiting g j f = by (cases_lt far.stages (far_of p).stages) where
            by : (far.stages < (far_of p).stages) ⊎ ((far_of p).stages ≤ far.stages) → ⊥
            by (inl lt) = past (far_of p).stages lt f
            by (inr ge) = let same : (far_of p).stages ≡ far.stages = omega (arith, ge, j) in silent (ap (waits_at p step) (sym same) ∙ g)

          enough : ((far_of p).turned || waits_at p step (far_of p).stages) ≡ true
              → length (at v (sent_so_far answer (core_at p r))) ≡ length (link p v links) + count_from p (take (stages_begun (far_of p)) takes) → ⊥
          enough g f = by (far_of p).turned refl g f where
            by : (b : Bool) → (far_of p).turned ≡ b → (b || waits_at p step (far_of p).stages) ≡ true
                → length (at v (sent_so_far answer (core_at p r))) ≡ length (link p v links) + count_from p (take (stages_begun (far_of p)) takes) → ⊥
            by true e g f = past (suc (far_of p).stages) (omega (arith, at_least)) (f ∙ ap (λ b. length (link p v links) + count_from p (take (if b then suc (far_of p).stages else (far_of p).stages) takes)) e)
            by false e g f = waiting g at_least (f ∙ ap (λ b. length (link p v links) + count_from p (take (if b then suc (far_of p).stages else (far_of p).stages) takes)) e)

  -- ---- the choice

  abbrev key : Party → ℕ
  key v = 5 * (far_of v).steps + (far_of v).stages

  abbrev weight : (v : Party) → Status v → ℕ
  weight v (moves e) = 0
  weight v (short s) = key v
  weight v (ended e) = 5 * length list.steps

  -- an ended party is behind every step at which one wants words
  ended_behind : (v : Party) (s : IsShort v) → HasEnded (party_of s.source) → ⊥
  ended_behind v s e = by e.ended where
    behind : (k : ℕ) → (far_of (party_of s.source)).steps ≡ k → (far_of v).steps < k → ⊥
    behind k e lt =
        let sent = λ (j : ℕ). length (link (party_of s.source) v (joint_of answer (front j list) slots ds).links) ≤ length (at v (sent_so_far answer (core_at (party_of s.source) r))) in
        not_behind v s k lt (subst sent e ((knows (party_of s.source)).least v))

    at_stop : (k : ℕ) → (far_of (party_of s.source)).steps ≡ k → (joint_of answer (front k list) slots ds).stop ≡ true → ((far_of v).steps < k) ⊎ (k ≤ (far_of v).steps) → ⊥
    at_stop k e stop (inl lt) = behind k e lt
    at_stop k e stop (inr ge) = true_apart (sym (going v s) ∙ stop_stays accepts answer facts list slots ds k (far_of v).steps ge stop)

    by : (want_of answer (core_at (party_of s.source) r) ≡ Done) ⊎ ((flag : ℕ) × (want_of answer (core_at (party_of s.source) r) ≡ Stopped flag)) → ⊥
    by (inl e) =
        let k = (far_of (party_of s.source)).steps in
        let none : slice_get list.steps k ≡ None = ap (λ x. slice_get x.steps k) (sym (knows (party_of s.source)).list_is) ∙ (is_done answer (core_at (party_of s.source) r) e).0 in
        behind k refl (omega (arith, get_none list.steps k none, before_end v s))
    by (inr f) =
        let k = (far_of (party_of s.source)).steps in
        let stop : (joint_of answer (front k list) slots ds).stop ≡ true =
        ap (λ a. a.stop) (sym (knows (party_of s.source)).part) ∙ is_stopped answer (core_at (party_of s.source) r) f.0 f.1 in
        at_stop k refl stop (cases_lt (far_of v).steps k)

  short_behind : (v : Party) (s : IsShort v) → IsShort (party_of s.source) → key v ≤ key (party_of s.source) → ⊥
  short_behind v s t le = by (cases_lt (far_of v).steps (far_of (party_of s.source)).steps) where
    by : ((far_of v).steps < (far_of (party_of s.source)).steps) ⊎ ((far_of (party_of s.source)).steps ≤ (far_of v).steps) → ⊥
    by (inl lt) = not_behind v s (far_of (party_of s.source)).steps lt ((knows (party_of s.source)).least v)
    by (inr ge) =
        let f = few (party_of s.source) t in
        not_beside v s t (omega (arith, le, ge, f)) (omega (arith, le, ge, f))

  -- of three numbers one is least
  smallest : (f : Party → ℕ) → (v : Party) × ((p : Party) → f v ≤ f p)
  smallest f = by (cases_lt (f Second) (f First)) (cases_lt (f Third) (f First)) (cases_lt (f Third) (f Second)) where
    all : (v : Party) → f v ≤ f First → f v ≤ f Second → f v ≤ f Third → (p : Party) → f v ≤ f p
    all v a b c First = a
    all v a b c Second = b
    all v a b c Third = c

    by : (f Second < f First) ⊎ (f First ≤ f Second) → (f Third < f First) ⊎ (f First ≤ f Third) → (f Third < f Second) ⊎ (f Second ≤ f Third)
        → (v : Party) × ((p : Party) → f v ≤ f p)
    by (inr a) (inr b) z = (First, all First (omega arith) a b)
    by (inl a) y (inr c) = (Second, all Second (omega (arith, a)) (omega arith) c)
    by (inr a) (inl b) (inl c) = (Third, all Third (omega (arith, b)) (omega (arith, c)) (omega arith))
    by (inr a) (inl b) (inr c) = (Third, all Third (omega (arith, b)) (omega (arith, a, b)) (omega arith))
    by (inl a) (inl b) (inl c) = (Third, all Third (omega (arith, b)) (omega (arith, c)) (omega arith))
    by (inl a) (inr b) (inl c) = (Third, all Third (omega (arith, a, c)) (omega (arith, c)) (omega arith))

  ended_stepped : (v : Party) → HasEnded v → stepped answer v r ≡ Ended
  ended_stepped v e = by e.ended where
    by : (want_of answer (core_at v r) ≡ Done) ⊎ ((flag : ℕ) × (want_of answer (core_at v r) ≡ Stopped flag)) → stepped answer v r ≡ Ended
    by (inl f) = ap (λ w. stepped_by w v r) f
    by (inr f) = ap (λ w. stepped_by w v r) f.1

  short_weight : (v : Party) → IsShort v → key v < 5 * length list.steps
  short_weight v s = omega (arith, before_end v s, few v s)

  abbrev Goes : Type 0
  Goes = HaveEnded answer r ⊎ ((v : Party) × (stepped answer v r ≡ Moved))

  -- of a party that is as far as the ended ones: it has ended, or moves
  ended_or_moves : (v : Party) (s : Status v) → 5 * length list.steps ≤ weight v s → (stepped answer v r ≡ Moved) ⊎ (stepped answer v r ≡ Ended)
  ended_or_moves v (moves e) h = inl e
  ended_or_moves v (short s) h = absurd (omega (arith, h, short_weight v s))
  ended_or_moves v (ended e) h = inr (ended_stepped v e)

  all_ended : ((v : Party) → (stepped answer v r ≡ Moved) ⊎ (stepped answer v r ≡ Ended)) → Goes
  all_ended each = by (each First) (each Second) (each Third) where
    all : stepped answer First r ≡ Ended → stepped answer Second r ≡ Ended → stepped answer Third r ≡ Ended → HaveEnded answer r
    all a b c First = a
    all a b c Second = b
    all a b c Third = c

    by : (stepped answer First r ≡ Moved) ⊎ (stepped answer First r ≡ Ended) → (stepped answer Second r ≡ Moved) ⊎ (stepped answer Second r ≡ Ended)
        → (stepped answer Third r ≡ Moved) ⊎ (stepped answer Third r ≡ Ended) → Goes
    by (inl e) y z = inr (First, e)
    by (inr a) (inl e) z = inr (Second, e)
    by (inr a) (inr b) (inl e) = inr (Third, e)
    by (inr a) (inr b) (inr c) = inl (all a b c)

  of_source : (v : Party) (s : IsShort v) (t : Status (party_of s.source)) → key v ≤ weight (party_of s.source) t → Goes
  of_source v s (moves e) h = inr (party_of s.source, e)
  of_source v s (short t) h = absurd (short_behind v s t h)
  of_source v s (ended e) h = absurd (ended_behind v s e)

  of_least : (v : Party) (s : Status v) → ((p : Party) → weight v s ≤ weight p (status p)) → Goes
  of_least v (moves e) h = inr (v, e)
  of_least v (short s) h = of_source v s (status (party_of s.source)) (h (party_of s.source))
  of_least v (ended e) h = all_ended (λ p. ended_or_moves p (status p) (h p))

  pub goes_on : Goes
  goes_on = let least = smallest (λ v. weight v (status v)) in of_least least.0 (status least.0) least.1
