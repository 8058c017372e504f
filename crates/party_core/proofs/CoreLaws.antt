-- A core is the part of its party.
use Rattle.std.proofs.Common.{◌≡◌, ℕ, zero, suc, ◌<◌, ◌≤◌, Bool, true, false, cond, Option, Some, None, List, [], ◌∷◌, ◌++◌, length, take, drop, refl, sym, ap, subst, ◌∙◌, arith, true≢false, not}
use Rattle.std.specs.Prelude.{◌||◌, ◌&&◌, ◌*◌, ◌⊎◌, IsTrue, is_some, nat_lt, slice_index_or}
use Rattle.std.proofs.Common.{inl, inr}
use Rattle.std.proofs.lemmas.List.{append_assoc}
use Rattle.lanes.specs.declared.party.Party.{Party}
use Rattle.lanes.specs.declared.party.Party.TheVariants.{First, Second, Third}
use Rattle.lanes.specs.declared.three.Three.{Three}
use Rattle.lanes.specs.Party.{next, before}
use Rattle.lanes.specs.Three.{at}
use Rattle.step_lists.specs.declared.step.Shape.{Shape}
use Rattle.step_lists.specs.declared.step.Step.{Step}
use Rattle.step_lists.specs.declared.step.Step.TheVariants.{Const, Lin, And, Share, Reveal, Steer, Tell, Work, Flag}
use Rattle.step_lists.specs.Layout.{Layout, party_of, grown, starting, rows_moved}
use Rattle.step_lists.specs.Seen.{same_party}
use Rattle.step_lists.specs.Rules.{is_fine}
use Rattle.step_lists.specs.Draws.{joined, nothing}
use Rattle.step_lists.specs.Part.{Given, Part, UsedUp, NoOrder, part_cut, part_going, part_step, progress, progress_of, takes_bad_order, stage_sends, stage_takes, takes_nothing, takes_from, phase_takes, when, is_bad_order, part_before, all_sent, more_taken, part_of}
use Rattle.party_core.specs.declared.want.Want.TheVariants.{Words, Done, Stopped}
use Rattle.party_core.specs.Stages.{takes_at, waits_at, stage_count}
use Rattle.party_core.specs.CoreView.{CoreView, steps_left, next_step, layout_here, given_here, given_for, stages_begun, with_words, took}
use Rattle.party_core.specs.Core.{part_so_far, sent_so_far, taken_so_far, sends_in, takes_in, want_of, breaks_order, breaks_order_in}
use Rattle.party_core.specs.Reached.{IsReached}
use Rattle.party_core.specs.Laws.{Begins, CoresAreParts, whole}
use Rattle.party_core.proofs.Steps.{drop_none, none_some, some_same}
use Rattle.party_core.proofs.Progressing.{first_of, comes_far, comes_up_to}
use Rattle.party_core.proofs.Runs.{runs, at_joined, begins_refl, begins_trans, went_early, ended_run, going_step, sent_run, run_stays}
use Rattle.party_core.proofs.Here.{Here, here, whole_cut, sent_none, taken_none, joined_none}
use Rattle.party_core.proofs.Fine.{fine_here, told_apart}
use Rattle.party_core.proofs.Wanting.{wants_words, wants_done, wants_stopped}

-- ---- what stages send

-- fewer stages send the beginning
pub sent_fewer : (p : Party) (m n : ℕ) (ss : List (Three (List ℕ))) → m ≤ n → Begins (at p (all_sent (take m ss))) (at p (all_sent (take n ss)))
sent_fewer p zero n ss h = record { rest = at p (all_sent (take n ss)); is = none p } where
  none : (p : Party) → at p (all_sent (take n ss)) ≡ at p nothing ++ at p (all_sent (take n ss))
  none First = refl
  none Second = refl
  none Third = refl
sent_fewer p (suc m) zero ss h = absurd (omega (arith, h))
sent_fewer p (suc m) (suc n) [] h = begins_refl (at p nothing)
sent_fewer p (suc m) (suc n) (s ∷ ss) h =
    let more = sent_fewer p m n ss (omega (arith, h)) in
    record {
      rest = more.rest;
      is = at_joined p s (all_sent (take n ss)) ∙ ap (λ xs. at p s ++ xs) more.is
          ∙ sym (append_assoc (at p s) (at p (all_sent (take m ss))) more.rest)
          ∙ ap (λ xs. xs ++ more.rest) (sym (at_joined p s (all_sent (take m ss))));
    }

begins_behind : (p : Party) (a x y : Three (List ℕ)) → Begins (at p x) (at p y) → Begins (at p (joined a x)) (at p (joined a y))
begins_behind p a x y h = record {
  rest = h.rest;
  is = at_joined p a y ∙ ap (λ xs. at p a ++ xs) h.is ∙ sym (append_assoc (at p a) (at p x) h.rest) ∙ ap (λ xs. xs ++ h.rest) (sym (at_joined p a x));
}

-- a stage in which a party waits at once sends nothing
quiet_more : (i : ℕ) (ss : List (Three (List ℕ))) → slice_index_or ss i nothing ≡ nothing → all_sent (take (suc i) ss) ≡ all_sent (take i ss)
quiet_more i [] e = ap all_sent (none i) where
  none : (i : ℕ) → take {A = Three (List ℕ)} (suc i) [] ≡ take i []
  none zero = refl
  none (suc i) = refl
quiet_more zero (s ∷ ss) e = joined_none s ∙ e
quiet_more (suc i) (s ∷ ss) e = ap (λ x. joined s x) (quiet_more i ss e)

-- so many stages have begun where those that are done, and that of the core, have sent all that they send
pub begun_sent : (turned waits : Bool) (i : ℕ) (ss : List (Three (List ℕ))) → (turned || waits) ≡ true → (waits ≡ true → slice_index_or ss i nothing ≡ nothing)
    → all_sent (take (suc i) ss) ≡ all_sent (take (cond turned (suc i) i) ss)
begun_sent true w i ss e h = refl
begun_sent false w i ss e h = quiet_more i ss (h e)

false_true : false ≡ true → ⊥
false_true e = cc

unsent : (b : Bool) (x : Three (List ℕ)) → b ≡ false → cond b x nothing ≡ nothing
unsent false x e = refl
unsent true x e = absurd (true≢false e)

not_true : (b : Bool) → not b ≡ true → b ≡ false
not_true false e = refl
not_true true e = absurd (false_true e)

pub or_true : (b : Bool) → (b || true) ≡ true
or_true true = refl
or_true false = refl

apart : (v p : Party) → same_party v p ≡ true → same_party v (next p) ≡ false
apart First First e = refl
apart Second Second e = refl
apart Third Third e = refl
apart First Second e = absurd (false_true e)
apart First Third e = absurd (false_true e)
apart Second First e = absurd (false_true e)
apart Second Third e = absurd (false_true e)
apart Third First e = absurd (false_true e)
apart Third Second e = absurd (false_true e)

earlier : (v p : Party) → same_party v (before p) ≡ true → same_party v p ≡ false
earlier First Second e = refl
earlier Second Third e = refl
earlier Third First e = refl
earlier First First e = absurd (false_true e)
earlier First Third e = absurd (false_true e)
earlier Second First e = absurd (false_true e)
earlier Second Second e = absurd (false_true e)
earlier Third Second e = absurd (false_true e)
earlier Third Third e = absurd (false_true e)

-- ---- the party that sends a private order

none_taken : (q : Party) → first_of takes_nothing ≡ Some q → ⊥
none_taken q e = none_some q e

pub from_one : (p q : Party) (n : ℕ) → first_of (takes_from p n) ≡ Some q → q ≡ p
from_one First q n e = by (nat_lt 0 n) e where
  by : (b : Bool) → cond b (Some First) None ≡ Some q → q ≡ First
  by true e = sym (some_same First q e)
  by false e = absurd (none_some q e)
from_one Second q n e = by (nat_lt 0 n) e where
  by : (b : Bool) → cond b (Some Second) None ≡ Some q → q ≡ Second
  by true e = sym (some_same Second q e)
  by false e = absurd (none_some q e)
from_one Third q n e = by (nat_lt 0 n) e where
  by : (b : Bool) → cond b (Some Third) None ≡ Some q → q ≡ Third
  by true e = sym (some_same Third q e)
  by false e = absurd (none_some q e)

-- the party before the one whose order it is takes words of that one alone
abbrev steer_takes : Party → Party → ℕ → ℕ → List (Three ℕ)
steer_takes v b n m = when (same_party v (before b)) (takes_from b n) ∷ phase_takes v (next b) m ∷ phase_takes v b m ∷ []

at_three : (p q : Party) (n m i : ℕ) → first_of (slice_index_or (takes_from p n ∷ takes_nothing ∷ takes_from p m ∷ []) i takes_nothing) ≡ Some q → q ≡ p
at_three p q n m zero e = from_one p q n e
at_three p q n m (suc zero) e = absurd (none_taken q e)
at_three p q n m (suc (suc zero)) e = from_one p q m e
at_three p q n m (suc (suc (suc i))) e = absurd (none_taken q e)

steer_from : (v b q : Party) (n m i : ℕ) → same_party v (before b) ≡ true → first_of (slice_index_or (steer_takes v b n m) i takes_nothing) ≡ Some q → q ≡ next v
steer_from First Second q n m i f e = at_three Second q n m i e
steer_from Second Third q n m i f e = at_three Third q n m i e
steer_from Third First q n m i f e = at_three First q n m i e
steer_from First First q n m i f e = absurd (false_true f)
steer_from First Third q n m i f e = absurd (false_true f)
steer_from Second First q n m i f e = absurd (false_true f)
steer_from Second Second q n m i f e = absurd (false_true f)
steer_from Third Second q n m i f e = absurd (false_true f)
steer_from Third Third q n m i f e = absurd (false_true f)

and_first : (a b : Bool) → (a && b) ≡ true → a ≡ true
and_first true b e = refl
and_first false b e = absurd (false_true e)

bad_from : {T : Type 0} (v q : Party) (l : Layout) (s : Step T) (g : Given) (i : ℕ) → takes_bad_order v l s g ≡ true → first_of (takes_at v l s i) ≡ Some q → q ≡ next v
bad_from v q l (Steer b s moved) g i f e =
    steer_from v (party_of b) q (rows_moved l moved) (length moved * rows_moved l moved) i
    (and_first (same_party v (before (party_of b))) (is_bad_order (rows_moved l moved) (at (party_of b) g.received)) f) e
bad_from v q l (Const words) g i f e = absurd (false_true f)
bad_from v q l (Lin op) g i f e = absurd (false_true f)
bad_from v q l (And a b) g i f e = absurd (false_true f)
bad_from v q l (Share p s) g i f e = absurd (false_true f)
bad_from v q l (Reveal to moved shown) g i f e = absurd (false_true f)
bad_from v q l (Tell a b s) g i f e = absurd (false_true f)
bad_from v q l (Work p task takes gives) g i f e = absurd (false_true f)
bad_from v q l (Flag p s) g i f e = absurd (false_true f)

-- ---- a stage that takes words is there

stage_there : (ts : List (Three ℕ)) (i : ℕ) (q : Party) → first_of (slice_index_or ts i takes_nothing) ≡ Some q → i < length ts
stage_there [] i q e = absurd (none_taken q e)
stage_there (t ∷ ts) zero q e = omega arith
stage_there (t ∷ ts) (suc i) q e = let h = stage_there ts i q e in omega (arith, h)

within : (i n : ℕ) → (i < n) ⊎ (i ≡ 0) → i ≤ n
within i n h = elim h [ inl lt ↦ omega (arith, lt) | inr z ↦ omega (arith, z) ]

begun_most : (b : Bool) (i n : ℕ) → i ≤ n → cond b (suc i) i ≤ suc n
begun_most true i n h = omega (arith, h)
begun_most false i n h = omega (arith, h)

module _ {T : Type 0} (accepts : T → List Shape → List Shape → Bool) (answer : T → List (List ℕ) → List (List ℕ)) where
  -- a stage in which a party waits at once sends nothing
  pub waits_quiet : (v : Party) (l : Layout) (a : Part) (s : Step T) (g : Given) (i : ℕ) → IsTrue (is_fine accepts l s) → waits_at v s i ≡ true
      → slice_index_or (stage_sends v l a s g) i nothing ≡ nothing
  waits_quiet v l a (Const words) g i fine e = absurd (false_true e)
  waits_quiet v l a (Lin op) g i fine e = absurd (false_true e)
  waits_quiet v l a (And x y) g zero fine e = absurd (false_true e)
  waits_quiet v l a (And x y) g (suc i) fine e = absurd (false_true e)
  waits_quiet v l a (Share p s) g zero fine e = unsent (same_party v (party_of p)) _ (not_true (same_party v (party_of p)) e)
  waits_quiet v l a (Share p s) g (suc i) fine e = absurd (false_true e)
  waits_quiet v l a (Reveal to moved shown) g zero fine e = absurd (false_true e)
  waits_quiet v l a (Reveal to moved shown) g (suc zero) fine e = absurd (false_true e)
  waits_quiet v l a (Reveal to moved shown) g (suc (suc zero)) fine e = absurd (false_true e)
  waits_quiet v l a (Reveal to moved shown) g (suc (suc (suc zero))) fine e = unsent (same_party v (next (party_of to))) _ (apart v (party_of to) e)
  waits_quiet v l a (Reveal to moved shown) g (suc (suc (suc (suc i)))) fine e = absurd (false_true e)
  waits_quiet v l a (Steer b s moved) g zero fine e = unsent (same_party v (party_of b)) _ (earlier v (party_of b) e)
  waits_quiet v l a (Steer b s moved) g (suc zero) fine e = absurd (false_true e)
  waits_quiet v l a (Steer b s moved) g (suc (suc zero)) fine e = absurd (false_true e)
  waits_quiet v l a (Steer b s moved) g (suc (suc (suc i))) fine e = absurd (false_true e)
  waits_quiet v l a (Tell source target s) g zero fine e = unsent (same_party v (party_of source)) _ (told_apart accepts v l source target s fine e)
  waits_quiet v l a (Tell source target s) g (suc i) fine e = absurd (false_true e)
  waits_quiet v l a (Work p task takes gives) g i fine e = absurd (false_true e)
  waits_quiet v l a (Flag p s) g zero fine e = unsent (same_party v (party_of p)) _ (not_true (same_party v (party_of p)) e)
  waits_quiet v l a (Flag p s) g (suc i) fine e = absurd (false_true e)

  progress_good : (v : Party) (l : Layout) (s : Step T) (g : Given) → takes_bad_order v l s g ≡ false → progress_of v l s g ≡ progress (stage_takes v l s) g.received
  progress_good v l s g e = ap (λ b. cond b (record { passed = 0; early = Some (NoOrder (next v)) }) (progress (stage_takes v l s) g.received)) e

  progress_bad : (v : Party) (l : Layout) (s : Step T) (g : Given) → takes_bad_order v l s g ≡ true → progress_of v l s g ≡ record { passed = 0; early = Some (NoOrder (next v)) }
  progress_bad v l s g e = ap (λ b. cond b (record { passed = 0; early = Some (NoOrder (next v)) }) (progress (stage_takes v l s) g.received)) e

  -- ---- the laws

  same_part : (a : Part) (x : Three (List ℕ)) (n : Three ℕ) → x ≡ a.sent → n ≡ a.taken → a ≡ record a { sent = x; taken = n }
  same_part a x n e f = ap (λ x. record a { sent = x }) (sym e) ∙ ap (λ n. record a { sent = x; taken = n }) (sym f)

  at_end : (c : CoreView T) → next_step c ≡ None → whole answer c ≡ record (part_so_far answer c) { sent = sent_so_far answer c; taken = taken_so_far answer c }
  at_end c e =
      let a = part_so_far answer c in
      whole_cut accepts answer c
      ∙ ap (λ ss. runs answer c.party (layout_here c) a ss (given_here c)) (drop_none c.list.steps c.far.steps e)
      ∙ same_part a (sent_so_far answer c) (taken_so_far answer c)
      (ap (λ o. joined a.sent (all_sent (take (stages_begun c.far) (sends_in answer c o)))) e ∙ sent_none a.sent (stages_begun c.far))
      (ap (λ o. more_taken a.taken (take c.far.stages (takes_in answer c o))) e ∙ taken_none a.taken c.far.stages)

  at_stop : (c : CoreView T) → IsReached accepts answer c → (part_so_far answer c).stop ≡ true
      → whole answer c ≡ record (part_so_far answer c) { sent = sent_so_far answer c; taken = taken_so_far answer c }
  at_stop c h w =
      let a = part_so_far answer c in
      let still = h.still w in
      whole_cut accepts answer c
      ∙ ended_run answer c.party (layout_here c) a (steps_left c) (given_here c) (ap (λ b. b || is_some a.early) w)
      ∙ same_part a (sent_so_far answer c) (taken_so_far answer c)
      (ap (λ n. joined a.sent (all_sent (take n (sends_in answer c (next_step c))))) (ap (λ b. cond b (suc c.far.stages) c.far.stages) still.turned ∙ still.stages) ∙ joined_none a.sent)
      (ap (λ n. more_taken a.taken (take n (takes_in answer c (next_step c)))) still.stages ∙ taken_none a.taken 0)

  -- in a step that goes on
  in_step : (c : CoreView T) (s : Step T) → Here accepts answer c s
      → whole answer c ≡ runs answer c.party (grown (layout_here c) s) (part_going answer c.party (layout_here c) (part_so_far answer c) s (given_for c s)) (drop (suc c.far.steps) c.list.steps)
      ((part_cut c.party).rest (layout_here c) s (given_here c))
  in_step c s h = whole_cut accepts answer c ∙ ap (λ ss. runs answer c.party (layout_here c) (part_so_far answer c) ss (given_here c)) h.left

  sends : (c : CoreView T) → IsReached accepts answer c → (p : Party) → Begins (at p (sent_so_far answer c)) (at p (whole answer c).sent)
  sends c h p = by (part_so_far answer c).stop refl (next_step c) refl where
    same : whole answer c ≡ record (part_so_far answer c) { sent = sent_so_far answer c; taken = taken_so_far answer c }
        → Begins (at p (sent_so_far answer c)) (at p (whole answer c).sent)
    same e = subst (λ x. Begins (at p (sent_so_far answer c)) (at p x.sent)) (sym e) (begins_refl (at p (sent_so_far answer c)))

    by : (b : Bool) → (part_so_far answer c).stop ≡ b → (o : Option (Step T)) → next_step c ≡ o → Begins (at p (sent_so_far answer c)) (at p (whole answer c).sent)
    by true e o f = same (at_stop c h e)
    by false e None f = same (at_end c f)
    by false e (Some s) f =
        let v = c.party in
        let l = layout_here c in
        let a = part_so_far answer c in
        let g = given_for c s in
        let x = progress_of v l s g in
        let ss = stage_sends v l a s g in
        let y = here accepts answer c s h e f in
        let b = part_going answer v l a s g in
        let far = subst (λ x. c.far.stages ≤ x.passed) (sym (progress_good v l s g y.order))
        (comes_far (stage_takes v l s) c.far.stages g.received (within c.far.stages (stage_count v l s) y.stands.inside) (λ p. let n = y.long p in omega (arith, n))) in
        let most = begun_most c.far.turned c.far.stages x.passed far in
        let one = begins_behind p a.sent (all_sent (take (stages_begun c.far) ss)) (all_sent (take (suc x.passed) ss)) (sent_fewer p (stages_begun c.far) (suc x.passed) ss most) in
        let two = subst (λ b. Begins (at p (joined a.sent (all_sent (take (stages_begun c.far) ss)))) (at p b.sent)) (sym (going_step answer v l a s g y.on)) one in
        let three = subst (λ o. Begins (at p (joined a.sent (all_sent (take (stages_begun c.far) (sends_in answer c o))))) (at p b.sent)) (sym f) two in
        let all = sent_run answer v p (grown l s) b (drop (suc c.far.steps) c.list.steps) ((part_cut v).rest l s (given_here c)) in
        begins_trans (at p (sent_so_far answer c)) (at p b.sent) (at p (whole answer c).sent) three (subst (λ w. Begins (at p b.sent) (at p w.sent)) (sym (in_step c s y)) all)

  ends : (c : CoreView T) → IsReached accepts answer c → want_of answer c ≡ Done
      → whole answer c ≡ record (part_so_far answer c) { sent = sent_so_far answer c; taken = taken_so_far answer c }
  ends c h e = at_end c (wants_done answer c e).none

  stops : (c : CoreView T) (flag : ℕ) → IsReached accepts answer c → want_of answer c ≡ Stopped flag
      → whole answer c ≡ record (part_so_far answer c) { sent = sent_so_far answer c; taken = taken_so_far answer c }
  stops c flag h e = at_stop c h (wants_stopped answer c flag e).0

  waits : (c : CoreView T) (q n : ℕ) → IsReached accepts answer c → want_of answer c ≡ Words q n
      → whole answer c ≡ record (part_so_far answer c) { sent = sent_so_far answer c; taken = taken_so_far answer c; early = Some (UsedUp (party_of q)) }
  waits c q n h e =
      let v = c.party in
      let l = layout_here c in
      let a = part_so_far answer c in
      let w = wants_words answer c q n e in
      let s = w.step in
      let g = given_for c s in
      let i = c.far.stages in
      let why = UsedUp (party_of q) in
      let ss = stage_sends v l a s g in
      let y = here accepts answer c s h w.going w.next in
      let there = stage_there (stage_takes v l s) i (party_of q) w.wants.first.is in
      let x = progress_good v l s g y.order ∙ comes_up_to (stage_takes v l s) i g.received (party_of q) there y.long w.wants.first.is in
      let going = going_step answer v l a s g y.on ∙ went_early (progress_of v l s g) i why ss (stage_takes v l s) a (part_step answer v l a s g) x in
      let b = record a { sent = joined a.sent (all_sent (take (suc i) ss)); taken = more_taken a.taken (take i (stage_takes v l s)); early = Some why } in
      let fine = fine_here accepts answer c s h w.next in
      let sent = ap (λ x. joined a.sent x) (begun_sent c.far.turned (waits_at v s i) i ss w.wants.ready (λ e. waits_quiet v l a s g i fine e)) in
      let told = sent ∙ ap (λ o. joined a.sent (all_sent (take (stages_begun c.far) (sends_in answer c o)))) (sym w.next) in
      let took = ap (λ o. more_taken a.taken (take i (takes_in answer c o))) (sym w.next) in
      in_step c s y
      ∙ ap (λ b. runs answer v (grown l s) b (drop (suc c.far.steps) c.list.steps) ((part_cut v).rest l s (given_here c))) going
      ∙ ended_run answer v (grown l s) b (drop (suc c.far.steps) c.list.steps) ((part_cut v).rest l s (given_here c)) (or_true a.stop)
      ∙ ap (λ x. record a { sent = x; taken = more_taken a.taken (take i (stage_takes v l s)); early = Some why }) told
      ∙ ap (λ x. record a { sent = sent_so_far answer c; taken = x; early = Some why }) took

  refuses : (c : CoreView T) (q n : ℕ) (words : List ℕ) → IsReached accepts answer c → want_of answer c ≡ Words q n → length words ≡ n
      → breaks_order c (party_of q) words ≡ true
      → (part_of answer c.party c.list c.slots (with_words c.given (party_of q) words)).early ≡ Some (NoOrder (party_of q))
  refuses c q n words h e long broken =
      let v = c.party in
      let l = layout_here c in
      let a = part_so_far answer c in
      let w = wants_words answer c q n e in
      let s = w.step in
      let d = record (took c (party_of q) words) { far = c.far } in
      let g = given_for d s in
      let y = here accepts answer c s h w.going w.next in
      let bad = sym (ap (λ o. breaks_order_in d o) w.next) ∙ broken in
      let same = run_stays answer v (starting c.list.first) (part_before c.slots) (take c.far.steps c.list.steps) c.given (party_of q) words y.on in
      let ss = stage_sends v l a s g in
      let going = going_step answer v l a s g y.on ∙ went_early (progress_of v l s g) 0 (NoOrder (next v)) ss (stage_takes v l s) a (part_step answer v l a s g) (progress_bad v l s g bad) in
      let b = record a { sent = joined a.sent (all_sent (take 1 ss)); taken = more_taken a.taken (take 0 (stage_takes v l s)); early = Some (NoOrder (next v)) } in
      let from = bad_from v (party_of q) l s g c.far.stages bad w.wants.first.is in
      let all = whole_cut accepts answer d
      ∙ ap (λ ss. runs answer v l (part_so_far answer d) ss (given_here d)) y.left
      ∙ ap (λ a. runs answer v l a (s ∷ drop (suc c.far.steps) c.list.steps) (given_here d)) same
      ∙ ap (λ b. runs answer v (grown l s) b (drop (suc c.far.steps) c.list.steps) ((part_cut v).rest l s (given_here d))) going
      ∙ ended_run answer v (grown l s) b (drop (suc c.far.steps) c.list.steps) ((part_cut v).rest l s (given_here d)) (or_true a.stop) in
      ap (λ p. p.early) all ∙ ap (λ p. Some (NoOrder p)) (sym from)

  pub cores_are_parts : CoresAreParts accepts answer
  cores_are_parts = record { sends = sends; waits = waits; ends = ends; stops = stops; refuses = refuses }
