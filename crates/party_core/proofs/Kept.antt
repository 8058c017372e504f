-- A core stays reached by a turn and by words, and what it has sent grows by what the turn sends.
use Rattle.std.proofs.Common.{◌≡◌, ℕ, zero, suc, ◌+◌, ◌<◌, Bool, true, false, cond, not, Option, Some, None, List, [], ◌∷◌, ◌++◌, length, map, take, drop, refl, sym, ap, subst, ◌∙◌, arith, inl, inr}
use Rattle.std.specs.Prelude.{◌||◌, ◌&&◌, ◌==◌, nat_le, nat_lt, slice_index_or, is_some}
use Rattle.std.specs.List.{AllByRecursion}
use Rattle.std.proofs.lemmas.Bool.{eqb-true, ltb-true, ltb-false, leb-true}
use Rattle.std.proofs.lemmas.List.{append_assoc, take_all, length-drop}
use Rattle.lanes.specs.declared.party.Party.{Party}
use Rattle.lanes.specs.declared.party.Party.TheVariants.{First, Second, Third}
use Rattle.lanes.specs.declared.three.Three.{Three}
use Rattle.lanes.specs.Party.{next, before}
use Rattle.lanes.specs.Three.{at}
use Rattle.lanes.specs.Word.{AreWords}
use Rattle.tapes.specs.Needs.{FitsNeeds}
use Rattle.step_lists.specs.declared.step.Shape.{Shape}
use Rattle.step_lists.specs.declared.step.Step.{Step}
use Rattle.step_lists.specs.declared.step.Step.TheVariants.{Const, Lin, And, Share, Reveal, Steer, Tell, Work, Flag}
use Rattle.step_lists.specs.Layout.{Layout, party_of, grown, grown_by, starting, rows_moved}
use Rattle.step_lists.specs.Draws.{joined, needs, nothing}
use Rattle.step_lists.specs.Rules.{IsWellFormed}
use Rattle.step_lists.specs.Run.{rest_after}
use Rattle.step_lists.specs.RunLaws.{run-append, rest_after-append, grown_by-append}
use Rattle.step_lists.specs.Seen.{same_party}
use Rattle.step_lists.specs.Part.{Given, Part, part_before, part_cut, part_going, part_step, progress, progress_of, takes_bad_order, is_bad_order, is_order, stage_sends, stage_takes, taken_of, count_from, takes_nothing, has_ended, all_sent, more_taken, part_flag, Early, NoOrder}
use Rattle.step_lists.specs.Open.{item}
use Rattle.party_core.specs.Stages.{takes_none, stage_count}
use Rattle.party_core.specs.CoreView.{CoreView, Far, next_step, layout_here, given_here, given_for, behind_stage}
use Rattle.party_core.specs.Core.{part_so_far, sent_so_far, sends_in, takes_in, breaks_order_in}
use Rattle.party_core.specs.Reached.{IsReached, Stands}
use Rattle.party_core.proofs.Steps.{take_here, end_here}
use Rattle.party_core.proofs.Progressing.{at_parties, count_more, comes_whole}
use Rattle.party_core.proofs.Runs.{runs, at_more, done_whole, went_whole, going_step}
use Rattle.party_core.proofs.Here.{long_behind, long_for, joined_none}

-- ---- lists of stages

pub all_sent_more : (i : ℕ) (ss : List (Three (List ℕ))) → all_sent (take (suc i) ss) ≡ joined (all_sent (take i ss)) (slice_index_or ss i nothing)
all_sent_more zero [] = refl
all_sent_more (suc i) [] = refl
all_sent_more zero (s ∷ ss) = joined_none s
all_sent_more (suc i) (s ∷ ss) = ap (λ x. joined s x) (all_sent_more i ss) ∙ sym (joined_assoc s (all_sent (take i ss)) (slice_index_or ss i nothing))
  where
    joined_assoc : (a b c : Three (List ℕ)) → joined (joined a b) c ≡ joined a (joined b c)
    joined_assoc a b c =
        ap (λ x. record { first = x; second = (a.second ++ b.second) ++ c.second; third = (a.third ++ b.third) ++ c.third }) (append_assoc a.first b.first c.first)
        ∙ ap (λ x. record { first = a.first ++ (b.first ++ c.first); second = x; third = (a.third ++ b.third) ++ c.third }) (append_assoc a.second b.second c.second)
        ∙ ap (λ x. record { first = a.first ++ (b.first ++ c.first); second = a.second ++ (b.second ++ c.second); third = x }) (append_assoc a.third b.third c.third)

pub joined_again : (a b c : Three (List ℕ)) → joined a (joined b c) ≡ joined (joined a b) c
joined_again a b c =
    ap (λ x. record { first = x; second = a.second ++ (b.second ++ c.second); third = a.third ++ (b.third ++ c.third) }) (sym (append_assoc a.first b.first c.first))
    ∙ ap (λ x. record { first = (a.first ++ b.first) ++ c.first; second = x; third = a.third ++ (b.third ++ c.third) }) (sym (append_assoc a.second b.second c.second))
    ∙ ap (λ x. record { first = (a.first ++ b.first) ++ c.first; second = (a.second ++ b.second) ++ c.second; third = x }) (sym (append_assoc a.third b.third c.third))

pub count_next : (p : Party) (i : ℕ) (ts : List (Three ℕ)) → count_from p (take (suc i) ts) ≡ count_from p (take i ts) + at p (slice_index_or ts i takes_nothing)
count_next p zero [] = none p where
  none : (p : Party) → 0 ≡ 0 + at p takes_nothing
  none First = refl
  none Second = refl
  none Third = refl
count_next p (suc i) [] = none p where
  none : (p : Party) → 0 ≡ 0 + at p takes_nothing
  none First = refl
  none Second = refl
  none Third = refl
count_next p zero (t ∷ ts) = let a = count_more p t [] in omega (arith, a)
count_next p (suc i) (t ∷ ts) =
    let a = count_more p t (take (suc i) ts) in
    let b = count_more p t (take i ts) in
    let c = count_next p i ts in
    omega (arith, a, b, c)

-- all stages, where the next one would be behind the last
pub last_stage : {A : Type 0} (i : ℕ) (ts : List A) → nat_lt (suc i) (length ts) ≡ false → take (suc i) ts ≡ ts
last_stage i ts e = take_all (suc i) ts (ltb-false (suc i) (length ts) e)

pub sends_count : {T : Type 0} (v : Party) (l : Layout) (a : Part) (s : Step T) (g : Given) → length (stage_sends v l a s g) ≡ length (stage_takes v l s)
sends_count v l a (Const words) g = refl
sends_count v l a (Lin op) g = refl
sends_count v l a (And x y) g = refl
sends_count v l a (Share p s) g = refl
sends_count v l a (Reveal to moved shown) g = refl
sends_count v l a (Steer by s moved) g = refl
sends_count v l a (Tell x y s) g = refl
sends_count v l a (Work p task takes gives) g = refl
sends_count v l a (Flag p s) g = refl

-- a stage that takes none takes none of each party
and_all : (a b c : Bool) → (a && b && c) ≡ true → (a ≡ true) × (b ≡ true) × (c ≡ true)
and_all true true true e = (refl, refl, refl)
and_all true true false e = absurd (false_true e) where
  false_true : false ≡ true → ⊥
  false_true e = cc
and_all true false c e = absurd (false_true e) where
  false_true : false ≡ true → ⊥
  false_true e = cc
and_all false b c e = absurd (false_true e) where
  false_true : false ≡ true → ⊥
  false_true e = cc

pub none_each : (t : Three ℕ) → takes_none t ≡ true → (p : Party) → at p t ≡ 0
none_each t e First = eqb-true t.first 0 (and_all (t.first == 0) (t.second == 0) (t.third == 0) e).0
none_each t e Second = eqb-true t.second 0 (and_all (t.first == 0) (t.second == 0) (t.third == 0) e).1
none_each t e Third = eqb-true t.third 0 (and_all (t.first == 0) (t.second == 0) (t.third == 0) e).2

-- ---- a private order of which no word came

pub no_order : {T : Type 0} (v : Party) (l : Layout) (s : Step T) (g : Given) → ((p : Party) → at p g.received ≡ []) → takes_bad_order v l s g ≡ false
no_order v l (Steer b s moved) g h =
    ap (λ got. same_party v (before (party_of b)) && is_bad_order (rows_moved l moved) got) (h (party_of b)) ∙ nothing_bad (same_party v (before (party_of b))) (rows_moved l moved)
  where
    nothing_bad : (b : Bool) (n : ℕ) → (b && is_bad_order n []) ≡ false
    nothing_bad false n = refl
    nothing_bad true zero = refl
    nothing_bad true (suc n) = by (nat_le (suc n) 0) refl where
      by : (c : Bool) → nat_le (suc n) 0 ≡ c → (c && not (is_order (take (suc n) []))) ≡ false
      by false e = refl
      by true e = let h = leb-true (suc n) 0 e in absurd (omega (arith, h))
no_order v l (Const words) g h = refl
no_order v l (Lin op) g h = refl
no_order v l (And x y) g h = refl
no_order v l (Share p s) g h = refl
no_order v l (Reveal to moved shown) g h = refl
no_order v l (Tell x y s) g h = refl
no_order v l (Work p task takes gives) g h = refl
no_order v l (Flag p s) g h = refl

pub no_words : (xs : List ℕ) → length xs ≡ 0 → xs ≡ []
no_words [] e = refl
no_words (x ∷ xs) e = absurd (omega (arith, e))

-- ---- what a step leaves of a part

early_if : (b : Bool) (x y : Part) (e : Option Early) → x.early ≡ e → y.early ≡ e → (cond b x y).early ≡ e
early_if true x y e h k = h
early_if false x y e h k = k

flag_early : (a : Part) (ws : List ℕ) → (part_flag a ws).early ≡ a.early
flag_early a ws = by (slice_index_or ws 0 0 == 0) where
  by : (b : Bool) → (cond b (record a { flags = suc a.flags }) (record a { stop = true })).early ≡ a.early
  by true = refl
  by false = refl

module _ {T : Type 0} (accepts : T → List Shape → List Shape → Bool) (answer : T → List (List ℕ) → List (List ℕ)) where
  pub step_early : (v : Party) (l : Layout) (a : Part) (s : Step T) (g : Given) → (part_step answer v l a s g).early ≡ a.early
  step_early v l a (Const words) g = refl
  step_early v l a (Lin op) g = refl
  step_early v l a (And x y) g = refl
  step_early v l a (Share p s) g = refl
  step_early v l a (Reveal to moved shown) g = early_if (same_party v (party_of to)) _ _ a.early refl refl
  step_early v l a (Steer by s moved) g = refl
  step_early v l a (Tell x y s) g = early_if (same_party v (party_of y)) _ _ a.early refl refl
  step_early v l a (Work p task takes gives) g = early_if (same_party v (party_of p)) _ _ a.early refl refl
  step_early v l a (Flag p s) g = flag_early a (cond (same_party v (party_of p)) (item a.slots s) (at (party_of p) g.received))

  -- a core with the words of so many stages of its step
  pub record Filled (d : CoreView T) (s : Step T) (m : ℕ) : Type 0 where
    pub well_formed : IsWellFormed accepts d.list
    pub long : map length d.slots ≡ at d.party d.list.first
    pub below : AllByRecursion AreWords d.slots
    pub own : FitsNeeds (needs d.party (starting d.list.first) d.list.steps) d.given.own
    pub following : FitsNeeds (needs (next d.party) (starting d.list.first) d.list.steps) d.given.following
    pub on : has_ended (part_so_far answer d) ≡ false
    pub early : (part_so_far answer d).early ≡ None
    pub here : next_step d ≡ Some s
    pub order : takes_bad_order d.party (layout_here d) s (given_for d s) ≡ false
    pub words : (p : Party) → AreWords (at p d.given.received)
    pub total : (p : Party) → length (at p d.given.received) ≡ at p (part_so_far answer d).taken + count_from p (take m (stage_takes d.party (layout_here d) s))

  -- ---- the step comes to its end

  abbrev next_far : CoreView T → Far
  next_far d = record { steps = suc d.far.steps; stages = 0; turned = false }

  abbrev done : CoreView T → CoreView T
  done d = record d { far = next_far d }

  whole_step : (d : CoreView T) (s : Step T) (m : ℕ) → Filled d s m → take m (stage_takes d.party (layout_here d) s) ≡ stage_takes d.party (layout_here d) s
      → (p : Party) → count_from p (stage_takes d.party (layout_here d) s) ≡ length (at p (given_for d s).received)
  whole_step d s m h e p = ap (λ ts. count_from p ts) (sym e) ∙ sym (long_for accepts answer d s m p (long_behind accepts answer d s m p h.on (h.total p)))

  pub done_layout : (d : CoreView T) (s : Step T) → next_step d ≡ Some s → layout_here (done d) ≡ grown (layout_here d) s
  done_layout d s e = ap (λ xs. grown_by (starting d.list.first) xs) (take_here d.list.steps d.far.steps s e) ∙ grown_by-append (starting d.list.first) (take d.far.steps d.list.steps) (s ∷ [])

  done_given : (d : CoreView T) (s : Step T) → next_step d ≡ Some s → given_here (done d) ≡ (part_cut d.party).rest (layout_here d) s (given_here d)
  done_given d s e =
      ap (λ xs. rest_after (part_cut d.party) (starting d.list.first) xs d.given) (take_here d.list.steps d.far.steps s e)
      ∙ rest_after-append (part_cut d.party) (starting d.list.first) (take d.far.steps d.list.steps) (s ∷ []) d.given

  abbrev done_by : CoreView T → Step T → Part
  done_by d s =
      done_whole (stage_count d.party (layout_here d) s) (stage_sends d.party (layout_here d) (part_so_far answer d) s (given_for d s)) (stage_takes d.party (layout_here d) s) (part_so_far answer d)
      (part_step answer d.party (layout_here d) (part_so_far answer d) s (given_for d s))

  pub done_part : (d : CoreView T) (s : Step T) (m : ℕ) → Filled d s m → take m (stage_takes d.party (layout_here d) s) ≡ stage_takes d.party (layout_here d) s → part_so_far answer (done d) ≡ done_by d s
  done_part d s m h e =
      let v = d.party in
      let l = layout_here d in
      let a = part_so_far answer d in
      let g = given_for d s in
      let there = comes_whole (stage_takes v l s) g.received (λ p. let n = whole_step d s m h e p in omega (arith, n)) in
      let x = ap (λ b. cond b (record { passed = 0; early = Some (NoOrder (next v)) }) (progress (stage_takes v l s) g.received)) h.order ∙ there in
      ap (λ xs. runs answer v (starting d.list.first) (part_before d.slots) xs d.given) (take_here d.list.steps d.far.steps s h.here)
      ∙ run-append (part_going answer v) (part_cut v) (starting d.list.first) (part_before d.slots) (take d.far.steps d.list.steps) (s ∷ []) d.given
      ∙ going_step answer v l a s g h.on
      ∙ went_whole (progress_of v l s g) (stage_count v l s) (stage_sends v l a s g) (stage_takes v l s) a (part_step answer v l a s g) x

  take_whole : (ts : List (Three ℕ)) → take (length ts) ts ≡ ts
  take_whole ts = take_all (length ts) ts (omega arith)

  abbrev Full : CoreView T → Step T → ℕ → Type 0
  Full d s m = take m (stage_takes d.party (layout_here d) s) ≡ stage_takes d.party (layout_here d) s

  -- nothing came for the step behind it
  nothing_came : (d : CoreView T) (s : Step T) (m : ℕ) → Filled d s m → Full d s m → (p : Party) → at p (given_here (done d)).received ≡ []
  nothing_came d s m h e p =
      let v = d.party in
      let l = layout_here d in
      let here = long_behind accepts answer d s m p h.on (h.total p) in
      let all = at_parties (λ q. count_from q (stage_takes v l s)) p in
      let same = ap (λ g. at p g.received) (done_given d s h.here) ∙ at_parties (λ q. drop (at q (taken_of v l s)) (at q (given_here d).received)) p in
      let long = length-drop (at p (taken_of v l s)) (at p (given_here d).received) in
      let c = ap (λ ts. count_from p ts) e in
      same ∙ no_words (drop (at p (taken_of v l s)) (at p (given_here d).received)) (omega (arith, here, all, long, c))

  cut_nothing : (n : ℕ) (xs : List ℕ) → xs ≡ [] → take n xs ≡ []
  cut_nothing n xs e = ap (λ xs. take n xs) e ∙ none n where
    none : (n : ℕ) → take {A = ℕ} n [] ≡ []
    none zero = refl
    none (suc n) = refl

  false_true : false ≡ true → ⊥
  false_true e = cc

  done_reached : (d : CoreView T) (s : Step T) (m : ℕ) → Filled d s m → Full d s m → IsReached accepts answer (done d)
  done_reached d s m h e = record {
    well_formed = h.well_formed;
    long = h.long;
    below = h.below;
    own = h.own;
    following = h.following;
    words = h.words;
    taken = λ p.
        let is = ap (λ b. at p b.taken) (done_part d s m h e) ∙ at_more p (part_so_far answer d).taken (take (stage_count d.party (layout_here d) s) (stage_takes d.party (layout_here d) s)) in
        let c = ap (λ ts. count_from p ts) (take_whole (stage_takes d.party (layout_here d) s)) in
        let f = ap (λ ts. count_from p ts) e in
        let t = h.total p in
        let z = at_more p (part_so_far answer (done d)).taken [] in
        let n : length (at p d.given.received) ≡ at p (part_so_far answer (done d)).taken + 0 = omega (arith, is, c, f, t) in
        n ∙ sym z;
    early = ap (λ b. b.early) (done_part d s m h e) ∙ step_early d.party (layout_here d) (part_so_far answer d) s (given_for d s) ∙ h.early;
    order = order (next_step (done d));
    stands = stands (next_step (done d)) refl;
    still = λ f. record { stages = refl; turned = refl };
  } where
    order : (o : Option (Step T)) → breaks_order_in (done d) o ≡ false
    order None = refl
    order (Some t) = no_order d.party (layout_here (done d)) t (given_for (done d) t) (λ p.
        at_parties (λ q. take (at q (taken_of d.party (layout_here (done d)) t)) (at q (given_here (done d)).received)) p
        ∙ cut_nothing (at p (taken_of d.party (layout_here (done d)) t)) (at p (given_here (done d)).received) (nothing_came d s m h e p))

    stands : (o : Option (Step T)) → next_step (done d) ≡ o → Stands (done d) o
    stands None f = record { end = end_here d.list.steps d.far.steps s h.here f; stages = refl; turned = refl }
    stands (Some t) f = record { inside = inr refl; turned = λ e. absurd (false_true e) }

  -- ---- a stage comes to its end

  abbrev passed : CoreView T → CoreView T
  passed d = record d { far = record { steps = d.far.steps; stages = suc d.far.stages; turned = false } }

  stop_on : (a : Part) → has_ended a ≡ false → a.stop ≡ false
  stop_on a h = by a.stop h where
    by : (b : Bool) → (b || is_some a.early) ≡ false → b ≡ false
    by false h = refl
    by true h = h

  passed_reached : (d : CoreView T) (s : Step T) → Filled d s (suc d.far.stages) → suc d.far.stages < stage_count d.party (layout_here d) s → IsReached accepts answer (passed d)
  passed_reached d s h lt = record {
    well_formed = h.well_formed;
    long = h.long;
    below = h.below;
    own = h.own;
    following = h.following;
    words = h.words;
    taken = λ p. h.total p ∙ sym (at_more p (part_so_far answer d).taken (take (suc d.far.stages) (stage_takes d.party (layout_here d) s)))
        ∙ ap (λ o. at p (more_taken (part_so_far answer d).taken (take (suc d.far.stages) (takes_in answer d o)))) (sym h.here);
    early = h.early;
    order = subst (λ o. breaks_order_in (passed d) o ≡ false) (sym h.here) h.order;
    stands = subst (Stands (passed d)) (sym h.here) (record { inside = inl lt; turned = λ e. absurd (false_true e) });
    still = λ e. absurd (false_true (sym (stop_on (part_so_far answer d) h.on) ∙ e));
  }

  -- a stage with all its words
  pub moved_on : CoreView T → Step T → CoreView T
  moved_on d s = record d { far = behind_stage (stage_count d.party (layout_here d) s) d.far }

  pub stage_reached : (d : CoreView T) (s : Step T) → Filled d s (suc d.far.stages) → IsReached accepts answer (record d { far = behind_stage (stage_count d.party (layout_here d) s) d.far })
  stage_reached d s h = by (nat_lt (suc d.far.stages) (stage_count d.party (layout_here d) s)) refl where
    by : (b : Bool) → nat_lt (suc d.far.stages) (stage_count d.party (layout_here d) s) ≡ b
        → IsReached accepts answer (record d { far = cond b (record { steps = d.far.steps; stages = suc d.far.stages; turned = false }) (next_far d) })
    by true e = passed_reached d s h (ltb-true (suc d.far.stages) (stage_count d.party (layout_here d) s) e)
    by false e = done_reached d s (suc d.far.stages) h (last_stage d.far.stages (stage_takes d.party (layout_here d) s) e)

  -- and what was sent behind it: all up to this stage
  pub stage_sent : (d : CoreView T) (s : Step T) → Filled d s (suc d.far.stages)
      → sent_so_far answer (record d { far = behind_stage (stage_count d.party (layout_here d) s) d.far })
      ≡ joined (part_so_far answer d).sent (all_sent (take (suc d.far.stages) (stage_sends d.party (layout_here d) (part_so_far answer d) s (given_for d s))))
  stage_sent d s h = by (nat_lt (suc d.far.stages) (stage_count d.party (layout_here d) s)) refl where
    ss : List (Three (List ℕ))
    ss = stage_sends d.party (layout_here d) (part_so_far answer d) s (given_for d s)

    by : (b : Bool) → nat_lt (suc d.far.stages) (stage_count d.party (layout_here d) s) ≡ b
        → sent_so_far answer (record d { far = cond b (record { steps = d.far.steps; stages = suc d.far.stages; turned = false }) (next_far d) })
        ≡ joined (part_so_far answer d).sent (all_sent (take (suc d.far.stages) (stage_sends d.party (layout_here d) (part_so_far answer d) s (given_for d s))))
    by true e = ap (λ o. joined (part_so_far answer d).sent (all_sent (take (suc d.far.stages) (sends_in answer d o)))) h.here
    by false e =
        let sends = stage_sends d.party (layout_here d) (part_so_far answer d) s (given_for d s) in
        let count = sends_count d.party (layout_here d) (part_so_far answer d) s (given_for d s) in
        let some = ltb-false (suc d.far.stages) (stage_count d.party (layout_here d) s) e in
        let all = take_all (suc (stage_count d.party (layout_here d) s)) sends (omega (arith, count)) in
        let most = take_all (suc d.far.stages) sends (omega (arith, count, some)) in
        ap (λ b. joined b.sent nothing) (done_part d s (suc d.far.stages) h (last_stage d.far.stages (stage_takes d.party (layout_here d) s) e))
        ∙ joined_none (joined (part_so_far answer d).sent (all_sent (take (suc (stage_count d.party (layout_here d) s)) sends)))
        ∙ ap (λ xs. joined (part_so_far answer d).sent (all_sent xs)) (all ∙ sym most)
