-- A prefix of a list: what is possible for it, and what stays. Lemmas with their proofs, for the crates above.
use Rattle.std.proofs.Common.{◌≡◌, ℕ, suc, ◌+◌, ◌<◌, ◌≤◌, Bool, true, false, cond, eqb, List, [], ◌∷◌, ◌++◌, length, map, get_or, take, drop, refl, sym, ap, ◌∙◌, subst, arith, length-append, append-nil, true≢false}
use Rattle.std.proofs.lemmas.List.{append_assoc, get_or_append_left, length-map}
use Rattle.lanes.specs.declared.party.Party.{Party}
use Rattle.lanes.specs.declared.party.Party.TheVariants.{First, Second, Third}
use Rattle.lanes.specs.declared.three.Three.{Three}
use Rattle.lanes.specs.Three.{at, put}
use Rattle.tapes.specs.Order.{applied}
use Rattle.tapes.specs.declared.draw.Draw.{Draw}
use Rattle.tapes.specs.declared.draw.Need.{Need}
use Rattle.step_lists.specs.declared.step.Shape.{Shape}
use Rattle.step_lists.specs.declared.step.Shape.TheVariants as shapes
use Rattle.step_lists.specs.Layout.{Step, Const, Lin, And, Share, Reveal, Steer, Tell, Work, Flag, Steps, Layout, party_of, starting, shape_of, grown, grown_by, layout_of, length_of, lin_length, with_lengths, with_shapes}
use Rattle.step_lists.specs.Lin.{lin}
use Rattle.step_lists.specs.Draws.{ThreeTapes, needs, needs_of, dropped, taken}
use Rattle.step_lists.specs.Run.{run, tape_cut, rest_after}
use Rattle.step_lists.specs.RunLaws.{run-append, outs-append, grown_by-append}
use Rattle.step_lists.specs.Open.{SlotWords, Open, register, slot, with_registers, with_slots, after_flag, open_step, open_going, open_of, opening, turned}
use Rattle.step_lists.specs.Seen.{seen, seen_behind, seen_going}
use Rattle.step_lists.specs.Possible.{FitsFront, Possible, behind, StandsIn, ands_behind}

-- ---- draws

pub fits_first : (xs ys : List Need) (ds : List Draw) → FitsFront (xs ++ ys) ds → FitsFront xs ds
fits_first [] ys ds h = tt
fits_first (x ∷ xs) ys [] h = absurd h
fits_first (x ∷ xs) ys (d ∷ ds) h = (h.0, fits_first xs ys ds h.1)

pub fits_rest : (xs ys : List Need) (ds : List Draw) → FitsFront (xs ++ ys) ds → FitsFront ys (drop (length xs) ds)
fits_rest [] ys ds h = h
fits_rest (x ∷ xs) ys [] h = absurd h
fits_rest (x ∷ xs) ys (d ∷ ds) h = fits_rest xs ys ds h.1

pub at-dropped : (p : Party) (ns : Three (List Need)) (ds : ThreeTapes) → at p (dropped ns ds) ≡ drop (length (at p ns)) (at p ds)
at-dropped First ns ds = refl
at-dropped Second ns ds = refl
at-dropped Third ns ds = refl

pub at-taken : (p : Party) (ns : Three (List Need)) (ds : ThreeTapes) → at p (taken ns ds) ≡ take (length (at p ns)) (at p ds)
at-taken First ns ds = refl
at-taken Second ns ds = refl
at-taken Third ns ds = refl

-- the draws of a prefix, and the draws behind it
pub needs_append : {T : Type 0} (p : Party) (l : Layout) (xs ys : List (Step T)) → needs p l (xs ++ ys) ≡ needs p l xs ++ needs p (grown_by l xs) ys
needs_append p l [] ys = refl
needs_append p l (x ∷ xs) ys =
    ap (λ ns. at p (needs_of l x) ++ ns) (needs_append p (grown l x) xs ys)
    ∙ sym (append_assoc (at p (needs_of l x)) (needs p (grown l x) xs) (needs p (grown_by (grown l x) xs) ys))

pub needs_first : {T : Type 0} (p : Party) (l : Layout) (xs ys : List (Step T)) (ds : ThreeTapes) → FitsFront (needs p l (xs ++ ys)) (at p ds) → FitsFront (needs p l xs) (at p ds)
needs_first p l xs ys ds h = fits_first (needs p l xs) (needs p (grown_by l xs) ys) (at p ds) (subst (λ ns. FitsFront ns (at p ds)) (needs_append p l xs ys) h)

pub needs_rest : {T : Type 0} (p : Party) (l : Layout) (xs ys : List (Step T)) (ds : ThreeTapes) → FitsFront (needs p l (xs ++ ys)) (at p ds)
    → FitsFront (needs p (grown_by l xs) ys) (at p (rest_after tape_cut l xs ds))
needs_rest p l [] ys ds h = h
needs_rest p l (x ∷ xs) ys ds h =
    needs_rest p (grown l x) xs ys (dropped (needs_of l x) ds)
    (subst (λ d. FitsFront (needs p (grown l x) (xs ++ ys)) d) (sym (at-dropped p (needs_of l x) ds)) (fits_rest (at p (needs_of l x)) (needs p (grown l x) (xs ++ ys)) (at p ds) h))

-- ---- a state that grows: what was there stays, and a stop stays

pub record Grows (a b : Open) : Type 0 where
  pub registers : (r : ℕ) → r < length a.registers → register b r ≡ register a r
  pub count : length a.registers ≤ length b.registers
  pub slots : (p : Party) (s : ℕ) → s < length (at p a.slots) → slot b p s ≡ slot a p s
  pub slot_count : (p : Party) → length (at p a.slots) ≤ length (at p b.slots)
  pub going : b.stop ≡ false → a.stop ≡ false

pub grows_refl : (a : Open) → Grows a a
grows_refl a = record { registers = λ r h. refl; count = omega arith; slots = λ p s h. refl; slot_count = λ p. omega arith; going = λ h. h }

pub grows_trans : (a b c : Open) → Grows a b → Grows b c → Grows a c
grows_trans a b c first second = record {
  registers = λ r h. second.registers r (omega (arith, first.count)) ∙ first.registers r h;
  count = omega (arith, first.count, second.count);
  slots = λ p s h. second.slots p s (omega (arith, first.slot_count p)) ∙ first.slots p s h;
  slot_count = λ p. omega (arith, first.slot_count p, second.slot_count p);
  going = λ h. first.going (second.going h);
}

pub grows_registers : (o : Open) (more : List (List ℕ)) → Grows o (with_registers o more)
grows_registers o more = record {
  registers = λ r h. get_or_append_left o.registers more [] r h;
  count = omega (arith, length-append o.registers more);
  slots = λ p s h. refl;
  slot_count = λ p. omega arith;
  going = λ h. h;
}

pub put_append : {A : Type 0} (q p : Party) (x : Three (List A)) (more : List A) (d : A) (k : ℕ) → k < length (at p x) → get_or (at p (put q (at q x ++ more) x)) k d ≡ get_or (at p x) k d
put_append First First x more d k h = get_or_append_left x.first more d k h
put_append First Second x more d k h = refl
put_append First Third x more d k h = refl
put_append Second First x more d k h = refl
put_append Second Second x more d k h = get_or_append_left x.second more d k h
put_append Second Third x more d k h = refl
put_append Third First x more d k h = refl
put_append Third Second x more d k h = refl
put_append Third Third x more d k h = get_or_append_left x.third more d k h

pub put_append_count : {A : Type 0} (q p : Party) (x : Three (List A)) (more : List A) → length (at p x) ≤ length (at p (put q (at q x ++ more) x))
put_append_count First First x more = omega (arith, length-append x.first more)
put_append_count First Second x more = omega arith
put_append_count First Third x more = omega arith
put_append_count Second First x more = omega arith
put_append_count Second Second x more = omega (arith, length-append x.second more)
put_append_count Second Third x more = omega arith
put_append_count Third First x more = omega arith
put_append_count Third Second x more = omega arith
put_append_count Third Third x more = omega (arith, length-append x.third more)

pub grows_slots : (o : Open) (q : Party) (more : List (List ℕ)) → Grows o (with_slots o q more)
grows_slots o q more = record {
  registers = λ r h. refl;
  count = omega arith;
  slots = λ p s h. put_append q p o.slots more [] s h;
  slot_count = λ p. put_append_count q p o.slots more;
  going = λ h. h;
}

pub grows_flag : (o : Open) (ws : List ℕ) → Grows o (after_flag o ws)
grows_flag o ws = by (eqb (get_or ws 0 0) 0)
  where
    by : (b : Bool) → Grows o (cond b (record o { flags = suc o.flags }) (record o { stop = true }))
    by true = record { registers = λ r h. refl; count = omega arith; slots = λ p s h. refl; slot_count = λ p. omega arith; going = λ h. h }
    by false = record { registers = λ r h. refl; count = omega arith; slots = λ p s h. refl; slot_count = λ p. omega arith; going = λ h. absurd (true≢false h) }

module _ {T : Type 0} (answer : T → List (List ℕ) → List (List ℕ)) where
  abbrev pub open_run : Layout → Open → List (Step T) → ThreeTapes → Open
  open_run l o ss ds = run (open_going answer) tape_cut l o ss ds

  pub grows_step : (o : Open) (s : Step T) (ds : ThreeTapes) → Grows o (open_step answer o s ds)
  grows_step o (Const words) ds = grows_registers o _
  grows_step o (Lin op) ds = grows_registers o _
  grows_step o (And a b) ds = grows_registers o _
  grows_step o (Share p s) ds = grows_registers o _
  grows_step o (Reveal to moved shown) ds = grows_trans _ _ _ (grows_registers o _) (grows_slots _ (party_of to) _)
  grows_step o (Steer p s moved) ds = grows_registers o _
  grows_step o (Tell source target s) ds = grows_slots o (party_of target) _
  grows_step o (Work p task takes gives) ds = grows_slots o (party_of p) _
  grows_step o (Flag p s) ds = grows_flag o (slot o (party_of p) s)

  pub grows_going : (l : Layout) (o : Open) (s : Step T) (ds : ThreeTapes) → Grows o (open_going answer l o s ds)
  grows_going l o s ds = by o.stop
    where
      by : (b : Bool) → Grows o (cond b o (open_step answer o s ds))
      by true = grows_refl o
      by false = grows_step o s ds

  pub grows_run : (l : Layout) (o : Open) (ss : List (Step T)) (ds : ThreeTapes) → Grows o (open_run l o ss ds)
  grows_run l o [] ds = grows_refl o
  grows_run l o (s ∷ ss) ds =
      grows_trans o (open_going answer l o s (taken (needs_of l s) ds)) _
      (grows_going l o s (taken (needs_of l s) ds)) (grows_run (grown l s) (open_going answer l o s (taken (needs_of l s) ds)) ss (dropped (needs_of l s) ds))

  -- the values of a list, from those of its prefix
  pub open-behind : (a : Steps T) (more : List (Step T)) (slots : SlotWords) (ds : ThreeTapes)
      → open_of answer (behind a more) slots ds ≡ open_run (layout_of a) (open_of answer a slots ds) more (rest_after tape_cut (starting a.first) a.steps ds)
  open-behind a more slots ds = run-append (open_going answer) tape_cut (starting a.first) (opening slots) a.steps more ds

  pub grows_behind : (a : Steps T) (more : List (Step T)) (slots : SlotWords) (ds : ThreeTapes) → Grows (open_of answer a slots ds) (open_of answer (behind a more) slots ds)
  grows_behind a more slots ds =
      subst (Grows (open_of answer a slots ds)) (sym (open-behind a more slots ds))
      (grows_run (layout_of a) (open_of answer a slots ds) more (rest_after tape_cut (starting a.first) a.steps ds))

  pub possible_behind : (a : Steps T) (more : List (Step T)) (slots : SlotWords) (ds : ThreeTapes) → Possible answer (behind a more) slots ds → Possible answer a slots ds
  possible_behind a more slots ds h = record {
    fits = record {
      slots_fit = h.fits.slots_fit;
      tapes_fit = λ p. needs_first p (starting a.first) a.steps more ds (h.fits.tapes_fit p);
    };
    going = (grows_behind a more slots ds).going h.going;
  }

  pub possible_prefix : (a b : Steps T) (slots : SlotWords) (ds : ThreeTapes) → StandsIn a b → Possible answer b slots ds → Possible answer a slots ds
  possible_prefix a b slots ds s h = possible_behind a s.more slots ds (subst (λ x. Possible answer x slots ds) s.is h)

  pub grows_prefix : (a b : Steps T) (slots : SlotWords) (ds : ThreeTapes) → StandsIn a b → Grows (open_of answer a slots ds) (open_of answer b slots ds)
  grows_prefix a b slots ds s = subst (λ x. Grows (open_of answer a slots ds) (open_of answer x slots ds)) (sym s.is) (grows_behind a s.more slots ds)

  pub seen_append : (v : Party) (a : Steps T) (more : List (Step T)) (slots : SlotWords) (ds : ThreeTapes)
      → seen answer v (behind a more) slots ds ≡ seen answer v a slots ds ++ seen_behind answer v a more slots ds
  seen_append v a more slots ds = outs-append (open_going answer) (seen_going v) tape_cut (starting a.first) (opening slots) a.steps more ds

-- ---- as many registers and slots as the layout has, where the run goes on

one_more : (o : Open) (l : Layout) (ws : List ℕ) (n : ℕ) → length o.registers ≡ length l.registers → length (o.registers ++ ws ∷ []) ≡ length (l.registers ++ n ∷ [])
one_more o l ws n h = omega (arith, h, length-append o.registers (ws ∷ []), length-append l.registers (n ∷ []))

many_more : (o : Open) (l : Layout) (moved : List ℕ) (f : ℕ → List ℕ) → length o.registers ≡ length l.registers
    → length (o.registers ++ map f moved) ≡ length (l.registers ++ map (length_of l) moved)
many_more o l moved f h =
    length-append o.registers (map f moved) ∙ ap (λ n. n + length (map f moved)) h
    ∙ ap (λ n. length l.registers + n) (length-map moved f ∙ sym (length-map moved (length_of l)))
    ∙ sym (length-append l.registers (map (length_of l) moved))

pub count_step : {T : Type 0} (answer : T → List (List ℕ) → List (List ℕ)) (l : Layout) (o : Open) (s : Step T) (ds : ThreeTapes)
    → length o.registers ≡ length l.registers → length (open_step answer o s ds).registers ≡ length (grown l s).registers
count_step answer l o (Const words) ds h = one_more o l words (length words) h
count_step answer l o (Lin op) ds h = one_more o l (lin op (register o)) (lin_length l op) h
count_step answer l o (And a b) ds h = one_more o l _ _ h
count_step answer l o (Share p s) ds h = one_more o l _ _ h
count_step answer l o (Reveal to moved shown) ds h = many_more o l moved (λ r. turned ds (register o r)) h
count_step answer l o (Steer p s moved) ds h = many_more o l moved (λ r. applied (slot o (party_of p) s) (register o r)) h
count_step answer l o (Tell source target s) ds h = h
count_step answer l o (Work p task takes gives) ds h = h
count_step answer l o (Flag p s) ds h = by (eqb (get_or (slot o (party_of p) s) 0 0) 0)
  where
    by : (b : Bool) → length (cond b (record o { flags = suc o.flags }) (record o { stop = true })).registers ≡ length l.registers
    by true = h
    by false = h

pub count_run : {T : Type 0} (answer : T → List (List ℕ) → List (List ℕ)) (l : Layout) (o : Open) (ss : List (Step T)) (ds : ThreeTapes)
    → length o.registers ≡ length l.registers → (open_run answer l o ss ds).stop ≡ false → length (open_run answer l o ss ds).registers ≡ length (grown_by l ss).registers
count_run answer l o [] ds h going = h
count_run {T} answer l o (s ∷ ss) ds h going =
    count_run answer (grown l s) (open_going answer l o s (taken (needs_of l s) ds)) ss (dropped (needs_of l s) ds) (by o.stop early) going
  where
    early : o.stop ≡ false
    early = (grows_going answer l o s (taken (needs_of l s) ds)).going ((grows_run answer (grown l s) (open_going answer l o s (taken (needs_of l s) ds)) ss (dropped (needs_of l s) ds)).going going)

    by : (b : Bool) → b ≡ false → length (cond b o (open_step answer o s (taken (needs_of l s) ds))).registers ≡ length (grown l s).registers
    by true e = absurd (true≢false e)
    by false e = count_step answer l o s (taken (needs_of l s) ds) h

pub count_open : {T : Type 0} (answer : T → List (List ℕ) → List (List ℕ)) (a : Steps T) (slots : SlotWords) (ds : ThreeTapes)
    → Possible answer a slots ds → length (open_of answer a slots ds).registers ≡ length (layout_of a).registers
count_open answer a slots ds h = count_run answer (starting a.first) (opening slots) a.steps ds refl h.going

pub register_prefix : {T : Type 0} (answer : T → List (List ℕ) → List (List ℕ)) (a b : Steps T) (slots : SlotWords) (ds : ThreeTapes)
    → StandsIn a b → Possible answer b slots ds → (r : ℕ) → r < length (layout_of a).registers → register (open_of answer b slots ds) r ≡ register (open_of answer a slots ds) r
register_prefix answer a b slots ds s h r inside =
    (grows_prefix answer a b slots ds s).registers r (omega (arith, count_open answer a slots ds (possible_prefix answer a b slots ds s h)))

-- ---- the layout grows too

pub record LayoutGrows (a b : Layout) : Type 0 where
  pub registers : (r : ℕ) → r < length a.registers → length_of b r ≡ length_of a r
  pub count : length a.registers ≤ length b.registers
  pub slots : (p : Party) (s : ℕ) → s < length (at p a.slots) → shape_of b p s ≡ shape_of a p s
  pub slot_count : (p : Party) → length (at p a.slots) ≤ length (at p b.slots)

pub layout_refl : (a : Layout) → LayoutGrows a a
layout_refl a = record { registers = λ r h. refl; count = omega arith; slots = λ p s h. refl; slot_count = λ p. omega arith }

pub layout_trans : (a b c : Layout) → LayoutGrows a b → LayoutGrows b c → LayoutGrows a c
layout_trans a b c first second = record {
  registers = λ r h. second.registers r (omega (arith, first.count)) ∙ first.registers r h;
  count = omega (arith, first.count, second.count);
  slots = λ p s h. second.slots p s (omega (arith, first.slot_count p)) ∙ first.slots p s h;
  slot_count = λ p. omega (arith, first.slot_count p, second.slot_count p);
}

layout_more : (l : Layout) (ns : List ℕ) → LayoutGrows l (with_lengths l ns)
layout_more l ns = record { registers = λ r h. get_or_append_left l.registers ns 0 r h; count = omega (arith, length-append l.registers ns); slots = λ p s h. refl; slot_count = λ p. omega arith }

layout_same : (l : Layout) (q : Party) (more : List Shape) → LayoutGrows l (with_shapes l q more)
layout_same l q more = record { registers = λ r h. refl; count = omega arith; slots = λ p s h. put_append q p l.slots more (shapes.Words 0) s h; slot_count = λ p. put_append_count q p l.slots more }

pub layout_step : {T : Type 0} (l : Layout) (s : Step T) → LayoutGrows l (grown l s)
layout_step l (Const words) = layout_more l _
layout_step l (Lin op) = layout_more l _
layout_step l (And a b) = layout_more l _
layout_step l (Share p s) = layout_more l _
layout_step l (Reveal to moved shown) = layout_trans _ _ _ (layout_more l _) (layout_same _ (party_of to) _)
layout_step l (Steer p s moved) = layout_more l _
layout_step l (Tell source target s) = layout_same l (party_of target) _
layout_step l (Work p task takes gives) = layout_same l (party_of p) _
layout_step l (Flag p s) = record { registers = λ r h. refl; count = omega arith; slots = λ p s h. refl; slot_count = λ p. omega arith }

pub layout_run : {T : Type 0} (l : Layout) (ss : List (Step T)) → LayoutGrows l (grown_by l ss)
layout_run l [] = layout_refl l
layout_run l (s ∷ ss) = layout_trans l (grown l s) _ (layout_step l s) (layout_run (grown l s) ss)

pub layout_prefix : {T : Type 0} (a b : Steps T) → StandsIn a b → LayoutGrows (layout_of a) (layout_of b)
layout_prefix a b s = subst (λ x. LayoutGrows (layout_of a) (layout_of x)) (sym s.is) (subst (LayoutGrows (layout_of a)) (sym (grown_by-append (starting a.first) a.steps s.more)) (layout_run (layout_of a) s.more))

-- data, so that the steps behind a list compute
abbrev pub stands_refl : {T : Type 0} (a : Steps T) → StandsIn a a
stands_refl a = record { more = []; is = ap (λ ss. record { first = a.first; steps = ss }) (sym (append-nil a.steps)) }

abbrev pub stands_trans : {T : Type 0} (a b c : Steps T) → StandsIn a b → StandsIn b c → StandsIn a c
stands_trans a b c h k = record {
  more = h.more ++ k.more;
  is = k.is ∙ ap (λ x. behind x k.more) h.is ∙ ap (λ ss. record { first = a.first; steps = ss }) (append_assoc a.steps h.more k.more);
}

-- ---- AND words add up

pub ands-append : {T : Type 0} (l : Layout) (xs ys : List (Step T)) → ands_behind l (xs ++ ys) ≡ ands_behind l xs + ands_behind (grown_by l xs) ys
ands-append l [] ys = omega arith
ands-append l (x ∷ xs) ys = let e = ands-append (grown l x) xs ys in omega (arith, e)
