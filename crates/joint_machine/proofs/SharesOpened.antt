-- The three shares of each register xor to its open value, step by step, and then for whole lists.
use Rattle.std.proofs.Common.{◌≡◌, ℕ, suc, Bool, true, false, List, [], ◌∷◌, ◌++◌, length, map, refl, sym, subst, ◌∙◌, ap, arith}
use Rattle.std.specs.Prelude.{IsTrue, ◌==◌, ◌&&◌, not, nat_lt, slice_index, if◌then◌else◌}
use Rattle.std.specs.List.{AllZip, AllByRecursion, list_all}
use Rattle.std.proofs.lemmas.List.{length-map, map-append}
use Rattle.lanes.specs.declared.party.Party.{Party}
use Rattle.lanes.specs.declared.party.Party.TheVariants.{First, Second, Third}
use Rattle.lanes.specs.declared.three.Three.{Three}
use Rattle.lanes.specs.Three.{at, opened, each}
use Rattle.lanes.specs.Word.{AreWords}
use Rattle.lanes.specs.Lanes.{ands}
use Rattle.lanes.specs.SharedAnd.{and_shares}
use Rattle.tapes.specs.Order.{applied}
use Rattle.step_lists.specs.declared.step.Shape.{Shape}
use Rattle.step_lists.specs.declared.step.Shape.TheVariants as shapes
use Rattle.step_lists.specs.declared.step.Step.{Step}
use Rattle.step_lists.specs.declared.step.Step.TheVariants.{Const, Lin, And, Share, Reveal, Steer, Tell, Work, Flag}
use Rattle.step_lists.specs.declared.step.LinOp.{LinOp}
use Rattle.step_lists.specs.Layout.{Layout, Steps, party_of, grown, layout_of, starting, length_of, shape_of, count_in, rows_moved, lin_length}
use Rattle.step_lists.specs.Rules.{IsWellFormed, AreFine, is_register, is_slot, is_party, is_order_of, is_words, is_empty, is_small, move_together, fits_lin, fits_layout}
use Rattle.step_lists.specs.Shapes.{HasShape, HaveShapes, IsLawful}
use Rattle.step_lists.specs.Draws.{ThreeTapes, parties, nothing, needs, needs_of, words_in, taken, dropped}
use Rattle.step_lists.specs.Run.{tape_cut, rest_after}
use Rattle.step_lists.specs.RunLaws.{related}
use Rattle.step_lists.specs.Lin.{lin}
use Rattle.step_lists.specs.Open.{SlotWords, Open, item, register, slot, with_registers, with_slots, more_slots, turned, open_step, open_going, opening, open_of}
use Rattle.step_lists.specs.Phases.{Shares, Links, Moving}
use Rattle.step_lists.specs.Machine.{Machine, shares, slot_of, with_shares, with_more_slots, const_share, dealt, moving, third_phase, private_phase, shown_shares, machine_step, step_words, delivered, before_steps, joint_going, joint_of}
use Rattle.step_lists.specs.Possible.{FitsFront, SlotsFit, Fits}
use Rattle.joint_machine.specs.Opens.{IsLong, Opens, SharesAreOpened, SharesAreLong}
use Rattle.joint_machine.proofs.Facts.{Facts}
use Rattle.joint_machine.proofs.Listing.{both, below, equal, zip_at, zip_append, item_has, item_mapped, same_maps, mapped_twice, mapped_all}
use Rattle.joint_machine.proofs.Drawn.{AreDrawsOf, reveal_draws, steer_draws, front_fits, rest_fits, at_taken, at_dropped}
use Rattle.joint_machine.proofs.OpenFits.{OpenFits, IsMoved, register_fits, slot_fits, shaped_words, moved_together, order_shape, step_fits}
use Rattle.joint_machine.proofs.Masking.{IsEven, long_even}
use Rattle.joint_machine.proofs.LocalSteps.{const_opens, const_long, lin_shares, lin_shares_long, lin_opens}
use Rattle.joint_machine.proofs.MaskedSteps.{and_draws, and_opens, and_long, share_draws, dealt_opens, dealt_long}
use Rattle.joint_machine.proofs.Phasing.{IsPhased}
use Rattle.joint_machine.proofs.PhaseSteps.{revealed, shown_opens, steered}

-- the machine beside the open values, before a stop
pub record Kept (l : Layout) (m : Machine) (o : Open) : Type 0 where
  pub opens : Opens m o
  pub long : AllZip IsLong l.registers m.registers
  pub fits : OpenFits l o

-- ---- registers and slots by number

pub share_opens : (m : Machine) (o : Open) (r : ℕ) → Opens m o → opened (shares m r) ≡ register o r
share_opens m o r h = item_mapped opened m.registers r nothing ∙ ap (λ xs. item xs r) h.registers

zip_even : (ns : List ℕ) (ss : List Shares) → AllZip IsLong ns ss → AllByRecursion IsEven ss
zip_even [] [] h = tt
zip_even [] (s ∷ ss) h = absurd h
zip_even (n ∷ ns) [] h = absurd h
zip_even (n ∷ ns) (s ∷ ss) h = (long_even n s h.0, zip_even ns ss h.1)

share_even : (l : Layout) (m : Machine) (r : ℕ) → AllZip IsLong l.registers m.registers → IsEven (shares m r)
share_even l m r h = item_has IsEven m.registers r nothing (zip_even l.registers m.registers h) (record { second = refl; third = refl })

share_long : (l : Layout) (m : Machine) (r : ℕ) → AllZip IsLong l.registers m.registers → IsTrue (is_register l r) → IsLong (length_of l r) (shares m r)
share_long l m r h i = zip_at IsLong l.registers m.registers r 0 nothing h (below r (length l.registers) i)

pub same_slot : (m : Machine) (o : Open) (p : Party) (s : ℕ) → Opens m o → slot_of m p s ≡ slot o p s
same_slot m o p s h = ap (λ xs. item (at p xs) s) h.slots

-- ---- more of them

more_open : (m : Machine) (o : Open) (more : List Shares) (xs : List (List ℕ)) → Opens m o → map opened more ≡ xs → Opens (with_shares m more) (with_registers o xs)
more_open m o more xs h e = record {
  registers = map-append opened m.registers more ∙ (ap (λ ys. ys ++ map opened more) h.registers ∙ ap (λ ys. o.registers ++ ys) e);
  slots = h.slots;
  flags = h.flags;
  stop = h.stop;
}

slots_open : (m : Machine) (o : Open) (p : Party) (xs ys : List (List ℕ)) → Opens m o → xs ≡ ys → Opens (with_more_slots m p xs) (with_slots o p ys)
slots_open m o p xs ys h e = record {
  registers = h.registers;
  slots = ap (λ zs. more_slots p zs m.slots) e ∙ ap (more_slots p ys) h.slots;
  flags = h.flags;
  stop = h.stop;
}

one_open : (m : Machine) (o : Open) (s : Shares) (x : List ℕ) → Opens m o → opened s ≡ x → Opens (with_shares m (s ∷ [])) (with_registers o (x ∷ []))
one_open m o s x h e = more_open m o (s ∷ []) (x ∷ []) h (ap (λ y. y ∷ []) e)

one_long : (l : Layout) (m : Machine) (n : ℕ) (s : Shares) → AllZip IsLong l.registers m.registers → IsLong n s → AllZip IsLong (l.registers ++ n ∷ []) (m.registers ++ s ∷ [])
one_long l m n s h i = zip_append IsLong l.registers (n ∷ []) m.registers (s ∷ []) h (i, tt)

-- ---- registers that are moved together

long_zip : (l : Layout) (n : ℕ) (moved : List ℕ) (ss : List Shares) → AllByRecursion (IsMoved l n) moved → AllByRecursion (IsLong n) ss → length ss ≡ length moved
    → AllZip IsLong (map (length_of l) moved) ss
long_zip l n [] [] h i e = tt
long_zip l n [] (s ∷ ss) h i e = absurd (omega arith)
long_zip l n (r ∷ rs) [] h i e = absurd (omega arith)
long_zip l n (r ∷ rs) (s ∷ ss) h i e = (subst (λ k. IsLong k s) (sym h.0.long) i.0, long_zip l n rs ss h.1 i.1 (omega arith))

moved_values : (m : Machine) (o : Open) (moved : List ℕ) → Opens m o → map opened (map (shares m) moved) ≡ map (register o) moved
moved_values m o moved h = mapped_twice (shares m) opened moved ∙ same_maps (λ r. opened (shares m r)) (register o) (λ r. share_opens m o r h) moved

-- registers made by phases
phases_open : (m : Machine) (o : Open) (moved : List ℕ) (ds : ThreeTapes) (n : ℕ) (f : List ℕ → List ℕ) (y : Moving) → Opens m o
    → IsPhased n (length moved) f (moving m moved ds) y → map opened y.shares ≡ map (λ r. f (register o r)) moved
phases_open m o moved ds n f y h is = is.opens ∙ (ap (map f) (moved_values m o moved h) ∙ mapped_twice (register o) f moved)

module _ {T : Type 0} (accepts : T → List Shape → List Shape → Bool) (answer : T → List (List ℕ) → List (List ℕ)) where
  -- what a step of the machine keeps
  record IsKeptBy (l : Layout) (m : Machine) (o : Open) (s : Step T) (ds : ThreeTapes) : Type 0 where
    opens : Opens (machine_step answer l m s ds) (open_step answer o s ds)
    long : AllZip IsLong (grown l s).registers (machine_step answer l m s ds).registers

  const_kept : Facts → (l : Layout) (m : Machine) (o : Open) (words : List ℕ) (ds : ThreeTapes) → Kept l m o → IsKeptBy l m o (Const words) ds
  const_kept facts l m o words ds h = record {
    opens = one_open m o (parties (λ i. const_share i words)) words h.opens (const_opens facts words);
    long = one_long l m (length words) (parties (λ i. const_share i words)) h.long (const_long words);
  }

  lin_kept : Facts → (l : Layout) (m : Machine) (o : Open) (op : LinOp) (ds : ThreeTapes) → IsTrue (fits_lin l op) → Kept l m o → IsKeptBy l m o (Lin op) ds
  lin_kept facts l m o op ds i h = record {
    opens =
        one_open m o (lin_shares op (shares m)) (lin op (register o)) h.opens
        (lin_opens facts op (shares m) (register o) (λ r. share_even l m r h.long) (λ r. share_opens m o r h.opens));
    long = one_long l m (lin_length l op) (lin_shares op (shares m)) h.long (lin_shares_long facts l op (shares m) (λ r j. share_long l m r h.long j) i);
  }

  and_kept : Facts → (l : Layout) (m : Machine) (o : Open) (left right : ℕ) (ds : ThreeTapes) → IsTrue (fits_layout {T = T} accepts l (And left right))
      → AreDrawsOf {T = T} l (And left right) ds → Kept l m o → IsKeptBy l m o (And left right) ds
  and_kept facts l m o left right ds i drawn h =
      let n = length_of l left in
      let one = both (is_register l left && is_register l right) (n == length_of l right) i in
      let two = both (is_register l left) (is_register l right) one.0 in
      let e = equal n (length_of l right) one.1 in
      let s = shares m left in
      let t = shares m right in
      let masks = and_draws n ds drawn in
      let hs = share_long l m left h.long two.0 in
      let ht = subst (λ k. IsLong k t) (sym e) (share_long l m right h.long two.1) in
      record {
        opens =
            one_open m o (and_shares s t (each words_in ds)) (ands (register o left) (register o right)) h.opens
            (and_opens facts n s t (each words_in ds) hs ht masks
            ∙ (ap (λ x. ands x (opened t)) (share_opens m o left h.opens) ∙ ap (ands (register o left)) (share_opens m o right h.opens)));
        long = one_long l m n (and_shares s t (each words_in ds)) h.long (and_long facts n s t (each words_in ds) hs ht masks);
      }

  share_kept : Facts → (l : Layout) (m : Machine) (o : Open) (p s : ℕ) (ds : ThreeTapes) → IsTrue (fits_layout {T = T} accepts l (Share p s))
      → AreDrawsOf {T = T} l (Share p s) ds → Kept l m o → IsKeptBy l m o (Share p s) ds
  share_kept facts l m o p s ds i drawn h =
      let party = party_of p in
      let shape = shape_of l party s in
      let n = count_in shape in
      let same = same_slot m o party s h.opens in
      let fit = shaped_words shape (slot o party s) (slot_fits l o p s h.fits (both (is_slot l p s) (is_words shape) i).0) in
      let words = slot_of m party s in
      let long : length words ≡ n = ap length same ∙ fit.long in
      let draws = share_draws party n ds drawn in
      record {
        opens =
            one_open m o (dealt party words (each words_in ds)) (slot o party s) h.opens
            (dealt_opens facts party n words (each words_in ds) long draws.own draws.following ∙ same);
        long =
            one_long l m n (dealt party words (each words_in ds)) h.long (dealt_long facts party n words (each words_in ds) long draws.own draws.following);
      }

  reveal_kept : Facts → (l : Layout) (m : Machine) (o : Open) (to : ℕ) (moved shown : List ℕ) (ds : ThreeTapes) → IsTrue (fits_layout {T = T} accepts l (Reveal to moved shown))
      → AreDrawsOf {T = T} l (Reveal to moved shown) ds → Kept l m o → IsKeptBy l m o (Reveal to moved shown) ds
  reveal_kept facts l m o to moved shown ds i drawn h =
      let n = rows_moved l moved in
      let c = length moved in
      let one = both ((is_party to && move_together l moved) && not (is_empty shown)) (list_all (λ k. nat_lt k (length moved)) shown) i in
      let two = both (is_party to && move_together l moved) (not (is_empty shown)) one.0 in
      let three = both (is_party to) (move_together l moved) two.0 in
      let x = moving m moved ds in
      let y = third_phase n ds x in
      let new = map (λ r. turned ds (register o r)) moved in
      let is = revealed facts n c ds x (length-map moved (shares m)) (reveal_draws c n ds drawn) refl in
      let values = phases_open m o moved ds n (turned ds) y h.opens is in
      record {
        opens =
            slots_open (with_shares m y.shares) (with_registers o new) (party_of to) (map opened (shown_shares y shown)) (map (λ k. item new k) shown)
            (more_open m o y.shares new h.opens values) (shown_opens y new shown values);
        long =
            zip_append IsLong l.registers (map (length_of l) moved) m.registers y.shares h.long
            (long_zip l n moved y.shares (moved_together l moved three.1) is.long is.count);
      }

  steer_kept : Facts → (l : Layout) (m : Machine) (o : Open) (by s : ℕ) (moved : List ℕ) (ds : ThreeTapes) → IsTrue (fits_layout {T = T} accepts l (Steer by s moved))
      → AreDrawsOf {T = T} l (Steer by s moved) ds → Kept l m o → IsKeptBy l m o (Steer by s moved) ds
  steer_kept facts l m o by s moved ds i drawn h =
      let n = rows_moved l moved in
      let c = length moved in
      let p = party_of by in
      let shape = shape_of l p s in
      let g = slot_of m p s in
      let one = both (is_slot l by s && move_together l moved) (is_order_of n shape) i in
      let two = both (is_slot l by s) (move_together l moved) one.0 in
      let same = same_slot m o p s h.opens in
      let order = order_shape n shape g one.1 (subst (λ xs. HasShape shape xs) (sym same) (slot_fits l o by s h.fits two.0)) in
      let x = moving m moved ds in
      let y = private_phase p g n ds x in
      let new = map (λ r. applied g (register o r)) moved in
      let are = moved_together l moved two.1 in
      let long = subst (λ xss. AllByRecursion (λ xs. length xs ≡ n) xss) (sym (moved_values m o moved h.opens))
      (mapped_all (IsMoved l n) (λ xs. length xs ≡ n) (register o) (λ r j. (register_fits l o r h.fits j.made).long ∙ j.long) moved are) in
      let is = steered facts p g n c ds x order.1 order.0.long (length-map moved (shares m)) long (steer_draws p c n ds drawn) refl in
      let values = phases_open m o moved ds n (applied g) y h.opens is in
      record {
        opens =
            more_open m o y.shares (map (λ r. applied (slot o p s) (register o r)) moved) h.opens
            (values ∙ ap (λ g. map (λ r. applied g (register o r)) moved) same);
        long = zip_append IsLong l.registers (map (length_of l) moved) m.registers y.shares h.long (long_zip l n moved y.shares are is.long is.count);
      }

  tell_kept : (l : Layout) (m : Machine) (o : Open) (source target s : ℕ) (ds : ThreeTapes) → Kept l m o → IsKeptBy l m o (Tell source target s) ds
  tell_kept l m o source target s ds h = record {
    opens =
        slots_open m o (party_of target) (slot_of m (party_of source) s ∷ []) (slot o (party_of source) s ∷ []) h.opens
        (ap (λ x. x ∷ []) (same_slot m o (party_of source) s h.opens));
    long = h.long;
  }

  work_kept : (l : Layout) (m : Machine) (o : Open) (p : ℕ) (task : T) (takes : List ℕ) (gives : List Shape) (ds : ThreeTapes) → Kept l m o
      → IsKeptBy l m o (Work p task takes gives) ds
  work_kept l m o p task takes gives ds h = record {
    opens =
        slots_open m o (party_of p) (answer task (map (slot_of m (party_of p)) takes)) (answer task (map (slot o (party_of p)) takes)) h.opens
        (ap (answer task) (same_maps (slot_of m (party_of p)) (slot o (party_of p)) (λ s. same_slot m o (party_of p) s h.opens) takes));
    long = h.long;
  }

  flag_opens : (m : Machine) (o : Open) (a b : Bool) → a ≡ b → Opens m o
      → Opens (if a then record m { flags = suc m.flags } else record m { stop = true }) (if b then record o { flags = suc o.flags } else record o { stop = true })
  flag_opens m o true true e h = record { registers = h.registers; slots = h.slots; flags = ap suc h.flags; stop = h.stop }
  flag_opens m o true false e h = absurd (cc)
  flag_opens m o false true e h = absurd (cc)
  flag_opens m o false false e h = record { registers = h.registers; slots = h.slots; flags = h.flags; stop = refl }

  flag_long : (l : Layout) (m : Machine) (b : Bool) → AllZip IsLong l.registers m.registers
      → AllZip IsLong l.registers (if b then record m { flags = suc m.flags } else record m { stop = true }).registers
  flag_long l m true h = h
  flag_long l m false h = h

  flag_kept : (l : Layout) (m : Machine) (o : Open) (p s : ℕ) (ds : ThreeTapes) → Kept l m o → IsKeptBy l m o (Flag p s) ds
  flag_kept l m o p s ds h = record {
    opens =
        flag_opens m o (slice_index (slot_of m (party_of p) s) 0 == 0) (slice_index (slot o (party_of p) s) 0 == 0)
        (ap (λ ws. slice_index ws 0 == 0) (same_slot m o (party_of p) s h.opens)) h.opens;
    long = flag_long l m (slice_index (slot_of m (party_of p) s) 0 == 0) h.long;
  }

  kept_by : Facts → (l : Layout) (m : Machine) (o : Open) (s : Step T) (ds : ThreeTapes) → IsTrue (fits_layout accepts l s) → AreDrawsOf l s ds → Kept l m o
      → IsKeptBy l m o s ds
  kept_by facts l m o (Const words) ds i drawn h = const_kept facts l m o words ds h
  kept_by facts l m o (Lin op) ds i drawn h = lin_kept facts l m o op ds i h
  kept_by facts l m o (And left right) ds i drawn h = and_kept facts l m o left right ds i drawn h
  kept_by facts l m o (Share p s) ds i drawn h = share_kept facts l m o p s ds i drawn h
  kept_by facts l m o (Reveal to moved shown) ds i drawn h = reveal_kept facts l m o to moved shown ds i drawn h
  kept_by facts l m o (Steer by s moved) ds i drawn h = steer_kept facts l m o by s moved ds i drawn h
  kept_by facts l m o (Tell source target s) ds i drawn h = tell_kept l m o source target s ds h
  kept_by facts l m o (Work p task takes gives) ds i drawn h = work_kept l m o p task takes gives ds h
  kept_by facts l m o (Flag p s) ds i drawn h = flag_kept l m o p s ds h

  pub step_kept : Facts → IsLawful accepts answer → (l : Layout) (m : Machine) (o : Open) (s : Step T) (ds : ThreeTapes) → IsTrue (fits_layout accepts l s)
      → AreDrawsOf l s ds → Kept l m o → Kept (grown l s) (machine_step answer l m s ds) (open_step answer o s ds)
  step_kept facts law l m o s ds i drawn h =
      let is = kept_by facts l m o s ds i drawn h in
      record { opens = is.opens; long = is.long; fits = step_fits accepts answer facts law l o s ds i drawn h.fits }

  -- ---- whole lists

  -- the two runs before each step
  pub record IsBeside (l : Layout) (ss : List (Step T)) (m : Machine) (i : ThreeTapes) (o : Open) (j : ThreeTapes) : Type 0 where
    pub same : i ≡ j
    pub fine : AreFine accepts l ss
    pub fits : (p : Party) → FitsFront (needs p l ss) (at p i)
    pub opens : Opens m o
    pub going : m.stop ≡ false → Kept l m o

  pub handed : (words : Links) (l : Layout) (m : Machine) (o : Open) → Kept l m o → Kept l (delivered words m) o
  handed words l m o h = record {
    opens = record { registers = h.opens.registers; slots = h.opens.slots; flags = h.opens.flags; stop = h.opens.stop };
    long = h.long;
    fits = h.fits;
  }

  pub draws_of : (l : Layout) (s : Step T) (ss : List (Step T)) (ds : ThreeTapes) → ((p : Party) → FitsFront (needs p l (s ∷ ss)) (at p ds)) → AreDrawsOf l s (taken (needs_of l s) ds)
  draws_of l s ss ds h p = rw (at_taken p (needs_of l s) ds) (front_fits (at p (needs_of l s)) (needs p (grown l s) ss) (at p ds) (h p))

  draws_left : (l : Layout) (s : Step T) (ss : List (Step T)) (ds : ThreeTapes) → ((p : Party) → FitsFront (needs p l (s ∷ ss)) (at p ds))
      → (p : Party) → FitsFront (needs p (grown l s) ss) (at p (dropped (needs_of l s) ds))
  draws_left l s ss ds h p = rw (at_dropped p (needs_of l s) ds) (rest_fits (at p (needs_of l s)) (needs p (grown l s) ss) (at p ds) (h p))

  beside_stop : (l : Layout) (s : Step T) (ss : List (Step T)) (m : Machine) (o : Open) (ds : ThreeTapes) → m.stop ≡ true → IsBeside l (s ∷ ss) m ds o ds
      → IsBeside (grown l s) ss (joint_going answer l m s (taken (needs_of l s) ds)) (dropped (needs_of l s) ds)
      (open_going answer l o s (taken (needs_of l s) ds)) (dropped (needs_of l s) ds)
  beside_stop l s ss m o ds e h =
      let d = taken (needs_of l s) ds in
      let rest = dropped (needs_of l s) ds in
      let sm : joint_going answer l m s d ≡ m = ap (λ b. if b then m else delivered (step_words l m s d) (machine_step answer l m s d)) e in
      let so : open_going answer l o s d ≡ o = ap (λ b. if b then o else open_step answer o s d) (sym h.opens.stop ∙ e) in
      let kept : IsBeside (grown l s) ss m rest o rest = record {
        same = refl;
        fine = h.fine.1;
        fits = draws_left l s ss ds h.fits;
        opens = h.opens;
        going = λ f. absurd (stopped f);
      } in
      subst (λ m. IsBeside (grown l s) ss m rest (open_going answer l o s d) rest) (sym sm) (subst (λ o. IsBeside (grown l s) ss m rest o rest) (sym so) kept) where
        stopped : m.stop ≡ false → ⊥
        stopped f = let g : true ≡ false = sym e ∙ f in cc

  beside_going : Facts → IsLawful accepts answer → (l : Layout) (s : Step T) (ss : List (Step T)) (m : Machine) (o : Open) (ds : ThreeTapes) → m.stop ≡ false
      → IsBeside l (s ∷ ss) m ds o ds
      → IsBeside (grown l s) ss (joint_going answer l m s (taken (needs_of l s) ds)) (dropped (needs_of l s) ds)
      (open_going answer l o s (taken (needs_of l s) ds)) (dropped (needs_of l s) ds)
  beside_going facts law l s ss m o ds e h =
      let d = taken (needs_of l s) ds in
      let rest = dropped (needs_of l s) ds in
      let words = step_words l m s d in
      let next_m = delivered words (machine_step answer l m s d) in
      let next_o = open_step answer o s d in
      let sm : joint_going answer l m s d ≡ next_m = ap (λ b. if b then m else next_m) e in
      let so : open_going answer l o s d ≡ next_o = ap (λ b. if b then o else next_o) (sym h.opens.stop ∙ e) in
      let may = both (fits_layout accepts l s) (is_small (grown l s)) h.fine.0 in
      let kept = handed words (grown l s) (machine_step answer l m s d) next_o (step_kept facts law l m o s d may.0 (draws_of l s ss ds h.fits) (h.going e)) in
      let is : IsBeside (grown l s) ss next_m rest next_o rest = record {
        same = refl;
        fine = h.fine.1;
        fits = draws_left l s ss ds h.fits;
        opens = kept.opens;
        going = λ f. kept;
      } in
      subst (λ m. IsBeside (grown l s) ss m rest (open_going answer l o s d) rest) (sym sm) (subst (λ o. IsBeside (grown l s) ss next_m rest o rest) (sym so) is)

  beside_same : Facts → IsLawful accepts answer → (l : Layout) (s : Step T) (ss : List (Step T)) (m : Machine) (o : Open) (ds : ThreeTapes) (b : Bool) → m.stop ≡ b
      → IsBeside l (s ∷ ss) m ds o ds
      → IsBeside (grown l s) ss (joint_going answer l m s (taken (needs_of l s) ds)) (dropped (needs_of l s) ds)
      (open_going answer l o s (taken (needs_of l s) ds)) (dropped (needs_of l s) ds)
  beside_same facts law l s ss m o ds true e h = beside_stop l s ss m o ds e h
  beside_same facts law l s ss m o ds false e h = beside_going facts law l s ss m o ds e h

  pub beside_step : Facts → IsLawful accepts answer → (l : Layout) (s : Step T) (ss : List (Step T)) (m : Machine) (i : ThreeTapes) (o : Open) (j : ThreeTapes)
      → IsBeside l (s ∷ ss) m i o j
      → IsBeside (grown l s) ss (joint_going answer l m s (taken (needs_of l s) i)) (dropped (needs_of l s) i)
      (open_going answer l o s (taken (needs_of l s) j)) (dropped (needs_of l s) j)
  beside_step facts law l s ss m i o j h =
      subst (λ j. IsBeside (grown l s) ss (joint_going answer l m s (taken (needs_of l s) i)) (dropped (needs_of l s) i)
      (open_going answer l o s (taken (needs_of l s) j)) (dropped (needs_of l s) j)) h.same
      (beside_same facts law l s ss m o i m.stop refl (record { same = refl; fine = h.fine; fits = h.fits; opens = h.opens; going = h.going }))

  pub starts_fit : (first : Three (List ℕ)) (slots : SlotWords) → SlotsFit first slots → OpenFits (starting first) (opening slots)
  starts_fit first slots h = record { registers = tt; slots = slots_of } where
    shapes_of : (ns : List ℕ) (xs : List (List ℕ)) → map length xs ≡ ns → AllByRecursion AreWords xs → HaveShapes (map shapes.Words ns) xs
    shapes_of [] [] e h = tt
    shapes_of [] (x ∷ xs) e h = absurd (let f = ap length e in omega arith)
    shapes_of (n ∷ ns) [] e h = absurd (let f = ap length e in omega arith)
    shapes_of (n ∷ ns) (x ∷ xs) e h = (record { long = head e; below = h.0 }, shapes_of ns xs (tail e) h.1) where
      head : length x ∷ map length xs ≡ n ∷ ns → length x ≡ n
      head e = cc

      tail : length x ∷ map length xs ≡ n ∷ ns → map length xs ≡ ns
      tail e = cc

    slots_of : (p : Party) → HaveShapes (at p (starting first).slots) (at p slots)
    slots_of First = shapes_of first.first slots.first (h.long First) (h.below First)
    slots_of Second = shapes_of first.second slots.second (h.long Second) (h.below Second)
    slots_of Third = shapes_of first.third slots.third (h.long Third) (h.below Third)

  pub before_all : (list : Steps T) (slots : SlotWords) (ds : ThreeTapes) → IsWellFormed accepts list → Fits list slots ds
      → IsBeside (starting list.first) list.steps (before_steps slots) ds (opening slots) ds
  before_all list slots ds fine fits =
      let opens : Opens (before_steps slots) (opening slots) = record { registers = refl; slots = refl; flags = refl; stop = refl } in
      record {
        same = refl;
        fine = fine.fine;
        fits = fits.tapes_fit;
        opens = opens;
        going = λ e. record { opens = opens; long = tt; fits = starts_fit list.first slots fits.slots_fit };
      }

  beside_whole : Facts → (list : Steps T) (slots : SlotWords) (ds : ThreeTapes) → IsLawful accepts answer → IsWellFormed accepts list → Fits list slots ds
      → IsBeside (layout_of list) [] (joint_of answer list slots ds) (rest_after tape_cut (starting list.first) list.steps ds)
      (open_of answer list slots ds) (rest_after tape_cut (starting list.first) list.steps ds)
  beside_whole facts list slots ds law fine fits =
      related (joint_going answer) tape_cut (open_going answer) tape_cut IsBeside (beside_step facts law)
      (starting list.first) list.steps (before_steps slots) ds (opening slots) ds (before_all list slots ds fine fits)

  pub shares_are_opened : Facts → SharesAreOpened accepts answer
  shares_are_opened facts list slots ds law fine fits = (beside_whole facts list slots ds law fine fits).opens

  pub shares_are_long : Facts → SharesAreLong accepts answer
  shares_are_long facts list slots ds law fine fits e = ((beside_whole facts list slots ds law fine fits).going e).long
