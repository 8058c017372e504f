-- And and Share as steps.
use Rattle.std.proofs.Common.{◌≡◌, ℕ, Bool, true, false, List, [], ◌∷◌, refl, sym, subst, ap, ◌∙◌}
use Rattle.std.specs.Prelude.{◌&&◌, ◌==◌, if◌then◌else◌}
use Rattle.lanes.specs.declared.party.Party.{Party}
use Rattle.lanes.specs.Party.{next, before}
use Rattle.lanes.specs.Three.{at, put, each}
use Rattle.lanes.specs.Lanes.{xors}
use Rattle.lanes.specs.SharedAnd.{and_shares}
use Rattle.std.specs.List.{AllByRecursion}
use Rattle.tapes.specs.declared.draw.Need.{Need}
use Rattle.tapes.specs.Needs.{FitsNeeds}
use Rattle.step_lists.specs.declared.step.Shape.{Shape}
use Rattle.step_lists.specs.declared.step.Step.TheVariants.{And, Share}
use Rattle.step_lists.specs.Layout.{Layout, party_of, length_of, shape_of, words_in_slot}
use Rattle.step_lists.specs.Rules.{is_register, is_slot, is_words}
use Rattle.step_lists.specs.Shapes.{HasLength}
use Rattle.step_lists.specs.Draws.{ThreeTapes, joined, needs_each, needs_words, words_in}
use Rattle.step_lists.specs.Seen.{same_party}
use Rattle.step_lists.specs.Phases.{Shares}
use Rattle.step_lists.specs.Open.{item}
use Rattle.step_lists.specs.Machine.{Machine, shares, slot_of, and_words, dealt}
use Rattle.step_lists.specs.Twin.{changed, bare_and}
use Rattle.twin.proofs.Facts.{Facts}
use Rattle.twin.proofs.Lists.{both, equal}
use Rattle.twin.proofs.Same.{IsFull, Fitting, Held, SameWords}
use Rattle.twin.proofs.Steps.{Allowed, Pair, IsKept, StepHolds}
use Rattle.twin.proofs.Masks.{IsWord, changed_twice}
use Rattle.twin.proofs.Fitted.{register_full, slot_fits, shaped_words, held_at, more_registers, same_registers}
use Rattle.twin.proofs.Puts.{at_put, put_at}
use Rattle.twin.proofs.MaskedSteps.{Change, change, xor_full, each_words, each_long, at_each, masks_full, and_full, bare_full, and_held, and_sent, shifted_masks, share_words, own_long, next_long, unseen_long, drawn_full, dealt_full, DealtSame, dealt_same, same_dealt, same_own}

-- equal parts of the viewer's new share
sent_same : (v : Party) (z w : Shares) → Held v z w → SameWords v (and_words z) (and_words w)
sent_same v z w h = and_sent v z w h.following

module _ {T : Type 0} (accepts : T → List Shape → List Shape → Bool) (answer : T → List (List ℕ) → List (List ℕ)) where
  -- ---- And

  -- the two registers of an And
  record AndFits (l : Layout) (left right : ℕ) (m : Machine) : Type 0 where
    one : IsFull (length_of l left) (shares m left)
    two : IsFull (length_of l left) (shares m right)

  and_fits : (l : Layout) (left right : ℕ) (ds : ThreeTapes) (m : Machine) → Allowed {T = T} accepts answer l (And left right) ds → Fitting l m → AndFits l left right m
  and_fits l left right ds m a h =
      let one = both (is_register l left && is_register l right) (length_of l left == length_of l right) a.step in
      let two = both (is_register l left) (is_register l right) one.0 in
      let e = equal (length_of l left) (length_of l right) one.1 in
      record { one = register_full l m left h two.0; two = subst (λ n. IsFull n (shares m right)) (sym e) (register_full l m right h two.1) }

  and_changed : Facts → (v : Party) (l : Layout) (x y : Machine) (left right : ℕ) (ds : ThreeTapes) → Allowed {T = T} accepts answer l (And left right) ds → Fitting l x → Fitting l y
      → Change (length_of l left) (at (before v) (needs_each (length_of l left))) (xors (bare_and v (shares x left) (shares x right)) (bare_and v (shares y left) (shares y right))) (at (before v) ds)
  and_changed facts v l x y left right ds a h i =
      let n = length_of l left in
      let hx = and_fits l left right ds x a h in
      let hy = and_fits l left right ds y a i in
      change facts n (at (before v) (needs_each n)) _ (at (before v) ds) (a.draws (before v)) (each_words n (before v)) (each_long n (before v))
      (xor_full facts n _ _ (bare_full facts v n (shares x left) (shares x right) hx.one hx.two) (bare_full facts v n (shares y left) (shares y right) hy.one hy.two))

  and_kept : Facts → (v : Party) (l : Layout) (x y : Machine) (left right : ℕ) (ds : ThreeTapes) → Pair accepts answer v l x y (And left right) ds
      → IsKept accepts answer v l x y (And left right) ds
  and_kept facts v l x y left right ds p =
      let n = length_of l left in
      let c = xors (bare_and v (shares x left) (shares x right)) (bare_and v (shares y left) (shares y right)) in
      let d = changed [] c (at (before v) ds) in
      let es = put (before v) d ds in
      let hx = and_fits l left right ds x p.allowed p.one in
      let hy = and_fits l left right ds y p.allowed p.other in
      let masks = shifted_masks v c ds d (and_changed facts v l x y left right ds p.allowed p.one p.other).words in
      let held = and_held facts v n (shares x left) (shares x right) (shares y left) (shares y right) (each words_in ds) (each words_in es)
      hx.one hx.two hy.one hy.two (held_at v x y left p.same) (held_at v x y right p.same) masks in
      record {
        same =
            same_registers v x y (and_shares (shares x left) (shares x right) (each words_in ds) ∷ []) (and_shares (shares y left) (shares y right) (each words_in es) ∷ [])
            p.same (held, tt);
        words = sent_same v (and_shares (shares x left) (shares x right) (each words_in ds)) (and_shares (shares y left) (shares y right) (each words_in es)) held;
      }

  -- changed back
  back_by : Facts → (v : Party) (n : ℕ) (b c : List ℕ) (ds : ThreeTapes) (ns : List Need) → FitsNeeds ns (at (before v) ds) → AllByRecursion IsWord ns → changed [] (xors c b) (at (before v) (put (before v) (changed [] (xors b c) (at (before v) ds)) ds)) ≡ at (before v) ds
  back_by facts v n b c ds ns h i =
      ap (changed [] (xors c b)) (at_put (before v) (changed [] (xors b c) (at (before v) ds)) ds)
      ∙ (ap (λ cs. changed [] cs (changed [] (xors b c) (at (before v) ds))) (facts.commutes c b)
      ∙ changed_twice facts [] [] (xors b c) ns (at (before v) ds) h i)

  pub and_holds : Facts → (left right : ℕ) → StepHolds accepts answer (And left right)
  and_holds facts left right = record {
    fits = λ l m ds a h.
        let f = and_fits l left right ds m a h in
        more_registers l m (length_of l left ∷ []) (and_shares (shares m left) (shares m right) (each words_in ds) ∷ []) h
        (and_full facts (length_of l left) (shares m left) (shares m right) (each words_in ds) f.one f.two (masks_full facts (length_of l left) ds a.draws), tt);
    meets = λ v l x y ds a h i. (and_changed facts v l x y left right ds a h i).fits;
    keeps = λ v l x y ds p. and_kept facts v l x y left right ds p;
    back = λ v l x y ds p.
        back_by facts v (length_of l left) (bare_and v (shares x left) (shares x right)) (bare_and v (shares y left) (shares y right)) ds
        (at (before v) (needs_each (length_of l left))) (p.allowed.draws (before v)) (each_words (length_of l left) (before v));
  }

  -- ---- Share

  slot_full : (l : Layout) (p s : ℕ) (ds : ThreeTapes) (m : Machine) → Allowed {T = T} accepts answer l (Share p s) ds → Fitting l m
      → HasLength (words_in_slot l (party_of p) s) (slot_of m (party_of p) s)
  slot_full l p s ds m a h =
      let shape = shape_of l (party_of p) s in
      shaped_words shape (slot_of m (party_of p) s) (slot_fits l m p s h (both (is_slot l p s) (is_words shape) a.step).0)

  share_fits : Facts → (l : Layout) (p s : ℕ) (ds : ThreeTapes) (m : Machine) → Allowed {T = T} accepts answer l (Share p s) ds → Fitting l m
      → IsFull (words_in_slot l (party_of p) s) (dealt (party_of p) (slot_of m (party_of p) s) (each words_in ds))
  share_fits facts l p s ds m a h =
      let party = party_of p in
      let n = words_in_slot l party s in
      let ns = joined (needs_words party n) (needs_words (next party) n) in
      dealt_full facts party n (slot_of m party s) (each words_in ds) (slot_full l p s ds m a h)
      (subst (HasLength n) (sym (at_each party ds)) (drawn_full facts n (at party ns) (at party ds) (a.draws party) (share_words n party party) (own_long n party)))
      (subst (HasLength n) (sym (at_each (next party) ds)) (drawn_full facts n (at (next party) ns) (at (next party) ds) (a.draws (next party)) (share_words n party (next party)) (next_long n party)))

  share_change : Facts → (v : Party) (l : Layout) (x y : Machine) (p s : ℕ) (ds : ThreeTapes) → Allowed {T = T} accepts answer l (Share p s) ds → Fitting l x → Fitting l y
      → same_party (party_of p) v ≡ false
      → Change (words_in_slot l (party_of p) s)
      (at (before v) (joined (needs_words (party_of p) (words_in_slot l (party_of p) s)) (needs_words (next (party_of p)) (words_in_slot l (party_of p) s))))
      (xors (slot_of x (party_of p) s) (slot_of y (party_of p) s)) (at (before v) ds)
  share_change facts v l x y p s ds a h i e =
      let party = party_of p in
      let n = words_in_slot l party s in
      let ns = joined (needs_words party n) (needs_words (next party) n) in
      change facts n (at (before v) ns) _ (at (before v) ds) (a.draws (before v)) (share_words n party (before v)) (unseen_long n v party e)
      (xor_full facts n _ _ (slot_full l p s ds x a h) (slot_full l p s ds y a i))

  -- by whether the viewer shares its own words
  share_meets : Facts → (v : Party) (l : Layout) (x y : Machine) (p s : ℕ) (ds : ThreeTapes) → Allowed {T = T} accepts answer l (Share p s) ds → Fitting l x → Fitting l y
      → (b : Bool) → same_party (party_of p) v ≡ b
      → FitsNeeds (at (before v) (joined (needs_words (party_of p) (words_in_slot l (party_of p) s)) (needs_words (next (party_of p)) (words_in_slot l (party_of p) s))))
      (if b then at (before v) ds else changed [] (xors (slot_of x (party_of p) s) (slot_of y (party_of p) s)) (at (before v) ds))
  share_meets facts v l x y p s ds a h i true e = a.draws (before v)
  share_meets facts v l x y p s ds a h i false e = (share_change facts v l x y p s ds a h i e).fits

  share_same : Facts → (v : Party) (l : Layout) (x y : Machine) (p s : ℕ) (ds : ThreeTapes) → Pair accepts answer v l x y (Share p s) ds
      → (b : Bool) → same_party (party_of p) v ≡ b
      → DealtSame v (party_of p) (slot_of x (party_of p) s) (slot_of y (party_of p) s) (each words_in ds)
      (each words_in (put (before v) (if b then at (before v) ds else changed [] (xors (slot_of x (party_of p) s) (slot_of y (party_of p) s)) (at (before v) ds)) ds))
  share_same facts v l x y p s ds h true e =
      let party = party_of p in
      subst (λ es. DealtSame v party (slot_of x party s) (slot_of y party s) (each words_in ds) (each words_in es)) (sym (put_at (before v) ds))
      (same_dealt v party (slot_of x party s) (slot_of y party s) (each words_in ds) (same_own v party x.slots y.slots (λ xs. item xs s) e h.same.slots))
  share_same facts v l x y p s ds h false e =
      let party = party_of p in
      let c = xors (slot_of x party s) (slot_of y party s) in
      let d = changed [] c (at (before v) ds) in
      let n = words_in_slot l party s in
      dealt_same facts n v party (slot_of x party s) (slot_of y party s) (each words_in ds) (each words_in (put (before v) d ds)) e
      (slot_full l p s ds x h.allowed h.one).long (slot_full l p s ds y h.allowed h.other).long
      (shifted_masks v c ds d (share_change facts v l x y p s ds h.allowed h.one h.other e).words)

  share_back : Facts → (v : Party) (l : Layout) (x y : Machine) (p s : ℕ) (ds : ThreeTapes) → Pair accepts answer v l x y (Share p s) ds → (b : Bool)
      → (if b then at (before v) (put (before v) (if b then at (before v) ds else changed [] (xors (slot_of x (party_of p) s) (slot_of y (party_of p) s)) (at (before v) ds)) ds)
      else changed [] (xors (slot_of y (party_of p) s) (slot_of x (party_of p) s))
      (at (before v) (put (before v) (if b then at (before v) ds else changed [] (xors (slot_of x (party_of p) s) (slot_of y (party_of p) s)) (at (before v) ds)) ds)))
      ≡ at (before v) ds
  share_back facts v l x y p s ds h true = at_put (before v) (at (before v) ds) ds
  share_back facts v l x y p s ds h false =
      let party = party_of p in
      let n = words_in_slot l party s in
      back_by facts v n (slot_of x party s) (slot_of y party s) ds (at (before v) (joined (needs_words party n) (needs_words (next party) n)))
      (h.allowed.draws (before v)) (share_words n party (before v))

  share_kept : Facts → (v : Party) (l : Layout) (x y : Machine) (p s : ℕ) (ds : ThreeTapes) → Pair accepts answer v l x y (Share p s) ds → IsKept accepts answer v l x y (Share p s) ds
  share_kept facts v l x y p s ds h =
      let is = share_same facts v l x y p s ds h (same_party (party_of p) v) refl in
      record { same = same_registers v x y _ _ h.same (is.held, tt); words = is.words }

  pub share_holds : Facts → (p s : ℕ) → StepHolds accepts answer (Share p s)
  share_holds facts p s = record {
    fits = λ l m ds a h. more_registers l m (words_in_slot l (party_of p) s ∷ []) (dealt (party_of p) (slot_of m (party_of p) s) (each words_in ds) ∷ []) h (share_fits facts l p s ds m a h, tt);
    meets = λ v l x y ds a h i. share_meets facts v l x y p s ds a h i (same_party (party_of p) v) refl;
    keeps = λ v l x y ds h. share_kept facts v l x y p s ds h;
    back = λ v l x y ds h. share_back facts v l x y p s ds h (same_party (party_of p) v);
  }
