-- The steps Tell, Work and Flag: what the viewer is told and flagged is alike, and what it works out is of its own slots.
use Rattle.std.proofs.Common.{◌≡◌, ℕ, suc, Bool, true, false, List, [], ◌∷◌, map, refl, ap, subst}
use Rattle.std.specs.Prelude.{IsTrue, ◌&&◌, not, ◌==◌, slice_index, if◌then◌else◌}
use Rattle.std.specs.List.{list_all}
use Rattle.lanes.specs.declared.party.Party.{Party}
use Rattle.lanes.specs.declared.party.Party.TheVariants.{First, Second, Third}
use Rattle.lanes.specs.Party.{before}
use Rattle.lanes.specs.Three.{at}
use Rattle.step_lists.specs.declared.step.Shape.{Shape}
use Rattle.step_lists.specs.declared.step.Step.TheVariants.{Tell, Work, Flag}
use Rattle.step_lists.specs.Layout.{Layout, party_of, shape_of}
use Rattle.step_lists.specs.Rules.{is_slot, is_party, is_words}
use Rattle.step_lists.specs.Shapes.{HasShape, IsLawful}
use Rattle.step_lists.specs.Seen.{Told, Flagged, same_told, same_flag, AreAlike, also, same_party, only}
use Rattle.step_lists.specs.Open.{item}
use Rattle.step_lists.specs.Machine.{Machine, slot_of, with_more_slots, machine_flag}
use Rattle.twin.proofs.Lists.{both, all_hold, zip_maps, same_maps}
use Rattle.twin.proofs.Same.{Fitting, SameHere}
use Rattle.twin.proofs.Steps.{StepHolds}
use Rattle.twin.proofs.Fitted.{slot_fits, slots_more}
use Rattle.twin.proofs.Puts.{at_put, same_more, same_message, same_to_both}

-- words that are told or flagged alike are equal
told_same : (v t : Party) (a b : List ℕ) → AreAlike (only (same_party v t) (Told a)) (only (same_party v t) (Told b)) → same_party v t ≡ true → a ≡ b
told_same v t a b h e = one (subst (λ x. AreAlike (only x (Told a)) (only x (Told b))) e h) where
  one : AreAlike (Told a ∷ []) (Told b ∷ []) → a ≡ b
  one (also (same_told e) rest) = e

flag_same : (a b : List ℕ) → AreAlike (Flagged a ∷ []) (Flagged b ∷ []) → a ≡ b
flag_same a b (also (same_flag e) rest) = e

same_slots : (v : Party) (x y : Machine) (p : Party) (more others : List (List ℕ)) → SameHere v x y → (same_party v p ≡ true → more ≡ others)
    → SameHere v (with_more_slots x p more) (with_more_slots y p others)
same_slots v x y p more others h e = record {
  registers = h.registers;
  slots = same_more v p x.slots y.slots more others h.slots e;
  flags = h.flags;
  stop = h.stop;
}

-- slots of the viewer
viewer_slot : (v p : Party) (x y : Machine) (s : ℕ) → at v x.slots ≡ at v y.slots → same_party v p ≡ true → slot_of x p s ≡ slot_of y p s
viewer_slot First First x y s h e = ap (λ xs. item xs s) h
viewer_slot First Second x y s h e = absurd (cc)
viewer_slot First Third x y s h e = absurd (cc)
viewer_slot Second First x y s h e = absurd (cc)
viewer_slot Second Second x y s h e = ap (λ xs. item xs s) h
viewer_slot Second Third x y s h e = absurd (cc)
viewer_slot Third First x y s h e = absurd (cc)
viewer_slot Third Second x y s h e = absurd (cc)
viewer_slot Third Third x y s h e = ap (λ xs. item xs s) h

flag_fits : (l : Layout) (m : Machine) (flags : ℕ) (b : Bool) → Fitting l m
    → Fitting (record l { flags = flags }) (if b then record m { flags = suc m.flags } else record m { stop = true })
flag_fits l m flags true h = record { registers = h.registers; slots = h.slots }
flag_fits l m flags false h = record { registers = h.registers; slots = h.slots }

flag_kept : (v : Party) (x y : Machine) (b : Bool) → SameHere v x y
    → SameHere v (if b then record x { flags = suc x.flags } else record x { stop = true }) (if b then record y { flags = suc y.flags } else record y { stop = true })
flag_kept v x y true h = record { registers = h.registers; slots = h.slots; flags = ap suc h.flags; stop = h.stop }
flag_kept v x y false h = record { registers = h.registers; slots = h.slots; flags = h.flags; stop = refl }

module _ {T : Type 0} (accepts : T → List Shape → List Shape → Bool) (answer : T → List (List ℕ) → List (List ℕ)) where
  pub tell_holds : (source target s : ℕ) → StepHolds accepts answer (Tell source target s)
  tell_holds source target s = record {
    fits = λ l m ds a h.
        slots_more l m (party_of target) (shape_of l (party_of source) s ∷ []) (slot_of m (party_of source) s ∷ []) h
        (slot_fits l m source s h (told l a.step), tt);
    meets = λ v l x y ds a h i. a.draws (before v);
    keeps = λ v l x y ds p.
        let e = told_same v (party_of target) (slot_of x (party_of source) s) (slot_of y (party_of source) s) p.shown in
        record {
          same = same_slots v x y (party_of target) (slot_of x (party_of source) s ∷ []) (slot_of y (party_of source) s ∷ []) p.same (λ h. ap (λ w. w ∷ []) (e h));
          words = same_message v (party_of source) (party_of target) (slot_of x (party_of source) s) (slot_of y (party_of source) s) e;
        };
    back = λ v l x y ds p. at_put (before v) (at (before v) ds) ds;
  } where
    told : (l : Layout) → IsTrue (is_slot l source s && is_party target && not (source == target) && is_words (shape_of l (party_of source) s)) → IsTrue (is_slot l source s)
    told l h = first (is_slot l source s) (is_party target) (not (source == target)) (is_words (shape_of l (party_of source) s)) h
      where
        first : (a b c d : Bool) → IsTrue (a && b && c && d) → IsTrue a
        first true b c d h = refl
        first false b c d h = h

  pub work_holds : IsLawful accepts answer → (p : ℕ) (task : T) (takes : List ℕ) (gives : List Shape) → StepHolds accepts answer (Work p task takes gives)
  work_holds law p task takes gives = record {
    fits = λ l m ds a h.
        let may = accepts task (map (shape_of l (party_of p)) takes) gives in
        let one = both (is_party p && list_all (is_slot l p) takes) may a.step in
        let two = both (is_party p) (list_all (is_slot l p) takes) one.0 in
        slots_more l m (party_of p) gives (answer task (map (slot_of m (party_of p)) takes)) h
        (law task (map (shape_of l (party_of p)) takes) gives (map (slot_of m (party_of p)) takes) one.1
        (zip_maps HasShape (shape_of l (party_of p)) (slot_of m (party_of p)) (λ s. IsTrue (is_slot l p s)) (λ s i. slot_fits l m p s h i) takes
        (all_hold (is_slot l p) takes two.1)));
    meets = λ v l x y ds a h i. a.draws (before v);
    keeps = λ v l x y ds h. record {
      same =
          same_slots v x y (party_of p) (answer task (map (slot_of x (party_of p)) takes)) (answer task (map (slot_of y (party_of p)) takes)) h.same
          (λ e. ap (answer task) (same_maps (slot_of x (party_of p)) (slot_of y (party_of p)) (λ s. viewer_slot v (party_of p) x y s h.same.slots e) takes));
      words = record { from_next = refl; from_before = refl };
    };
    back = λ v l x y ds h. at_put (before v) (at (before v) ds) ds;
  }

  pub flag_holds : (p s : ℕ) → StepHolds accepts answer (Flag p s)
  flag_holds p s = record {
    fits = λ l m ds a h. flag_fits l m (suc l.flags) (slice_index (slot_of m (party_of p) s) 0 == 0) h;
    meets = λ v l x y ds a h i. a.draws (before v);
    keeps = λ v l x y ds h.
        let e = flag_same (slot_of x (party_of p) s) (slot_of y (party_of p) s) h.shown in
        record {
          same = subst (λ ws. SameHere v (machine_flag x (slot_of x (party_of p) s)) (machine_flag y ws)) e (flag_kept v x y (slice_index (slot_of x (party_of p) s) 0 == 0) h.same);
          words = same_to_both v (party_of p) (slot_of x (party_of p) s) (slot_of y (party_of p) s) e;
        };
    back = λ v l x y ds h. at_put (before v) (at (before v) ds) ds;
  }
