-- What a core keeps beside its view, behind a turn and behind words.
use Rattle.std.proofs.Common.{◌≡◌, ℕ, suc, ◌≤◌, Bool, true, false, cond, List, [], ◌∷◌, ◌++◌, length, map, take, refl, sym, ap, subst, ◌∙◌, arith, length-take}
use Rattle.std.specs.Prelude.{◌==◌, slice_index}
use Rattle.std.proofs.lemmas.List.{append-nil, length-map, take-append-le}
use Rattle.lanes.specs.declared.party.Party.{Party}
use Rattle.lanes.specs.Party.{next}
use Rattle.lanes.specs.Three.{at}
use Rattle.step_lists.specs.declared.step.Shape.{Shape}
use Rattle.step_lists.specs.declared.step.Step.{Step}
use Rattle.step_lists.specs.declared.step.Step.TheVariants.{Const, Lin, And, Share, Reveal, Steer, Tell, Work, Flag}
use Rattle.step_lists.specs.Layout.{Steps, Layout, party_of, rows_moved}
use Rattle.step_lists.specs.Open.{item}
use Rattle.step_lists.specs.Seen.{same_party}
use Rattle.step_lists.specs.Part.{Given, Part, part_step, part_flag, part_moving, part_third, with_pairs, with_own_slots, revealed_slots, stage_sends, stage_takes}
use Rattle.party_core.specs.declared.places.Places.{Places}
use Rattle.party_core.specs.CoreView.{CoreView, layout_here, given_for}
use Rattle.party_core.specs.Core.{part_so_far}
use Rattle.party_core.specs.Held.{IsHeld, IsPlaced, kept_of, seen_of}
use Rattle.party_core.specs.Holding.{rows_of}
use Rattle.party_core.specs.Reached.{IsReached}
use Rattle.party_core.proofs.Kept.{Filled, done_part}
use Rattle.party_core.proofs.Portions.{next_places, step_done, placed_next}

-- ---- what was sent and taken doesn't count in a step

kept_slots : (b : Bool) (a : Part) (xs : List (List ℕ)) → with_own_slots b (kept_of a) xs ≡ kept_of (with_own_slots b a xs)
kept_slots true a xs = refl
kept_slots false a xs = refl

kept_flag : (a : Part) (ws : List ℕ) → part_flag (kept_of a) ws ≡ kept_of (part_flag a ws)
kept_flag a ws = by (slice_index ws 0 == 0) where
  by : (b : Bool) → cond b (record (kept_of a) { flags = suc a.flags }) (record (kept_of a) { stop = true }) ≡ kept_of (cond b (record a { flags = suc a.flags }) (record a { stop = true }))
  by true = refl
  by false = refl

pub kept_sends : {T : Type 0} (v : Party) (l : Layout) (a : Part) (s : Step T) (g : Given) → stage_sends v l (kept_of a) s g ≡ stage_sends v l a s g
kept_sends v l a (Const words) g = refl
kept_sends v l a (Lin op) g = refl
kept_sends v l a (And x y) g = refl
kept_sends v l a (Share p s) g = refl
kept_sends v l a (Reveal to moved shown) g = refl
kept_sends v l a (Steer by s moved) g = refl
kept_sends v l a (Tell x y s) g = refl
kept_sends v l a (Work p task takes gives) g = refl
kept_sends v l a (Flag p s) g = refl

-- slots that are added to
pub record AreMore (xs ys : List (List ℕ)) : Type 0 where
  pub more : List (List ℕ)
  pub is : ys ≡ xs ++ more

same_more : (xs : List (List ℕ)) → AreMore xs xs
same_more xs = record { more = []; is = sym (append-nil xs) }

own_more : (b : Bool) (a : Part) (xs : List (List ℕ)) → AreMore a.slots (with_own_slots b a xs).slots
own_more true a xs = record { more = xs; is = refl }
own_more false a xs = same_more a.slots

flag_more : (a : Part) (ws : List ℕ) → AreMore a.slots (part_flag a ws).slots
flag_more a ws = by (slice_index ws 0 == 0) where
  by : (b : Bool) → AreMore a.slots (cond b (record a { flags = suc a.flags }) (record a { stop = true })).slots
  by true = same_more a.slots
  by false = same_more a.slots

module _ {T : Type 0} (answer : T → List (List ℕ) → List (List ℕ)) where
  pub kept_step : (v : Party) (l : Layout) (a : Part) (s : Step T) (g : Given) → part_step answer v l (kept_of a) s g ≡ kept_of (part_step answer v l a s g)
  kept_step v l a (Const words) g = refl
  kept_step v l a (Lin op) g = refl
  kept_step v l a (And x y) g = refl
  kept_step v l a (Share p s) g = refl
  kept_step v l a (Reveal to moved shown) g =
      let n = rows_moved l moved in
      let third = part_third v n g (part_moving a moved g) in
      kept_slots (same_party v (party_of to)) (with_pairs a third.pairs) (revealed_slots v n third shown (at (next v) third.received))
  kept_step v l a (Steer by s moved) g = refl
  kept_step v l a (Tell x y s) g = kept_slots (same_party v (party_of y)) a (at (party_of x) g.received ∷ [])
  kept_step v l a (Work p task takes gives) g = kept_slots (same_party v (party_of p)) a (answer task (map (item a.slots) takes))
  kept_step v l a (Flag p s) g = kept_flag a (cond (same_party v (party_of p)) (item a.slots s) (at (party_of p) g.received))

  step_more : (v : Party) (l : Layout) (a : Part) (s : Step T) (g : Given) → AreMore a.slots (part_step answer v l a s g).slots
  step_more v l a (Const words) g = same_more a.slots
  step_more v l a (Lin op) g = same_more a.slots
  step_more v l a (And x y) g = same_more a.slots
  step_more v l a (Share p s) g = same_more a.slots
  step_more v l a (Reveal to moved shown) g =
      let n = rows_moved l moved in
      let third = part_third v n g (part_moving a moved g) in
      own_more (same_party v (party_of to)) (with_pairs a third.pairs) (revealed_slots v n third shown (at (next v) third.received))
  step_more v l a (Steer by s moved) g = same_more a.slots
  step_more v l a (Tell x y s) g = own_more (same_party v (party_of y)) a (at (party_of x) g.received ∷ [])
  step_more v l a (Work p task takes gives) g = own_more (same_party v (party_of p)) a (answer task (map (item a.slots) takes))
  step_more v l a (Flag p s) g = flag_more a (cond (same_party v (party_of p)) (item a.slots s) (at (party_of p) g.received))

  -- the first slots stay where they are
  pub first_stay : (v : Party) (l : Layout) (a : Part) (s : Step T) (g : Given) (n : ℕ) → n ≤ length a.slots → take n (part_step answer v l a s g).slots ≡ take n a.slots
  first_stay v l a s g n h =
      let m = step_more v l a s g in
      ap (take n) m.is ∙ take-append-le n a.slots m.more h

  -- what the code keeps of a core, and that its view is this one
  pub record IsNow (accepts : T → List Shape → List Shape → Bool) (c : CoreView T) (list : Steps T) (v : Party) (g : Given) (a : Part) (p : Places) (steps stages : ℕ) (turned : Bool) : Type 0 where
    pub held : IsHeld accepts answer (seen_of list v g a.slots steps stages turned) a p
    pub is : seen_of list v g a.slots steps stages turned ≡ c

module _ {T : Type 0} (accepts : T → List Shape → List Shape → Bool) (answer : T → List (List ℕ) → List (List ℕ)) where
  -- as many slots as there are first ones
  pub slots_there : (list : Steps T) (v : Party) (g : Given) (a : Part) (steps stages : ℕ) (turned : Bool) → IsReached accepts answer (seen_of list v g a.slots steps stages turned)
      → length (at v list.first) ≤ length a.slots
  slots_there list v g a steps stages turned h =
      let n = length (at v list.first) in
      let long = ap length h.long in
      let map = length-map (take n a.slots) (λ xs. length xs) in
      let cut = length-take n a.slots in
      omega (arith, long, map, cut)

  -- within a step nothing changes but how far it is
  pub now_within : (list : Steps T) (v : Party) (g : Given) (a : Part) (p : Places) (steps stages i : ℕ) (turned b : Bool) (d : CoreView T)
      → a ≡ kept_of (part_so_far answer (seen_of list v g a.slots steps stages turned)) → IsPlaced answer (seen_of list v g a.slots steps stages turned) p
      → seen_of list v g a.slots steps i b ≡ d → IsReached accepts answer d → IsNow answer accepts d list v g a p steps i b
  now_within list v g a p steps stages i turned b d part placed e h = record {
    held = record {
      reached = subst (IsReached accepts answer) (sym e) h;
      part = part;
      places = record { own = placed.own; following = placed.following; received = placed.received };
    };
    is = e;
  }

  -- the step is done
  pub now_behind : (list : Steps T) (v : Party) (g : Given) (a b : Part) (p q : Places) (s : Step T) (m steps stages k : ℕ) (turned last : Bool)
      → a ≡ kept_of (part_so_far answer (seen_of list v g a.slots steps stages turned)) → IsPlaced answer (seen_of list v g a.slots steps stages turned) p
      → length (at v list.first) ≤ length a.slots
      → Filled accepts answer (seen_of list v g a.slots steps stages turned) s m
      → take m (stage_takes v (layout_here (seen_of list v g a.slots steps stages turned)) s) ≡ stage_takes v (layout_here (seen_of list v g a.slots steps stages turned)) s
      → b ≡ part_step answer v (layout_here (seen_of list v g a.slots steps stages turned)) a s (given_for (seen_of list v g a.slots steps stages turned) s)
      → q ≡ next_places g p v s (rows_of (layout_here (seen_of list v g a.slots steps stages turned)) s)
      → k ≡ suc steps → last ≡ false → IsReached accepts answer (step_done (seen_of list v g a.slots steps stages turned))
      → IsNow answer accepts (step_done (seen_of list v g a.slots steps stages turned)) list v g b q k 0 last
  now_behind list v g a b p q s m steps stages k turned last part placed there filled full done places e f h = record {
    held = record {
      reached = subst (IsReached accepts answer) (sym same) h;
      part = b_is ∙ ap (λ c. kept_of (part_so_far answer c)) (sym same);
      places = subst (λ c. IsPlaced answer c q) (sym same) (subst (IsPlaced answer (step_done c)) (sym places) (placed_next accepts answer c s p filled.here placed h));
    };
    is = same;
  } where
    c : CoreView T
    c = seen_of list v g a.slots steps stages turned

    l : Layout
    l = layout_here c

    slots_same : take (length (at v list.first)) b.slots ≡ take (length (at v list.first)) a.slots
    slots_same = ap (λ x. take (length (at v list.first)) x.slots) done ∙ first_stay answer v l a s (given_for c s) (length (at v list.first)) there

    same : seen_of list v g b.slots k 0 last ≡ step_done c
    same =
        ap (λ xs. record { list = list; party = v; slots = xs; given = g; far = record { steps = k; stages = 0; turned = last } }) slots_same
        ∙ ap (λ n. record { list = list; party = v; slots = c.slots; given = g; far = record { steps = n; stages = 0; turned = last } }) e
        ∙ ap (λ t. record { list = list; party = v; slots = c.slots; given = g; far = record { steps = suc steps; stages = 0; turned = t } }) f

    b_is : b ≡ kept_of (part_so_far answer (step_done c))
    b_is =
        done
        ∙ ap (λ x. part_step answer v l x s (given_for c s)) part
        ∙ kept_step answer v l (part_so_far answer c) s (given_for c s)
        ∙ ap kept_of (sym (done_part accepts answer c s m filled full))
