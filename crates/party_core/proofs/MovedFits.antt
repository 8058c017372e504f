-- A part that fits its layout fits the grown layout behind a Reveal and a Steer, and so behind every step.
use Rattle.std.proofs.Common.{◌≡◌, ℕ, ◌*◌, ◌<◌, ◌≤◌, Bool, not, List, [], ◌∷◌, length, map, take, drop, sym, subst, ◌∙◌}
use Rattle.std.specs.Prelude.{IsTrue, ◌==◌, ◌&&◌, nat_lt, slice_index_or}
use Rattle.std.specs.List.{AllByRecursion, list_all}
use Rattle.std.proofs.lemmas.List.{length-map}
use Rattle.lanes.specs.declared.party.Party.{Party}
use Rattle.lanes.specs.declared.party.Party.TheVariants.{First, Second, Third}
use Rattle.lanes.specs.Party.{next, before}
use Rattle.lanes.specs.Three.{at}
use Rattle.lanes.specs.Word.{AreWords}
use Rattle.lanes.specs.Lanes.{xors}
use Rattle.step_lists.specs.declared.step.Shape.{Shape}
use Rattle.step_lists.specs.declared.step.Shape.TheVariants as shapes
use Rattle.step_lists.specs.declared.step.Step.{Step}
use Rattle.step_lists.specs.declared.step.Step.TheVariants.{Const, Lin, And, Share, Reveal, Steer, Tell, Work, Flag}
use Rattle.step_lists.specs.Layout.{Layout, party_of, grown, length_of, shape_of, rows_moved, with_lengths}
use Rattle.step_lists.specs.Open.{item}
use Rattle.step_lists.specs.Rules.{fits_layout, is_empty, is_order_of, is_party, is_register, is_slot, move_together}
use Rattle.step_lists.specs.Seen.{same_party}
use Rattle.step_lists.specs.Shapes.{HasLength, HaveShapes, IsLawful}
use Rattle.step_lists.specs.Part.{Given, Pair, Part, PartMoving, no_pair, pair_at, with_pairs, part_moving, part_third, part_private, part_step, revealed_slots, opened_at, takes_from, when, phase_takes}
use Rattle.party_core.specs.Doing.{IsFitting, IsPairOf}
use Rattle.party_core.proofs.Drawn.{reveal_drawn, steer_drawn}
use Rattle.party_core.proofs.Fine.{both}
use Rattle.party_core.proofs.Fitting.{IsSupplied, pair_fits, pairs_more, slots_more}
use Rattle.party_core.proofs.LongWords.{LaneFacts, dropped_below, taken_long, xors_long}
use Rattle.party_core.proofs.Phasing.{IsMoving, splits}
use Rattle.party_core.proofs.RevealFits.{count_four, count_three, reveal_moves, steer_moves}
use Rattle.party_core.proofs.StepFits.{const_fits, lin_fits, and_fits, share_fits, tell_fits, work_fits, flagged_fits}
use Rattle.party_core.proofs.Zipping.{below, equal, all_at, mapped_all, zip_beside}

-- ---- registers that are moved together

pub record IsMoved (l : Layout) (n r : ℕ) : Type 0 where
  pub made : IsTrue (is_register l r)
  pub long : length_of l r ≡ n

all_moved : (l : Layout) (n : ℕ) (rs : List ℕ) → IsTrue (list_all (λ r. is_register l r && (length_of l r == n)) rs) → AllByRecursion (IsMoved l n) rs
all_moved l n [] h = tt
all_moved l n (r ∷ rs) h =
    let p = both (is_register l r && (length_of l r == n)) (list_all (λ r. is_register l r && (length_of l r == n)) rs) h in
    let q = both (is_register l r) (length_of l r == n) p.0 in
    (record { made = q.0; long = equal (length_of l r) n q.1 }, all_moved l n rs p.1)

pub moved_together : (l : Layout) (moved : List ℕ) → IsTrue (move_together l moved) → AllByRecursion (IsMoved l (rows_moved l moved)) moved
moved_together l moved h =
    all_moved l (rows_moved l moved) moved (both (not (is_empty moved)) (list_all (λ r. is_register l r && (length_of l r == rows_moved l moved)) moved) h).1

-- before the first phase
start_moves : (v : Party) (l : Layout) (a : Part) (n : ℕ) (moved : List ℕ) (g : Given) → IsFitting v l a → AllByRecursion (IsMoved l n) moved
    → AreWords (part_moving a moved g).own → AreWords (part_moving a moved g).following → ((p : Party) → AreWords (at p g.received))
    → IsMoving n (length moved) (part_moving a moved g)
start_moves v l a n moved g h are own following received = record {
  pairs = mapped_all (IsMoved l n) (IsPairOf n) (pair_at a) (λ r m. subst (λ n. IsPairOf n (pair_at a r)) m.long (pair_fits v l a r h m.made)) moved are;
  count = length-map moved (pair_at a);
  own = own;
  following = following;
  received = received;
}

-- the new registers
new_pairs : (v : Party) (l : Layout) (a : Part) (n : ℕ) (moved : List ℕ) (x : PartMoving) → IsFitting v l a → AllByRecursion (IsMoved l n) moved → IsMoving n (length moved) x
    → IsFitting v (with_lengths l (map (length_of l) moved)) (with_pairs a x.pairs)
new_pairs v l a n moved x h are m =
    pairs_more v l a (map (length_of l) moved) x.pairs h
    (zip_beside IsPairOf (length_of l) (IsMoved l n) (IsPairOf n) (λ r p i j. subst (λ k. IsPairOf k p) (sym i.long) j) moved x.pairs m.count are m.pairs)

-- ---- the slots that a Reveal gives

module _ (facts : LaneFacts) where
  opened_has : (q : Party) (n : ℕ) (p : Pair) (third : List ℕ) → IsPairOf n p → HasLength n third → HasLength n (opened_at q p third)
  opened_has First n p third h k = xors_long facts n (xors p.own p.following) third (xors_long facts n p.own p.following h.own h.following) k
  opened_has Second n p third h k = xors_long facts n (xors third p.own) p.following (xors_long facts n third p.own k h.own) h.following
  opened_has Third n p third h k = xors_long facts n (xors p.following third) p.own (xors_long facts n p.following third h.following k) h.own

  revealed_fit : (q : Party) (n m : ℕ) (x : PartMoving) (ks got : List ℕ) → IsMoving n m x → IsTrue (list_all (λ k. nat_lt k m) ks) → AreWords got → length ks * n ≤ length got
      → HaveShapes (map (λ k. shapes.Words n) ks) (revealed_slots q n x ks got)
  revealed_fit q n m x [] got h i w e = tt
  revealed_fit q n m x (k ∷ ks) got h i w e =
      let s = splits n (length ks) got e in
      let p = both (nat_lt k m) (list_all (λ k. nat_lt k m) ks) i in
      let lt = subst (λ c. k < c) (sym h.count) (below k m p.0) in (
        opened_has q n (slice_index_or x.pairs k no_pair) (take n got) (all_at (IsPairOf n) x.pairs k no_pair h.pairs lt) (taken_long facts n got s.first w),
        revealed_fit q n m x ks (drop n got) h p.1 (dropped_below facts n got w) s.rest,
      )

module _ {T : Type 0} (accepts : T → List Shape → List Shape → Bool) (answer : T → List (List ℕ) → List (List ℕ)) where
  reveal_fits : LaneFacts → (v : Party) (l : Layout) (a : Part) (to : ℕ) (moved shown : List ℕ) (g : Given) → IsTrue (fits_layout {T = T} accepts l (Reveal to moved shown))
      → IsSupplied {T = T} v l (Reveal to moved shown) g → IsFitting v l a → IsFitting v (grown {T = T} l (Reveal to moved shown)) (part_step answer v l a (Reveal to moved shown) g)
  reveal_fits facts v l a to moved shown g i y h =
      let n = rows_moved l moved in
      let m = length moved in
      let q = party_of to in
      let shows = list_all (λ k. nat_lt k m) shown in
      let one = both (is_party to && move_together l moved && not (is_empty shown)) shows i in
      let two = both (is_party to && move_together l moved) (not (is_empty shown)) one.0 in
      let are = moved_together l moved (both (is_party to) (move_together l moved) two.0).1 in
      let own = reveal_drawn v m n g.own y.own in
      let following = reveal_drawn (next v) m n g.following y.following in
      let x = part_moving a moved g in
      let start = start_moves v l a n moved g h are own.below following.below (λ p. (y.received p).below) in
      let fed = λ (p : Party). (y.received p).long ∙ count_four p (phase_takes v First (m * n)) (phase_takes v Second (m * n)) (phase_takes v Third (m * n)) (when (same_party v q) (takes_from (next q) (length shown * n))) in
      let r = reveal_moves facts v q n m (length shown * n) g x (record { own = own.order; following = following.order }) (record { own = own.words; following = following.words; received = fed }) start in
      let third = part_third v n g x in
      slots_more v q (with_lengths l (map (length_of l) moved)) (with_pairs a third.pairs) (map (λ k. shapes.Words n) shown) (revealed_slots v n third shown (at (next v) third.received))
      (new_pairs v l a n moved third h are r.moves)
      (λ e. revealed_fit facts v n m third shown (at (next v) third.received) r.moves one.1 (r.moves.received (next v)) (r.words e))

  steer_fits : LaneFacts → (v : Party) (l : Layout) (a : Part) (by slot : ℕ) (moved : List ℕ) (g : Given) → IsTrue (fits_layout {T = T} accepts l (Steer by slot moved))
      → IsSupplied {T = T} v l (Steer by slot moved) g → IsFitting v l a → IsFitting v (grown {T = T} l (Steer by slot moved)) (part_step answer v l a (Steer by slot moved) g)
  steer_fits facts v l a by slot moved g i y h =
      let n = rows_moved l moved in
      let m = length moved in
      let p = party_of by in
      let one = both (is_slot l by slot && move_together l moved) (is_order_of n (shape_of l p slot)) i in
      let are = moved_together l moved (both (is_slot l by slot) (move_together l moved) one.0).1 in
      let own = steer_drawn v p m n g.own y.own in
      let following = steer_drawn (next v) p m n g.following y.following in
      let x = part_moving a moved g in
      let secret = item a.slots slot in
      let start = start_moves v l a n moved g h are own.below following.below (λ p. (y.received p).below) in
      let fed = λ (r : Party). (y.received r).long ∙ count_three r (when (same_party v (before p)) (takes_from p n)) (phase_takes v (next p) (m * n)) (phase_takes v p (m * n)) in
      new_pairs v l a n moved (part_private v p secret n g x) h are
      (steer_moves facts v p n m secret g x (record { own = own.order; following = following.order }) (record { own = own.words; following = following.words; received = fed }) start)

  pub step_fits : LaneFacts → IsLawful accepts answer → (v : Party) (l : Layout) (a : Part) (s : Step T) (g : Given) → IsTrue (fits_layout accepts l s)
      → IsSupplied v l s g → IsFitting v l a → IsFitting v (grown l s) (part_step answer v l a s g)
  step_fits facts law v l a (Const words) g i y h = const_fits accepts answer v l a words g i h
  step_fits facts law v l a (Lin op) g i y h = lin_fits accepts answer facts v l a op g i h
  step_fits facts law v l a (And left right) g i y h = and_fits accepts answer facts v l a left right g i y h
  step_fits facts law v l a (Share party slot) g i y h = share_fits accepts answer v l a party slot g y h
  step_fits facts law v l a (Reveal to moved shown) g i y h = reveal_fits facts v l a to moved shown g i y h
  step_fits facts law v l a (Steer by slot moved) g i y h = steer_fits facts v l a by slot moved g i y h
  step_fits facts law v l a (Tell source target slot) g i y h = tell_fits accepts answer v l a source target slot g i y h
  step_fits facts law v l a (Work party task takes gives) g i y h = work_fits accepts answer law v l a party task takes gives g i h
  step_fits facts law v l a (Flag party slot) g i y h = flagged_fits accepts answer v l a party slot g h
