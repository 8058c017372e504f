-- A part that fits its layout fits the grown layout behind a step of one stage or none.
use Rattle.std.proofs.Common.{◌≡◌, ℕ, suc, ◌+◌, ◌^◌, Bool, true, false, cond, not, List, [], ◌∷◌, length, map, replicate, refl, sym, ap, subst, ◌∙◌, arith}
use Rattle.std.specs.Prelude.{IsTrue, ◌==◌, ◌&&◌, nat_lt, slice_index}
use Rattle.std.specs.List.{list_all}
use Rattle.lanes.specs.declared.party.Party.{Party}
use Rattle.lanes.specs.declared.party.Party.TheVariants.{First, Second, Third}
use Rattle.lanes.specs.Party.{next}
use Rattle.lanes.specs.Three.{at}
use Rattle.lanes.specs.Lanes.{xors, crosses}
use Rattle.tapes.specs.declared.draw.Draw.{Draw}
use Rattle.tapes.specs.declared.draw.Need.TheVariants.{Word as NeedsWord}
use Rattle.tapes.specs.Needs.{FitsNeeds}
use Rattle.step_lists.specs.declared.step.Shape.{Shape}
use Rattle.step_lists.specs.declared.step.LinOp.{LinOp}
use Rattle.step_lists.specs.declared.step.Step.TheVariants.{Const, Lin, And, Share, Tell, Work, Flag}
use Rattle.step_lists.specs.Layout.{Layout, party_of, grown, length_of, shape_of, words_in_slot, lin_length}
use Rattle.step_lists.specs.Draws.{joined, needs_each, needs_words, words_in}
use Rattle.step_lists.specs.Lin.{lin_share}
use Rattle.step_lists.specs.Machine.{const_share}
use Rattle.step_lists.specs.Open.{item}
use Rattle.step_lists.specs.Rules.{fits_layout, fits_lin, is_party, is_register, is_slot, is_words}
use Rattle.step_lists.specs.Seen.{same_party}
use Rattle.step_lists.specs.Shapes.{HasLength, HasShape, HaveShapes, IsLawful}
use Rattle.step_lists.specs.Part.{Given, Part, pair_at, and_part, shared_pair, part_step, takes_from, takes_nothing, when}
use Rattle.party_core.specs.Doing.{IsFitting, IsMasked, IsPairOf}
use Rattle.party_core.proofs.Counting.{at_put}
use Rattle.party_core.proofs.Drawn.{drawn_below, drawn_words}
use Rattle.party_core.proofs.Fine.{both, same_is}
use Rattle.party_core.proofs.Fitting.{IsSupplied, count_one, sized, pair_fits, slot_fits, words_shaped, pairs_more, slots_more}
use Rattle.party_core.proofs.LinFits.{const_has, lin_share_has}
use Rattle.party_core.proofs.LongWords.{LaneFacts, xors_long, crosses_long}
use Rattle.party_core.proofs.Needing.{words_needed, count_words, joined_count, words_count}
use Rattle.party_core.proofs.Progressing.{at_parties}
use Rattle.party_core.proofs.Zipping.{equal, all_hold, zip_maps}

-- ---- draws

each_drawn : (q : Party) (n : ℕ) (ds : List Draw) → FitsNeeds (at q (needs_each n)) ds → HasLength n (words_in ds)
each_drawn q n ds h = record {
  long = drawn_words (at q (needs_each n)) ds h ∙ ap words_needed (at_parties (λ p. replicate n NeedsWord) q) ∙ count_words.words n;
  below = drawn_below (at q (needs_each n)) ds h;
}

share_drawn : (q p : Party) (n : ℕ) (ds : List Draw) → FitsNeeds (at q (joined (needs_words p n) (needs_words (next p) n))) ds
    → HasLength (cond (same_party q p) n 0 + cond (same_party q (next p)) n 0) (words_in ds)
share_drawn q p n ds h =
    let ns = at q (joined (needs_words p n) (needs_words (next p) n)) in
    let all = drawn_words ns ds h in
    let sum = joined_count words_needed count_words q (needs_words p n) (needs_words (next p) n) in
    let one = words_count words_needed count_words q p n in
    let two = words_count words_needed count_words q (next p) n in
    record { long = omega (arith, all, sum, one, two); below = drawn_below ns ds h }

-- ---- the pair of words that are shared

from_other : (v p : Party) (n : ℕ) → same_party v p ≡ false → at p (when (not (same_party v p)) (takes_from p n)) ≡ n
from_other v p n e = ap (λ b. at p (when (not b) (takes_from p n))) e ∙ at_put p n takes_nothing

shared_fits : (v p : Party) (n : ℕ) (g : Given) → HasLength (cond (same_party v p) n 0 + cond (same_party v (next p)) n 0) (words_in g.own)
    → HasLength (cond (same_party (next v) p) n 0 + cond (same_party (next v) (next p)) n 0) (words_in g.following)
    → (same_party v p ≡ false → HasLength n (at p g.received)) → IsPairOf n (shared_pair v p g)
shared_fits First First n g h k r = record { own = sized (n + 0) n (words_in g.own) (omega arith) h; following = sized (0 + n) n (words_in g.following) (omega arith) k }
shared_fits Second Second n g h k r = record { own = sized (n + 0) n (words_in g.own) (omega arith) h; following = sized (0 + n) n (words_in g.following) (omega arith) k }
shared_fits Third Third n g h k r = record { own = sized (n + 0) n (words_in g.own) (omega arith) h; following = sized (0 + n) n (words_in g.following) (omega arith) k }
shared_fits Second First n g h k r = record { own = sized (0 + n) n (words_in g.own) (omega arith) h; following = r refl }
shared_fits Third Second n g h k r = record { own = sized (0 + n) n (words_in g.own) (omega arith) h; following = r refl }
shared_fits First Third n g h k r = record { own = sized (0 + n) n (words_in g.own) (omega arith) h; following = r refl }
shared_fits Third First n g h k r = record { own = r refl; following = sized (n + 0) n (words_in g.following) (omega arith) k }
shared_fits First Second n g h k r = record { own = r refl; following = sized (n + 0) n (words_in g.following) (omega arith) k }
shared_fits Second Third n g h k r = record { own = r refl; following = sized (n + 0) n (words_in g.following) (omega arith) k }

flag_fits : (v : Party) (l : Layout) (a : Part) (b : Bool) → IsFitting v l a → IsFitting v (record l { flags = suc l.flags }) (cond b (record a { flags = suc a.flags }) (record a { stop = true }))
flag_fits v l a true h = let few = h.few in record { pairs = h.pairs; slots = h.slots; few = omega (arith, few) }
flag_fits v l a false h = let few = h.few in record { pairs = h.pairs; slots = h.slots; few = omega (arith, few) }

module _ {T : Type 0} (accepts : T → List Shape → List Shape → Bool) (answer : T → List (List ℕ) → List (List ℕ)) where
  pub const_fits : (v : Party) (l : Layout) (a : Part) (words : List ℕ) (g : Given) → IsTrue (fits_layout {T = T} accepts l (Const words)) → IsFitting v l a
      → IsFitting v (grown {T = T} l (Const words)) (part_step answer v l a (Const words) g)
  const_fits v l a words g i h =
      let p = both (list_all (λ w. nat_lt w (2 ^ 64)) words) (nat_lt (length words) (2 ^ 32)) i in
      pairs_more v l a (length words ∷ []) (record { own = const_share v words; following = const_share (next v) words } ∷ []) h
      (record { own = const_has v words p.0; following = const_has (next v) words p.0 }, tt)

  pub lin_fits : LaneFacts → (v : Party) (l : Layout) (a : Part) (op : LinOp) (g : Given) → IsTrue (fits_lin l op) → IsFitting v l a
      → IsFitting v (grown {T = T} l (Lin op)) (part_step answer v l a (Lin op) g)
  lin_fits facts v l a op g i h =
      let one = λ (r : ℕ). (pair_at a r).own in
      let two = λ (r : ℕ). (pair_at a r).following in
      pairs_more v l a (lin_length l op ∷ []) (record { own = lin_share v op one; following = lin_share (next v) op two } ∷ []) h (
        record {
          own = lin_share_has facts l v op one (λ r j. (pair_fits v l a r h j).own) i;
          following = lin_share_has facts l (next v) op two (λ r j. (pair_fits v l a r h j).following) i;
        },
        tt,
      )

  -- ---- And

  record HasPairs (n : ℕ) (a : Part) (left right : ℕ) (g : Given) : Type 0 where
    one : IsPairOf n (pair_at a left)
    two : IsPairOf n (pair_at a right)
    own : HasLength n (words_in g.own)
    following : HasLength n (words_in g.following)

  has_pairs : (v : Party) (l : Layout) (a : Part) (left right : ℕ) (g : Given) → IsTrue (fits_layout {T = T} accepts l (And left right)) → IsFitting v l a
      → FitsNeeds (at v (needs_each (length_of l left))) g.own → FitsNeeds (at (next v) (needs_each (length_of l left))) g.following → HasPairs (length_of l left) a left right g
  has_pairs v l a left right g i h drawn after =
      let one = both (is_register l left && is_register l right) (length_of l left == length_of l right) i in
      let two = both (is_register l left) (is_register l right) one.0 in
      record {
        one = pair_fits v l a left h two.0;
        two = subst (λ n. IsPairOf n (pair_at a right)) (sym (equal (length_of l left) (length_of l right) one.1)) (pair_fits v l a right h two.1);
        own = each_drawn v (length_of l left) g.own drawn;
        following = each_drawn (next v) (length_of l left) g.following after;
      }

  pub and_masked : (v : Party) (l : Layout) (a : Part) (left right : ℕ) (g : Given) → IsTrue (fits_layout {T = T} accepts l (And left right)) → IsFitting v l a
      → FitsNeeds (at v (needs_each (length_of l left))) g.own → FitsNeeds (at (next v) (needs_each (length_of l left))) g.following → IsMasked a left right g
  and_masked v l a left right g i h drawn after =
      let p = has_pairs v l a left right g i h drawn after in
      let e = sym p.one.own.long in
      record {
        following = p.one.following.long ∙ e;
        other = p.two.own.long ∙ e;
        other_following = p.two.following.long ∙ e;
        mask = p.own.long ∙ e;
        other_mask = p.following.long ∙ e;
      }

  pub and_fits : LaneFacts → (v : Party) (l : Layout) (a : Part) (left right : ℕ) (g : Given) → IsTrue (fits_layout {T = T} accepts l (And left right))
      → IsSupplied {T = T} v l (And left right) g → IsFitting v l a → IsFitting v (grown {T = T} l (And left right)) (part_step answer v l a (And left right) g)
  and_fits facts v l a left right g i y h =
      let n = length_of l left in
      let p = has_pairs v l a left right g i h y.own y.following in
      let x = pair_at a left in
      let z = pair_at a right in
      let products = crosses x.own x.following z.own z.following in
      let crossed = crosses_long facts n x.own x.following z.own z.following p.one.own p.one.following p.two.own p.two.following in
      let own = xors_long facts n (xors products (words_in g.own)) (words_in g.following) (xors_long facts n products (words_in g.own) crossed p.own) p.following in
      let got = sized _ n (at (next v) g.received) (count_one (next v) (takes_from (next v) n) ∙ at_put (next v) n takes_nothing) (y.received (next v)) in
      pairs_more v l a (n ∷ []) (record { own = and_part x z g; following = at (next v) g.received } ∷ []) h (record { own = own; following = got }, tt)

  -- ---- Share, Tell, Work and Flag

  pub share_fits : (v : Party) (l : Layout) (a : Part) (party slot : ℕ) (g : Given) → IsSupplied {T = T} v l (Share party slot) g → IsFitting v l a
      → IsFitting v (grown {T = T} l (Share party slot)) (part_step answer v l a (Share party slot) g)
  share_fits v l a party slot g y h =
      let p = party_of party in
      let n = words_in_slot l p slot in
      pairs_more v l a (n ∷ []) (shared_pair v p g ∷ []) h (
        shared_fits v p n g (share_drawn v p n g.own y.own) (share_drawn (next v) p n g.following y.following)
            (λ e. sized _ n (at p g.received) (count_one p (when (not (same_party v p)) (takes_from p n)) ∙ from_other v p n e) (y.received p)),
        tt,
      )

  told : (v p q : Party) (n : ℕ) → same_party v q ≡ true → at p (when (same_party v q) (takes_from p n)) ≡ n
  told v p q n e = ap (λ b. at p (when b (takes_from p n))) e ∙ at_put p n takes_nothing

  pub tell_fits : (v : Party) (l : Layout) (a : Part) (source target slot : ℕ) (g : Given) → IsTrue (fits_layout {T = T} accepts l (Tell source target slot))
      → IsSupplied {T = T} v l (Tell source target slot) g → IsFitting v l a
      → IsFitting v (grown {T = T} l (Tell source target slot)) (part_step answer v l a (Tell source target slot) g)
  tell_fits v l a source target slot g i y h =
      let p = party_of source in
      let q = party_of target in
      let n = words_in_slot l p slot in
      let shape = shape_of l p slot in
      let words = (both (is_slot l source slot && is_party target && not (source == target)) (is_words shape) i).1 in
      slots_more v q l a (shape ∷ []) (at p g.received ∷ []) h
      (λ e. (words_shaped shape (at p g.received) words (sized _ n (at p g.received) (count_one p (when (same_party v q) (takes_from p n)) ∙ told v p q n e) (y.received p)), tt))

  pub work_shaped : (v : Party) (l : Layout) (a : Part) (party : ℕ) (task : T) (takes : List ℕ) (gives : List Shape)
      → IsTrue (fits_layout accepts l (Work party task takes gives)) → IsFitting v l a → same_party v (party_of party) ≡ true
      → HaveShapes (map (shape_of l (party_of party)) takes) (map (item a.slots) takes)
  work_shaped v l a party task takes gives i h e =
      let one = both (is_party party && list_all (is_slot l party) takes) (accepts task (map (shape_of l (party_of party)) takes) gives) i in
      let two = both (is_party party) (list_all (is_slot l party) takes) one.0 in
      zip_maps HasShape (shape_of l (party_of party)) (item a.slots) (λ s. IsTrue (is_slot l party s)) (λ s j. slot_fits v l a party s (same_is v (party_of party) e) h j) takes
      (all_hold (is_slot l party) takes two.1)

  pub work_accepted : (l : Layout) (party : ℕ) (task : T) (takes : List ℕ) (gives : List Shape) → IsTrue (fits_layout accepts l (Work party task takes gives))
      → IsTrue (accepts task (map (shape_of l (party_of party)) takes) gives)
  work_accepted l party task takes gives i =
      (both (is_party party && list_all (is_slot l party) takes) (accepts task (map (shape_of l (party_of party)) takes) gives) i).1

  pub work_fits : IsLawful accepts answer → (v : Party) (l : Layout) (a : Part) (party : ℕ) (task : T) (takes : List ℕ) (gives : List Shape) (g : Given)
      → IsTrue (fits_layout accepts l (Work party task takes gives)) → IsFitting v l a
      → IsFitting v (grown l (Work party task takes gives)) (part_step answer v l a (Work party task takes gives) g)
  work_fits law v l a party task takes gives g i h =
      slots_more v (party_of party) l a gives (answer task (map (item a.slots) takes)) h
      (λ e. law task (map (shape_of l (party_of party)) takes) gives (map (item a.slots) takes) (work_accepted l party task takes gives i) (work_shaped v l a party task takes gives i h e))

  pub flagged_fits : (v : Party) (l : Layout) (a : Part) (party slot : ℕ) (g : Given) → IsFitting v l a
      → IsFitting v (grown {T = T} l (Flag party slot)) (part_step answer v l a (Flag party slot) g)
  flagged_fits v l a party slot g h =
      let words = cond (same_party v (party_of party)) (item a.slots slot) (at (party_of party) g.received) in
      flag_fits v l a (slice_index words 0 == 0) h
