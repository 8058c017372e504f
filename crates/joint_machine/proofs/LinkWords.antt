-- What goes between the parties are words below 2 ^ 64: step by step, and then for whole lists.
use Rattle.std.proofs.Common.{◌≡◌, ℕ, suc, ◌^◌, Bool, true, false, List, [], ◌∷◌, ◌++◌, length, refl, sym, subst, ap}
use Rattle.std.specs.Prelude.{IsTrue, ◌==◌, ◌&&◌, not, nat_lt, slice_index, if◌then◌else◌}
use Rattle.std.specs.List.{list_all}
use Rattle.lanes.specs.Party.{next, before}
use Rattle.lanes.specs.Three.{at, each}
use Rattle.lanes.specs.Word.{AreWords}
use Rattle.lanes.specs.SharedAnd.{and_shares}
use Rattle.step_lists.specs.declared.step.Shape.{Shape}
use Rattle.step_lists.specs.declared.step.Step.{Step}
use Rattle.step_lists.specs.declared.step.Step.TheVariants.{Const, Lin, And, Share, Reveal, Steer, Tell, Work, Flag}
use Rattle.step_lists.specs.Layout.{Layout, party_of, grown, starting, shape_of, rows_moved}
use Rattle.step_lists.specs.Rules.{is_slot, is_party, is_one_word, is_words, is_small, fits_layout}
use Rattle.step_lists.specs.Shapes.{IsLawful}
use Rattle.step_lists.specs.Draws.{ThreeTapes, parties, needs_of, words_in, taken, dropped}
use Rattle.step_lists.specs.Run.{tape_cut}
use Rattle.step_lists.specs.RunLaws.{related}
use Rattle.step_lists.specs.Lin.{lin_share}
use Rattle.step_lists.specs.Open.{Open, open_going, opening}
use Rattle.step_lists.specs.Phases.{Shares, behind_on}
use Rattle.step_lists.specs.Machine.{Machine, shares, slot_of, const_share, given_share, dealt, moving, third_phase, private_phase, machine_step, step_words, before_steps, joint_going, delivered}
use Rattle.joint_machine.specs.Below.{AreWordsOn, LinksHaveWords}
use Rattle.joint_machine.proofs.Facts.{Facts}
use Rattle.joint_machine.proofs.Listing.{both}
use Rattle.joint_machine.proofs.Drawn.{AreDrawsOf}
use Rattle.joint_machine.proofs.OpenFits.{words_all, slot_fits, shaped_words}
use Rattle.joint_machine.proofs.SharesOpened.{Kept, IsBeside, same_slot, draws_of, beside_step, before_all}
use Rattle.joint_machine.proofs.SharesBelow.{EachWords, AllWords, put_has, all_append, silent, message_below, behind_below, both_below, masks_below, drawn_short, share_below, const_below, lin_below, and_below, and_sends, given_below, moving_below, third_below, reveal_sends, steer_below, steer_sends}

-- a step itself adds nothing to the links
pub kept_links : {T : Type 0} (answer : T → List (List ℕ) → List (List ℕ)) (l : Layout) (m : Machine) (s : Step T) (d : ThreeTapes) → m.links ≡ (machine_step answer l m s d).links
kept_links answer l m (Const words) d = refl
kept_links answer l m (Lin op) d = refl
kept_links answer l m (And left right) d = refl
kept_links answer l m (Share party s) d = refl
kept_links answer l m (Reveal to moved shown) d = refl
kept_links answer l m (Steer by s moved) d = refl
kept_links answer l m (Tell source target s) d = refl
kept_links answer l m (Work party task takes gives) d = refl
kept_links answer l m (Flag party s) d = flagged (slice_index (slot_of m (party_of party) s) 0 == 0) where
  flagged : (b : Bool) → m.links ≡ (if b then record m { flags = suc m.flags } else record m { stop = true }).links
  flagged true = refl
  flagged false = refl

-- ---- one step

module _ {T : Type 0} (accepts : T → List Shape → List Shape → Bool) (answer : T → List (List ℕ) → List (List ℕ)) (facts : Facts) where
  slot_below : (l : Layout) (m : Machine) (o : Open) (p s : ℕ) → Kept l m o → IsTrue (is_slot l p s) → AreWords (slot_of m (party_of p) s)
  slot_below l m o p s h i =
      subst AreWords (sym (same_slot m o (party_of p) s h.opens)) (shaped_words (shape_of l (party_of p) s) _ (slot_fits l o p s h.fits i)).below

  -- the new registers, and the words that are sent
  record IsBelow (l : Layout) (m : Machine) (s : Step T) (ds : ThreeTapes) : Type 0 where
    made : AllWords (machine_step answer l m s ds).registers
    sent : AreWordsOn (step_words l m s ds)

  one_more : (m : Machine) (s : Shares) → AllWords m.registers → EachWords s → AllWords (m.registers ++ s ∷ [])
  one_more m s h i = all_append m.registers (s ∷ []) h (i, tt)

  step_below : (l : Layout) (m : Machine) (o : Open) (s : Step T) (ds : ThreeTapes) → IsTrue (fits_layout accepts l s) → AreDrawsOf l s ds → Kept l m o → AllWords m.registers
      → IsBelow l m s ds
  step_below l m o (Const words) ds i drawn h w = record {
    made =
        one_more m (parties (λ i. const_share i words)) w
        (const_below facts words (words_all words (both (list_all (λ w. nat_lt w (2 ^ 64)) words) (nat_lt (length words) (2 ^ 32)) i).0));
    sent = silent;
  }
  step_below l m o (Lin op) ds i drawn h w = record {
    made = one_more m (parties (λ i. lin_share i op (λ r. at i (shares m r)))) w (lin_below facts l m op w i);
    sent = silent;
  }
  step_below l m o (And left right) ds i drawn h w =
      let z = and_shares (shares m left) (shares m right) (each words_in ds) in
      let below = and_below facts (shares m left) (shares m right) (each words_in ds) (share_below facts m w left) (masks_below {T = T} l (And left right) ds drawn) in
      record { made = one_more m z w below; sent = and_sends facts z below }
  step_below l m o (Share party s) ds i drawn h w =
      let p = party_of party in
      let words = slot_of m p s in
      let masks = masks_below {T = T} l (Share party s) ds drawn in
      let below = given_below facts p words (each words_in ds) (slot_below l m o party s h (both (is_slot l party s) (is_words (shape_of l p s)) i).0) masks in
      record {
        made = one_more m (dealt p words (each words_in ds)) w (put_has AreWords (before p) (given_share p words (each words_in ds)) (each words_in ds) below masks);
        sent = both_below facts p (given_share p words (each words_in ds)) below;
      }
  step_below l m o (Reveal to moved shown) ds i drawn h w =
      let n = rows_moved l moved in
      let x = moving_below facts m moved ds w (masks_below {T = T} l (Reveal to moved shown) ds drawn) in
      record {
        made = all_append m.registers (third_phase n ds (moving m moved ds)).shares w (third_below facts n ds (moving m moved ds) x).shares;
        sent = reveal_sends facts (party_of to) n shown ds (moving m moved ds) x;
      }
  step_below l m o (Steer by s moved) ds i drawn h w =
      let n = rows_moved l moved in
      let p = party_of by in
      let g = slot_of m p s in
      let x = moving_below facts m moved ds w (masks_below {T = T} l (Steer by s moved) ds drawn) in
      record {
        made = all_append m.registers (private_phase p g n ds (moving m moved ds)).shares w (steer_below facts p g n ds (moving m moved ds) x).shares;
        sent = steer_sends facts p g n ds (moving m moved ds) x (drawn_short {T = T} l (Steer by s moved) ds drawn (next p));
      }
  step_below l m o (Tell source target s) ds i drawn h w =
      let p = party_of source in
      let one = both ((is_slot l source s && is_party target) && not (source == target)) (is_words (shape_of l p s)) i in
      let two = both (is_slot l source s && is_party target) (not (source == target)) one.0 in
      let three = both (is_slot l source s) (is_party target) two.0 in
      record { made = w; sent = message_below p (party_of target) (slot_of m p s) (slot_below l m o source s h three.0) }
  step_below l m o (Work party task takes gives) ds i drawn h w = record { made = w; sent = silent }
  step_below l m o (Flag party s) ds i drawn h w =
      let p = party_of party in
      record {
        made = flagged (slice_index (slot_of m p s) 0 == 0);
        sent = both_below facts p (slot_of m p s) (slot_below l m o party s h (both (is_slot l party s) (is_one_word (shape_of l p s)) i).0);
      } where
        flagged : (b : Bool) → AllWords (if b then record m { flags = suc m.flags } else record m { stop = true }).registers
        flagged true = w
        flagged false = w

  -- ---- whole lists

  -- the two runs before each step, and the words of the first
  record WordsBeside (l : Layout) (ss : List (Step T)) (m : Machine) (i : ThreeTapes) (o : Open) (j : ThreeTapes) : Type 0 where
    beside : IsBeside accepts answer l ss m i o j
    made : AllWords m.registers
    sent : AreWordsOn m.links

  record HasWords (m : Machine) : Type 0 where
    made : AllWords m.registers
    sent : AreWordsOn m.links

  words_step : IsLawful accepts answer → (l : Layout) (s : Step T) (ss : List (Step T)) (m : Machine) (i : ThreeTapes) (o : Open) (j : ThreeTapes)
      → WordsBeside l (s ∷ ss) m i o j
      → WordsBeside (grown l s) ss (joint_going answer l m s (taken (needs_of l s) i)) (dropped (needs_of l s) i)
      (open_going answer l o s (taken (needs_of l s) j)) (dropped (needs_of l s) j)
  words_step law l s ss m i o j h =
      let words = by m.stop refl in
      record { beside = beside_step accepts answer facts law l s ss m i o j h.beside; made = words.made; sent = words.sent } where
        d : ThreeTapes
        d = taken (needs_of l s) i

        new : Machine
        new = delivered (step_words l m s d) (machine_step answer l m s d)

        going : m.stop ≡ false → HasWords new
        going e =
            let may = both (fits_layout accepts l s) (is_small (grown l s)) h.beside.fine.0 in
            let is = step_below l m o s d may.0 (draws_of accepts answer l s ss i h.beside.fits) (h.beside.going e) h.made in
            record { made = is.made; sent = subst (λ x. AreWordsOn (behind_on x (step_words l m s d))) (kept_links answer l m s d) (behind_below facts m.links (step_words l m s d) h.sent is.sent) }

        by : (b : Bool) → m.stop ≡ b → HasWords (joint_going answer l m s d)
        by true e = subst HasWords (sym (ap (λ b. if b then m else new) e)) (record { made = h.made; sent = h.sent })
        by false e = subst HasWords (sym (ap (λ b. if b then m else new) e)) (going e)

  pub links_have_words : IsLawful accepts answer → LinksHaveWords accepts answer
  links_have_words law list slots ds fine fits =
      (related (joint_going answer) tape_cut (open_going answer) tape_cut WordsBeside (words_step law)
      (starting list.first) list.steps (before_steps slots) ds (opening slots) ds
      (record { beside = before_all accepts answer list slots ds fine fits; made = tt; sent = silent })).sent
