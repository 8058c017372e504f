-- Words of a party's own operations: as many as the layout says.
use Rattle.std.proofs.Common.{ℕ, ◌^◌, List, [], ◌∷◌, length, refl, sym, ◌∙◌}
use Rattle.std.specs.Prelude.{IsTrue, ◌==◌, ◌&&◌, nat_lt, nat_le, slice_index, bit_and}
use Rattle.std.specs.List.{AllByRecursion, list_all, flat_map}
use Rattle.lanes.specs.declared.party.Party.{Party}
use Rattle.lanes.specs.declared.party.Party.TheVariants.{First, Second, Third}
use Rattle.lanes.specs.Word.{AreWords, word_not}
use Rattle.lanes.specs.Shifts.{shifted_left, shifted_right, spread_word}
use Rattle.step_lists.specs.declared.step.LinOp.{LinOp}
use Rattle.step_lists.specs.declared.step.LinOp.TheVariants.{Xor, Not, Left, Right, Mask, Spread, Gather}
use Rattle.step_lists.specs.Layout.{Layout, length_of, lin_length}
use Rattle.step_lists.specs.Lin.{lin, lin_share}
use Rattle.step_lists.specs.Machine.{const_share}
use Rattle.step_lists.specs.Rules.{is_register, fits_lin, words_of_all}
use Rattle.step_lists.specs.Shapes.{HasLength}
use Rattle.party_core.proofs.Fine.{both}
use Rattle.party_core.proofs.Fitting.{sized}
use Rattle.party_core.proofs.LongWords.{LaneFacts, none_below, zeros_long, xors_long}
use Rattle.party_core.proofs.Zipping.{below, equal, all_hold, item_has}

-- registers that were made have the lengths of the layout
abbrev pub AreLaid : Layout → (ℕ → List ℕ) → Type 0
AreLaid l f = (r : ℕ) → IsTrue (is_register l r) → HasLength (length_of l r) (f r)

words_all : (words : List ℕ) → IsTrue (list_all (λ w. nat_lt w (2 ^ 64)) words) → AreWords words
words_all words h = record {
  below = λ k. below (slice_index words k) (2 ^ 64) (item_has (λ w. IsTrue (nat_lt w (2 ^ 64))) words k 0 (all_hold (λ w. nat_lt w (2 ^ 64)) words h) refl);
}

pub const_has : (v : Party) (words : List ℕ) → IsTrue (list_all (λ w. nat_lt w (2 ^ 64)) words) → HasLength (length words) (const_share v words)
const_has First words h = record { long = refl; below = words_all words h }
const_has Second words h = zeros_long (length words)
const_has Third words h = zeros_long (length words)

module _ (facts : LaneFacts) where
  flat_words : (f : ℕ → List ℕ) (l : Layout) (rs : List ℕ) → AreLaid l f → AllByRecursion (λ r. IsTrue (is_register l r)) rs → AreWords (flat_map f rs)
  flat_words f l [] h i = none_below
  flat_words f l (r ∷ rs) h i = facts.parts.appended (f r) (flat_map f rs) (h r i.0).below (flat_words f l rs h i.1)

  lin_has : (l : Layout) (op : LinOp) (f : ℕ → List ℕ) → AreLaid l f → IsTrue (fits_lin l op) → HasLength (lin_length l op) (lin op f)
  lin_has l (Xor a b) f h i =
      let one = both (is_register l a && is_register l b) (length_of l a == length_of l b) i in
      let two = both (is_register l a) (is_register l b) one.0 in
      xors_long facts (length_of l a) (f a) (f b) (h a two.0) (sized (length_of l b) (length_of l a) (f b) (sym (equal (length_of l a) (length_of l b) one.1)) (h b two.1))
  lin_has l (Not a) f h i = record { long = facts.lengths.each word_not (f a) ∙ (h a i).long; below = facts.stay.not (f a) (h a i).below }
  lin_has l (Left a by) f h i =
      let made = h a (both (is_register l a) (nat_le by 63) i).0 in
      record { long = facts.lengths.each (shifted_left by) (f a) ∙ made.long; below = facts.stay.left by (f a) }
  lin_has l (Right a by) f h i =
      let made = h a (both (is_register l a) (nat_le by 63) i).0 in
      record { long = facts.lengths.each (shifted_right by) (f a) ∙ made.long; below = facts.stay.right by (f a) made.below }
  lin_has l (Mask a word) f h i = record { long = facts.lengths.each (λ x. bit_and x word) (f a) ∙ (h a i).long; below = facts.stay.mask word (f a) (h a i).below }
  lin_has l (Spread a) f h i = record { long = facts.lengths.each spread_word (f a) ∙ (h a i).long; below = facts.stay.spread (f a) }
  lin_has l (Gather sources places) f h i =
      let one = both (list_all (is_register l) sources && list_all (λ p. nat_lt p (words_of_all l sources)) places) (nat_lt (length places) (2 ^ 32)) i in
      let two = both (list_all (is_register l) sources) (list_all (λ p. nat_lt p (words_of_all l sources)) places) one.0 in
      record {
        long = facts.lengths.pick places (flat_map f sources);
        below = facts.stay.pick places (flat_map f sources) (flat_words f l sources h (all_hold (is_register l) sources two.0));
      }

  pub lin_share_has : (l : Layout) (v : Party) (op : LinOp) (f : ℕ → List ℕ) → AreLaid l f → IsTrue (fits_lin l op) → HasLength (lin_length l op) (lin_share v op f)
  lin_share_has l First op f h i = lin_has l op f h i
  lin_share_has l Second (Not a) f h i = h a i
  lin_share_has l Second (Xor a b) f h i = lin_has l (Xor a b) f h i
  lin_share_has l Second (Left a by) f h i = lin_has l (Left a by) f h i
  lin_share_has l Second (Right a by) f h i = lin_has l (Right a by) f h i
  lin_share_has l Second (Mask a word) f h i = lin_has l (Mask a word) f h i
  lin_share_has l Second (Spread a) f h i = lin_has l (Spread a) f h i
  lin_share_has l Second (Gather sources places) f h i = lin_has l (Gather sources places) f h i
  lin_share_has l Third (Not a) f h i = h a i
  lin_share_has l Third (Xor a b) f h i = lin_has l (Xor a b) f h i
  lin_share_has l Third (Left a by) f h i = lin_has l (Left a by) f h i
  lin_share_has l Third (Right a by) f h i = lin_has l (Right a by) f h i
  lin_share_has l Third (Mask a word) f h i = lin_has l (Mask a word) f h i
  lin_share_has l Third (Spread a) f h i = lin_has l (Spread a) f h i
  lin_share_has l Third (Gather sources places) f h i = lin_has l (Gather sources places) f h i
