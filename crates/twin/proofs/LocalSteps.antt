-- The steps Const and Lin.
use Rattle.std.proofs.Common.{◌≡◌, ℕ, zero, suc, ◌<◌, ◌^◌, Bool, List, [], ◌∷◌, length, replicate, refl, ap, ◌∙◌, arith}
use Rattle.std.specs.Prelude.{IsTrue, ◌&&◌, ◌==◌, nat_lt, nat_le, slice_index, bit_and}
use Rattle.std.specs.List.{AllByRecursion, list_all, flat_map}
use Rattle.std.proofs.lemmas.List.{length-replicate}
use Rattle.lanes.specs.declared.party.Party.{Party}
use Rattle.lanes.specs.declared.party.Party.TheVariants.{First, Second, Third}
use Rattle.lanes.specs.Three.{at}
use Rattle.lanes.specs.Word.{AreWords}
use Rattle.lanes.specs.Shifts.{shifted_left, shifted_right, spread_word}
use Rattle.step_lists.specs.declared.step.Shape.{Shape}
use Rattle.step_lists.specs.declared.step.LinOp.{LinOp}
use Rattle.step_lists.specs.declared.step.LinOp.TheVariants.{Xor, Not, Left, Right, Mask, Spread, Gather}
use Rattle.step_lists.specs.declared.step.Step.TheVariants.{Const, Lin}
use Rattle.step_lists.specs.Layout.{Layout, length_of, lin_length}
use Rattle.step_lists.specs.Rules.{is_register, fits_lin, words_of_all}
use Rattle.step_lists.specs.Shapes.{HasLength}
use Rattle.step_lists.specs.Draws.{parties}
use Rattle.step_lists.specs.Lin.{lin, lin_share}
use Rattle.step_lists.specs.Phases.{Shares}
use Rattle.step_lists.specs.Machine.{Machine, shares, const_share}
use Rattle.twin.proofs.Facts.{Facts}
use Rattle.twin.proofs.Lists.{both, below, equal, all_hold, item_has}
use Rattle.twin.proofs.Same.{IsFull, Held}
use Rattle.twin.proofs.Steps.{StepHolds}
use Rattle.twin.proofs.Fitted.{none_below, register_full, held_at, more_registers, same_registers}
use Rattle.twin.proofs.Puts.{at_put}

words_all : (words : List ℕ) → IsTrue (list_all (λ w. nat_lt w (2 ^ 64)) words) → AreWords words
words_all words h = record { below = λ k. below (slice_index words k) (2 ^ 64) (item_has (λ w. IsTrue (nat_lt w (2 ^ 64))) words k 0 (all_hold (λ w. nat_lt w (2 ^ 64)) words h) refl) }

zeros : (n : ℕ) → HasLength n (replicate n 0)
zeros n = record { long = length-replicate n 0; below = record { below = at n } } where
  at : (n k : ℕ) → slice_index (replicate n 0) k < 2 ^ 64
  at zero k = omega arith
  at (suc n) zero = omega arith
  at (suc n) (suc k) = at n k

const_full : (words : List ℕ) → AreWords words → IsFull (length words) (parties (λ i. const_share i words))
const_full words h = record { each = each } where
  each : (p : Party) → HasLength (length words) (at p (parties (λ i. const_share i words)))
  each First = record { long = refl; below = h }
  each Second = zeros (length words)
  each Third = zeros (length words)

-- ---- operations

-- words for registers that were made
abbrev AreLaid : Layout → (ℕ → List ℕ) → Type 0
AreLaid l f = (r : ℕ) → IsTrue (is_register l r) → HasLength (length_of l r) (f r)

flat_words : Facts → (l : Layout) (f : ℕ → List ℕ) (rs : List ℕ) → AreLaid l f → AllByRecursion (λ r. IsTrue (is_register l r)) rs → AreWords (flat_map f rs)
flat_words facts l f [] h i = none_below
flat_words facts l f (r ∷ rs) h i = facts.behind.appended (f r) (flat_map f rs) (h r i.0).below (flat_words facts l f rs h i.1)

lin_full : Facts → (l : Layout) (op : LinOp) (f : ℕ → List ℕ) → AreLaid l f → IsTrue (fits_lin l op) → HasLength (lin_length l op) (lin op f)
lin_full facts l (Xor a b) f h i =
    let one = both (is_register l a && is_register l b) (length_of l a == length_of l b) i in
    let two = both (is_register l a) (is_register l b) one.0 in
    let e = equal (length_of l a) (length_of l b) one.1 in
    let ha = h a two.0 in
    let hb = h b two.1 in
    record { long = omega (arith, facts.lengths.xor (f a) (f b), ha.long, hb.long, e); below = facts.stay.xor (f a) (f b) ha.below hb.below }
lin_full facts l (Not a) f h i = record { long = facts.lengths.each _ (f a) ∙ (h a i).long; below = facts.stay.not (f a) (h a i).below }
lin_full facts l (Left a by) f h i =
    let ha = h a (both (is_register l a) (nat_le by 63) i).0 in
    record { long = facts.lengths.each (shifted_left by) (f a) ∙ ha.long; below = facts.stay.left by (f a) }
lin_full facts l (Right a by) f h i =
    let ha = h a (both (is_register l a) (nat_le by 63) i).0 in
    record { long = facts.lengths.each (shifted_right by) (f a) ∙ ha.long; below = facts.stay.right by (f a) ha.below }
lin_full facts l (Mask a word) f h i =
    record { long = facts.lengths.each (λ x. bit_and x word) (f a) ∙ (h a i).long; below = facts.stay.mask word (f a) (h a i).below }
lin_full facts l (Spread a) f h i = record { long = facts.lengths.each spread_word (f a) ∙ (h a i).long; below = facts.stay.spread (f a) }
lin_full facts l (Gather sources places) f h i =
    let one = both (list_all (is_register l) sources && list_all (λ p. nat_lt p (words_of_all l sources)) places) (nat_lt (length places) (2 ^ 32)) i in
    let two = both (list_all (is_register l) sources) (list_all (λ p. nat_lt p (words_of_all l sources)) places) one.0 in
    record {
      long = facts.lengths.pick places (flat_map f sources);
      below = facts.stay.pick places (flat_map f sources) (flat_words facts l f sources h (all_hold (is_register l) sources two.0));
    }

share_full : Facts → (l : Layout) (p : Party) (op : LinOp) (f : ℕ → List ℕ) → AreLaid l f → IsTrue (fits_lin l op) → HasLength (lin_length l op) (lin_share p op f)
share_full facts l First op f h i = lin_full facts l op f h i
share_full facts l Second (Not a) f h i = h a i
share_full facts l Second (Xor a b) f h i = lin_full facts l (Xor a b) f h i
share_full facts l Second (Left a by) f h i = lin_full facts l (Left a by) f h i
share_full facts l Second (Right a by) f h i = lin_full facts l (Right a by) f h i
share_full facts l Second (Mask a word) f h i = lin_full facts l (Mask a word) f h i
share_full facts l Second (Spread a) f h i = lin_full facts l (Spread a) f h i
share_full facts l Second (Gather sources places) f h i = lin_full facts l (Gather sources places) f h i
share_full facts l Third (Not a) f h i = h a i
share_full facts l Third (Xor a b) f h i = lin_full facts l (Xor a b) f h i
share_full facts l Third (Left a by) f h i = lin_full facts l (Left a by) f h i
share_full facts l Third (Right a by) f h i = lin_full facts l (Right a by) f h i
share_full facts l Third (Mask a word) f h i = lin_full facts l (Mask a word) f h i
share_full facts l Third (Spread a) f h i = lin_full facts l (Spread a) f h i
share_full facts l Third (Gather sources places) f h i = lin_full facts l (Gather sources places) f h i

-- the three shares that an operation makes
abbrev lin_shares : LinOp → (ℕ → Shares) → Shares
lin_shares op f = parties (λ i. lin_share i op (λ r. at i (f r)))

lin_shares_full : Facts → (l : Layout) (op : LinOp) (m : Machine) → ((r : ℕ) → IsTrue (is_register l r) → IsFull (length_of l r) (shares m r))
    → IsTrue (fits_lin l op) → IsFull (lin_length l op) (lin_shares op (shares m))
lin_shares_full facts l op m h i = record { each = each } where
  each : (p : Party) → HasLength (lin_length l op) (at p (lin_shares op (shares m)))
  each First = share_full facts l First op (λ r. at First (shares m r)) (λ r j. (h r j).each First) i
  each Second = share_full facts l Second op (λ r. at Second (shares m r)) (λ r j. (h r j).each Second) i
  each Third = share_full facts l Third op (λ r. at Third (shares m r)) (λ r j. (h r j).each Third) i

-- equal shares give equal ones
same_share : (p : Party) (op : LinOp) (f g : ℕ → List ℕ) → ((r : ℕ) → f r ≡ g r) → lin_share p op f ≡ lin_share p op g
same_share p op f g e = ap (lin_share p op) (λ i r. e r i)

lin_held : (v : Party) (op : LinOp) (x y : Machine) → ((r : ℕ) → Held v (shares x r) (shares y r)) → Held v (lin_shares op (shares x)) (lin_shares op (shares y))
lin_held First op x y h = record { own = same_share First op _ _ (λ r. (h r).own); following = same_share Second op _ _ (λ r. (h r).following) }
lin_held Second op x y h = record { own = same_share Second op _ _ (λ r. (h r).own); following = same_share Third op _ _ (λ r. (h r).following) }
lin_held Third op x y h = record { own = same_share Third op _ _ (λ r. (h r).own); following = same_share First op _ _ (λ r. (h r).following) }

module _ {T : Type 0} (accepts : T → List Shape → List Shape → Bool) (answer : T → List (List ℕ) → List (List ℕ)) where
  pub const_holds : Facts → (words : List ℕ) → StepHolds accepts answer (Const words)
  const_holds facts words = record {
    fits = λ l m ds a h.
        more_registers l m (length words ∷ []) (parties (λ i. const_share i words) ∷ []) h
        (const_full words (words_all words (both (list_all (λ w. nat_lt w (2 ^ 64)) words) (nat_lt (length words) (2 ^ 32)) a.step).0), tt);
    meets = λ v l x y ds a h i. a.draws _;
    keeps = λ v l x y ds p. record {
      same =
          same_registers v x y (parties (λ i. const_share i words) ∷ []) (parties (λ i. const_share i words) ∷ []) p.same
          (record { own = refl; following = refl }, tt);
      words = record { from_next = refl; from_before = refl };
    };
    back = λ v l x y ds p. at_put _ (at _ ds) ds;
  }

  pub lin_holds : Facts → (op : LinOp) → StepHolds accepts answer (Lin op)
  lin_holds facts op = record {
    fits = λ l m ds a h.
        more_registers l m (lin_length l op ∷ []) (lin_shares op (shares m) ∷ []) h (lin_shares_full facts l op m (λ r. register_full l m r h) a.step, tt);
    meets = λ v l x y ds a h i. a.draws _;
    keeps = λ v l x y ds p. record {
      same =
          same_registers v x y (lin_shares op (shares x) ∷ []) (lin_shares op (shares y) ∷ []) p.same
          (lin_held v op x y (λ r. held_at v x y r p.same), tt);
      words = record { from_next = refl; from_before = refl };
    };
    back = λ v l x y ds p. at_put _ (at _ ds) ds;
  }
