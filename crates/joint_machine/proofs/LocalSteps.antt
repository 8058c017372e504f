-- The steps that only local work is done for: Const and Lin.
use Rattle.std.proofs.Common.{◌≡◌, ℕ, List, [], ◌∷◌, length, replicate, refl, sym, ◌∙◌, ap, arith}
use Rattle.std.specs.Prelude.{IsTrue, bit_and}
use Rattle.std.specs.List.{flat_map}
use Rattle.std.proofs.lemmas.List.{length-replicate}
use Rattle.lanes.specs.declared.party.Party.{Party}
use Rattle.lanes.specs.declared.party.Party.TheVariants.{First, Second, Third}
use Rattle.lanes.specs.Three.{at, opened}
use Rattle.lanes.specs.Lanes.{xors, nots, lanewise1, picked}
use Rattle.lanes.specs.Shifts.{shifted_left, shifted_right, spread_word}
use Rattle.step_lists.specs.declared.step.LinOp.{LinOp}
use Rattle.step_lists.specs.declared.step.LinOp.TheVariants.{Xor, Not, Left, Right, Mask, Spread, Gather}
use Rattle.step_lists.specs.Layout.{Layout, length_of, lin_length}
use Rattle.step_lists.specs.Rules.{is_register, fits_lin}
use Rattle.step_lists.specs.Draws.{parties}
use Rattle.step_lists.specs.Lin.{lin, lin_share}
use Rattle.step_lists.specs.Phases.{Shares}
use Rattle.step_lists.specs.Machine.{const_share}
use Rattle.joint_machine.specs.Opens.{IsLong}
use Rattle.joint_machine.proofs.Facts.{Facts}
use Rattle.joint_machine.proofs.OpenFits.{AreLaid, lin_long}
use Rattle.joint_machine.proofs.Masking.{IsEven, crossed, through_three, flat_opened}

pub const_opens : Facts → (words : List ℕ) → opened (parties (λ i. const_share i words)) ≡ words
const_opens facts words =
    ap (λ z. xors z (replicate (length words) 0)) (facts.zeros.zeros words (length words) (omega arith))
    ∙ facts.zeros.zeros words (length words) (omega arith)

pub const_long : (words : List ℕ) → IsLong (length words) (parties (λ i. const_share i words))
const_long words = record { each = each } where
  each : (p : Party) → length (at p (parties (λ i. const_share i words))) ≡ length words
  each First = refl
  each Second = length-replicate (length words) 0
  each Third = length-replicate (length words) 0

-- ---- operations

share_long : Facts → (l : Layout) (p : Party) (op : LinOp) (f : ℕ → List ℕ) → AreLaid l f → IsTrue (fits_lin l op) → length (lin_share p op f) ≡ lin_length l op
share_long facts l First op f h i = lin_long facts l op f h i
share_long facts l Second (Not a) f h i = h a i
share_long facts l Second (Xor a b) f h i = lin_long facts l (Xor a b) f h i
share_long facts l Second (Left a by) f h i = lin_long facts l (Left a by) f h i
share_long facts l Second (Right a by) f h i = lin_long facts l (Right a by) f h i
share_long facts l Second (Mask a word) f h i = lin_long facts l (Mask a word) f h i
share_long facts l Second (Spread a) f h i = lin_long facts l (Spread a) f h i
share_long facts l Second (Gather sources places) f h i = lin_long facts l (Gather sources places) f h i
share_long facts l Third (Not a) f h i = h a i
share_long facts l Third (Xor a b) f h i = lin_long facts l (Xor a b) f h i
share_long facts l Third (Left a by) f h i = lin_long facts l (Left a by) f h i
share_long facts l Third (Right a by) f h i = lin_long facts l (Right a by) f h i
share_long facts l Third (Mask a word) f h i = lin_long facts l (Mask a word) f h i
share_long facts l Third (Spread a) f h i = lin_long facts l (Spread a) f h i
share_long facts l Third (Gather sources places) f h i = lin_long facts l (Gather sources places) f h i

-- the three shares that an operation makes
abbrev pub lin_shares : LinOp → (ℕ → Shares) → Shares
lin_shares op f = parties (λ i. lin_share i op (λ r. at i (f r)))

pub lin_shares_long : Facts → (l : Layout) (op : LinOp) (f : ℕ → Shares) → ((r : ℕ) → IsTrue (is_register l r) → IsLong (length_of l r) (f r))
    → IsTrue (fits_lin l op) → IsLong (lin_length l op) (lin_shares op f)
lin_shares_long facts l op f h i = record { each = each } where
  each : (p : Party) → length (at p (lin_shares op f)) ≡ lin_length l op
  each First = share_long facts l First op (λ r. at First (f r)) (λ r j. (h r j).each First) i
  each Second = share_long facts l Second op (λ r. at Second (f r)) (λ r j. (h r j).each Second) i
  each Third = share_long facts l Third op (λ r. at Third (f r)) (λ r j. (h r j).each Third) i

same_flat : (f g : ℕ → List ℕ) → ((r : ℕ) → f r ≡ g r) → (rs : List ℕ) → flat_map f rs ≡ flat_map g rs
same_flat f g e [] = refl
same_flat f g e (r ∷ rs) = let h = e r in let t = same_flat f g e rs in cc

not_three : Facts → (s : Shares) → IsEven s → xors (xors (nots s.first) s.second) s.third ≡ nots (opened s)
not_three facts s even =
    ap (λ z. xors z s.third) (facts.not_of_one s.first s.second (omega (arith, even.second)))
    ∙ facts.not_of_one (xors s.first s.second) s.third (omega (arith, facts.lengths.xor s.first s.second, even.third))

pub lin_opens : Facts → (op : LinOp) (f : ℕ → Shares) (v : ℕ → List ℕ) → ((r : ℕ) → IsEven (f r)) → ((r : ℕ) → opened (f r) ≡ v r)
    → opened (lin_shares op f) ≡ lin op v
lin_opens facts (Xor a b) f v even e =
    ap (λ z. xors z (xors (f a).third (f b).third)) (crossed facts (f a).first (f b).first (f a).second (f b).second)
    ∙ (crossed facts (xors (f a).first (f a).second) (xors (f b).first (f b).second) (f a).third (f b).third
    ∙ (ap (λ z. xors z (opened (f b))) (e a) ∙ ap (λ z. xors (v a) z) (e b)))
lin_opens facts (Not a) f v even e = not_three facts (f a) (even a) ∙ ap nots (e a)
lin_opens facts (Left a by) f v even e =
    through_three (shifted_left by) (facts.through.left by) (f a).first (f a).second (f a).third ∙ ap (lanewise1 (shifted_left by)) (e a)
lin_opens facts (Right a by) f v even e =
    through_three (shifted_right by) (facts.through.right by) (f a).first (f a).second (f a).third ∙ ap (lanewise1 (shifted_right by)) (e a)
lin_opens facts (Mask a word) f v even e =
    through_three (λ x. bit_and x word) (facts.through.mask word) (f a).first (f a).second (f a).third ∙ ap (lanewise1 (λ x. bit_and x word)) (e a)
lin_opens facts (Spread a) f v even e =
    through_three spread_word facts.through.spread (f a).first (f a).second (f a).third ∙ ap (lanewise1 spread_word) (e a)
lin_opens facts (Gather sources places) f v even e =
    let xs = flat_map (λ r. at First (f r)) sources in
    let ys = flat_map (λ r. at Second (f r)) sources in
    let zs = flat_map (λ r. at Third (f r)) sources in
    ap (λ z. xors z (picked places zs)) (sym (facts.pick places xs ys))
    ∙ (sym (facts.pick places (xors xs ys) zs)
    ∙ ap (picked places) (flat_opened facts f even sources ∙ same_flat (λ r. opened (f r)) v e sources))
