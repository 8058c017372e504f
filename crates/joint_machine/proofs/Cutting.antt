-- A phase takes its masks from the front of the words that are left.
use Rattle.std.proofs.Common.{◌≡◌, ℕ, suc, ◌*◌, ◌≤◌, List, [], ◌∷◌, ◌++◌, length, take, drop, refl, ◌∙◌, ap, arith}
use Rattle.std.proofs.Math.Nat.{suc-mul}
use Rattle.std.proofs.lemmas.List.{take-append-le, drop-append-le, length-drop, drop_at}
use Rattle.lanes.specs.declared.party.Party.{Party}
use Rattle.lanes.specs.declared.party.Party.TheVariants.{First, Second, Third}
use Rattle.lanes.specs.Party.{next, before}
use Rattle.lanes.specs.Three.{at}
use Rattle.step_lists.specs.Phases.{Shares, reshared, there, back, reshared_all, there_all, back_all, Moving, phase, phase_words, message, behind_on}

pub record IsEnough (k n : ℕ) (a : List ℕ) : Type 0 where
  pub first : n ≤ length a
  pub rest : k * n ≤ length (drop n a)

pub enough : (k n : ℕ) (a : List ℕ) → suc k * n ≤ length a → IsEnough k n a
enough k n a h = let e = suc-mul k n in record { first = omega arith; rest = omega (arith, length-drop n a) }

shares_cut : (j : Party) (o : List ℕ) (n : ℕ) (ss : List Shares) (a b c d : List ℕ) → length ss * n ≤ length a → length ss * n ≤ length b
    → reshared_all j o n ss (a ++ c) (b ++ d) ≡ reshared_all j o n ss a b
shares_cut j o n [] a b c d h i = refl
shares_cut j o n (s ∷ ss) a b c d h i =
    let ea = enough (length ss) n a h in
    let eb = enough (length ss) n b i in
    rw (take-append-le n a c ea.first, take-append-le n b d eb.first, drop-append-le n a c ea.first, drop-append-le n b d eb.first)
    (ap (λ rest. reshared j o s (take n a) (take n b) ∷ rest) (shares_cut j o n ss (drop n a) (drop n b) c d ea.rest eb.rest))

there_cut : (j : Party) (o : List ℕ) (n : ℕ) (ss : List Shares) (a c : List ℕ) → length ss * n ≤ length a → there_all j o n ss (a ++ c) ≡ there_all j o n ss a
there_cut j o n [] a c h = refl
there_cut j o n (s ∷ ss) a c h =
    let ea = enough (length ss) n a h in
    rw (take-append-le n a c ea.first, drop-append-le n a c ea.first)
    (ap (λ rest. there j o s (take n a) ++ rest) (there_cut j o n ss (drop n a) c ea.rest))

back_cut : (j : Party) (o : List ℕ) (n : ℕ) (ss : List Shares) (a c : List ℕ) → length ss * n ≤ length a → back_all j o n ss (a ++ c) ≡ back_all j o n ss a
back_cut j o n [] a c h = refl
back_cut j o n (s ∷ ss) a c h =
    let ea = enough (length ss) n a h in
    rw (take-append-le n a c ea.first, drop-append-le n a c ea.first)
    (ap (λ rest. back j o s (take n a) ++ rest) (back_cut j o n ss (drop n a) c ea.rest))

-- the masks of a phase, and what is left behind them
pub record HasFront (j : Party) (n : ℕ) (x : Moving) (a b c d : List ℕ) : Type 0 where
  pub mask : at (before j) x.masks ≡ a ++ c
  pub other : at (next j) x.masks ≡ b ++ d
  pub mask_long : length a ≡ length x.shares * n
  pub other_long : length b ≡ length x.shares * n

pub record IsCut (j : Party) (o : List ℕ) (n : ℕ) (x : Moving) (a b c d : List ℕ) : Type 0 where
  pub shares : (phase j o n x).shares ≡ reshared_all j o n x.shares a b
  pub words : phase_words j o n x ≡ behind_on (message (before j) j (there_all j o n x.shares a)) (message j (before j) (back_all j o n x.shares b))
  pub mask : at (before j) (phase j o n x).masks ≡ c
  pub other : at (next j) (phase j o n x).masks ≡ d
  pub own : at j (phase j o n x).masks ≡ at j x.masks

left_over : (k : ℕ) (a c : List ℕ) (masks : List ℕ) → masks ≡ a ++ c → length a ≡ k → drop k masks ≡ c
left_over k a c masks e h = ap (drop k) e ∙ drop_at a c k h

pub cut : (j : Party) (o : List ℕ) (n : ℕ) (x : Moving) (a b c d : List ℕ) → HasFront j n x a b c d → IsCut j o n x a b c d
cut j o n x a b c d h = record {
  shares =
      ap (λ m. reshared_all j o n x.shares m (at (next j) x.masks)) h.mask ∙ (ap (λ m. reshared_all j o n x.shares (a ++ c) m) h.other
      ∙ shares_cut j o n x.shares a b c d (omega (arith, h.mask_long)) (omega (arith, h.other_long)));
  words =
      ap (λ w. behind_on (message (before j) j w) (message j (before j) (back_all j o n x.shares (at (next j) x.masks))))
      (ap (there_all j o n x.shares) h.mask ∙ there_cut j o n x.shares a c (omega (arith, h.mask_long)))
      ∙ ap (λ w. behind_on (message (before j) j (there_all j o n x.shares a)) (message j (before j) w))
      (ap (back_all j o n x.shares) h.other ∙ back_cut j o n x.shares b d (omega (arith, h.other_long)));
  mask = mask j h.mask h.mask_long;
  other = other j h.other h.other_long;
  own = own j;
} where
  mask : (j : Party) → at (before j) x.masks ≡ a ++ c → length a ≡ length x.shares * n → at (before j) (phase j o n x).masks ≡ c
  mask First e l = left_over (length x.shares * n) a c x.masks.third e l
  mask Second e l = left_over (length x.shares * n) a c x.masks.first e l
  mask Third e l = left_over (length x.shares * n) a c x.masks.second e l

  other : (j : Party) → at (next j) x.masks ≡ b ++ d → length b ≡ length x.shares * n → at (next j) (phase j o n x).masks ≡ d
  other First e l = left_over (length x.shares * n) b d x.masks.second e l
  other Second e l = left_over (length x.shares * n) b d x.masks.third e l
  other Third e l = left_over (length x.shares * n) b d x.masks.first e l

  own : (j : Party) → at j (phase j o n x).masks ≡ at j x.masks
  own First = refl
  own Second = refl
  own Third = refl
