-- Masks that come off, and what a function of words does to three shares.
use Rattle.std.proofs.Common.{◌≡◌, ℕ, ◌≤◌, List, [], ◌∷◌, ◌++◌, length, refl, sym, ◌∙◌, ap, arith}
use Rattle.std.specs.List.{flat_map}
use Rattle.lanes.specs.declared.party.Party.TheVariants.{First, Second, Third}
use Rattle.lanes.specs.Lanes.{xors, lanewise1}
use Rattle.lanes.specs.XorLaws.{GoesThroughXor}
use Rattle.lanes.specs.Three.{at, opened}
use Rattle.step_lists.specs.Phases.{Shares}
use Rattle.joint_machine.specs.Opens.{IsLong}
use Rattle.joint_machine.proofs.Facts.{Facts}

-- three lists of one length
pub record IsEven (s : Shares) : Type 0 where
  pub second : length s.second ≡ length s.first
  pub third : length s.third ≡ length s.first

pub long_even : (n : ℕ) (s : Shares) → IsLong n s → IsEven s
long_even n s h = record { second = h.each Second ∙ sym (h.each First); third = h.each Third ∙ sym (h.each First) }

-- two xors, of which the right sides change places
pub crossed : Facts → (a b c d : List ℕ) → xors (xors a b) (xors c d) ≡ xors (xors a c) (xors b d)
crossed facts a b c d =
    facts.associates a b (xors c d)
    ∙ (ap (λ x. xors a x) (sym (facts.associates b c d) ∙ (ap (λ x. xors x d) (facts.commutes b c) ∙ facts.associates c b d))
    ∙ sym (facts.associates a c (xors b d)))

pub swapped : Facts → (a b c : List ℕ) → xors (xors a b) c ≡ xors (xors a c) b
swapped facts a b c = facts.associates a b c ∙ (ap (λ x. xors a x) (facts.commutes b c) ∙ sym (facts.associates a c b))

-- the masks of two messages come off their xor
pub unmasked : Facts → (x y a b : List ℕ) → length a ≤ length (xors x y) → length b ≤ length (xors x y)
    → xors (xors (xors (xors x a) (xors y b)) b) a ≡ xors x y
unmasked facts x y a b h i =
    ap (λ z. xors (xors z b) a) (crossed facts x a y b ∙ sym (facts.associates (xors x y) a b))
    ∙ (ap (λ z. xors z a) (facts.comes_off (xors (xors x y) a) b (omega (arith, facts.lengths.xor (xors x y) a)))
    ∙ facts.comes_off (xors x y) a h)

-- two masks come off what was given away
pub given : Facts → (x a b : List ℕ) → length a ≤ length x → length b ≤ length x → xors (xors (xors (xors x a) b) a) b ≡ x
given facts x a b h i =
    ap (λ z. xors z b) (swapped facts (xors x a) b a ∙ ap (λ z. xors z b) (facts.comes_off x a h))
    ∙ facts.comes_off x b i

-- a function that goes through xor does so through three shares
pub through_three : (f : ℕ → ℕ) → GoesThroughXor f → (a b c : List ℕ)
    → xors (xors (lanewise1 f a) (lanewise1 f b)) (lanewise1 f c) ≡ lanewise1 f (xors (xors a b) c)
through_three f go a b c = ap (λ z. xors z (lanewise1 f c)) (sym (go a b)) ∙ sym (go (xors a b) c)

-- lists of three shares, one behind the other
pub flat_opened : Facts → (f : ℕ → Shares) → ((r : ℕ) → IsEven (f r)) → (rs : List ℕ)
    → xors (xors (flat_map (λ r. at First (f r)) rs) (flat_map (λ r. at Second (f r)) rs)) (flat_map (λ r. at Third (f r)) rs)
    ≡ flat_map (λ r. opened (f r)) rs
flat_opened facts f even [] = refl
flat_opened facts f even (r ∷ rs) =
    let s = f r in
    let xs = flat_map (λ r. at First (f r)) rs in
    let ys = flat_map (λ r. at Second (f r)) rs in
    let zs = flat_map (λ r. at Third (f r)) rs in
    let e2 : length s.first ≡ length s.second = sym (even r).second in
    let e3 : length (xors s.first s.second) ≡ length s.third = omega (arith, facts.lengths.xor s.first s.second, (even r).second, (even r).third) in
    ap (λ z. xors z (s.third ++ zs)) (facts.parts.appended s.first xs s.second ys e2)
    ∙ (facts.parts.appended (xors s.first s.second) (xors xs ys) s.third zs e3
    ∙ ap (λ z. opened s ++ z) (flat_opened facts f even rs))
