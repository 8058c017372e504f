-- The shares of a shared and under masks.
use Rattle.std.proofs.Common.{◌≡◌, ℕ, ◌≤◌, List, [], ◌∷◌, length, refl, sym, ◌∙◌, ap}
use Rattle.lanes.specs.declared.party.Party.{Party}
use Rattle.lanes.specs.declared.party.Party.TheVariants.{First, Second, Third}
use Rattle.lanes.specs.declared.three.Three.{Three}
use Rattle.lanes.specs.Lanes.{ands, xors, crosses}
use Rattle.lanes.specs.Party.{next}
use Rattle.lanes.specs.SharedAnd.{and_share, MaskedAndOfShares, MasksAbsorb, OpenedGoesRound, ThirdMaskIsApart}
use Rattle.lanes.specs.Three.{at, put, opened}
use Rattle.lanes.proofs.LaneLemmas.{xors_comm, xors_assoc, xors_twice}
use Rattle.lanes.proofs.Regroup.{regroup}
use Rattle.lanes.proofs.SharedAnd.{joined_xors, parts}
use Rattle.lanes.proofs.XorSolver.{atom, ◌⊕◌}

-- three parts with two masks each
unmasked : (c1 c2 c3 r1 r2 r3 : List ℕ)
    → xors (xors (xors (xors c1 r1) r2) (xors (xors c2 r2) r3)) (xors (xors c3 r3) r1)
    ≡ xors (xors (xors (xors (xors (xors (xors (xors c1 c2) c3) r1) r1) r2) r2) r3) r3
unmasked c1 c2 c3 r1 r2 r3 =
    regroup joined_xors (c1 ∷ c2 ∷ c3 ∷ r1 ∷ r2 ∷ r3 ∷ [])
    ((((atom 0 ⊕ atom 3) ⊕ atom 4) ⊕ ((atom 1 ⊕ atom 4) ⊕ atom 5)) ⊕ ((atom 2 ⊕ atom 5) ⊕ atom 3))
    ((((((((atom 0 ⊕ atom 1) ⊕ atom 2) ⊕ atom 3) ⊕ atom 3) ⊕ atom 4) ⊕ atom 4) ⊕ atom 5) ⊕ atom 5)
    refl

off : (xs ys product : List ℕ) → xs ≡ product → length ys ≤ length product → xors (xors xs ys) ys ≡ product
off xs ys product e short = ap (λ zs. xors (xors zs ys) ys) e ∙ xors_twice product ys short

pub masked_and_of_shares : MaskedAndOfShares
masked_and_of_shares s t masks short =
    let product = ands (opened s) (opened t) in
    let c1 = crosses s.first s.second t.first t.second in
    let c2 = crosses s.second s.third t.second t.third in
    let c3 = crosses s.third s.first t.third t.first in
    let sum = xors (xors c1 c2) c3 in
    let is : sum ≡ product = parts s.first s.second s.third t.first t.second t.third in
    let one = off sum masks.first product is (short First) in
    let two = off (xors (xors sum masks.first) masks.first) masks.second product one (short Second) in
    unmasked c1 c2 c3 masks.first masks.second masks.third
    ∙ off (xors (xors (xors (xors sum masks.first) masks.first) masks.second) masks.second) masks.third product two (short Third)

-- a change of the first and of the second mask
own_mask : (c r s d : List ℕ) → xors (xors c (xors r d)) s ≡ xors (xors (xors c r) s) d
own_mask c r s d =
    regroup joined_xors (c ∷ r ∷ s ∷ d ∷ [])
    ((atom 0 ⊕ (atom 1 ⊕ atom 3)) ⊕ atom 2)
    (((atom 0 ⊕ atom 1) ⊕ atom 2) ⊕ atom 3)
    refl

pub masks_absorb : MasksAbsorb
masks_absorb = record { own = own; following = following } where
  own : (p : Party) (s t masks : Three (List ℕ)) (change : List ℕ) → and_share p s t (put p (xors (at p masks) change) masks) ≡ xors (and_share p s t masks) change
  own First s t masks change = own_mask (crosses s.first s.second t.first t.second) masks.first masks.second change
  own Second s t masks change = own_mask (crosses s.second s.third t.second t.third) masks.second masks.third change
  own Third s t masks change = own_mask (crosses s.third s.first t.third t.first) masks.third masks.first change

  following : (p : Party) (s t masks : Three (List ℕ)) (change : List ℕ) → and_share p s t (put (next p) (xors (at (next p) masks) change) masks) ≡ xors (and_share p s t masks) change
  following First s t masks change = sym (xors_assoc (xors (crosses s.first s.second t.first t.second) masks.first) masks.second change)
  following Second s t masks change = sym (xors_assoc (xors (crosses s.second s.third t.second t.third) masks.second) masks.third change)
  following Third s t masks change = sym (xors_assoc (xors (crosses s.third s.first t.third t.first) masks.third) masks.first change)

pub third_mask_is_apart : ThirdMaskIsApart
third_mask_is_apart First s t masks other = refl
third_mask_is_apart Second s t masks other = refl
third_mask_is_apart Third s t masks other = refl

around_three : (a b c : List ℕ) → xors (xors a b) c ≡ xors (xors b c) a
around_three a b c = xors_assoc a b c ∙ xors_comm a (xors b c)

pub opened_goes_round : OpenedGoesRound
opened_goes_round First s = refl
opened_goes_round Second s = around_three s.first s.second s.third
opened_goes_round Third s = around_three s.first s.second s.third ∙ around_three s.second s.third s.first
