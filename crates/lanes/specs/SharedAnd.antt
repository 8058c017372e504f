-- The and of two shared lists of words, by three parties going round (after Araki and others, 2016).
use Rattle.std.specs.Prelude.{◌≡◌, ◌≤◌, ℕ, List, length}
use Rattle.lanes.specs.declared.party.Party.{Party}
use Rattle.lanes.specs.declared.party.Party.TheVariants.{First, Second, Third}
use Rattle.lanes.specs.declared.three.Three.{Three}
use Rattle.lanes.specs.Lanes.{ands, xors, crosses}
use Rattle.lanes.specs.Party.{next, before}
use Rattle.lanes.specs.Three.{at, put, opened}

-- a party's new share: its part of the products, under its own mask and the next party's
abbrev pub and_share : Party → Three (List ℕ) → Three (List ℕ) → Three (List ℕ) → List ℕ
and_share p s t masks =
    xors (xors (crosses (at p s) (at (next p) s) (at p t) (at (next p) t)) (at p masks)) (at (next p) masks)

-- the new shares of all three parties
abbrev pub and_shares : Three (List ℕ) → Three (List ℕ) → Three (List ℕ) → Three (List ℕ)
and_shares s t masks = record {
  first = and_share First s t masks;
  second = and_share Second s t masks;
  third = and_share Third s t masks;
}

-- each mask has at most as many words as the and
abbrev pub AreMasks : Three (List ℕ) → Three (List ℕ) → Three (List ℕ) → Type 0
AreMasks s t masks = (p : Party) → length (at p masks) ≤ length (ands (opened s) (opened t))

-- the new shares stand for the and of what is shared, whatever the masks are
abbrev pub MaskedAndOfShares : Type 0
MaskedAndOfShares = (s t masks : Three (List ℕ)) → AreMasks s t masks → opened (and_shares s t masks) ≡ ands (opened s) (opened t)

-- what is xored into one of a share's two masks is xored into the share
pub record MasksAbsorb : Type 0 where
  pub own : (p : Party) (s t masks : Three (List ℕ)) (change : List ℕ)
      → and_share p s t (put p (xors (at p masks) change) masks) ≡ xors (and_share p s t masks) change
  pub following : (p : Party) (s t masks : Three (List ℕ)) (change : List ℕ)
      → and_share p s t (put (next p) (xors (at (next p) masks) change) masks) ≡ xors (and_share p s t masks) change

-- the third mask isn't in a party's share
abbrev pub ThirdMaskIsApart : Type 0
ThirdMaskIsApart = (p : Party) (s t masks : Three (List ℕ)) (other : List ℕ) → and_share p s t (put (before p) other masks) ≡ and_share p s t masks

-- the shares may be xored from any party on
abbrev pub OpenedGoesRound : Type 0
OpenedGoesRound = (p : Party) (s : Three (List ℕ)) → opened s ≡ xors (xors (at p s) (at (next p) s)) (at (before p) s)
