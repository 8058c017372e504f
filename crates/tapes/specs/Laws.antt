-- The laws of orders, of aligning and of tapes from a seed.
use Rattle.std.specs.Prelude.{◌≡◌, ◌↔◌, ◌<◌, ◌^◌, ℕ, List, Result, Err, length, slice_index}
use Rattle.bags.specs.Bag.{SameBag}
use Rattle.lanes.specs.Lanes.{lanewise1, xors}
use Rattle.tapes.specs.declared.draw.Need.{Need}
use Rattle.tapes.specs.declared.draw.Draw.{Draw}
use Rattle.tapes.specs.Order.{IsOrder, AllBelow, identity_of, applied, composed, inverse_of}
use Rattle.tapes.specs.Align.{rows_applied, Aligns}
use Rattle.tapes.specs.Made.{IsMadeTape}
use Rattle.tapes.specs.ReadTape.{ReadsTape}
use Rattle.tapes.specs.declared.tape_bytes.TapeFault.{TapeFault}
use Rattle.tapes.specs.declared.tape_bytes.TapeFault.TheVariants.{Memory}

-- the identity, one order after another one, and the inverse are orders
pub record OrdersAreClosed : Type 0 where
  pub identity : (n : ℕ) → IsOrder (identity_of n)
  pub composed : (a b : List ℕ) → IsOrder a → IsOrder b → length a ≡ length b → IsOrder (composed a b)
  pub inverse : (o : List ℕ) → IsOrder o → IsOrder (inverse_of o)

-- the identity changes nothing, before or after
pub record IdentityIsNeutral : Type 0 where
  pub before : (o : List ℕ) → IsOrder o → composed (identity_of (length o)) o ≡ o
  pub after : (o : List ℕ) → composed o (identity_of (length o)) ≡ o

abbrev pub OrdersAssociate : Type 0
OrdersAssociate =
    (a b c : List ℕ) → IsOrder c → length b ≡ length c → composed (composed a b) c ≡ composed a (composed b c)

-- the inverse undoes the order on both sides, and nothing else does
pub record InverseUndoes : Type 0 where
  pub after : (o : List ℕ) → IsOrder o → composed o (inverse_of o) ≡ identity_of (length o)
  pub before : (o : List ℕ) → IsOrder o → composed (inverse_of o) o ≡ identity_of (length o)
  pub only : (o p : List ℕ) → IsOrder o → length p ≡ length o → AllBelow p → composed o p ≡ identity_of (length o) → p ≡ inverse_of o

-- applying one order after another one is applying both, one after the other
abbrev pub ComposedIsApplied : Type 0
ComposedIsApplied = (a b xs : List ℕ) → IsOrder b → length a ≡ length b → applied (composed a b) xs ≡ applied b (applied a xs)

-- applying an order goes through any function of words, and through xor in each lane
pub record AppliedGoesThrough : Type 0 where
  pub map : (f : ℕ → ℕ) (o xs : List ℕ) → IsOrder o → length o ≡ length xs → applied o (lanewise1 f xs) ≡ lanewise1 f (applied o xs)
  pub xor : (o xs ys : List ℕ) → applied o (xors xs ys) ≡ xors (applied o xs) (applied o ys)

-- an order that aligns gives the target, is the only one, and is the inverse of the one that aligns
-- the other way round
pub record AlignedIsExact : Type 0 where
  pub gives : (x y : List (List ℕ)) (d : List ℕ) → Aligns x y d → rows_applied d x ≡ y
  pub only : (x y : List (List ℕ)) (d e : List ℕ) → Aligns x y d → Aligns x y e → d ≡ e
  pub back : (x y : List (List ℕ)) (d e : List ℕ) → Aligns x y d → Aligns y x e → e ≡ inverse_of d

-- same bags have an order that aligns them, and only they do
abbrev pub SameBagsAlign : Type 0
SameBagsAlign = (x y : List (List ℕ)) → SameBag x y ↔ ((d : List ℕ) × Aligns x y d)

-- bytes are a tape or have a first fault
abbrev pub BytesHaveAnswer : Type 0
BytesHaveAnswer = (needs : List Need) (bytes : List ℕ) → ((k : ℕ) → slice_index bytes k < 2 ^ 8)
    → (answer : Result (List Draw) TapeFault) × (¬ (answer ≡ Err Memory) × ReadsTape needs bytes answer)

-- a seed has a tape for any needs
abbrev pub SeedsHaveTapes : Type 0
SeedsHaveTapes = (seed tape : ℕ) (needs : List Need) → (draws : List Draw) × IsMadeTape seed tape needs draws

-- a seed has one tape for its needs
abbrev pub MadeTapeIsOnly : Type 0
MadeTapeIsOnly = (seed tape : ℕ) (needs : List Need) (a b : List Draw) → IsMadeTape seed tape needs a → IsMadeTape seed tape needs b → a ≡ b
