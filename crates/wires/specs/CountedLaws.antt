-- The laws of growth at a `Tally`, and what one more wire does to it.
use Rattle.std.proofs.Common.{◌≡◌, ℕ, List, [], ◌∷◌, ◌++◌, length, get_or, refl, sym, ap, ◌∙◌, subst, arith, length-append}
use Rattle.std.proofs.Math.Seq.{get_or-append_seam}
use Rattle.std.proofs.lemmas.List.{get_or_append_left}
use Rattle.wires.specs.Counted.{Counted, IsNoAssignment, KeepsLanes, Made}
use Rattle.wires.specs.Environment.{Environment}
use Rattle.wires.specs.Growth.{Carries, Grows, HasLanes, IsMade, KeepsWires, lanes_of}
use Rattle.wires.specs.declared.wire.Wire.{Wire}

pub keeps_refl : (a : Counted) → KeepsLanes a a
keeps_refl a = record { count = omega arith; lanes = λ k h. refl }

pub keeps_trans : (a b c : Counted) → KeepsLanes a b → KeepsLanes b c → KeepsLanes a c
keeps_trans a b c first second = record {
  count = omega (arith, first.count, second.count);
  lanes = λ k h. second.lanes k (omega (arith, first.count)) ∙ first.lanes k h;
}

pub keeps_keeps : (a b : Counted) → KeepsLanes a b → KeepsWires a.lanes b.lanes
keeps_keeps a b h = h

pub keeps_possible : (a b : Counted) → KeepsLanes a b → (v : Environment) → IsNoAssignment b v → IsNoAssignment a v
keeps_possible a b h v none = none

pub none_fits : (a : Counted) (v : Environment) (wire : Wire) → IsNoAssignment a v → IsMade a.lanes wire → HasLanes v wire (lanes_of a.lanes wire)
none_fits a v wire none made = absurd none

-- the record of growth
pub grows_keeping : (old new : Counted) → KeepsLanes old new → Grows KeepsLanes IsNoAssignment (λ counted. counted.lanes) old new
grows_keeping old new h = record {
  now = h;
  follows = λ s before. keeps_trans s old new before h;
  within = λ v none. none;
  keeps = h;
}

-- a state that stayed
pub grows_still : (old new : Counted) → new ≡ old → Grows KeepsLanes IsNoAssignment (λ counted. counted.lanes) old new
grows_still old new is = grows_keeping old new (let P : Counted → Type 0 = λ s. KeepsLanes old s in subst P (sym is) (keeps_refl old))

-- one wire more
pub made_keeps : (old new : Counted) (lanes : ℕ) (wire : Wire) → Made old new lanes wire → KeepsLanes old new
made_keeps old new lanes wire h = record {
  count = omega (arith, ap length h.wires, length-append old.lanes (lanes ∷ []));
  lanes = λ k inside. ap (λ ns. get_or ns k 0) h.wires ∙ get_or_append_left old.lanes (lanes ∷ []) 0 k inside;
}

pub made_carries : (old new : Counted) (lanes : ℕ) (wire : Wire) (value : Environment → List ℕ) → Made old new lanes wire
    → Carries (IsNoAssignment new) new.lanes wire lanes value
made_carries old new lanes wire value h = record {
  made = omega (arith, h.number, ap length h.wires, length-append old.lanes (lanes ∷ []));
  lanes = ap (λ ns. get_or ns wire.0 0) h.wires ∙ ap (λ k. get_or (old.lanes ++ lanes ∷ []) k 0) h.number ∙ get_or-append_seam old.lanes lanes [] 0;
  value = λ v none. absurd none;
}
