-- The record of growth of wires over a step list.
use Rattle.std.proofs.Common.{◌≡◌, ℕ, List, [], ◌∷◌, sym, subst}
use Rattle.std.specs.Prelude.{IsTrue}
use Rattle.wires.specs.declared.wire.Wire.{Wire}
use Rattle.wires.specs.Growth.{Grows}
use Rattle.step_lists.specs.declared.step.Step.{Step}
use Rattle.step_lists.specs.Layout.{Steps, layout_of}
use Rattle.emit.specs.Adds.{is_circuit}
use Rattle.emit.specs.declared.emit.Emit.{Emit}
use Rattle.emit.specs.Borrowed.{GrowsOver, borrowed}
use Rattle.emit.specs.BorrowedLaws.{over_keeps, over_trans}
use Rattle.emit.specs.Emit.{AreOpenValues, GrowsByCircuit, IsAdded}
use Rattle.emit.specs.EmitLaws.{circuit_possible, circuit_refl}

pub added_grows : {T : Type 0} (a b : Steps T) (s : Step T) (wire : Wire) → IsTrue (is_circuit s) → IsAdded a b s wire → GrowsByCircuit a b
added_grows a b s wire may h = record { front = record { more = s ∷ []; is = h.is }; kinds = (may, tt) }

module _ {T : Type 0} (answer : T → List (List ℕ) → List (List ℕ)) (old new : Emit T) (name : (borrowed old).ghost_name ≡ (borrowed new).ghost_name) where
  emit_grows : GrowsByCircuit (borrowed old).now (borrowed new).now
      → Grows (λ (a b : Emit T). GrowsOver a b) (λ (e : Emit T). AreOpenValues answer (borrowed e).now) (λ (e : Emit T). (layout_of (borrowed e).now).registers) old new
  emit_grows h =
      let now : GrowsOver old new = record { name = name; steps = h } in
      record {
        now = now;
        follows = λ s before. over_trans s old new before now;
        within = λ v o. circuit_possible answer (borrowed old).now (borrowed new).now h v o;
        keeps = over_keeps old new now;
      }

  -- a list that stayed, and one with a step more
  pub still_grows : (borrowed new).now ≡ (borrowed old).now
      → Grows (λ (a b : Emit T). GrowsOver a b) (λ (e : Emit T). AreOpenValues answer (borrowed e).now) (λ (e : Emit T). (layout_of (borrowed e).now).registers) old new
  still_grows is = emit_grows (subst (GrowsByCircuit (borrowed old).now) (sym is) (circuit_refl (borrowed old).now))

  pub step_grows : (s : Step T) (wire : Wire) → IsTrue (is_circuit s) → IsAdded (borrowed old).now (borrowed new).now s wire
      → Grows (λ (a b : Emit T). GrowsOver a b) (λ (e : Emit T). AreOpenValues answer (borrowed e).now) (λ (e : Emit T). (layout_of (borrowed e).now).registers) old new
  step_grows s wire may h = emit_grows (added_grows (borrowed old).now (borrowed new).now s wire may h)
