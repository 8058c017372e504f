-- The laws of growth of wires over a step list.
use Rattle.std.proofs.Common.{ℕ, ◌^◌, ◌<◌, List, length, ◌∙◌, subst, arith}
use Rattle.wires.specs.declared.wire.Wire.{Wire}
use Rattle.wires.specs.Environment.{Environment}
use Rattle.wires.specs.Growth.{HasLanes, IsMade, KeepsWires, lanes_of}
use Rattle.step_lists.specs.Layout.{Steps, layout_of}
use Rattle.step_lists.specs.Shapes.{HasLength}
use Rattle.emit.specs.Adds.{is_circuit}
use Rattle.emit.specs.AddsLaws.{may-append}
use Rattle.step_lists.specs.Prefixes.{stands_refl, stands_trans, possible_prefix, register_prefix, layout_prefix}
use Rattle.emit.specs.Emit.{AreOpenValues, GrowsByCircuit}

pub circuit_refl : {T : Type 0} (a : Steps T) → GrowsByCircuit a a
circuit_refl a = record { front = stands_refl a; kinds = tt }

pub circuit_trans : {T : Type 0} (a b c : Steps T) → GrowsByCircuit a b → GrowsByCircuit b c → GrowsByCircuit a c
circuit_trans a b c h k = record { front = stands_trans a b c h.front k.front; kinds = may-append is_circuit h.front.more k.front.more h.kinds k.kinds }

pub circuit_keeps : {T : Type 0} (a b : Steps T) → GrowsByCircuit a b → KeepsWires (layout_of a).registers (layout_of b).registers
circuit_keeps a b h = let g = layout_prefix a b h.front in record { count = g.count; lanes = g.registers }

module _ {T : Type 0} (answer : T → List (List ℕ) → List (List ℕ)) where
  pub circuit_possible : (a b : Steps T) → GrowsByCircuit a b → (v : Environment) → AreOpenValues answer b v → AreOpenValues answer a v
  circuit_possible a b h v o =
      let g = layout_prefix a b h.front in
      let early : (r : ℕ) → r < length (layout_of a).registers → r < length (layout_of b).registers = λ r i. omega (arith, i, g.count) in
      record {
        slots = o.slots;
        tapes = o.tapes;
        possible = possible_prefix answer a b o.slots o.tapes h.front o.possible;
        same = λ r i. o.same r (early r i) ∙ register_prefix answer a b o.slots o.tapes h.front o.possible r i;
        fits = λ r i. subst (λ n. HasLength n (v r)) (g.registers r i) (o.fits r (early r i));
        few = λ r i. subst (λ n. n < 2 ^ 32) (g.registers r i) (o.few r (early r i));
      }

  pub open_fits : (a : Steps T) (v : Environment) (wire : Wire) → AreOpenValues answer a v → IsMade (layout_of a).registers wire
      → HasLanes v wire (lanes_of (layout_of a).registers wire)
  open_fits a v wire o made = let h = o.fits wire.0 made in record { count = h.long; few = o.few wire.0 made; below = h.below }
