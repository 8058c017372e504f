-- The laws of growth of wires over a list that they borrow.
use Rattle.std.proofs.Common.{refl, ◌∙◌}
use Rattle.wires.specs.Growth.{KeepsWires}
use Rattle.step_lists.specs.Layout.{layout_of}
use Rattle.emit.specs.declared.emit.Emit.{Emit}
use Rattle.emit.specs.Borrowed.{GrowsOver, borrowed}
use Rattle.emit.specs.EmitLaws.{circuit_keeps, circuit_refl, circuit_trans}

pub over_refl : {T : Type 0} (a : Emit T) → GrowsOver a a
over_refl a = record { name = refl; steps = circuit_refl (borrowed a).now }

pub over_trans : {T : Type 0} (a b c : Emit T) → GrowsOver a b → GrowsOver b c → GrowsOver a c
over_trans a b c h k = record { name = h.name ∙ k.name; steps = circuit_trans (borrowed a).now (borrowed b).now (borrowed c).now h.steps k.steps }

pub over_keeps : {T : Type 0} (a b : Emit T) → GrowsOver a b → KeepsWires (layout_of (borrowed a).now).registers (layout_of (borrowed b).now).registers
over_keeps a b h = circuit_keeps (borrowed a).now (borrowed b).now h.steps
