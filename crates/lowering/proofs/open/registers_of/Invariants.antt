use Rattle.std.proofs.Common.{◌≡◌, map, take}
use Rattle.lowering.proofs.open.registers_of.Given as goal

abbrev pub invariant-loop-wire : goal.invariant-loop-wire
invariant-loop-wire l = l.registers.items ≡ map (λ w. w.0) (take l.wire-index l.table.columns.items)
