use Rattle.shared_ops.proofs.Growing.{grows_four}
use Rattle.shared_ops.proofs.filter.pass.Goals as goal

pub returns-in_err-new-clause-grows : goal.returns-in_err-new-clause-grows
returns-in_err-new-clause-grows g c =
    let w = g.W.Wires in
    grows_four w.grown w.possible w.shape c.args.wires.now c.operand_wire.new.wires c.operand_wire-2.new.wires c.compare.new.wires c.and.new.self
    c.operand_wire.ensures.grows c.operand_wire-2.ensures.grows c.compare.ensures.grows c.and.ensures.grows

pub returns-clause-grows : goal.returns-clause-grows
returns-clause-grows g c =
    let w = g.W.Wires in
    grows_four w.grown w.possible w.shape c.args.wires.now c.operand_wire.new.wires c.operand_wire-2.new.wires c.compare.new.wires c.and.new.self
    c.operand_wire.ensures.grows c.operand_wire-2.ensures.grows c.compare.ensures.grows c.and.ensures.grows
