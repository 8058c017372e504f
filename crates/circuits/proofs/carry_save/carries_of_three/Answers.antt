use Rattle.circuits.proofs.Levels.{grows_four}
use Rattle.circuits.proofs.carry_save.carries_of_three.Goals as goal

pub returns-in_err-new-clause-grows : goal.returns-in_err-new-clause-grows
returns-in_err-new-clause-grows g c =
    let w = g.W.Wires in
    grows_four w.grown w.possible w.shape c.args.wires.now c.xor.new.self c.and.new.self c.xor-2.new.self c.left.new.self
    c.xor.ensures.grows c.and.ensures.grows c.xor-2.ensures.grows c.left.ensures.grows

pub returns-clause-grows : goal.returns-clause-grows
returns-clause-grows g c =
    let w = g.W.Wires in
    grows_four w.grown w.possible w.shape c.args.wires.now c.xor.new.self c.and.new.self c.xor-2.new.self c.left.new.self
    c.xor.ensures.grows c.and.ensures.grows c.xor-2.ensures.grows c.left.ensures.grows
