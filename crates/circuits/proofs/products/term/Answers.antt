use Rattle.circuits.proofs.Levels.{grows_four}
use Rattle.circuits.proofs.products.term.Goals as goal

pub returns-clause-grows : goal.returns-clause-grows
returns-clause-grows g c =
    let w = g.W.Wires in
    grows_four w.grown w.possible w.shape c.args.wires.now c.right.new.self c.spread.new.self c.left.new.self c.and.new.self
    c.right.ensures.grows c.spread.ensures.grows c.left.ensures.grows c.and.ensures.grows
