use Rattle.shared_ops.proofs.Growing.{grows_four}
use Rattle.shared_ops.proofs.matched.and_equal.Goals as goal

pub returns-clause-grows : goal.returns-clause-grows
returns-clause-grows g c =
    let w = g.W.Wires in
    grows_four w.grown w.possible w.shape c.args.wires.now c.gathered.new.wires c.gathered-2.new.wires c.eq.new.wires c.and.new.self c.gathered.ensures.grows c.gathered-2.ensures.grows c.eq.ensures.grows c.and.ensures.grows
