use Rattle.shared_ops.proofs.NodeTables.{join_makes}
use Rattle.shared_ops.proofs.nodes.joint_join.Goals as goal

pub returns-clause-makes : goal.returns-clause-makes
returns-clause-makes g c =
    let w = g.W.Wires in
    let new = c.join_by.new.wires in
    join_makes (w.possible new) (w.shape new) c.in_ok-new-in-Join.new c.args.node.now.shape c.args.left.now c.args.right.now c.in-Join.join c.as_slice.result.now c.in-Join.is
    c.as_slice.ensures.value c.in_ok-new-in-Join.ensures.makes
