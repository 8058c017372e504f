use Rattle.shared_ops.proofs.NodeTables.{concat_alike, concat_makes, distinct_of_one}
use Rattle.shared_ops.proofs.nodes.joint_node.Goals as goal

pub joint_concat-requires-clause-alike : goal.joint_concat-requires-clause-alike
joint_concat-requires-clause-alike g c = concat_alike c.args.tables.now.items c.args.node.now.shape c.in-Concat.field-0 c.in-Concat.is c.requires.fits

pub returns-in_ok-new-in-Concat-clause-makes : goal.returns-in_ok-new-in-Concat-clause-makes
returns-in_ok-new-in-Concat-clause-makes g c =
    let w = g.W.Wires in
    let new = c.joint_concat.new.wires in
    concat_makes (w.possible new) (w.shape new) c.in_ok-new-in-Concat.new c.args.node.now.shape c.args.tables.now.items c.in-Concat.field-0 c.in-Concat.is c.in_ok-new-in-Concat.ensures.makes

pub returns-in_ok-new-in-Distinct-clause-makes : goal.returns-in_ok-new-in-Distinct-clause-makes
returns-in_ok-new-in-Distinct-clause-makes g c =
    let w = g.W.Wires in
    let new = c.joint_distinct.new.wires in
    let t = c.index-in-Distinct in
    distinct_of_one (w.possible new) (w.shape new) c.in_ok-new-in-Distinct.new c.args.node.now.shape c.args.tables.now.items t.result.now c.in-Distinct.field-0 c.in-Distinct.is
    c.requires.count t.ensures c.in_ok-new-in-Distinct.ensures.makes
