use Rattle.std.proofs.Common.{map, ap, ◌∙◌}
use Rattle.plain_meaning.specs.Convert.{aggregate_of}
use Rattle.shared_ops.proofs.NodeTables.{group_makes}
use Rattle.shared_ops.proofs.nodes.joint_group.Goals as goal

pub returns-clause-makes : goal.returns-clause-makes
returns-clause-makes g c =
    let w = g.W.Wires in
    let new = c.group_by.new.wires in
    let h = c.as_slice-in-Group-2 in
    group_makes (w.possible new) (w.shape new) c.in_ok-new-in-Group.new c.args.node.now.shape c.args.table.now c.in-Group.group c.as_slice-in-Group.result.now h.result.now c.in-Group.is
    c.as_slice-in-Group.ensures.value (h.ensures.value ∙ c.in_ok-aggregates-in-Group.ensures ∙ ap (map aggregate_of) c.as_slice.ensures.value) c.in_ok-new-in-Group.ensures.makes
