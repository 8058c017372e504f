use Rattle.std.proofs.Common.{map, ap, ◌∙◌}
use Rattle.plain_meaning.specs.Convert.{item_of}
use Rattle.shared_ops.proofs.NodeTables.{select_makes}
use Rattle.shared_ops.proofs.nodes.joint_select.Goals as goal

pub returns-clause-makes : goal.returns-clause-makes
returns-clause-makes g c =
    let w = g.W.Wires in
    let new = c.select_by.new.wires in
    select_makes (w.possible new) (w.shape new) c.in_ok-new-in-Select.new c.args.node.now.shape c.args.table.now c.in-Select.select c.as_slice-in-Select.result.now c.in-Select.is
    (c.as_slice-in-Select.ensures.value ∙ c.in_ok-items-in-Select.ensures ∙ ap (map item_of) c.as_slice.ensures.value) c.in_ok-new-in-Select.ensures.makes
