use Rattle.std.proofs.Common.{map, ap, ◌∙◌}
use Rattle.plain_meaning.specs.Convert.{test_of}
use Rattle.shared_ops.proofs.NodeTables.{filter_makes}
use Rattle.shared_ops.proofs.nodes.joint_filter.Goals as goal

pub returns-clause-makes : goal.returns-clause-makes
returns-clause-makes g c =
    let w = g.W.Wires in
    let new = c.filter_by.new.wires in
    filter_makes (w.possible new) (w.shape new) c.in_ok-new-in-Filter.new c.args.node.now.shape c.args.table.now c.in-Filter.filter c.as_slice-in-Filter.result.now c.in-Filter.is
    (c.as_slice-in-Filter.ensures.value ∙ c.in_ok-tests-in-Filter.ensures ∙ ap (map test_of) c.as_slice.ensures.value) c.in_ok-new-in-Filter.ensures.makes
