use Rattle.std.proofs.Common.{rules, ◌≡◌, get_or, length, sym, ap, ◌∙◌, subst, arith}
use Rattle.std.proofs.lemmas.Slice.Zip.{AllZip-long}
use Rattle.clear_tasks.specs.ClearTask.{answer}
use Rattle.emit.specs.Emit.{AreOpenValues}
use Rattle.emit.specs.Ending.{at_end}
use Rattle.plain_operators.specs.OnSources as on_sources
use Rattle.query_graph.specs.IsGraph.{rows_at}
use Rattle.query_graph.specs.NodeSizes.{IsNodeOf, unbounded_size, width_at}
use Rattle.query_graph.specs.Observers.{sources_of}
use Rattle.shared_ops.specs.Nodes.{FitsNode, node_cost, sizes_of, widths_of}
use Rattle.step_lists.specs.Layout.{layout_of}
use Rattle.lowering.specs.Costs.{source_sizes}
use Rattle.lowering.specs.Stored.{AreRegisters}
use Rattle.lowering.proofs.Working.{AreTables, are_joint, adds_as, few_rows, made_of, number_node, sizes_are, some_rows, widths_are, workable, worked_as}
use Rattle.lowering.proofs.work.worked.Goals as goal

pub joint_node-requires-clause-joint : goal.joint_node-requires-clause-joint
joint_node-requires-clause-joint c =
    let node = c.index-node.result.now in
    let is_node = number_node c.args.graph.now.nodes c.args.number c.requires.node node c.requires.is_node (c.index-node.ensures ∙ ap (λ ns. get_or ns c.args.number node) c.nodes.ensures.nodes) in
    let w = workable c.args.graph.now c.args.list.now c.args.number node c.args.tables.now.items c.requires is_node in
    are_joint c.args.graph.now.nodes (layout_of c.new-wires.result.list.now) (sources_of node.shape) c.args.tables.now.items
    (subst (λ l. AreTables c.args.graph.now.nodes (layout_of l) (sources_of node.shape) c.args.tables.now.items) (sym c.new-wires.ensures.now) w.made)

pub joint_node-requires-clause-some : goal.joint_node-requires-clause-some
joint_node-requires-clause-some c =
    let w = c.requires in
    let some = c.nodes_fit_tables.ensures.some c.args.graph.now c.args.number w.node (record { is_graph = c.nodes.ensures.graph; is_node = w.is_node }) w.no_relation in
    omega (arith, some, AllZip-long (λ s t. AreRegisters (layout_of c.args.list.now) (rows_at c.args.graph.now.nodes s) (width_at c.args.graph.now.nodes s) t) (sources_of w.node.shape) c.args.tables.now.items w.made)

pub joint_node-requires-clause-count : goal.joint_node-requires-clause-count
joint_node-requires-clause-count c =
    let node = c.index-node.result.now in
    let is_node = number_node c.args.graph.now.nodes c.args.number c.requires.node node c.requires.is_node (c.index-node.ensures ∙ ap (λ ns. get_or ns c.args.number node) c.nodes.ensures.nodes) in
    let w = workable c.args.graph.now c.args.list.now c.args.number node c.args.tables.now.items c.requires is_node in
    AllZip-long (λ s t. AreRegisters (layout_of c.args.list.now) (rows_at c.args.graph.now.nodes s) (width_at c.args.graph.now.nodes s) t) (sources_of node.shape) c.args.tables.now.items w.made

pub joint_node-requires-clause-rows : goal.joint_node-requires-clause-rows
joint_node-requires-clause-rows c =
    some_rows c.args.graph.now c.nodes.ensures.graph c.args.number c.requires.node c.requires.is_node c.nodes_are_written.ensures (layout_of c.args.list.now) c.args.tables.now.items c.requires.made

pub joint_node-requires-clause-fits : goal.joint_node-requires-clause-fits
joint_node-requires-clause-fits c =
    let node = c.index-node.result.now in
    let is_node = number_node c.args.graph.now.nodes c.args.number c.requires.node node c.requires.is_node (c.index-node.ensures ∙ ap (λ ns. get_or ns c.args.number node) c.nodes.ensures.nodes) in
    let w = workable c.args.graph.now c.args.list.now c.args.number node c.args.tables.now.items c.requires is_node in
    subst (FitsNode node.shape) (sym (widths_are c.args.graph.now.nodes (layout_of c.args.list.now) (sources_of node.shape) c.args.tables.now.items w.made))
    (c.nodes_fit_tables.ensures.fits c.args.graph.now c.args.number node (record { is_graph = c.nodes.ensures.graph; is_node = is_node }) w.no_relation)

pub joint_node-requires-clause-few : goal.joint_node-requires-clause-few
joint_node-requires-clause-few c =
    let node = c.index-node.result.now in
    let is_node = number_node c.args.graph.now.nodes c.args.number c.requires.node node c.requires.is_node (c.index-node.ensures ∙ ap (λ ns. get_or ns c.args.number node) c.nodes.ensures.nodes) in
    let w = workable c.args.graph.now c.args.list.now c.args.number node c.args.tables.now.items c.requires is_node in
    let sizes = ap (unbounded_size node.shape) (sizes_are c.args.graph.now.nodes (layout_of c.args.list.now) (sources_of node.shape) c.args.tables.now.items w.made) in
    let rows = few_rows c.args.graph.now c.nodes.ensures.graph c.args.number node is_node c.nodes_fit_tables.ensures c.nodes_are_operators.ensures w.no_relation w.at_most w.parts_at_most in
    omega (arith, sizes, rows, (c.nodes.ensures.graph.nodes c.args.number node is_node).few_rows)

pub returns : goal.returns
returns c = λ other is.
    let graph = c.args.graph.now in
    let nodes = graph.nodes in
    let tables = c.args.tables.now.items in
    let node = c.index-node.result.now in
    let is_node = number_node nodes c.args.number c.requires.node node c.requires.is_node (c.index-node.ensures ∙ ap (λ ns. get_or ns c.args.number node) c.nodes.ensures.nodes) in
    let w = workable graph c.args.list.now c.args.number node tables c.requires is_node in
    let here : IsNodeOf graph c.args.number node = record { is_graph = c.nodes.ensures.graph; is_node = is_node } in
    let fit = c.nodes_fit_tables.ensures in
    let known = fit.known node.shape w.no_relation in
    let sizes = sizes_are nodes (layout_of c.args.list.now) (sources_of node.shape) tables w.made in
    let widths = widths_are nodes (layout_of c.args.list.now) (sources_of node.shape) tables w.made in
    let name = sym c.new-wires.ensures.name ∙ c.in_ok-new.ensures.grows.now.name in
    let new = c.in_ok-new.new in
    let wires = c.joint_node.new.wires in
    let makes = c.in_ok-new.ensures.makes in
    let possible = AreOpenValues answer wires.list.now in
    let registers = (layout_of wires.list.now).registers in
    let m = made_of possible registers new node.shape tables known.0 known.1 makes in
    let same : node ≡ other = let e = sym is_node ∙ is in cc in
    let cost = ap (λ ns. node_cost node.shape ns (widths_of tables)) sizes ∙ ap (node_cost node.shape (source_sizes nodes node.shape)) widths in
    worked_as same
    (record {
      adds = adds_as cost
          (c.wires_leave.ensures.adds _ _ wires _ (λ l. node_cost node.shape (sizes_of tables) (widths_of tables)) c.new-wires.ensures c.in_ok-new.ensures.grows.now (search (rules, name)) c.in_ok-new.ensures.cost);
      made = at_end (λ l. AreRegisters (layout_of l) node.rows (length node.columns) new) wires.list.now c.steps.ensures.well_formed (search (rules, name))
          (record {
            joint = m.joint;
            rows_are = m.rows ∙ ap (on_sources.operator_size known.0) sizes ∙ fit.rows graph c.args.number node known.0 here known.1 w.at_most w.parts_at_most;
            wide = m.wide ∙ ap (on_sources.operator_width known.0) widths ∙ fit.wide graph c.args.number node known.0 here known.1;
          });
      bits = λ slots ds p given.
          m.bits _ (c.wires_leave.ensures.opened wires _ slots ds (record { well_formed = c.steps.ensures.well_formed; short = c.registers.ensures.short }) (search (rules, name)) p) given;
      bag = λ operator is_operator slots ds p given.
          (made_of possible registers new node.shape tables operator is_operator makes).bag _
          (c.wires_leave.ensures.opened wires _ slots ds (record { well_formed = c.steps.ensures.well_formed; short = c.registers.ensures.short }) (search (rules, name)) p) given;
    })
