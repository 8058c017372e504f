use Rattle.std.proofs.Common.{◌≡◌, ◌<◌, get_or, length, ap, sym, ◌∙◌, subst, arith}
use Rattle.std.specs.Prelude.{Some}
use Rattle.std.specs.Option.{option_map_or}
use Rattle.clear_tasks.specs.ClearTask.{answer}
use Rattle.lanes.specs.declared.party.Party.TheVariants.{First, Second, Third}
use Rattle.query_graph.specs.IsGraph.{rows_at}
use Rattle.query_graph.specs.NodeSizes.{width_at}
use Rattle.step_lists.specs.Layout.{layout_of}
use Rattle.lowering.specs.Stored.{IsMade, IsShaped}
use Rattle.lowering.proofs.Elements.{at_within}
use Rattle.lowering.proofs.Outputting.{joined_as, lowers_output, opens_adds, opens_answer, zeros_as}
use Rattle.lowering.proofs.Revealing.{openable_grown, zeroed_openable}
use Rattle.lowering.proofs.open.lower_output.Goals as goal

pub joined-requires : goal.joined-requires
joined-requires c =
    let nodes = c.args.graph.now.nodes in
    let parts = c.args.parts.now in
    let s = c.args.output.now.node in
    let node = c.index.result.now in
    let part = c.index-parts-number.result in
    let inside : s < length parts = omega (arith, c.requires.output.node, c.requires.all) in
    let is_node = at_within nodes s node c.requires.output.node ∙ ap Some (sym (c.index.ensures ∙ ap (λ ns. get_or ns s node) c.nodes-nodes.ensures.nodes)) in
    let is_part = at_within parts s part inside ∙ ap Some (sym c.index-parts-number.is) in
    let rows : rows_at nodes s ≡ node.rows = ap (λ found. option_map_or (λ n. n.rows) found 0) is_node in
    let width : width_at nodes s ≡ length node.columns = ap (λ found. option_map_or (λ n. length n.columns) found 0) is_node in
    subst (λ n. IsMade (layout_of c.args.list.now) n (length node.columns) part) rows
    (subst (λ n. IsMade (layout_of c.args.list.now) (rows_at nodes s) n part) width (c.requires.stores s part is_part).made)

pub returns : goal.returns
returns c =
    let graph = c.args.graph.now in
    let nodes = graph.nodes in
    let parts = c.args.parts.now in
    let output = c.args.output.now in
    let s = output.node in
    let node = c.index.result.now in
    let part = c.index-parts-number.result in
    let inside : s < length parts = omega (arith, c.requires.output.node, c.requires.all) in
    let is_node = at_within nodes s node c.requires.output.node ∙ ap Some (sym (c.index.ensures ∙ ap (λ ns. get_or ns s node) c.nodes-nodes.ensures.nodes)) in
    let is_part = at_within parts s part inside ∙ ap Some (sym c.index-parts-number.is) in
    let rows : rows_at nodes s ≡ node.rows = ap (λ found. option_map_or (λ n. n.rows) found 0) is_node in
    let width : width_at nodes s ≡ length node.columns = ap (λ found. option_map_or (λ n. length n.columns) found 0) is_node in
    let la = c.args.list.now in
    let lm = c.joined.new.list in
    let lz = c.zeroed_table.new.list in
    let lb = c.open_to.new.list in
    let lc = c.open_to-2.new.list in
    let ld = c.open_to-3.new.list in
    let shapes = c.values_have_shapes.ensures in
    let shaped_a : IsShaped answer la = λ slots ds p. shapes la slots ds c.steps.ensures.well_formed p in
    let shaped_m : IsShaped answer lm = λ slots ds p. shapes lm slots ds c.steps-2.ensures.well_formed p in
    let shaped_z : IsShaped answer lz = λ slots ds p. shapes lz slots ds c.steps-3.ensures.well_formed p in
    let shaped_b : IsShaped answer lb = λ slots ds p. shapes lb slots ds c.steps-4.ensures.well_formed p in
    let shaped_c : IsShaped answer lc = λ slots ds p. shapes lc slots ds c.steps-5.ensures.well_formed p in
    let shaped_d : IsShaped answer ld = λ slots ds p. shapes ld slots ds c.steps-6.ensures.well_formed p in
    let t = c.in_ok-table.table in
    let zeroed = c.in_ok-zeroed.zeroed in
    let joined = joined_as (sym rows) (sym width) c.in_ok-table.ensures in
    let zeros = zeros_as joined.holds.made.rows_are joined.holds.made.wide c.in_ok-zeroed.ensures in
    let bags = c.bags_are_equivalence.ensures in
    let one_order = c.reveals_have_one_order.ensures in
    let ordered = c.rows_of_ordered.ensures in
    let open_z = zeroed_openable graph s c.rows_of_zeroed.ensures c.opened_of_bags.ensures bags la lm lz part t zeroed shaped_a shaped_m shaped_z (c.requires.stores s part is_part) joined zeros in
    let first = opens_adds graph output one_order ordered bags lz lb zeroed shaped_z open_z First c.in_ok-first.first c.in_ok-first.ensures in
    let one = opens_answer graph output one_order ordered bags lz lb zeroed shaped_z open_z First c.in_ok-first.first c.in_ok-first.ensures in
    let open_b = openable_grown graph s lz lb zeroed shaped_z first.front open_z in
    let second = opens_adds graph output one_order ordered bags lb lc zeroed shaped_b open_b Second c.in_ok-second.second c.in_ok-second.ensures in
    let two = opens_answer graph output one_order ordered bags lb lc zeroed shaped_b open_b Second c.in_ok-second.second c.in_ok-second.ensures in
    let open_c = openable_grown graph s lb lc zeroed shaped_b second.front open_b in
    let third = opens_adds graph output one_order ordered bags lc ld zeroed shaped_c open_c Third c.in_ok-third.third c.in_ok-third.ensures in
    let three = opens_answer graph output one_order ordered bags lc ld zeroed shaped_c open_c Third c.in_ok-third.third c.in_ok-third.ensures in
    lowers_output graph output la lm lz lb lc ld part t zeroed _ shaped_b shaped_c shaped_d joined zeros first second third one two three
