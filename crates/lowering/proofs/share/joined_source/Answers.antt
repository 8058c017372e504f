use Rattle.std.proofs.Common.{◌≡◌, length, ap, sym, ◌∙◌, subst}
use Rattle.std.specs.Prelude.{Some}
use Rattle.std.specs.Option.{option_map_or}
use Rattle.query_graph.specs.IsGraph.{rows_at}
use Rattle.query_graph.specs.NodeSizes.{width_at}
use Rattle.step_lists.specs.Layout.{layout_of}
use Rattle.lowering.specs.Pieces.{HoldsSame}
use Rattle.lowering.specs.Stored.{IsMade}
use Rattle.lowering.proofs.Elements.{at_within}
use Rattle.lowering.proofs.share.joined_source.Goals as goal

pub joined-requires : goal.joined-requires
joined-requires c =
    let nodes = c.args.nodes.now in
    let parts = c.args.parts.now in
    let s = c.args.source in
    let node = c.in-Some.node.now in
    let part = c.in-Some-get.part.now in
    let is_node = at_within nodes s node c.in-Some.ensures.lookup.3.0 ∙ ap Some (sym c.in-Some.ensures.lookup.1) in
    let is_part = at_within parts s part c.in-Some-get.ensures.lookup.3.0 ∙ ap Some (sym c.in-Some-get.ensures.lookup.1) in
    let rows : rows_at nodes s ≡ node.rows = ap (λ found. option_map_or (λ n. n.rows) found 0) is_node in
    let width : width_at nodes s ≡ length node.columns = ap (λ found. option_map_or (λ n. length n.columns) found 0) is_node in
    subst (λ n. IsMade (layout_of c.args.list.now) n (length node.columns) part) rows
    (subst (λ n. IsMade (layout_of c.args.list.now) (rows_at nodes s) n part) width (c.requires s part is_part))

pub returns : goal.returns
returns c =
    let nodes = c.args.nodes.now in
    let parts = c.args.parts.now in
    let s = c.args.source in
    let node = c.in-Some.node.now in
    let part = c.in-Some-get.part.now in
    let is_node = at_within nodes s node c.in-Some.ensures.lookup.3.0 ∙ ap Some (sym c.in-Some.ensures.lookup.1) in
    let is_part = at_within parts s part c.in-Some-get.ensures.lookup.3.0 ∙ ap Some (sym c.in-Some-get.ensures.lookup.1) in
    let rows : rows_at nodes s ≡ node.rows = ap (λ found. option_map_or (λ n. n.rows) found 0) is_node in
    let width : width_at nodes s ≡ length node.columns = ap (λ found. option_map_or (λ n. length n.columns) found 0) is_node in
    record {
      adds = c.in_ok-table.ensures.adds;
      part = part;
      is_part = is_part;
      holds = subst (λ n. HoldsSame c.joined.new.list n (width_at nodes s) part c.in_ok-table.table) (sym rows)
          (subst (λ n. HoldsSame c.joined.new.list node.rows n part c.in_ok-table.table) (sym width) c.in_ok-table.ensures.holds);
    }
