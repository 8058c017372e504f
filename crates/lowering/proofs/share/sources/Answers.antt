use Rattle.std.proofs.Common.{◌+◌, ◌∷◌, [], ◌++◌, take, sym, subst}
use Rattle.std.specs.List.{AllZip}
use Rattle.clear_tasks.specs.ClearTask.{answer}
use Rattle.query_graph.specs.Observers.{sources_of}
use Rattle.emit.specs.Adds.{wants_nothing}
use Rattle.lowering.specs.Pieces.{HoldsNode}
use Rattle.lowering.specs.Segments.{is_on_shares}
use Rattle.lowering.specs.Stored.{IsShaped}
use Rattle.lowering.proofs.Elements.{take_more_some, zip_more}
use Rattle.lowering.proofs.Holding.{all_hold, all_made}
use Rattle.lowering.proofs.share.sources.Goals as goal

pub loop-index-init : goal.loop-index-init
loop-index-init c = record {
  adds = c.pieces_add_up.ensures.none c.args.list.now is_on_shares;
  holds = subst (AllZip (HoldsNode c.args.nodes.now c.args.list.now c.args.parts.now) []) (sym c.new-tables.ensures.items) tt;
}

pub joined_source-requires : goal.joined_source-requires
joined_source-requires c = all_made c.args.nodes.now c.args.list.now c.loop-index.list c.args.parts.now c.loop-index.invariant.adds.front c.requires

pub loop-index-preserved : goal.loop-index-preserved
loop-index-preserved c =
    let nodes = c.args.nodes.now in
    let parts = c.args.parts.now in
    let mid = c.loop-index.list in
    let new = c.joined_source.new.list in
    let source = c.in_ok-table.ensures in
    let made = all_made nodes c.args.list.now mid parts c.loop-index.invariant.adds.front c.requires in
    let shaped : IsShaped answer mid = λ slots ds p. c.values_have_shapes.ensures mid slots ds c.steps.ensures.well_formed p in
    let all = sources_of c.args.shape.now in
    let index = c.loop-index.index in
    let here : HoldsNode nodes new parts c.in-Some.source c.in_ok-table.table = (source.part, source.is_part, source.holds) in
    record {
      adds = c.pieces_add_up.ensures.joined c.args.list.now mid new is_on_shares 0 0 wants_nothing wants_nothing c.loop-index.invariant.adds source.adds;
      holds =
          subst (AllZip (HoldsNode nodes new parts) (take (index + 1) all)) (sym c.in_ok-push.ensures.items)
          (subst (λ ss. AllZip (HoldsNode nodes new parts) ss (c.loop-index.tables.items ++ c.in_ok-table.table ∷ [])) (sym (take_more_some all index c.in-Some.source (sym c.in-Some.ensures)))
          (zip_more (HoldsNode nodes new parts) (take index all) c.loop-index.tables.items c.in-Some.source c.in_ok-table.table
          (all_hold nodes mid new parts shaped source.adds.front made (take index all) c.loop-index.tables.items c.loop-index.invariant.holds) here));
    }
