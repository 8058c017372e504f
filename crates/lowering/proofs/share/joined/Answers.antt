use Rattle.std.proofs.Common.{length, sym, subst}
use Rattle.clear_tasks.specs.ClearTask.{answer}
use Rattle.step_lists.specs.Layout.{layout_of}
use Rattle.step_lists.specs.Open.{open_of}
use Rattle.lowering.specs.Pieces.{IsJoined, IsShared}
use Rattle.lowering.specs.Segments.{is_on_shares}
use Rattle.lowering.specs.Stored.{IsMade}
use Rattle.lowering.proofs.Holding.{registers_again, table_again}
use Rattle.lowering.proofs.Sharing.{shared_joined}
use Rattle.lowering.proofs.share.joined.Goals as goal

pub returns-in_ok-table-in-Clear : goal.returns-in_ok-table-in-Clear
returns-in_ok-table-in-Clear c =
    let a = c.args.list.now in
    let rows = c.args.node.now.rows in
    let width = length c.args.node.now.columns in
    let party = c.in-Clear.party in
    let first = c.in-Clear.first in
    let made = subst (IsMade (layout_of a) rows width) c.in-Clear.is c.requires in
    let shared = subst (λ n. IsShared a c.share_table.new.list rows n party first c.in_ok-table-in-Clear.table) c.in_ok-width-in-Clear.ensures c.in_ok-table-in-Clear.ensures in
    subst (λ s. IsJoined a c.share_table.new.list rows width s c.in_ok-table-in-Clear.table) (sym c.in-Clear.is)
    (shared_joined c.quiet_steps_add.ensures a c.share_table.new.list rows width party first c.in_ok-table-in-Clear.table made shared)

pub returns-in_ok-same-in-Shared : goal.returns-in_ok-same-in-Shared
returns-in_ok-same-in-Shared c =
    let a = c.args.list.now in
    let rows = c.args.node.now.rows in
    let width = length c.args.node.now.columns in
    let table = c.in-Shared.table in
    let same = c.in_ok-same-in-Shared in
    let made = subst (IsMade (layout_of a) rows width) c.in-Shared.is c.requires in
    subst (λ s. IsJoined a a rows width s same.same) (sym c.in-Shared.is)
    (record {
      adds = c.pieces_add_up.ensures.none a is_on_shares;
      holds = record {
        made = registers_again (layout_of a) rows width table same.same same.ensures.columns same.ensures.valid same.ensures.rows made;
        same = λ slots ds p. table_again (open_of answer a slots ds) width table same.same same.ensures.columns same.ensures.valid;
      };
    })
