use Rattle.std.proofs.Common.{◌≡◌, ◌+◌, ◌∷◌, [], ◌++◌, length, map, refl, ap, sym, ◌∙◌, arith}
use Rattle.std.specs.List.{range_with_len}
use Rattle.std.proofs.lemmas.List.FromFn.{map-range_with_len_more}
use Rattle.step_lists.specs.Layout.{layout_of}
use Rattle.step_lists.specs.Possible.{behind}
use Rattle.step_lists.specs.declared.step.Step.TheVariants.{Share}
use Rattle.lowering.specs.Pieces.{shares, wire}
use Rattle.lowering.proofs.Sharing.{behind_shares, count_shares}
use Rattle.lowering.proofs.share.share_table.Goals as goal

pub loop-column-preserved : goal.loop-column-preserved
loop-column-preserved c =
    let a = c.args.list.now in
    let party = c.args.party in
    let first = c.args.first in
    let column = c.loop-column.column in
    let base = length (layout_of a).registers in
    let so_far = c.loop-column.invariant.is in
    let register = ap (λ l. length (layout_of l).registers) so_far ∙ count_shares a party first column in
    record {
      is = c.in_ok-wire.ensures.added ∙ ap (λ l. behind l (Share party c.in_ok-slot.slot ∷ [])) so_far
          ∙ ap (λ s. behind (behind a (shares party first column)) (Share party s ∷ [])) c.in_ok-slot.ensures ∙ behind_shares a party first column;
      columns = c.in_ok-push.ensures.items ∙ ap (λ ws. ws ++ c.in_ok-wire.wire ∷ []) c.loop-column.invariant.columns
          ∙ ap (λ w. map wire (range_with_len base column) ++ w ∷ []) (c.in_ok-wire.ensures.register ∙ ap wire register)
          ∙ sym (map-range_with_len_more wire base column (base + column) refl);
    }

pub returns : goal.returns
returns c =
    let a = c.args.list.now in
    let party = c.args.party in
    let first = c.args.first in
    let base = length (layout_of a).registers in
    let end : c.loop-column.column ≡ c.args.width = omega (arith, c.loop-column-test.false, c.loop-column.auto.column-end) in
    let so_far = c.loop-column.invariant.is ∙ ap (λ k. behind a (shares party first k)) end in
    let register = ap (λ l. length (layout_of l).registers) so_far ∙ count_shares a party first c.args.width in
    record {
      is = c.in_ok-valid.ensures.added ∙ ap (λ l. behind l (Share party c.in_ok-last.last ∷ [])) so_far
          ∙ ap (λ s. behind (behind a (shares party first c.args.width)) (Share party s ∷ [])) c.in_ok-last.ensures ∙ behind_shares a party first c.args.width;
      table = record {
        columns = c.loop-column.invariant.columns ∙ ap (λ k. map wire (range_with_len base k)) end;
        valid = c.in_ok-valid.ensures.register ∙ ap wire register;
        rows_are = refl;
      };
    }
