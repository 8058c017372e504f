use Rattle.std.proofs.Common.{◌++◌, ◌∷◌, [], sym, ap, ◌∙◌, append_assoc, take}
use Rattle.std.proofs.lemmas.List.{take_more}
use Rattle.std.proofs.lemmas.Option.{get_or_from_slice_get, slice_get_within}
use Rattle.tables.specs.Content.{Content}
use Rattle.places.proofs.party_rows.add_rows.Goals as goal

pub loop-number-preserved : goal.loop-number-preserved
loop-number-preserved c =
    let more = c.args.more.now.rows in
    let number = c.loop-number.number in
    let row = c.row.result.now in
    let before = c.args.pooled.now.rows in
    let here = take_more more number [] (slice_get_within more number row c.row.ensures.words) ∙ ap (λ r. take number more ++ r ∷ []) (get_or_from_slice_get more number row [] c.row.ensures.words) in
    record {
      columns = ap (λ (t : Content). t.columns) c.in_ok-push.ensures.ok ∙ c.loop-number.invariant.columns;
      rows = ap (λ (t : Content). t.rows) c.in_ok-push.ensures.ok ∙ ap (λ l. l ++ row ∷ []) c.loop-number.invariant.rows
          ∙ append_assoc before (take number more) (row ∷ []) ∙ ap (λ l. before ++ l) (sym here);
    }
