use Rattle.std.proofs.Common.{[], ◌∷◌, ◌++◌, Vec, Global, ℕ, map, ap, ◌∙◌, sym}
use Rattle.std.specs.List.{range_with_len}
use Rattle.std.proofs.lemmas.List.{map_push}
use Rattle.tapes.specs.RowLaws.{row_across}
use Rattle.twin.proofs.Counting.{counted_more}
use Rattle.twin.proofs.rows.rows_of_columns.Goals as goal

pub loop-place-preserved : goal.loop-place-preserved
loop-place-preserved c =
    let listed = λ (row : Vec ℕ Global). row.items in
    let across = row_across (map listed c.args.columns.now) in
    let k = c.loop-place.place in
    ap (map listed) c.in_ok-push.ensures.items ∙ (map_push listed c.loop-place.rows.items c.in_ok-row_of.field-0
    ∙ ((λ i. map listed c.loop-place.rows.items ++ c.in_ok-row_of.ensures i ∷ []) ∙ (ap (λ rows. rows ++ across k ∷ []) c.loop-place.invariant
    ∙ sym (ap (map across) (counted_more k) ∙ map_push across (range_with_len 0 k) k))))
