use Rattle.std.proofs.Common.{ℕ, Bool, List, [], ◌∷◌, ◌++◌, get_or, length, map, ap, sym, ◌∙◌, append_assoc}
use Rattle.std.specs.Prelude.{◌==◌, filter, not}
use Rattle.std.specs.List.{range_with_len}
use Rattle.step_lists.specs.Open.{item}
use Rattle.step_lists.specs.Shapes.{word_lists}
use Rattle.tapes.specs.RowLaws.{row_across}
use Rattle.lowering.proofs.Elements.{vec_length}
use Rattle.lowering.proofs.Rows.{places_with, places_without, not_zero, is_zero}
use Rattle.lowering.proofs.answer.add_rows.Goals as goal
use Rattle.lowering.proofs.answer.add_rows.Goals.{then-valid-place-ne0+in_ok-row+in_ok-push, else-valid-place-ne0}

pub push-requires : goal.push-requires
push-requires c =
    ap length c.as_slice.ensures.value ∙ c.in_ok-row.ensures.wide ∙ (c.len-width.ensures ∙ vec_length c.columns.result.now ∙ ap length c.columns.ensures.columns) ∙ ap length (sym c.loop-place.invariant.columns)

pub loop-place-preserved : goal.loop-place-preserved
loop-place-preserved c =
    let rows : ℕ → List ℕ = row_across (map (item (word_lists c.args.slots.now)) (range_with_len c.args.first c.len-width.result)) in
    let stands : ℕ → Bool = λ k. not (get_or c.slot_at-valid.result.now k 0 == 0) in
    let place = c.loop-place.place in
    let before = c.args.table.now.rows in
    elim c.if-valid-place-ne0.branch [
      | then-valid-place-ne0+in_ok-row+in_ok-push w ↦
          let pushed = w.table-is ∙ w.in_ok-push.ensures.ok in
          record {
            columns = ap (λ t. t.columns) pushed ∙ c.loop-place.invariant.columns;
            rows = ap (λ t. t.rows) pushed ∙ ap (λ rs. rs ++ w.as_slice.result.now ∷ []) c.loop-place.invariant.rows
                ∙ append_assoc before (map rows (filter stands (range_with_len 0 place))) (w.as_slice.result.now ∷ [])
                ∙ ap (λ rs. before ++ rs) (ap (λ row. map rows (filter stands (range_with_len 0 place)) ++ row ∷ []) (w.as_slice.ensures.value ∙ w.in_ok-row.ensures.row)
                ∙ sym (places_with rows stands place (not_zero (get_or c.slot_at-valid.result.now place 0) w.if-valid-place-ne0.true)));
          }
      | else-valid-place-ne0 w ↦ record {
        columns = ap (λ t. t.columns) w.table-is ∙ c.loop-place.invariant.columns;
        rows = ap (λ t. t.rows) w.table-is ∙ c.loop-place.invariant.rows
            ∙ ap (λ rs. before ++ rs) (sym (places_without rows stands place (is_zero (get_or c.slot_at-valid.result.now place 0) w.if-valid-place-ne0.false)));
      }
    ]
