use Rattle.std.proofs.Common.{◌≡◌, ℕ, cond, Vec, Global, map, get_or, [], ◌∷◌, ◌++◌, sym, ap, ◌∙◌}
use Rattle.std.proofs.lemmas.Bool.{eq-eqb, ne_eqb}
use Rattle.std.proofs.lemmas.List.{append-nil, map_push}
use Rattle.tapes.specs.RowLaws.{row_across}
use Rattle.padded.specs.Table.{is_live}
use Rattle.padded.proofs.Steps.{kept_more_numbers}
use Rattle.padded.proofs.table.valid_rows.Goals as goal
use Rattle.padded.proofs.table.valid_rows.Goals.{then-valid-place-eq1+in_ok-row_of+in_ok-push, else-valid-place-eq1}

pub loop-place-preserved : goal.loop-place-preserved
loop-place-preserved c =
    let listed = λ (row : Vec ℕ Global). row.items in
    let columns = map listed c.args.columns.now in
    let valid = c.args.valid.now in
    let place = c.loop-place.place in
    let rows = c.loop-place.rows.items in
    let added : map listed c.if-valid-place-eq1.rows.items ≡ map listed rows ++ cond (is_live valid place) (row_across columns place ∷ []) [] = elim c.if-valid-place-eq1.branch [
      | then-valid-place-eq1+in_ok-row_of+in_ok-push w ↦
          ap (λ v. map listed v.items) w.rows-is ∙ ap (map listed) w.in_ok-push.ensures.items ∙ map_push listed rows w.in_ok-row_of.field-0
          ∙ (λ i. map listed rows ++ w.in_ok-row_of.ensures i ∷ []) ∙ ap (λ b. map listed rows ++ cond b (row_across columns place ∷ []) []) (sym (eq-eqb (get_or valid place 0) 1 w.if-valid-place-eq1.true))
      | else-valid-place-eq1 w ↦ ap (λ v. map listed v.items) w.rows-is ∙ sym (append-nil (map listed rows)) ∙ ap (λ b. map listed rows ++ cond b (row_across columns place ∷ []) []) (sym (ne_eqb (get_or valid place 0) 1 w.if-valid-place-eq1.false))
    ] in
    added ∙ (λ i. c.loop-place.invariant i ++ cond (is_live valid place) (row_across columns place ∷ []) []) ∙ sym (kept_more_numbers (is_live valid) (row_across columns) place)
