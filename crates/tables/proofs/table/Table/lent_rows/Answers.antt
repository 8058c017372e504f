use Rattle.std.proofs.Common.{ℕ, Bor, List, [], ◌∷◌, ◌++◌, map, ap, sym, ◌∙◌}
use Rattle.std.proofs.lemmas.List.{map-append}
use Rattle.tables.proofs.AnswerText.{take_found}
use Rattle.tables.proofs.table.Table.lent_rows.Goals as goal

pub loop-index-preserved : goal.loop-index-preserved
loop-index-preserved c =
    let now = λ (row : Bor (List ℕ)). row.now in
    let pushed = ap (map now) c.in_ok-push.ensures.items ∙ map-append now c.loop-index.rows.items (c.row.result ∷ []) in
    (c.loop-index.invariant.0, pushed ∙ ap (λ rows. rows ++ c.row.result.now ∷ []) c.loop-index.invariant.1 ∙ sym (take_found _ _ _ c.row.ensures.words))
