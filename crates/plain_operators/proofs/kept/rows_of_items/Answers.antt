use Rattle.std.proofs.Common.{ℕ, List, [], ◌∷◌, ◌++◌, Bor, Vec, Global, map, take, get_or, sym, ap, ◌∙◌}
use Rattle.std.proofs.lemmas.List.{map_more, map_push}
use Rattle.plain_operators.specs.Items.{item_word}
use Rattle.plain_operators.specs.Operators.{rows_of_items}
use Rattle.plain_operators.proofs.Steps.{items_more}
use Rattle.plain_operators.proofs.kept.rows_of_items.Goals as goal

pub loop-row-preserved : goal.loop-row-preserved
loop-row-preserved c =
    let now = λ (row : Bor (List ℕ)). row.now in
    let listed = λ (row : Vec ℕ Global). row.items in
    let rows = c.args.rows.now in
    let none : Bor (List ℕ) = record { ref_ptr = (0, 0); now = [] } in
    let row = get_or rows c.loop-row.row-index none in
    let made = c.loop-row.made.items in
    let items = c.args.items.now in
    let more = items_more items (map now (take c.loop-row.row-index rows)) row.now in
    ap (map listed) c.in_ok-push.ensures.items ∙ map_push listed made c.in_ok-row_of_items.field-0 ∙ (λ i. c.loop-row.invariant i ++ c.in_ok-row_of_items.ensures i ∷ []) ∙ sym more
    ∙ ap (rows_of_items (map item_word items)) (sym (map_more now rows c.loop-row.row-index none c.loop-row-test.true))
