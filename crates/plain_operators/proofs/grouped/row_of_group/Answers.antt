use Rattle.std.proofs.Common.{◌≡◌, ℕ, List, Bor, IfOk, map, length, subst, ap, ◌∙◌}
use Rattle.std.specs.List.{All}
use Rattle.plain_operators.specs.Laws.{block_row}
use Rattle.plain_operators.specs.Within.{HasColumns, IsAggregateOf}
use Rattle.plain_operators.proofs.GroupPlaces.{picked_all}
use Rattle.plain_operators.proofs.grouped.row_of_group.Goals as goal

pub row_of_block-requires-clause-of_keys : goal.row_of_block-requires-clause-of_keys
row_of_block-requires-clause-of_keys c =
    let now = λ (row : Bor (List ℕ)). row.now in
    let P : List ℕ → Type 0 = λ row. HasColumns c.args.keys.now (length row) in
    picked_all P now c.args.rows.now c.deref.result.now c.args.places.now c.requires.of_keys c.requires.of_rows.within (ap (map now) c.deref.ensures.value ∙ c.in_ok-block.ensures)

pub row_of_block-requires-clause-of_aggregates : goal.row_of_block-requires-clause-of_aggregates
row_of_block-requires-clause-of_aggregates c =
    let now = λ (row : Bor (List ℕ)). row.now in
    let P : List ℕ → Type 0 = λ row. All (IsAggregateOf (length row)) c.args.aggregates.now in
    picked_all P now c.args.rows.now c.deref.result.now c.args.places.now c.requires.of_aggregates c.requires.of_rows.within (ap (map now) c.deref.ensures.value ∙ c.in_ok-block.ensures)

pub returns : goal.returns
returns c =
    let now = λ (row : Bor (List ℕ)). row.now in
    subst (λ block. IfOk c.row_of_block.result (λ words. words.items ≡ block_row c.args.keys.now c.args.aggregates.now block)) (ap (map now) c.deref.ensures.value ∙ c.in_ok-block.ensures) c.row_of_block.ensures
