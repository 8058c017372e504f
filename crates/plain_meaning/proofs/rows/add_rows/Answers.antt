use Rattle.std.proofs.Common.{◌≡◌, ◌<◌, ◌+◌, ℕ, List, [], ◌∷◌, ◌++◌, Bor, map, take, length, get_or, sym, ap, ◌∙◌, arith}
use Rattle.std.proofs.lemmas.List.{append_assoc, map_push, take_more}
use Rattle.std.proofs.lemmas.Option.{get_or_from_slice_get}
use Rattle.plain_meaning.proofs.rows.add_rows.Goals as goal

pub loop-number-preserved : goal.loop-number-preserved
loop-number-preserved c =
    let now = λ (row : Bor (List ℕ)). row.now in
    let rows = c.args.table.now.rows in
    let number = c.loop-number.number in
    let start = map now c.args.rows.now.items in
    let inside : number < length rows = omega (arith, c.rows-number-end.ensures.count, c.loop-number-test.true) in
    let at : get_or rows number [] ≡ c.row.result.now = get_or_from_slice_get rows number c.row.result.now [] c.row.ensures.words in
    let more : take (number + 1) rows ≡ take number rows ++ c.row.result.now ∷ [] = take_more rows number [] inside ∙ ap (λ row. take number rows ++ row ∷ []) at in
    ap (map now) c.in_ok-push.ensures.items ∙ map_push now c.loop-number.rows.items c.row.result ∙ ap (λ l. l ++ c.row.result.now ∷ []) c.loop-number.invariant
    ∙ append_assoc start (take number rows) (c.row.result.now ∷ []) ∙ ap (λ l. start ++ l) (sym more)
