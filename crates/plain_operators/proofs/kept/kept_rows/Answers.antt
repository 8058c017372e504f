use Rattle.std.proofs.Common.{◌≡◌, ℕ, List, [], ◌∷◌, ◌++◌, Bor, cond, map, take, drop, length, get_or, sym, ap, ◌∙◌}
use Rattle.std.proofs.lemmas.List.{append-nil, length-map, map-append, map_more, map_push, take-append-drop}
use Rattle.std.specs.List.{list_all}
use Rattle.std.proofs.lemmas.List.Elements.{filter-append}
use Rattle.plain_operators.specs.Items.{holds_of}
use Rattle.plain_operators.specs.Limits.{first_of, is_reached}
use Rattle.plain_operators.specs.Operators.{kept_rows}
use Rattle.listed.specs.Lists.{lent}
use Rattle.plain_operators.proofs.Limits.{full, room, vec_length}
use Rattle.plain_operators.proofs.Steps.{kept_more}
use Rattle.plain_operators.proofs.kept.kept_rows.Goals as goal
use Rattle.plain_operators.proofs.kept.kept_rows.Goals.{then-all_hold+in_ok-push, else-all_hold}

pub returns-then-is_reached : goal.returns-then-is_reached
returns-then-is_reached c =
    let now = λ (row : Bor (List ℕ)). row.now in
    let rows = c.args.rows.now in
    let limit = c.args.limit in
    let tests = map holds_of c.args.tests.now in
    let before = lent (take c.loop-row.row-index rows) in
    let after = lent (drop c.loop-row.row-index rows) in
    let kept = c.loop-row.kept in
    let count : c.len.result ≡ length (first_of limit (kept_rows tests before)) = c.len.ensures ∙ vec_length kept ∙ sym (length-map kept.items now) ∙ ap length c.loop-row.invariant in
    let reached = ap (is_reached limit) (sym count) ∙ sym c.is_reached.ensures ∙ c.if-is_reached.true in
    let all : lent rows ≡ before ++ after = ap lent (sym (take-append-drop c.loop-row.row-index rows)) ∙ map-append now (take c.loop-row.row-index rows) (drop c.loop-row.row-index rows) in
    c.loop-row.invariant ∙ sym (full limit (kept_rows tests before) (kept_rows tests after) reached)
    ∙ ap (first_of limit) (sym (filter-append (λ row. list_all (λ test. test row) tests) before after) ∙ ap (kept_rows tests) (sym all))

pub loop-row-preserved : goal.loop-row-preserved
loop-row-preserved c =
    let now = λ (row : Bor (List ℕ)). row.now in
    let rows = c.args.rows.now in
    let limit = c.args.limit in
    let none : Bor (List ℕ) = record { ref_ptr = (0, 0); now = [] } in
    let row = get_or rows c.loop-row.row-index none in
    let kept = c.loop-row.kept in
    let tests = c.args.tests.now in
    let before = lent (take c.loop-row.row-index rows) in
    let old = kept_rows (map holds_of tests) before in
    let left : lent c.if-all_hold.kept.items ≡ lent kept.items ++ cond c.all_hold.result (row.now ∷ []) [] = elim c.if-all_hold.branch [
      | then-all_hold+in_ok-push w ↦ ap (λ v. map now v.items) w.kept-is ∙ ap (map now) w.in_ok-push.ensures.items ∙ map_push now kept.items row ∙ ap (λ b. lent kept.items ++ cond b (row.now ∷ []) []) (sym w.if-all_hold.true)
      | else-all_hold w ↦ ap (λ v. map now v.items) w.kept-is ∙ sym (append-nil (lent kept.items)) ∙ ap (λ b. lent kept.items ++ cond b (row.now ∷ []) []) (sym w.if-all_hold.false)
    ] in
    let count : c.len.result ≡ length (first_of limit old) = c.len.ensures ∙ vec_length kept ∙ sym (length-map kept.items now) ∙ ap length c.loop-row.invariant in
    let short = ap (is_reached limit) (sym count) ∙ sym c.is_reached.ensures ∙ c.if-is_reached.false in
    let one = room limit old row.now c.all_hold.result short in
    let more = kept_more tests before row.now in
    left ∙ ap (λ l. l ++ cond c.all_hold.result (row.now ∷ []) []) c.loop-row.invariant ∙ sym one
    ∙ ap (first_of limit) (ap (λ b. old ++ cond b (row.now ∷ []) []) c.all_hold.ensures ∙ sym more ∙ ap (kept_rows (map holds_of tests)) (sym (map_more now rows c.loop-row.row-index none c.loop-row-test.true)))
