use Rattle.std.proofs.Common.{◌≡◌, ℕ, List, [], ◌++◌, Bor, Vec, Global, vec_len, map, take, length, get_or, sym, ap, ◌∙◌}
use Rattle.std.specs.List.{flat_map}
use Rattle.std.proofs.lemmas.List.{flat_map_more, length-map, map_more}
use Rattle.plain_operators.specs.Limits.{first_of, left_of}
use Rattle.plain_operators.specs.Places.{joined_rows_found}
use Rattle.plain_operators.proofs.Limits.{first_of-append, vec_length}
use Rattle.plain_operators.proofs.joined.rows_found.Goals as goal

pub loop-left-preserved : goal.loop-left-preserved
loop-left-preserved c =
    let now = λ (row : Bor (List ℕ)). row.now in
    let listed = λ (row : Vec ℕ Global). row.items in
    let lefts = c.args.lefts.now in
    let limit = c.args.limit in
    let none : Bor (List ℕ) = record { ref_ptr = (0, 0); now = [] } in
    let left = get_or lefts c.loop-left.left-index none in
    let found = joined_rows_found c.args.left_keys.now c.args.right_keys.now (map now c.args.rights.now) c.args.index.now in
    let before = map now (take c.loop-left.left-index lefts) in
    let made = c.loop-left.made in
    let count : vec_len made ≡ length (first_of limit (flat_map found before)) = vec_length made ∙ sym (length-map made.items listed) ∙ ap length c.loop-left.invariant in
    c.in_ok-add_found.ensures ∙ (λ i. c.loop-left.invariant i ++ first_of (left_of limit (count i)) (found left.now)) ∙ first_of-append limit (flat_map found before) (found left.now)
    ∙ ap (first_of limit) (flat_map_more found [] before left.now ∙ ap (flat_map found) (sym (map_more now lefts c.loop-left.left-index none c.loop-left-test.true)))
