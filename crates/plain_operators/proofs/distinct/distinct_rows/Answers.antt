use Rattle.std.proofs.Common.{◌≡◌, ◌+◌, ℕ, List, [], ◌∷◌, ◌++◌, Bor, true, cond, not, map, take, drop, length, get_or, sym, ap, subst, ◌∙◌}
use Rattle.std.specs.List.{filter}
use Rattle.std.specs.HashSet.{contains_by}
use Rattle.std.proofs.lemmas.List.{append-nil, length-map, map-append, map_more, map_push, take-append-drop, take_all}
use Rattle.bags.specs.Bag.{row_eq}
use Rattle.plain_operators.specs.Limits.{first_of, is_reached}
use Rattle.plain_operators.specs.Operators.{distinct_rows}
use Rattle.listed.specs.Lists.{lent}
use Rattle.plain_operators.proofs.DistinctRows.{WalksDistinct, among, distinct-append, walks_more}
use Rattle.plain_operators.proofs.Limits.{full, room, vec_length}
use Rattle.plain_operators.proofs.distinct.distinct_rows.Goals as goal
use Rattle.plain_operators.proofs.distinct.distinct_rows.Goals.{then-branch+in_ok-push, else-branch}

pub returns-then-is_reached : goal.returns-then-is_reached
returns-then-is_reached c =
    let now = λ (row : Bor (List ℕ)). row.now in
    let rows = c.args.rows.now in
    let limit = c.args.limit in
    let before = lent (take c.loop-row.row-index rows) in
    let after = lent (drop c.loop-row.row-index rows) in
    let kept = lent c.loop-row.kept.items in
    let few = c.loop-row.invariant.few in
    let others = filter (λ row. not (among before row)) (distinct_rows after) in
    let count : c.len.result ≡ length (first_of limit kept) = c.len.ensures ∙ vec_length c.loop-row.kept ∙ sym (length-map c.loop-row.kept.items now) ∙ ap length (sym few) in
    let reached = ap (is_reached limit) (sym count) ∙ sym c.is_reached.ensures ∙ c.if-is_reached.true in
    let all : lent rows ≡ before ++ after = ap lent (sym (take-append-drop c.loop-row.row-index rows)) ∙ map-append now (take c.loop-row.row-index rows) (drop c.loop-row.row-index rows) in
    sym few ∙ sym (full limit kept others reached)
    ∙ ap (first_of limit) (ap (λ l. l ++ others) c.loop-row.invariant.walked.once ∙ sym (distinct-append before after) ∙ ap distinct_rows (sym all))

pub returns : goal.returns
returns c =
    let rows = c.args.rows.now in
    let all : take c.loop-row.row-index rows ≡ rows = take_all c.loop-row.row-index rows c.loop-row-test.false in
    sym c.loop-row.invariant.few ∙ ap (first_of c.args.limit) (c.loop-row.invariant.walked.once ∙ ap (λ l. distinct_rows (lent l)) all)

pub loop-row-preserved : goal.loop-row-preserved
loop-row-preserved c =
    let now = λ (row : Bor (List ℕ)). row.now in
    let rows = c.args.rows.now in
    let limit = c.args.limit in
    let none : Bor (List ℕ) = record { ref_ptr = (0, 0); now = [] } in
    let row = get_or rows c.loop-row.row-index none in
    let seen_before = λ (other : List ℕ). contains_by (λ (k : Bor (List ℕ)). row_eq other k.now) c.loop-row.seen in
    let seen_after = λ (other : List ℕ). contains_by (λ (k : Bor (List ℕ)). row_eq other k.now) c.insert.new.self in
    let updated : (other : List ℕ) → seen_after other ≡ cond (row_eq row.now other) true (seen_before other) = λ other.
    c.in_ok-insert.ensures.updates.0 (record { ref_ptr = (0, 0); now = other }) in
    let kept = lent c.loop-row.kept.items in
    let added = c.in_ok-insert.field-0 in
    let before = lent (take c.loop-row.row-index rows) in
    let more = walks_more seen_before seen_after kept before row.now added c.loop-row.invariant.walked c.in_ok-insert.ensures.added updated in
    let left : lent c.if-branch.kept.items ≡ kept ++ cond added (row.now ∷ []) [] = elim c.if-branch.branch [
      | then-branch+in_ok-push w ↦ ap (λ v. map now v.items) w.kept-is ∙ ap (map now) w.in_ok-push.ensures.items ∙ map_push now c.loop-row.kept.items row ∙ ap (λ b. kept ++ cond b (row.now ∷ []) []) (sym w.if-branch.true)
      | else-branch w ↦ ap (λ v. map now v.items) w.kept-is ∙ sym (append-nil kept) ∙ ap (λ b. kept ++ cond b (row.now ∷ []) []) (sym w.if-branch.false)
    ] in
    let few = c.loop-row.invariant.few in
    let count : c.len.result ≡ length (first_of limit kept) = c.len.ensures ∙ vec_length c.loop-row.kept ∙ sym (length-map c.loop-row.kept.items now) ∙ ap length (sym few) in
    let short = ap (is_reached limit) (sym count) ∙ sym c.is_reached.ensures ∙ c.if-is_reached.false in
    let one = room limit kept row.now added short in
    record {
      few = ap (first_of limit) left ∙ one ∙ ap (λ l. l ++ cond added (row.now ∷ []) []) few ∙ sym left;
      walked = subst (λ l. WalksDistinct seen_after l (lent (take (c.loop-row.row-index + 1) rows))) (sym left)
          (subst (WalksDistinct seen_after (kept ++ cond added (row.now ∷ []) [])) (sym (map_more now rows c.loop-row.row-index none c.loop-row-test.true)) more);
    }
