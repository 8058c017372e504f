use Rattle.std.proofs.Common.{◌≡◌, [], ◌∷◌, ◌++◌, not, cond, sym, ap, ◌∙◌}
use Rattle.std.proofs.lemmas.List.{append-nil, append_assoc}
use Rattle.plain_operators.specs.Columns.{cut, other_columns, word_at}
use Rattle.plain_operators.proofs.Steps.{others_more}
use Rattle.plain_operators.proofs.cut.add_others.Goals as goal
use Rattle.plain_operators.proofs.cut.add_others.Goals.{then-not-is_key+in_ok-push, else-not-is_key}

pub loop-column-preserved : goal.loop-column-preserved
loop-column-preserved c =
    let column = c.loop-column.column in
    let row = c.args.row.now in
    let keys = c.args.keys.now in
    let words = c.loop-column.words.items in
    let left : c.if-not-is_key.words.items ≡ words ++ cond (not c.is_key.result) (word_at column row ∷ []) [] = elim c.if-not-is_key.branch [
      | then-not-is_key+in_ok-push w ↦ ap (λ v. v.items) w.words-is ∙ w.in_ok-push.ensures.items ∙ ap (λ b. words ++ cond b (word_at column row ∷ []) []) (sym (ap not w.if-not-is_key.true))
      | else-not-is_key w ↦ ap (λ v. v.items) w.words-is ∙ sym (append-nil words) ∙ ap (λ b. words ++ cond b (word_at column row ∷ []) []) (sym (ap not w.if-not-is_key.false))
    ] in
    let start = c.args.words.now.items in
    left ∙ (λ i. c.loop-column.invariant i ++ cond (not (c.is_key.ensures i)) (word_at column row ∷ []) []) ∙ append_assoc start (cut (other_columns keys column) row) _ ∙ ap (λ l. start ++ l) (sym (others_more keys column row))
