use Rattle.std.proofs.Common.{◌≡◌, ℕ, List, [], ◌∷◌, ◌++◌, cond, get_or, ap, sym, ◌∙◌}
use Rattle.std.proofs.lemmas.List.{append-nil}
use Rattle.query_graph.specs.declared.parties.Parties.{Parties}
use Rattle.query_graph.specs.Parties.{has, no_party}
use Rattle.trust_sets.specs.Known.{column_set}
use Rattle.trust_sets.proofs.KnownColumns.{kept_more}
use Rattle.trust_sets.proofs.cut_rows.columns_known_to.Goals as goal
use Rattle.trust_sets.proofs.cut_rows.columns_known_to.Goals.{then-contains+in_ok-push, else-contains}

pub loop-column-preserved : goal.loop-column-preserved
loop-column-preserved c =
    let column = c.loop-column.column in
    let items = c.loop-column.columns.items in
    let test = λ (number : ℕ). has (column_set c.args.known.now number) c.args.party in
    let set : c.contains.result ≡ test column = c.contains.ensures ∙ ap (λ (sets : List Parties). has (get_or sets column no_party) c.args.party) c.as_slice-set-items.ensures.value in
    let pushed : c.if-contains.columns.items ≡ items ++ cond (test column) (column ∷ []) [] = elim c.if-contains.branch [
      | then-contains+in_ok-push w ↦ ap (λ v. v.items) w.columns-is ∙ w.in_ok-push.ensures.items ∙ ap (λ b. items ++ cond b (column ∷ []) []) (sym w.if-contains.true ∙ set)
      | else-contains w ↦ ap (λ v. v.items) w.columns-is ∙ sym (append-nil items) ∙ ap (λ b. items ++ cond b (column ∷ []) []) (sym w.if-contains.false ∙ set)
    ] in
    pushed ∙ ap (λ l. l ++ cond (test column) (column ∷ []) []) c.loop-column.invariant ∙ sym (kept_more test column)
