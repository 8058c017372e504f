use Rattle.std.proofs.Common.{◌≡◌, [], ◌∷◌, ◌++◌, not, cond, get_or, map, sym, ap, ◌∙◌}
use Rattle.std.proofs.lemmas.List.{append-nil, append_assoc}
use Rattle.query_graph.specs.Parties.{common_parties, no_party}
use Rattle.plain_operators.specs.Columns.{other_columns}
use Rattle.trust_sets.specs.Known.{met_with}
use Rattle.trust_sets.proofs.Steps.{other_sets_more}
use Rattle.trust_sets.proofs.columns.add_others.Goals as goal
use Rattle.trust_sets.proofs.columns.add_others.Goals.{then-not-is_key+in_ok-push, else-not-is_key}

pub loop-column-preserved : goal.loop-column-preserved
loop-column-preserved c =
    let column = c.loop-column.column in
    let source = c.args.source.now in
    let keys = c.args.keys.now in
    let one = met_with source c.args.rows column ∷ [] in
    let sets = c.loop-column.sets.items in
    let left : c.if-not-is_key.sets.items ≡ sets ++ cond (not c.is_key.result) one [] = elim c.if-not-is_key.branch [
      | then-not-is_key+in_ok-push w ↦
          let met = w.meet.ensures ∙ ap (λ l. common_parties c.args.rows (get_or l column no_party)) c.as_slice-set-items.ensures.value in
          ap (λ v. v.items) w.sets-is ∙ w.in_ok-push.ensures.items ∙ ap (λ s. sets ++ s ∷ []) met ∙ ap (λ b. sets ++ cond b one []) (sym (ap not w.if-not-is_key.true))
      | else-not-is_key w ↦ ap (λ v. v.items) w.sets-is ∙ sym (append-nil sets) ∙ ap (λ b. sets ++ cond b one []) (sym (ap not w.if-not-is_key.false))
    ] in
    let start = c.args.sets.now.items in
    left ∙ (λ i. c.loop-column.invariant i ++ cond (not (c.is_key.ensures i)) one []) ∙ append_assoc start (map (met_with source c.args.rows) (other_columns keys column)) _ ∙ ap (λ l. start ++ l) (sym (other_sets_more source keys c.args.rows column))
