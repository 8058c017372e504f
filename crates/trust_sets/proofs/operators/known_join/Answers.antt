use Rattle.std.proofs.Common.{◌≡◌, ◌++◌, map, ap, ◌∙◌}
use Rattle.query_graph.specs.declared.parties.Parties.{Parties}
use Rattle.plain_operators.specs.Operators.{left_keys, right_keys}
use Rattle.trust_sets.specs.declared.known.Known.{Known}
use Rattle.trust_sets.specs.Known.{known_join_of, other_sets}
use Rattle.trust_sets.proofs.Steps.{added_twice}
use Rattle.trust_sets.proofs.operators.known_join.Goals as goal

pub returns : goal.returns
returns c =
    let left = c.args.left.now in
    let right = c.args.right.now in
    let keys = c.args.keys.now in
    let rows : Parties = c.joined_set-rows.result in
    let keyed = c.in_ok-columns.columns.items in
    let lefts = c.add_others.new.sets.items in
    let all = c.add_others-2.new.sets.items in
    let with_left : lefts ≡ keyed ++ other_sets left (left_keys keys) rows =
    c.in_ok-add_others.ensures ∙ ap (λ k. keyed ++ other_sets left k rows) (c.deref.ensures.value ∙ c.in_ok-left_keys.ensures) in
    let with_right : all ≡ lefts ++ other_sets right (right_keys keys) rows =
    c.in_ok-add_others-2.ensures ∙ ap (λ k. lefts ++ other_sets right k rows) (c.deref-2.ensures.value ∙ c.in_ok-right_keys.ensures) in
    let columns = added_twice (map (λ key. rows) keys) (other_sets left (left_keys keys) rows) (other_sets right (right_keys keys) rows) keyed lefts all c.in_ok-columns.ensures with_left with_right in
    let made : c.known.result ≡ known_join_of left right keys rows = c.known.ensures ∙ ap (λ l. let k : Known = record { rows = rows; columns = l } in k) columns in
    made ∙ ap (known_join_of left right keys) c.joined_set-rows.ensures
