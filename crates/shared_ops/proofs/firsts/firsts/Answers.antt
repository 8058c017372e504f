use Rattle.std.proofs.Common.{◌≡◌, ℕ, ◌+◌, ◌*◌, ◌≤◌, List, length, sym, ap, ◌∙◌, subst, arith}
use Rattle.std.proofs.lemmas.List.{length-map}
use Rattle.plain_operators.specs.Operators.{left_keys, right_keys}
use Rattle.plain_operators.specs.Within.{HasColumns}
use Rattle.shared_ops.specs.declared.firsts.FirstRows.{FirstRows}
use Rattle.shared_ops.specs.Groups.{with_themselves}
use Rattle.shared_ops.specs.Pairs.{IsMatched}
use Rattle.shared_ops.proofs.FirstTables.{firsts_are}
use Rattle.shared_ops.proofs.Flags.{lefts_of, rights_of}
use Rattle.shared_ops.proofs.GroupCosts.{firsts_cost}
use Rattle.shared_ops.proofs.Growing.{grows_then}
use Rattle.shared_ops.proofs.firsts.firsts.Goals as goal

within_left : (pairs : List (ℕ × ℕ)) (keys : List ℕ) (width : ℕ) → pairs ≡ with_themselves keys → HasColumns keys width → HasColumns (left_keys pairs) width
within_left pairs keys width is h = subst (λ (columns : List ℕ). HasColumns columns width) (sym (ap left_keys is ∙ lefts_of keys)) h

within_right : (pairs : List (ℕ × ℕ)) (keys : List ℕ) (width : ℕ) → pairs ≡ with_themselves keys → HasColumns keys width → HasColumns (right_keys pairs) width
within_right pairs keys width is h = subst (λ (columns : List ℕ). HasColumns columns width) (sym (ap right_keys is ∙ rights_of keys)) h

pub matched-requires-clause-left_keys : goal.matched-requires-clause-left_keys
matched-requires-clause-left_keys g c = within_left c.as_slice.result.now c.args.keys.now _ (c.as_slice.ensures.value ∙ c.in_ok-pairs.ensures) c.requires.keys

pub matched-requires-clause-right_keys : goal.matched-requires-clause-right_keys
matched-requires-clause-right_keys g c = within_right c.as_slice.result.now c.args.keys.now _ (c.as_slice.ensures.value ∙ c.in_ok-pairs.ensures) c.requires.keys

-- as many pairs as keys
many : (pairs : List (ℕ × ℕ)) (keys : List ℕ) → pairs ≡ with_themselves keys → length pairs ≡ length keys
many pairs keys is = ap length is ∙ length-map keys (λ key. (key, key))

pub returns-clause-ok : goal.returns-clause-ok
returns-clause-ok g c =
    let w = g.W.Wires in
    let t = c.args.table.now in
    let keys = c.args.keys.now in
    let mid = c.matched.new.wires in
    let made : FirstRows = record { flags = c.in_ok-flags.flags; valid = c.in_ok-valid.valid } in
    let flags = subst (λ (pairs : List (ℕ × ℕ)). IsMatched (w.possible mid) (w.shape mid) pairs t t made.flags) (c.as_slice.ensures.value ∙ c.in_ok-pairs.ensures) c.in_ok-flags.ensures.ok in
    firsts_are w.grown w.possible w.shape mid c.unseen.new.wires keys t made c.item_laws.ensures.items c.table_laws.ensures flags c.in_ok-valid.ensures.grows c.in_ok-valid.ensures.ok

pub returns-clause-cost : goal.returns-clause-cost
returns-clause-cost g c =
    let w = g.W.Wires in
    let n = c.args.table.now.rows in
    let keys = length c.args.keys.now in
    let same = many c.as_slice.result.now c.args.keys.now (c.as_slice.ensures.value ∙ c.in_ok-pairs.ensures) in
    let first : w.ands c.matched.new.wires ≤ w.ands c.args.wires.now + n * n * (7 * keys + 1) = subst (λ (k : ℕ). w.ands c.matched.new.wires ≤ w.ands c.args.wires.now + n * n * (7 * k + 1)) same c.in_ok-flags.ensures.cost in
    firsts_cost (w.ands c.args.wires.now) (w.ands c.matched.new.wires) (w.ands c.unseen.new.wires) n keys first c.in_ok-valid.ensures.cost

pub returns-clause-grows : goal.returns-clause-grows
returns-clause-grows g c =
    let w = g.W.Wires in
    grows_then w.grown w.possible w.shape c.args.wires.now c.matched.new.wires c.unseen.new.wires c.in_ok-flags.ensures.grows c.in_ok-valid.ensures.grows

pub returns-clause-calls : goal.returns-clause-calls
returns-clause-calls g c = omega (arith, c.in_ok-flags.ensures.calls, c.in_ok-valid.ensures.calls, many c.as_slice.result.now c.args.keys.now (c.as_slice.ensures.value ∙ c.in_ok-pairs.ensures))
