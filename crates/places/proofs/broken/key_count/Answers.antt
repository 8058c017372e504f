use Rattle.std.proofs.Common.{◌≡◌, ℕ, List, Bor, length, map, sym, ap, ◌∙◌, subst}
use Rattle.std.proofs.lemmas.Result.{IfOk-weaker}
use Rattle.plain_operators.specs.Operators.{key_lists}
use Rattle.plain_operators.specs.Within.{HasColumns}
use Rattle.places.specs.Excess.{party_rows}
use Rattle.places.proofs.PartyRows.{fits_lent}
use Rattle.places.proofs.broken.key_count.Goals as goal

pub group_count-requires-clause-of_keys : goal.group_count-requires-clause-of_keys
group_count-requires-clause-of_keys c =
    let table = c.in_ok-table.table in
    let now = λ (row : Bor (List ℕ)). row.now in
    let keys = c.as_slice.result.now in
    fits_lent (HasColumns keys) now c.deref.result.now table.rows (length table.columns) (ap (map now) c.deref.ensures.value ∙ c.in_ok-lent.ensures.rows) c.lent_rows.ensures.rectangular
    (subst (λ k. HasColumns k (length table.columns)) (sym c.as_slice.ensures.value) (subst (λ l. HasColumns c.args.group.now.keys (length l)) (sym c.in_ok-table.ensures.columns) c.requires.keys))

pub returns : goal.returns
returns c = λ world plain.
    let now = λ (row : Bor (List ℕ)). row.now in
    let same = ap (map now) c.deref.ensures.value ∙ c.in_ok-lent.ensures.rows ∙ c.in_ok-table.ensures.rows world plain in
    let rows = party_rows c.args.graph.now world c.args.group.now.source c.args.party in
    IfOk-weaker c.group_count.result (λ n. n ≡ length (key_lists c.as_slice.result.now (map now c.deref.result.now))) (λ n. n ≡ length (key_lists c.args.group.now.keys rows))
    (λ n is. is ∙ (λ k. length (key_lists (c.as_slice.ensures.value k) (same k)))) c.group_count.ensures
