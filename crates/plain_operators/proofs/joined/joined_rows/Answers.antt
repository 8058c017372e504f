use Rattle.std.proofs.Common.{◌≡◌, ℕ, List, Bor, Vec, Global, IfOk, length, map, subst, sym, ap, ◌∙◌}
use Rattle.std.specs.List.{All, flat_map}
use Rattle.plain_operators.specs.Columns.{cut}
use Rattle.plain_operators.specs.Limits.{first_of}
use Rattle.plain_operators.specs.Operators.{joined_rows, joined_rows_of, left_keys, right_keys}
use Rattle.plain_operators.specs.Places.{joined_rows_found}
use Rattle.plain_operators.specs.Within.{HasColumns}
use Rattle.plain_operators.proofs.Lists.{flat_map_same}
use Rattle.plain_operators.proofs.Picks.{joined_by_places}
use Rattle.plain_operators.proofs.joined.joined_rows.Goals as goal

now : Bor (List ℕ) → List ℕ
now row = row.now

listed : Vec ℕ Global → List ℕ
listed row = row.items

pub rows_found-requires-clause-of_left : goal.rows_found-requires-clause-of_left
rows_found-requires-clause-of_left c =
    subst (λ columns. All (λ row. HasColumns columns (length row.now)) c.args.lefts.now) (sym (c.deref-5.ensures.value ∙ c.in_ok-left_keys.ensures)) c.requires.of_left

pub returns : goal.returns
unfolding now listed
returns c =
    let keys = c.args.keys.now in
    let lefts = map now c.args.lefts.now in
    let rights = map now c.args.rights.now in
    let left : c.deref-5.result.now ≡ left_keys keys = c.deref-5.ensures.value ∙ c.in_ok-left_keys.ensures in
    let right : c.deref-6.result.now ≡ right_keys keys = c.deref-6.ensures.value ∙ c.in_ok-right_keys.ensures in
    let columns : c.deref-2.result.now ≡ right_keys keys = c.deref-2.ensures.value ∙ c.in_ok-right_keys.ensures in
    let index : c.in_ok-index.index ≡ map (cut (right_keys keys)) rights = c.in_ok-index.ensures ∙ ap (map now) c.deref-4.ensures.value ∙ c.in_ok-cut.ensures ∙ ap (λ l. map (cut l) rights) columns in
    let found = joined_rows_found (left_keys keys) (right_keys keys) rights (map (cut (right_keys keys)) rights) in
    let all : flat_map (joined_rows_found c.deref-5.result.now c.deref-6.result.now rights c.in_ok-index.index) lefts ≡ joined_rows keys lefts rights =
    (λ i. flat_map (joined_rows_found (left i) (right i) rights (index i)) lefts) ∙ flat_map_same found (joined_rows_of keys rights) (λ row. sym (joined_by_places keys rights row)) lefts in
    subst (λ l. IfOk c.rows_found.result (λ made. map listed made.items ≡ first_of c.args.limit l)) all c.rows_found.ensures
