use Rattle.std.proofs.Common.{◌≡◌, ℕ, List, [], Bor, IfOk, map, length, subst, sym, ap, ◌∙◌}
use Rattle.std.specs.List.{All}
use Rattle.std.proofs.lemmas.List.{length-map}
use Rattle.std.proofs.lemmas.List.Elements.{All-same}
use Rattle.plain_operators.specs.Columns.{cut}
use Rattle.plain_operators.specs.Limits.{first_of}
use Rattle.plain_operators.specs.Places.{ArePlaces, grouped_places, row_of_places}
use Rattle.listed.specs.Lists.{lent, owned}
use Rattle.plain_operators.proofs.GroupPlaces.{All-unmap, group_by_places, groups_are_places}
use Rattle.plain_operators.proofs.Limits.{All-first_of, first_of-map}
use Rattle.plain_operators.proofs.Lists.{map_map}
use Rattle.plain_operators.proofs.grouped.grouped_rows.Goals as goal

pub rows_of_groups-requires-clause-of_rows : goal.rows_of_groups-requires-clause-of_rows
rows_of_groups-requires-clause-of_rows c =
    let rows = lent c.args.rows.now in
    let cuts = map (cut c.args.keys.now) rows in
    let limit = c.args.limit in
    let cut_rows : lent c.deref-2.result.now ≡ cuts = ap lent c.deref-2.ensures.value ∙ c.in_ok-cut.ensures in
    let groups : owned c.deref-3.result.now ≡ grouped_places cuts = ap owned c.deref-3.ensures.value ∙ c.in_ok-groups.ensures ∙ ap grouped_places cut_rows in
    let all = subst (λ n. All (ArePlaces n) (grouped_places cuts)) (length-map c.args.rows.now (λ (row : Bor (List ℕ)). row.now)) (groups_are_places c.args.keys.now rows) in
    let P = ArePlaces (length c.args.rows.now) in
    let each = All-unmap P (λ places. places.items) [] c.deref-3.result.now (All-same P (owned c.deref-3.result.now) (grouped_places cuts) groups all) in
    All-same (λ places. P places.items) c.first_of.result.now (first_of limit c.deref-3.result.now) c.first_of.ensures (All-first_of limit (λ places. P places.items) c.deref-3.result.now each)

pub returns : goal.returns
returns c =
    let rows = lent c.args.rows.now in
    let keys = c.args.keys.now in
    let limit = c.args.limit in
    let cuts = map (cut keys) rows in
    let made = row_of_places keys c.args.aggregates.now rows in
    let cut_rows : lent c.deref-2.result.now ≡ cuts = ap lent c.deref-2.ensures.value ∙ c.in_ok-cut.ensures in
    let groups : owned c.deref-3.result.now ≡ grouped_places cuts = ap owned c.deref-3.ensures.value ∙ c.in_ok-groups.ensures ∙ ap grouped_places cut_rows in
    let all = sym (map_map made (λ places. places.items) c.deref-3.result.now) ∙ ap (map made) groups ∙ group_by_places keys c.args.aggregates.now rows in
    let first = ap (map (λ places. made places.items)) c.first_of.ensures ∙ sym (first_of-map limit (λ places. made places.items) c.deref-3.result.now) ∙ ap (first_of limit) all in
    subst (λ l. IfOk c.rows_of_groups.result (λ rows. owned rows.items ≡ l)) first c.rows_of_groups.ensures
