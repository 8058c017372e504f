use Rattle.std.proofs.Common.{ℕ, List, Bor, Vec, Global, map, sym, ◌∙◌}
use Rattle.std.proofs.lemmas.List.{length-map}
use Rattle.places.proofs.PartyRows.{groups_counted}
use Rattle.places.proofs.broken.group_count.Goals as goal

pub returns : goal.returns
returns c =
    let listed = λ (v : Vec ℕ Global). v.items in
    let groups = c.in_ok-groups.groups in
    c.len.ensures ∙ groups.ok.0 ∙ sym (length-map groups.items listed) ∙ groups_counted c.args.keys.now c.args.aggregates.now (map (λ (row : Bor (List ℕ)). row.now) c.args.rows.now) (map listed groups.items) c.in_ok-groups.ensures
