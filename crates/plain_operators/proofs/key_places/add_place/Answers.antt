use Rattle.std.proofs.Common.{◌<◌, ℕ, [], ◌∷◌, ◌++◌, Vec, Global, map, set, length, sym, ap, ◌∙◌, arith}
use Rattle.std.proofs.lemmas.List.{get_or-map, map-set}
use Rattle.plain_operators.proofs.key_places.add_place.Goals as goal

pub returns : goal.returns
returns c =
    let listed = λ (places : Vec ℕ Global). places.items in
    let groups = c.args.groups.now in
    let inside : c.args.number < length groups.items = omega (arith, groups.ok.0) in
    let own = get_or-map listed groups.items c.args.number c.index_mut.result.now [] inside in
    map-set listed groups.items c.args.number c.push.new.self ∙ ap (set (map listed groups.items) c.args.number) (c.in_ok-push.ensures.items ∙ ap (λ l. l ++ c.args.place ∷ []) (ap listed c.index_mut.ensures.value ∙ sym own))
