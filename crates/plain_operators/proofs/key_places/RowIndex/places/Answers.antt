use Rattle.std.proofs.Common.{◌<◌, ℕ, [], Vec, Global, length, sym, ap, ◌∙◌, arith}
use Rattle.std.proofs.lemmas.List.{get_or-map, length-map}
use Rattle.plain_operators.specs.Places.{places_with}
use Rattle.plain_operators.proofs.KeyPlaces.{places_known, places_missing}
use Rattle.plain_operators.proofs.key_places.RowIndex.places.Goals as goal

pub index-requires : goal.index-requires
index-requires c =
    let listed = λ (places : Vec ℕ Global). places.items in
    let known = places_known _ _ _ c.self.invariant c.args.row.now c.in-Some.number (sym c.get.ensures.value ∙ sym c.copied.ensures ∙ c.in-Some.is) in
    let count = length-map c.self.inside.groups.items listed in
    omega (arith, known.0, c.self.inside.groups.ok.0)

pub returns-in-Some : goal.returns-in-Some
returns-in-Some c =
    let listed = λ (places : Vec ℕ Global). places.items in
    let groups = c.self.inside.groups in
    let known = places_known _ _ _ c.self.invariant c.args.row.now c.in-Some.number (sym c.get.ensures.value ∙ sym c.copied.ensures ∙ c.in-Some.is) in
    let count = length-map groups.items listed in
    let inside : c.in-Some.number < length groups.items = omega (arith, known.0) in
    let own = get_or-map listed groups.items c.in-Some.number c.index.result.now [] inside in
    c.as_slice.ensures.value ∙ ap listed c.index.ensures ∙ sym own ∙ known.1 ∙ ap (λ rows. places_with rows c.args.row.now) c.self.view_is

pub returns-in-None : goal.returns-in-None
returns-in-None c =
    let missing = places_missing _ _ _ c.self.invariant c.args.row.now (sym c.get.ensures.value ∙ sym c.copied.ensures ∙ c.in-None.is) in
    sym missing ∙ ap (λ rows. places_with rows c.args.row.now) c.self.view_is
