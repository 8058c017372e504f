use Rattle.std.proofs.Common.{◌≡◌, ℕ, List, Vec, Global, ap, get_or, map, nat_cmp, rules, refl, sym, ◌∙◌}
use Rattle.std.specs.Iterator.Adapters.{map_callee}
use Rattle.std.proofs.lemmas.Iterator.{YieldsList-from_map, YieldsList-from_slice}
use Rattle.std.proofs.lemmas.Iterator.Search.{cmp_from_yields_List}
use Rattle.bags.specs.Sorted.{row_cmp}
use Rattle.padded.proofs.Elements.{map_map}
use Rattle.padded.proofs.told.compare_rows.Goals as goal

pub returns : goal.returns
returns c =
    let columns = c.args.columns.now in
    let word = λ (at : ℕ) (column : Vec ℕ Global). get_or column.items at 0 in
    let row = λ (at : ℕ). map_map (λ (column : List ℕ). get_or column at 0) (λ (column : Vec ℕ Global). column.items) columns in
    let compared : c.cmp.result ≡ row_cmp (map (word c.args.place) columns) (map (word c.args.other) columns) =
    cmp_from_yields_List (λ x y. y ≡ x) _ nat_cmp _ c.cmp.ensures.ran
    (YieldsList-from_map _ (word c.args.place) (YieldsList-from_slice columns (cc)) c.map-row.ensures.closure (λ x r q k. search rules))
    (λ it e. YieldsList-from_map _ (word c.args.other) (YieldsList-from_slice columns (cc)) (ap map_callee e ∙ c.map.ensures.closure) (λ x r q k. search rules)) (λ x y. refl) in
    compared ∙ (λ i. row_cmp (sym (row c.args.place) i) (sym (row c.args.other) i))
