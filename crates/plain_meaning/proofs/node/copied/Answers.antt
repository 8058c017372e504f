use Rattle.std.proofs.Common.{◌≡◌, ℕ, List, [], ◌++◌, Some, Bor, IfOk, map, drop, length, get_or, refl, subst, sym, ap, ◌∙◌, add-zero}
use Rattle.std.specs.Prelude.{slice_get}
use Rattle.std.specs.Option.{option_map}
use Rattle.std.proofs.lemmas.List.{get_or-drop}
use Rattle.std.proofs.lemmas.Option.{get_or_from_slice_get, slice_get-map}
use Rattle.tables.specs.Content.{Content}
use Rattle.plain_meaning.proofs.Widths.{wide_rows}
use Rattle.plain_meaning.proofs.node.copied.Goals as goal

first_file : (files : List Content) (relation : ℕ) (file : Content) → slice_get files relation ≡ Some file → get_or (drop relation (map (λ t. t.rows) files)) 0 [] ≡ file.rows
first_file files relation file e =
    let world = map (λ (t : Content). t.rows) files in
    get_or-drop relation world 0 [] ∙ ap (λ n. get_or world n []) (add-zero relation)
    ∙ get_or_from_slice_get world relation file.rows [] (slice_get-map (λ (t : Content). t.rows) files relation ∙ ap (option_map (λ (t : Content). t.rows)) e)

pub table_of_lent-requires : goal.table_of_lent-requires
table_of_lent-requires c =
    let now = λ (row : Bor (List ℕ)). row.now in
    let file = first_file c.args.world.now c.args.relation c.table.result.now c.table.ensures.file in
    let lent = ap (map now) c.deref.ensures.value ∙ c.in_ok-add_rows.ensures.rows ∙ ap (λ l. map now l ++ c.table.result.now.rows) c.new-rows.ensures.items ∙ sym file in
    wide_rows now c.deref.result.now (get_or (drop c.args.relation (map (λ t. t.rows) c.args.world.now)) 0 []) (length c.args.columns.items) (length c.args.columns.items) lent c.requires.wide refl

pub returns : goal.returns
returns c =
    let now = λ (row : Bor (List ℕ)). row.now in
    let file = first_file c.args.world.now c.args.relation c.table.result.now c.table.ensures.file in
    let lent = ap (map now) c.deref.ensures.value ∙ c.in_ok-add_rows.ensures.rows ∙ ap (λ l. map now l ++ c.table.result.now.rows) c.new-rows.ensures.items ∙ sym file in
    let made : List (List ℕ) → Content = λ rows. record { columns = c.args.columns.items; rows = rows } in
    subst (λ rows. IfOk c.table_of_lent.result (λ table. table ≡ made rows)) lent c.table_of_lent.ensures
