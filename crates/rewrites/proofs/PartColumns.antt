-- The columns of a part's table: those of its node, as the operators of split nodes ask.
use Rattle.std.proofs.Common.{◌≡◌, ℕ, ◌<◌, ◌≤◌, true, List, [], ◌∷◌, Option, Some, length, map, take, get_or, refl, sym, ◌∙◌, ap, subst, arith}
use Rattle.std.specs.Prelude.{slice_get}
use Rattle.std.specs.List.{All}
use Rattle.std.specs.Option.{option_map_or}
use Rattle.std.proofs.lemmas.List.{get_or-map, get_or-take, length-map, length-take, length-take-le}
use Rattle.std.proofs.lemmas.List.Elements.{All-head, All-nil}
use Rattle.std.proofs.lemmas.Option.{get_or_from_slice_get, slice_get-get_or, slice_get_within}
use Rattle.words.specs.declared.column.Column.{Column}
use Rattle.tables.specs.Content as table
use Rattle.query_graph.specs.declared.node.Node.{Node}
use Rattle.query_graph.specs.declared.operator.Concat.{Concat}
use Rattle.query_graph.specs.declared.operator.Filter.{Filter}
use Rattle.query_graph.specs.declared.operator.Operator.TheVariants as operators
use Rattle.query_graph.specs.declared.operator.Select.{Select}
use Rattle.query_graph.specs.Content.{Content}
use Rattle.query_graph.specs.IsGraph.{IsGraph}
use Rattle.query_graph.specs.Observers.{sources_of}
use Rattle.plain_operators.specs.Within.{IsItemOf, IsTestOf}
use Rattle.plain_meaning.specs.Columns.{NodesHaveColumns, columns_at, keeps_columns}
use Rattle.plain_meaning.specs.Convert.{item_of, test_of}
use Rattle.plain_meaning.specs.Fits.{FitsEarlier, width_at, widths_before}
use Rattle.plain_meaning.specs.Laws.{NodesFitEarlier}
use Rattle.plain_meaning.specs.Meaning.{rows_of}
use Rattle.plain_meaning.specs.Plain.{rows_of_tables}
use Rattle.rewrites.specs.PartTables.{AreTablesOf}

-- as many tables as nodes at most
pub tables_few : (nodes : List Node) (tables : List table.Content) → AreTablesOf nodes tables → length tables ≤ length nodes
tables_few nodes tables are =
    let long = sym (length-map tables (λ t. t.columns)) ∙ ap (λ l. length l) are ∙ length-map (take (length tables) nodes) (λ n. n.columns) ∙ length-take (length tables) nodes in
    omega arith

pub table_columns : (nodes : List Node) (tables : List table.Content) → AreTablesOf nodes tables → (i : ℕ) (n : Node) (t : table.Content) → i < length tables → slice_get nodes i ≡ Some n → (get_or tables i t).columns ≡ n.columns
table_columns nodes tables are i n t below at =
    let few = tables_few nodes tables are in
    let short = length-take-le (length tables) nodes few in
    sym (get_or-map (λ t. t.columns) tables i t [] below) ∙ ap (λ l. get_or l i []) are ∙ get_or-map (λ n. n.columns) (take (length tables) nodes) i n [] (omega arith)
    ∙ ap (λ m. m.columns) (get_or-take (length tables) nodes i n below ∙ get_or_from_slice_get nodes i n n at)

-- the rows of a table, where they are the first of these
pub table_rows : (tables : List table.Content) (rows : List (List (List ℕ))) (i : ℕ) (t : table.Content) → i < length tables → rows_of_tables tables ≡ take (length tables) rows → (get_or tables i t).rows ≡ rows_of rows i
table_rows tables rows i t below are =
    sym (get_or-map (λ t. t.rows) tables i t [] below) ∙ ap (λ l. get_or l i []) are ∙ get_or-take (length tables) rows i [] below

pub columns_here : (nodes : List Node) (i : ℕ) (n : Node) → slice_get nodes i ≡ Some n → columns_at nodes i ≡ n.columns
columns_here nodes i n at = ap (λ (o : Option Node). option_map_or (λ q. q.columns) o []) at

-- the width of an earlier node
width_earlier : (nodes : List Node) (i s : ℕ) (n : Node) → slice_get nodes i ≡ Some n → s < i → width_at (widths_before nodes i) s ≡ length (columns_at nodes s)
width_earlier nodes i s n at lower =
    let within = slice_get_within nodes i n at in
    let m = get_or nodes s n in
    let found = slice_get-get_or nodes s n (omega arith) in
    let inside : s < length (take i nodes) = omega (arith, length-take-le i nodes (omega arith)) in
    get_or-map (λ q. length q.columns) (take i nodes) s n 0 inside ∙ ap (λ q. length q.columns) (get_or-take i nodes s n lower) ∙ sym (ap (λ l. length l) (columns_here nodes s m found))

module _ (fit : NodesFitEarlier) (have : NodesHaveColumns) (graph : Content) (is_graph : IsGraph graph) (i : ℕ) (n : Node) (at : slice_get graph.nodes i ≡ Some n) where
  fits : FitsEarlier ([] ∷ []) (widths_before graph.nodes i) (length n.columns) n.shape
  fits = fit graph i n ([] ∷ []) is_graph at (λ is. record { some = omega arith; wide = All-nil (λ row. length row ≡ length n.columns) })

  kept : keeps_columns n.shape ≡ true → All (λ s. n.columns ≡ columns_at graph.nodes s) (sources_of n.shape)
  kept keeps = have.kept graph i n (record { is_graph = is_graph; is_node = at }) keeps

  -- over a table of the source's columns
  pub filter_tests : (f : Filter) → n.shape ≡ operators.Filter f → (columns : List Column) → columns ≡ columns_at graph.nodes f.source → All (IsTestOf (length columns)) (map test_of f.tests) × (length columns ≡ length n.columns)
  filter_tests f is columns same =
      let of_filter = subst (FitsEarlier ([] ∷ []) (widths_before graph.nodes i) (length n.columns)) is fits in
      let source = All-head (λ s. n.columns ≡ columns_at graph.nodes s) f.source [] (subst (λ shape. keeps_columns shape ≡ true → All (λ s. n.columns ≡ columns_at graph.nodes s) (sources_of shape)) is kept refl) in
      let long : length columns ≡ length n.columns = ap (λ l. length l) (same ∙ sym source) in
      (subst (λ w. All (IsTestOf w) (map test_of f.tests)) (sym long) of_filter.tests, long)

  pub select_items : (s : Select) → n.shape ≡ operators.Select s → s.source < i → (columns : List Column) → columns ≡ columns_at graph.nodes s.source → All (IsItemOf (length columns)) (map item_of s.items) × (length s.items ≡ length n.columns)
  select_items s is lower columns same =
      let of_select = subst (FitsEarlier ([] ∷ []) (widths_before graph.nodes i) (length n.columns)) is fits in
      let width = width_earlier graph.nodes i s.source n at lower ∙ sym (ap (λ l. length l) same) in
      (subst (λ w. All (IsItemOf w) (map item_of s.items)) width of_select.items, of_select.same)

  -- a concat's sources have its columns
  pub concat_columns : (c : Concat) → n.shape ≡ operators.Concat c → All (λ s. columns_at graph.nodes s ≡ n.columns) c.sources
  concat_columns c is =
      let all = subst (λ shape. keeps_columns shape ≡ true → All (λ s. n.columns ≡ columns_at graph.nodes s) (sources_of shape)) is kept refl in
      λ k d below. sym (all k d below)
