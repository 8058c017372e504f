-- The rows of one node, from those of its sources: how wide, how many and how large they are.
use Rattle.std.proofs.Common.{◌≡◌, ℕ, ◌+◌, ◌*◌, ◌^◌, ◌<◌, ◌≤◌, true, false, List, [], ◌∷◌, Option, Some, None, length, map, get_or, sum_by, refl, sym, ◌∙◌, ap, subst, arith, length-append}
use Rattle.std.specs.List.{All, flat_map, list_all}
use Rattle.std.specs.Option.{option_map, option_map_or}
use Rattle.std.specs.Prelude.{slice_get}
use Rattle.std.proofs.Math.Nat.{mul-le-mul}
use Rattle.std.proofs.lemmas.Bool.Decides.{nat_tests}
use Rattle.std.proofs.lemmas.List.{length-map}
use Rattle.std.proofs.lemmas.List.Elements.{All-head, All-map, All-tail, All-weaker}
use Rattle.std.proofs.lemmas.List.Sums.{sum-map, sum_by-cons}
use Rattle.words.specs.Texts.{TextsAreWords}
use Rattle.words.specs.declared.column.Column.{Column}
use Rattle.query_graph.specs.declared.node.Node.{Node}
use Rattle.query_graph.specs.declared.operator.Operator.{Operator}
use Rattle.query_graph.specs.declared.operator.Operator.TheVariants as operators
use Rattle.query_graph.specs.IsGraph as graph
use Rattle.query_graph.specs.Sizes as sizes
use Rattle.plain_operators.specs.declared.aggregate.Aggregate.{Aggregate}
use Rattle.plain_operators.specs.declared.item.Item.{Item}
use Rattle.plain_operators.specs.Items.{holds_of, item_word}
use Rattle.plain_operators.specs.Operators.{distinct_rows, joined_rows, rows_of_items}
use Rattle.plain_operators.specs.Sizes.{AllWide, HasWordConstants, IsOfWords, ItemsGiveWords, OperatorCounts, OperatorsKeepWidths, OperatorsKeepWords}
use Rattle.plain_meaning.specs.Convert.{aggregate_of, item_of, test_of}
use Rattle.plain_meaning.specs.Fits.{FitsEarlier, width_at}
use Rattle.plain_meaning.specs.Laws.{KeepBounds}
use Rattle.plain_operators.specs.OnSources.{group_of_rows}
use Rattle.query_graph.specs.Observers.{is_relation}
use Rattle.plain_meaning.specs.Meaning.{node_rows, rows_of}
use Rattle.plain_meaning.specs.Plain.{is_over}
use Rattle.plain_meaning.proofs.Constants.{items_constants}
use Rattle.plain_meaning.proofs.FitsNode.{source}
use Rattle.plain_meaning.proofs.Widths.{All-flat_map, group_of_rows-AllWide}

-- the laws of the operators and of texts on which these stand
pub record RowLaws : Type 0 where
  pub widths : OperatorsKeepWidths
  pub words : OperatorsKeepWords
  pub items : ItemsGiveWords
  pub counts : OperatorCounts
  pub texts : TextsAreWords

-- widths

module _ (laws : RowLaws) (files : List (List (List ℕ))) (widths : List ℕ) (width : ℕ) (earlier : List (List (List ℕ))) (each : (s : ℕ) → s < length widths → AllWide (width_at widths s) (rows_of earlier s)) where
  pub node_rows-AllWide : (shape : Operator) → FitsEarlier files widths width shape → AllWide width (node_rows shape (get_or files 0 []) earlier)
  node_rows-AllWide (operators.Relation r) h = h.wide
  node_rows-AllWide (operators.Filter f) h =
      let rows = rows_of earlier f.source in
      laws.widths.kept (map holds_of (map test_of f.tests)) width rows (subst (λ w. AllWide w rows) h.same (each f.source h.source))
  node_rows-AllWide (operators.Select s) h =
      let words = map item_word (map item_of s.items) in
      let rows = rows_of earlier s.source in
      let long : length words ≡ width = length-map (map item_of s.items) item_word ∙ length-map s.items item_of ∙ h.same in
      subst (λ w. AllWide w (rows_of_items words rows)) long (laws.widths.items words rows)
  node_rows-AllWide (operators.Concat c) h =
      All-flat_map (λ row. length row ≡ width) (rows_of earlier) c.sources
      (λ k d below. subst (λ w. AllWide w (rows_of earlier (get_or c.sources k d))) (h.same k d below) (each (get_or c.sources k d) (h.sources k d below)))
  node_rows-AllWide (operators.Join j) h =
      let lefts = rows_of earlier j.left in
      let rights = rows_of earlier j.right in
      subst (λ w. AllWide w (joined_rows j.keys lefts rights)) h.same (laws.widths.joined j.keys (width_at widths j.left) (width_at widths j.right) lefts rights (each j.left h.left) (each j.right h.right))
  node_rows-AllWide (operators.Group g) h =
      let aggregates = map aggregate_of g.aggregates in
      let rows = rows_of earlier g.source in
      let long : length g.keys + length aggregates ≡ width = ap (λ n. length g.keys + n) (length-map g.aggregates aggregate_of) ∙ h.same in
      subst (λ w. AllWide w (group_of_rows g.keys aggregates rows)) long (group_of_rows-AllWide laws.widths g.keys aggregates rows)
  node_rows-AllWide (operators.Distinct d) h =
      let rows = rows_of earlier d.source in
      laws.widths.distinct width rows (subst (λ w. AllWide w rows) h.same (each d.source h.source))

-- words

items_words : RowLaws → (items : List Item) (rows : List (List ℕ)) → All HasWordConstants items → All IsOfWords rows → All IsOfWords (rows_of_items (map item_word items) rows)
items_words laws items rows constants words =
    laws.words.items (map item_word items) rows
    (λ row own. All-map (λ word. word row < 2 ^ 64) item_word items (All-weaker HasWordConstants (λ item. item_word item row < 2 ^ 64) (λ item constant. laws.items item row constant own) items constants)) words

group_of_rows-IsOfWords : RowLaws → (keys : List ℕ) (aggregates : List Aggregate) (rows : List (List ℕ)) → length rows < 2 ^ 64 → All IsOfWords rows → All IsOfWords (group_of_rows keys aggregates rows)
group_of_rows-IsOfWords laws [] aggregates rows few words = laws.words.whole aggregates rows few words
group_of_rows-IsOfWords laws (key ∷ keys) aggregates rows few words = laws.words.grouped (key ∷ keys) aggregates rows few words

module _ (laws : RowLaws) (nodes : List Node) (i : ℕ) (short : i ≤ length nodes) (n : Node) (files : List (List (List ℕ))) (widths : List ℕ) (width : ℕ) (earlier : List (List (List ℕ))) (each : (s : ℕ) → s < length widths → (length (rows_of earlier s) < 2 ^ 64) × All IsOfWords (rows_of earlier s)) where
  pub node_rows-IsOfWords : (shape : Operator) → graph.FitsSources nodes i n shape → FitsEarlier files widths width shape → (is_relation shape ≡ true → All IsOfWords (get_or files 0 [])) → All IsOfWords (node_rows shape (get_or files 0 []) earlier)
  node_rows-IsOfWords (operators.Relation r) is h file = file refl
  node_rows-IsOfWords (operators.Filter f) is h file =
      laws.words.kept (map holds_of (map test_of f.tests)) (rows_of earlier f.source) (each f.source h.source).1
  node_rows-IsOfWords (operators.Select select) is h file =
      let s = source nodes i short select.source (λ columns rows. graph.IsSelect columns rows n select) is in
      items_words laws (map item_of select.items) (rows_of earlier select.source) (items_constants laws.texts s.found.columns select.items n.columns s.fits.columns) (each select.source h.source).1
  node_rows-IsOfWords (operators.Concat c) is h file = All-flat_map IsOfWords (rows_of earlier) c.sources (λ k d below. (each (get_or c.sources k d) (h.sources k d below)).1)
  node_rows-IsOfWords (operators.Join j) is h file = laws.words.joined j.keys (rows_of earlier j.left) (rows_of earlier j.right) (each j.left h.left).1 (each j.right h.right).1
  node_rows-IsOfWords (operators.Group g) is h file =
      let own = each g.source h.source in
      group_of_rows-IsOfWords laws g.keys (map aggregate_of g.aggregates) (rows_of earlier g.source) own.0 own.1
  node_rows-IsOfWords (operators.Distinct d) is h file = laws.words.distinct (rows_of earlier d.source) (each d.source h.source).1

-- numbers of rows

within_bound : (bound : Option ℕ) (rows : List (List ℕ)) (n : ℕ) → length rows ≤ n → is_over bound rows ≡ false → length rows ≤ sizes.bounded bound n
within_bound None rows n few within = few
within_bound (Some k) rows n few within = let short : length rows ≤ k = grind (arith, nat_tests) in omega arith

within_parts : (bound : Option ℕ) (rows : List (List ℕ)) (n : ℕ) → length rows ≤ n → is_over (option_map (λ k. 3 * k) bound) rows ≡ false → length rows ≤ sizes.bounded_parts bound n
within_parts None rows n few within = few
within_parts (Some k) rows n few within = let short : length rows ≤ 3 * k = grind (arith, nat_tests) in omega arith

length-group_of_rows : OperatorCounts → (keys : List ℕ) (aggregates : List Aggregate) (parts : Option ℕ) (rows : List (List ℕ)) (n : ℕ) → length rows ≤ n → is_over (option_map (λ k. 3 * k) parts) (group_of_rows keys aggregates rows) ≡ false
    → length (group_of_rows keys aggregates rows) ≤ sizes.group_rows keys parts n
length-group_of_rows counts [] aggregates parts rows n few within = counts.whole aggregates rows
length-group_of_rows counts (key ∷ keys) aggregates parts rows n few within =
    let fewer = counts.grouped (key ∷ keys) aggregates rows in
    within_parts parts (group_of_rows (key ∷ keys) aggregates rows) n (omega arith) within

module _ (laws : RowLaws) (nodes : List Node) (i : ℕ) (short : i ≤ length nodes) (file : List (List ℕ)) (earlier : List (List (List ℕ))) (each : (s : ℕ) (m : Node) → s < i → slice_get nodes s ≡ Some m → length (rows_of earlier s) ≤ m.rows) where
  all_sources : (P : List Column → ℕ → Type 0) (sources : List ℕ) → All (λ s. graph.IsSource nodes i s P) sources → length (flat_map (rows_of earlier) sources) ≤ sum_by (graph.rows_at nodes) sources
  all_sources P [] all = omega arith
  all_sources P (s ∷ sources) all =
      let rest = all_sources P sources (All-tail (λ s. graph.IsSource nodes i s P) s sources all) in
      let own = source nodes i short s P (All-head (λ s. graph.IsSource nodes i s P) s sources all) in
      let few = each s own.found own.earlier own.is in
      let declared : graph.rows_at nodes s ≡ own.found.rows = ap (λ (o : Option Node). option_map_or (λ n. n.rows) o 0) own.is in
      let both = length-append (rows_of earlier s) (flat_map (rows_of earlier) sources) in
      let first : length (rows_of earlier s) ≤ graph.rows_at nodes s = omega (arith, few, declared) in
      omega (arith, sum_by-cons (graph.rows_at nodes) s sources, both, rest, first)

  pub length-node_rows : (n : Node) (shape : Operator) → graph.FitsSources nodes i n shape → (is_relation shape ≡ true → length file ≤ n.rows) → KeepBounds shape (node_rows shape file earlier) → length (node_rows shape file earlier) ≤ n.rows
  length-node_rows n (operators.Relation r) h first kept = first refl
  length-node_rows n (operators.Filter f) h first kept =
      let s = source nodes i short f.source (λ columns rows. graph.IsFilter columns rows n f) h in
      let few = each f.source s.found s.earlier s.is in
      let rows = node_rows (operators.Filter f) file earlier in
      let fewer = laws.counts.kept (map holds_of (map test_of f.tests)) (rows_of earlier f.source) in
      subst (λ m. length rows ≤ m) (sym s.fits.size) (within_bound f.at_most rows s.found.rows (omega arith) kept.bound)
  length-node_rows n (operators.Select select) h first kept =
      let s = source nodes i short select.source (λ columns rows. graph.IsSelect columns rows n select) h in
      let few = each select.source s.found s.earlier s.is in
      let same = length-map (rows_of earlier select.source) (λ row. map (λ item. item row) (map item_word (map item_of select.items))) in
      omega (arith, s.fits.size)
  length-node_rows n (operators.Concat c) h first kept =
      let all = all_sources (λ columns rows. n.columns ≡ columns) c.sources h.columns in
      omega (arith, all, h.size, sum-map (graph.rows_at nodes) c.sources)
  length-node_rows n (operators.Join j) h first kept =
      let l = source nodes i short j.left (λ left left_rows. graph.IsSource nodes i j.right (λ right right_rows. graph.IsJoin left right left_rows right_rows n j)) h in
      let r = source nodes i short j.right (λ right right_rows. graph.IsJoin l.found.columns right l.found.rows right_rows n j) l.fits in
      let lefts = rows_of earlier j.left in
      let rights = rows_of earlier j.right in
      let left_few = each j.left l.found l.earlier l.is in
      let right_few = each j.right r.found r.earlier r.is in
      let rows = joined_rows j.keys lefts rights in
      let product = laws.counts.joined j.keys lefts rights in
      let grown : length lefts * length rights ≤ l.found.rows * r.found.rows = mul-le-mul left_few right_few in
      subst (λ m. length rows ≤ m) (sym r.fits.size) (within_bound j.at_most rows (l.found.rows * r.found.rows) (omega arith) kept.bound)
  length-node_rows n (operators.Group g) h first kept =
      let s = source nodes i short g.source (λ columns rows. graph.IsGroup columns rows n g) h in
      let few = each g.source s.found s.earlier s.is in
      let aggregates = map aggregate_of g.aggregates in
      let rows = group_of_rows g.keys aggregates (rows_of earlier g.source) in
      subst (λ m. length rows ≤ m) (sym s.fits.size)
      (within_bound g.at_most rows (sizes.group_rows g.keys g.parts_at_most s.found.rows) (length-group_of_rows laws.counts g.keys aggregates g.parts_at_most (rows_of earlier g.source) s.found.rows few kept.parts) kept.bound)
  length-node_rows n (operators.Distinct d) h first kept =
      let s = source nodes i short d.source (λ columns rows. graph.IsDistinctOf columns rows n d) h in
      let few = each d.source s.found s.earlier s.is in
      let fewer = laws.counts.distinct (rows_of earlier d.source) in
      subst (λ m. length (distinct_rows (rows_of earlier d.source)) ≤ m) (sym s.fits.size) (within_bound d.at_most (distinct_rows (rows_of earlier d.source)) s.found.rows (omega arith) kept.bound)
