-- Each node of a graph fits the tables of the earlier nodes.
use Rattle.std.proofs.Common.{◌≡◌, ℕ, suc, ◌<◌, ◌≤◌, List, [], ◌∷◌, Option, Some, None, length, map, take, drop, true, refl, sym, ◌∙◌, ap, subst, arith}
use Rattle.std.specs.Prelude.{IsSomeAnd, slice_get}
use Rattle.std.specs.List.{All, AllZip}
use Rattle.std.proofs.lemmas.List.{get_or-map, length-map, get_or-take, length-take-le}
use Rattle.std.proofs.lemmas.List.Elements.{All-cons, All-map, All-nil, All-weaker}
use Rattle.std.proofs.lemmas.Option.{get_or_from_slice_get}
use Rattle.words.specs.declared.column.Column.{Column}
use Rattle.words.specs.declared.column.Kind.{Kind}
use Rattle.words.specs.declared.column.Kind.TheVariants.{Num, Flag}
use Rattle.query_text.specs.declared.operand.Op.{Op}
use Rattle.query_text.specs.declared.operand.Op.TheVariants as ops
use Rattle.query_graph.specs.declared.node.Node.{Node}
use Rattle.query_graph.specs.declared.operand.Operand as graph_operand
use Rattle.query_graph.specs.declared.operand.Operand.TheVariants as operands
use Rattle.query_graph.specs.declared.operand.Test as graph_test
use Rattle.query_graph.specs.declared.operand.Item as graph_item
use Rattle.query_graph.specs.declared.operand.Item.TheVariants as items
use Rattle.query_graph.specs.declared.operand.Aggregate as graph_aggregate
use Rattle.query_graph.specs.declared.operand.Aggregate.TheVariants as aggregates
use Rattle.query_graph.specs.declared.operator.Operator.{Operator}
use Rattle.query_graph.specs.declared.operator.Operator.TheVariants as operators
use Rattle.query_graph.specs.IsGraph as graph
use Rattle.tables.specs.Content.{Content}
use Rattle.plain_operators.specs.Operators.{left_keys, right_keys}
use Rattle.plain_operators.specs.Sizes.{joined_width}
use Rattle.plain_operators.specs.Within.{HasColumns, IsAggregateOf, IsItemOf, IsOperandOf, IsTestOf}
use Rattle.plain_meaning.specs.Convert.{aggregate_of, item_of, operand_of, test_of}
use Rattle.plain_meaning.specs.Fits.{FitsEarlier, FitsRelation, width_at, widths_before, widths_of}
use Rattle.query_graph.specs.Observers.{is_relation}
use Rattle.plain_meaning.proofs.Others.{others_count}

operand_fits : (columns : List Column) (kind : Kind) (operand : graph_operand.Operand) → graph.IsOperandOf columns kind operand → IsOperandOf (length columns) (operand_of operand)
operand_fits columns kind (operands.Column c) h = h.within
operand_fits columns kind (operands.Constant word) h = tt

both_fit : (columns : List Column) (kind : Kind) (left right : graph_operand.Operand) → graph.AreOperandsOf columns kind left right
    → IsOperandOf (length columns) (operand_of left) × IsOperandOf (length columns) (operand_of right)
both_fit columns kind left right h = (operand_fits columns kind left h.left_fits, operand_fits columns kind right h.right_fits)

-- what an operation takes has one kind
pub taken_kind : (columns : List Column) (op : Op) (left right : graph_operand.Operand) → graph.AreTaken columns op left right → (kind : Kind) × graph.AreOperandsOf columns kind left right
taken_kind columns (ops.Compare cmp) left right h = h
taken_kind columns ops.Add left right h = (Num, h)
taken_kind columns ops.Sub left right h = (Num, h)
taken_kind columns ops.Mul left right h = (Num, h)
taken_kind columns ops.And left right h = (Flag, h)
taken_kind columns ops.Or left right h = (Flag, h)

taken_fit : (columns : List Column) (op : Op) (left right : graph_operand.Operand) → graph.AreTaken columns op left right
    → IsOperandOf (length columns) (operand_of left) × IsOperandOf (length columns) (operand_of right)
taken_fit columns op left right h = let taken = taken_kind columns op left right h in both_fit columns taken.0 left right taken.1

tests_fit : (columns : List Column) (tests : List graph_test.Test) → All (graph.IsTest columns) tests → All (IsTestOf (length columns)) (map test_of tests)
tests_fit columns tests all = All-map (IsTestOf (length columns)) test_of tests (All-weaker (graph.IsTest columns) (λ t. IsTestOf (length columns) (test_of t)) (λ t h. taken_fit columns (ops.Compare t.cmp) t.left t.right h) tests all)

item_fits : (columns : List Column) (item : graph_item.Item) (column : Column) → graph.Makes columns item column → IsItemOf (length columns) (item_of item)
item_fits columns (items.Plain operand) column h = operand_fits columns column.kind operand h
item_fits columns (items.Computed left op right) column h = taken_fit columns op left right h.1

items_fit : (columns : List Column) (items : List graph_item.Item) (made : List Column) → AllZip (graph.Makes columns) items made → All (IsItemOf (length columns)) (map item_of items)
items_fit columns [] [] h = All-nil (IsItemOf (length columns))
items_fit columns [] (column ∷ made) h = absurd h
items_fit columns (item ∷ items) [] h = absurd h
items_fit columns (item ∷ items) (column ∷ made) h = All-cons (IsItemOf (length columns)) (item_of item) (map item_of items) (item_fits columns item column h.0) (items_fit columns items made h.1)

as_many : {A B : Type 0} (R : A → B → Type 0) (xs : List A) (ys : List B) → AllZip R xs ys → length xs ≡ length ys
as_many R [] [] h = refl
as_many R [] (y ∷ ys) h = absurd h
as_many R (x ∷ xs) [] h = absurd h
as_many R (x ∷ xs) (y ∷ ys) h = ap suc (as_many R xs ys h.1)

aggregate_fits : (columns : List Column) (aggregate : graph_aggregate.Aggregate) (column : Column) → graph.Gathers columns aggregate column → IsAggregateOf (length columns) (aggregate_of aggregate)
aggregate_fits columns (aggregates.Sum c) column h = h.1.within
aggregate_fits columns aggregates.Count column h = tt
aggregate_fits columns (aggregates.Least c) column h = h.1.within
aggregate_fits columns (aggregates.Greatest c) column h = h.1.within

aggregates_fit : (columns : List Column) (aggregates : List graph_aggregate.Aggregate) (made : List Column) → AllZip (graph.Gathers columns) aggregates made → All (IsAggregateOf (length columns)) (map aggregate_of aggregates)
aggregates_fit columns [] [] h = All-nil (IsAggregateOf (length columns))
aggregates_fit columns [] (column ∷ made) h = absurd h
aggregates_fit columns (aggregate ∷ rest) [] h = absurd h
aggregates_fit columns (aggregate ∷ rest) (column ∷ made) h =
    All-cons (IsAggregateOf (length columns)) (aggregate_of aggregate) (map aggregate_of rest) (aggregate_fits columns aggregate column h.0) (aggregates_fit columns rest made h.1)

-- over the first nodes
module _ (nodes : List Node) (i : ℕ) (short : i ≤ length nodes) where
  pub length-widths_before : length (widths_before nodes i) ≡ i
  length-widths_before = length-map (take i nodes) (λ n. length n.columns) ∙ length-take-le i nodes short

  pub width_before : (s : ℕ) (n : Node) → s < i → slice_get nodes s ≡ Some n → width_at (widths_before nodes i) s ≡ length n.columns
  width_before s n earlier e =
      let inside : s < length (take i nodes) = omega (arith, length-take-le i nodes short, earlier) in
      get_or-map (λ n. length n.columns) (take i nodes) s n 0 inside ∙ ap (λ n. length n.columns) (get_or-take i nodes s n earlier ∙ get_or_from_slice_get nodes s n n e)

  -- a source and the width of its rows
  pub record Source (s : ℕ) (P : List Column → ℕ → Type 0) : Type 0 where
    pub found : Node
    pub earlier : s < i
    pub is : slice_get nodes s ≡ Some found
    pub below : s < length (widths_before nodes i)
    pub width : width_at (widths_before nodes i) s ≡ length found.columns
    pub fits : P found.columns found.rows

  pub source : (s : ℕ) (P : List Column → ℕ → Type 0) → graph.IsSource nodes i s P → Source s P
  source s P h = by (slice_get nodes s) refl h.fits
    where
      by : (o : Option Node) → slice_get nodes s ≡ o → IsSomeAnd o (λ n. P n.columns n.rows) → Source s P
      by None e fits = absurd fits
      by (Some n) e fits = record {
        found = n;
        earlier = h.earlier;
        is = e;
        below = omega (arith, length-widths_before, h.earlier);
        width = width_before s n h.earlier e;
        fits = fits;
      }

  fits_shape : (files : List (List (List ℕ))) (n : Node) (shape : Operator) → (is_relation shape ≡ true → FitsRelation files (length n.columns)) → graph.FitsSources nodes i n shape
      → FitsEarlier files (widths_before nodes i) (length n.columns) shape
  fits_shape files n (operators.Relation r) first h = first refl
  fits_shape files n (operators.Filter f) first h =
      let s = source f.source (λ columns rows. graph.IsFilter columns rows n f) h in
      let same = ap length s.fits.columns in
      record { source = s.below; same = s.width ∙ sym same; tests = subst (λ w. All (IsTestOf w) (map test_of f.tests)) (sym same) (tests_fit s.found.columns f.tests s.fits.tests) }
  fits_shape files n (operators.Select select) first h =
      let s = source select.source (λ columns rows. graph.IsSelect columns rows n select) h in
      record {
        source = s.below;
        items = subst (λ w. All (IsItemOf w) (map item_of select.items)) (sym s.width) (items_fit s.found.columns select.items n.columns s.fits.columns);
        same = as_many (graph.Makes s.found.columns) select.items n.columns s.fits.columns;
      }
  fits_shape files n (operators.Concat c) first h =
      let P : List Column → ℕ → Type 0 = λ columns rows. n.columns ≡ columns in
      record {
        sources = All-weaker (λ s. graph.IsSource nodes i s P) (λ s. s < length (widths_before nodes i)) (λ s g. (source s P g).below) c.sources h.columns;
        same = All-weaker (λ s. graph.IsSource nodes i s P) (λ s. width_at (widths_before nodes i) s ≡ length n.columns) (λ s g. (source s P g).width ∙ sym (ap length (source s P g).fits)) c.sources h.columns;
      }
  fits_shape files n (operators.Join j) first h =
      let l = source j.left (λ left left_rows. graph.IsSource nodes i j.right (λ right right_rows. graph.IsJoin left right left_rows right_rows n j)) h in
      let r = source j.right (λ right right_rows. graph.IsJoin l.found.columns right l.found.rows right_rows n j) l.fits in
      let a = length l.found.columns in
      let b = length r.found.columns in
      let key = graph.IsKey l.found.columns r.found.columns in
      let lefts : HasColumns (left_keys j.keys) a = All-map (λ c. c < a) (λ key. key.0) j.keys (All-weaker key (λ k. k.0 < a) (λ k g. g.on_left) j.keys r.fits.keys) in
      let rights : HasColumns (right_keys j.keys) b = All-map (λ c. c < b) (λ key. key.1) j.keys (All-weaker key (λ k. k.1 < b) (λ k g. g.on_right) j.keys r.fits.keys) in
      let left_count = others_count (left_keys j.keys) a r.fits.different_left lefts in
      let right_count = others_count (right_keys j.keys) b r.fits.different_right rights in
      let left_many = length-map j.keys (λ key. key.0) in
      let right_many = length-map j.keys (λ key. key.1) in
      let total = r.fits.width in
      let wide : joined_width j.keys a b ≡ length n.columns = omega (arith, left_count, right_count, left_many, right_many, total) in
      record {
        left = l.below;
        right = r.below;
        left_keys = subst (HasColumns (left_keys j.keys)) (sym l.width) lefts;
        right_keys = subst (HasColumns (right_keys j.keys)) (sym r.width) rights;
        same = (λ k. joined_width j.keys (l.width k) (r.width k)) ∙ wide;
      }
  fits_shape files n (operators.Group g) first h =
      let s = source g.source (λ columns rows. graph.IsGroup columns rows n g) h in
      record {
        source = s.below;
        keys = subst (HasColumns g.keys) (sym s.width) s.fits.keys;
        aggregates = subst (λ w. All (IsAggregateOf w) (map aggregate_of g.aggregates)) (sym s.width) (aggregates_fit s.found.columns g.aggregates (drop (length g.keys) n.columns) s.fits.columns);
        same = sym s.fits.width;
      }
  fits_shape files n (operators.Distinct d) first h =
      let s = source d.source (λ columns rows. graph.IsDistinctOf columns rows n d) h in
      record { source = s.below; same = s.width ∙ sym (ap length s.fits.columns) }

  pub fits_before : (files : List (List (List ℕ))) (n : Node) → (is_relation n.shape ≡ true → FitsRelation files (length n.columns)) → graph.IsNode nodes i n
      → FitsEarlier files (widths_before nodes i) (length n.columns) n.shape
  fits_before files n first h = fits_shape files n n.shape first h.sources

map_map : {X Y Z : Type 0} (g : Y → Z) (f : X → Y) (xs : List X) → map g (map f xs) ≡ map (λ x. g (f x)) xs
map_map g f [] = refl
map_map g f (x ∷ xs) = ap (λ l. g (f x) ∷ l) (map_map g f xs)

-- tables with the columns of the first nodes
pub fits_node : (nodes : List Node) (i : ℕ) (tables : List Content) → i ≤ length nodes → map (λ t. t.columns) tables ≡ map (λ n. n.columns) (take i nodes)
    → (files : List (List (List ℕ))) (n : Node) → (is_relation n.shape ≡ true → FitsRelation files (length n.columns)) → graph.IsNode nodes i n → FitsEarlier files (widths_of tables) (length n.columns) n.shape
fits_node nodes i tables short columns files n first h =
    let same : widths_of tables ≡ widths_before nodes i = sym (map_map length (λ (t : Content). t.columns) tables) ∙ ap (map length) columns ∙ map_map length (λ (n : Node). n.columns) (take i nodes) in
    subst (λ widths. FitsEarlier files widths (length n.columns) n.shape) (sym same) (fits_before nodes i short files n first h)
