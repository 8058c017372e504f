-- The sizes of nodes and what is written on them, in every graph.
use Rattle.std.proofs.Common.{◌≡◌, ℕ, ◌*◌, ◌<◌, ◌≤◌, true, List, [], ◌∷◌, Option, Some, None, length, map, slice_get, refl, ◌∙◌, ap, arith}
use Rattle.std.specs.List.{All, AllZip}
use Rattle.std.specs.Option.{option_map_or}
use Rattle.std.specs.Prelude.{IsSomeAnd, slice_index}
use Rattle.std.proofs.lemmas.List.Elements.{All-cons, All-head, All-nil, All-weaker}
use Rattle.query_text.specs.Grammar.{IsMaybeParty}
use Rattle.words.specs.declared.column.Column.{Column}
use Rattle.query_graph.specs.declared.node.Node.{Node}
use Rattle.query_graph.specs.declared.operator.Join as joins
use Rattle.query_graph.specs.declared.operator.Operator.{Operator}
use Rattle.query_graph.specs.declared.operator.Operator.TheVariants.{Relation, Filter, Select, Concat, Join, Group, Distinct}
use Rattle.query_graph.specs.Content.{Content}
use Rattle.query_graph.specs.IsGraph.{FitsSources, IsDistinctOf, IsFilter, IsGroup, IsJoin, IsSelect, IsSource, rows_at}
use Rattle.query_graph.specs.NodeSizes.{BoundsMakeSmaller, IsNodeOf, NodesAreWritten, NodesHaveSizes, node_size, node_width, unbounded_size, width_at}
use Rattle.query_graph.specs.Observers.{at_most_of, clear_at_of, parts_at_most_of, sources_of, via_of}
use Rattle.query_graph.specs.Sizes.{bounded, group_rows, is_bound}

-- what a node is in its graph
fits : (graph : Content) (i : ℕ) (node : Node) → IsNodeOf graph i node → FitsSources graph.nodes i node node.shape
fits graph i node h = (h.is_graph.nodes i node h.is_node).sources

-- lists zipped by a relation are as long as one another
zipped : {X Y : Type 0} (R : X → Y → Type 0) (xs : List X) (ys : List Y) → AllZip R xs ys → length ys ≡ length xs
zipped R [] [] h = refl
zipped R [] (y ∷ ys) h = absurd h
zipped R (x ∷ xs) [] h = absurd h
zipped R (x ∷ xs) (y ∷ ys) h = let rest = zipped R xs ys h.1 in omega arith

-- what a source that is there says
of_source : (o : Option Node) (P : List Column → ℕ → Type 0) → IsSomeAnd o (λ n. P n.columns n.rows) → P (option_map_or (λ n. n.columns) o []) (option_map_or (λ n. n.rows) o 0)
of_source (Some n) P h = h
of_source None P h = absurd h

width_of : (o : Option Node) → length (option_map_or (λ (n : Node). n.columns) o []) ≡ option_map_or (λ (n : Node). length n.columns) o 0
width_of (Some n) = refl
width_of None = refl

abbrev columns_at : List Node → ℕ → List Column
columns_at nodes s = option_map_or (λ n. n.columns) (slice_get nodes s) []

at_source : (nodes : List Node) (i s : ℕ) (P : List Column → ℕ → Type 0) → IsSource nodes i s P → P (columns_at nodes s) (rows_at nodes s)
at_source nodes i s P h = of_source (slice_get nodes s) P h.fits

join_at : (nodes : List Node) (i : ℕ) (n : Node) (j : joins.Join) → FitsSources nodes i n (Join j)
    → IsJoin (columns_at nodes j.left) (columns_at nodes j.right) (rows_at nodes j.left) (rows_at nodes j.right) n j
join_at nodes i n j h =
    at_source nodes i j.right (λ right right_rows. IsJoin (columns_at nodes j.left) right (rows_at nodes j.left) right_rows n j)
    (at_source nodes i j.left (λ left left_rows. IsSource nodes i j.right (λ right right_rows. IsJoin left right left_rows right_rows n j)) h)

rows_of_node : (nodes : List Node) (i : ℕ) (n : Node) (shape : Operator) → FitsSources nodes i n shape → 0 < length (sources_of shape) → n.rows ≡ node_size shape (map (rows_at nodes) (sources_of shape))
rows_of_node nodes i n (Relation r) h some = absurd (omega arith)
rows_of_node nodes i n (Filter f) h some = (at_source nodes i f.source (λ columns rows. IsFilter columns rows n f) h).size
rows_of_node nodes i n (Select s) h some = (at_source nodes i s.source (λ columns rows. IsSelect columns rows n s) h).size
rows_of_node nodes i n (Concat c) h some = h.size
rows_of_node nodes i n (Join j) h some = (join_at nodes i n j h).size
rows_of_node nodes i n (Group g) h some = (at_source nodes i g.source (λ columns rows. IsGroup columns rows n g) h).size
rows_of_node nodes i n (Distinct d) h some = (at_source nodes i d.source (λ columns rows. IsDistinctOf columns rows n d) h).size

concat_width : (nodes : List Node) (i : ℕ) (n : Node) (sources : List ℕ) → All (λ s. IsSource nodes i s (λ columns rows. n.columns ≡ columns)) sources → 0 < length sources
    → length n.columns ≡ node_width (Concat (record { sources = sources })) (map (width_at nodes) sources)
concat_width nodes i n [] h some = absurd (omega arith)
concat_width nodes i n (s ∷ sources) h some =
    let first = All-head (λ t. IsSource nodes i t (λ columns rows. n.columns ≡ columns)) s sources h in
    ap length (at_source nodes i s (λ columns rows. n.columns ≡ columns) first) ∙ width_of (slice_get nodes s)

columns_of_node : (nodes : List Node) (i : ℕ) (n : Node) (shape : Operator) → FitsSources nodes i n shape → 0 < length (sources_of shape)
    → length n.columns ≡ node_width shape (map (width_at nodes) (sources_of shape))
columns_of_node nodes i n (Relation r) h some = absurd (omega arith)
columns_of_node nodes i n (Filter f) h some = ap length (at_source nodes i f.source (λ columns rows. IsFilter columns rows n f) h).columns ∙ width_of (slice_get nodes f.source)
columns_of_node nodes i n (Select s) h some = zipped _ s.items n.columns (at_source nodes i s.source (λ columns rows. IsSelect columns rows n s) h).columns
columns_of_node nodes i n (Concat c) h some = concat_width nodes i n c.sources h.columns some
columns_of_node nodes i n (Join j) h some = omega (arith, (join_at nodes i n j h).width, width_of (slice_get nodes j.left), width_of (slice_get nodes j.right))
columns_of_node nodes i n (Group g) h some = (at_source nodes i g.source (λ columns rows. IsGroup columns rows n g) h).width
columns_of_node nodes i n (Distinct d) h some = ap length (at_source nodes i d.source (λ columns rows. IsDistinctOf columns rows n d) h).columns ∙ width_of (slice_get nodes d.source)

pub nodes_have_sizes : NodesHaveSizes
nodes_have_sizes = record {
  rows = λ graph i node h. rows_of_node graph.nodes i node node.shape (fits graph i node h);
  columns = λ graph i node h. columns_of_node graph.nodes i node node.shape (fits graph i node h);
}

-- ---- bounds

smaller_bounded : (bound : Option ℕ) (rows : ℕ) → bounded bound rows ≤ rows
smaller_bounded None rows = omega arith
smaller_bounded (Some k) rows = omega arith

smaller_parts : {A : Type 0} (keys : List A) (parts : Option ℕ) (rows : ℕ) → group_rows keys parts rows ≤ group_rows keys None rows
smaller_parts [] parts rows = omega arith
smaller_parts (key ∷ keys) None rows = omega arith
smaller_parts (key ∷ keys) (Some k) rows = omega arith

smaller : (shape : Operator) (sizes : List ℕ) → node_size shape sizes ≤ unbounded_size shape sizes
smaller (Relation r) sizes = omega arith
smaller (Filter f) sizes = smaller_bounded f.at_most _
smaller (Select s) sizes = omega arith
smaller (Concat c) sizes = omega arith
smaller (Join j) sizes = smaller_bounded j.at_most _
smaller (Group g) sizes = omega (arith, smaller_bounded g.at_most (group_rows g.keys g.parts_at_most (slice_index sizes 0)), smaller_parts g.keys g.parts_at_most (slice_index sizes 0))
smaller (Distinct d) sizes = smaller_bounded d.at_most _

same : (shape : Operator) (sizes : List ℕ) → at_most_of shape ≡ None → parts_at_most_of shape ≡ None → node_size shape sizes ≡ unbounded_size shape sizes
same (Relation r) sizes at parts = refl
same (Filter f) sizes at parts = ap (λ bound. bounded bound (slice_index sizes 0)) at
same (Select s) sizes at parts = refl
same (Concat c) sizes at parts = refl
same (Join j) sizes at parts = ap (λ bound. bounded bound (slice_index sizes 0 * slice_index sizes 1)) at
same (Group g) sizes at parts =
    ap (λ bound. bounded bound (group_rows g.keys g.parts_at_most (slice_index sizes 0))) at ∙ ap (λ bound. group_rows g.keys bound (slice_index sizes 0)) parts
same (Distinct d) sizes at parts = ap (λ bound. bounded bound (slice_index sizes 0)) at

pub bounds_make_smaller : BoundsMakeSmaller
bounds_make_smaller = record { smaller = smaller; same = same }

-- ---- what is written

earlier : (nodes : List Node) (i : ℕ) (n : Node) (shape : Operator) → FitsSources nodes i n shape → All (λ s. s < i) (sources_of shape)
earlier nodes i n (Relation r) h = All-nil (λ s. s < i)
earlier nodes i n (Filter f) h = All-cons (λ s. s < i) f.source [] h.earlier (All-nil (λ s. s < i))
earlier nodes i n (Select s) h = All-cons (λ t. t < i) s.source [] h.earlier (All-nil (λ t. t < i))
earlier nodes i n (Concat c) h =
    All-weaker (λ s. IsSource nodes i s (λ columns rows. n.columns ≡ columns)) (λ s. s < i) (λ s source. source.earlier) c.sources h.columns
earlier nodes i n (Join j) h =
    let right = at_source nodes i j.left (λ left left_rows. IsSource nodes i j.right (λ right right_rows. IsJoin left right left_rows right_rows n j)) h in
    All-cons (λ s. s < i) j.left (j.right ∷ []) h.earlier (All-cons (λ s. s < i) j.right [] right.earlier (All-nil (λ s. s < i)))
earlier nodes i n (Group g) h = All-cons (λ s. s < i) g.source [] h.earlier (All-nil (λ s. s < i))
earlier nodes i n (Distinct d) h = All-cons (λ s. s < i) d.source [] h.earlier (All-nil (λ s. s < i))

-- the bounds and parties of an operator can be written
record IsWritten (shape : Operator) : Type 0 where
  at_most : is_bound (at_most_of shape) ≡ true
  parts_at_most : is_bound (parts_at_most_of shape) ≡ true
  clear_at : IsMaybeParty (clear_at_of shape)
  via : IsMaybeParty (via_of shape)

written : (nodes : List Node) (i : ℕ) (n : Node) (shape : Operator) → FitsSources nodes i n shape → IsWritten shape
written nodes i n (Relation r) h = record { at_most = refl; parts_at_most = refl; clear_at = tt; via = tt }
written nodes i n (Filter f) h =
    let is = at_source nodes i f.source (λ columns rows. IsFilter columns rows n f) h in
    record { at_most = is.bound; parts_at_most = refl; clear_at = is.clear; via = tt }
written nodes i n (Select s) h =
    let is = at_source nodes i s.source (λ columns rows. IsSelect columns rows n s) h in
    record { at_most = refl; parts_at_most = refl; clear_at = is.clear; via = tt }
written nodes i n (Concat c) h = record { at_most = refl; parts_at_most = refl; clear_at = tt; via = tt }
written nodes i n (Join j) h =
    let is = join_at nodes i n j h in
    record { at_most = is.bound; parts_at_most = refl; clear_at = is.clear; via = is.via }
written nodes i n (Group g) h =
    let is = at_source nodes i g.source (λ columns rows. IsGroup columns rows n g) h in
    record { at_most = is.bound; parts_at_most = is.bound_of_parts; clear_at = is.clear; via = is.via }
written nodes i n (Distinct d) h =
    let is = at_source nodes i d.source (λ columns rows. IsDistinctOf columns rows n d) h in
    record { at_most = is.bound; parts_at_most = refl; clear_at = is.clear; via = tt }

pub nodes_are_written : NodesAreWritten
nodes_are_written = record {
  sources = λ graph i node h. earlier graph.nodes i node node.shape (fits graph i node h);
  at_most = λ graph i node h. (written graph.nodes i node node.shape (fits graph i node h)).at_most;
  parts_at_most = λ graph i node h. (written graph.nodes i node node.shape (fits graph i node h)).parts_at_most;
  clear_at = λ graph i node h. (written graph.nodes i node node.shape (fits graph i node h)).clear_at;
  via = λ graph i node h. (written graph.nodes i node node.shape (fits graph i node h)).via;
}
