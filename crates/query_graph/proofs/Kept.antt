-- A graph stays one with one statement more that has no fault.
use Rattle.std.proofs.Common.{◌≡◌, ℕ, ◌*◌, ◌<◌, ◌≤◌, true, List, [], ◌∷◌, ◌++◌, Option, Some, None, length, map, get_or, suc, refl, sym, ap, ◌∙◌, subst, arith, length-append}
use Rattle.std.specs.Prelude.{IsSomeAnd, slice_get, sum, unwrap_or, ◌⊎◌}
use Rattle.std.specs.Option.{option_map_or}
use Rattle.std.proofs.Common.{inl, inr, zero}
use Rattle.std.specs.List.{AllByRecursion}
use Rattle.std.proofs.lemmas.Bool.Decides.{nat_tests}
use Rattle.std.proofs.lemmas.List.Elements.{recursion_from_All, All-from_recursion}
use Rattle.std.proofs.lemmas.List.Sums.{sum_by-cons}
use Rattle.std.proofs.lemmas.Option.{slice_get-get_or}
use Rattle.words.specs.declared.column.Column.{Column}
use Rattle.query_text.specs.Grammar.{IsFilled}
use Rattle.query_graph.specs.declared.node.Node.{Node}
use Rattle.query_graph.specs.declared.operator.Concat.{Concat}
use Rattle.query_graph.specs.declared.operator.Operator.{Operator}
use Rattle.query_graph.specs.declared.operator.Operator.TheVariants as operators
use Rattle.query_graph.specs.Columns.{first_columns}
use Rattle.query_graph.specs.Content.{Content}
use Rattle.query_graph.specs.Draft.{IsDraft}
use Rattle.query_graph.specs.Faults.{first_fault}
use Rattle.query_graph.specs.IsGraph.{FitsSources, IsConcat, IsDistinctOf, IsFilter, IsGroup, IsJoin, IsNode, IsSelect, IsSource, rows_at}
use Rattle.query_graph.specs.Names.{is_node, node_columns, node_rows}
use Rattle.query_graph.specs.Sizes.{bounded, bounded_parts, group_rows, is_bound, is_row_count}
use Rattle.query_graph.specs.Used.{unknown_node}
use Rattle.query_graph.proofs.Faultless.{both_none, known_of}
use Rattle.query_graph.proofs.Places.{of_known_node}
use Rattle.query_graph.proofs.Sources.{IsTable}
use Rattle.query_graph.proofs.Widths.{cons_same}

-- ---- with one node more, each node stays as it was

kept_get : (nodes : List Node) (more : List Node) (s : ℕ) → s < length nodes → slice_get (nodes ++ more) s ≡ slice_get nodes s
kept_get [] more s within = absurd (omega (arith, within))
kept_get (n ∷ nodes) more zero within = refl
kept_get (n ∷ nodes) more (suc s) within = kept_get nodes more s (omega (arith, within))

some_more : (o : Option Node) (P Q : List Column → ℕ → Type 0) → ((columns : List Column) (rows : ℕ) → P columns rows → Q columns rows)
    → IsSomeAnd o (λ (n : Node). P n.columns n.rows) → IsSomeAnd o (λ (n : Node). Q n.columns n.rows)
some_more None P Q each fits = fits
some_more (Some n) P Q each fits = each n.columns n.rows fits

kept_source : (nodes more : List Node) (i s : ℕ) (P Q : List Column → ℕ → Type 0) → i ≤ length nodes → ((columns : List Column) (rows : ℕ) → P columns rows → Q columns rows)
    → IsSource nodes i s P → IsSource (nodes ++ more) i s Q
kept_source nodes more i s P Q few each source = record {
  earlier = source.earlier;
  fits = subst (λ o. IsSomeAnd o (λ (n : Node). Q n.columns n.rows)) (sym (kept_get nodes more s (omega (arith, few, source.earlier))))
      (some_more (slice_get nodes s) P Q each source.fits);
}

same_source : (nodes more : List Node) (i s : ℕ) (P : List Column → ℕ → Type 0) → i ≤ length nodes → IsSource nodes i s P → IsSource (nodes ++ more) i s P
same_source nodes more i s P few source = kept_source nodes more i s P P few (λ columns rows holds. holds) source

all_sources : (nodes more : List Node) (i : ℕ) (P : List Column → ℕ → Type 0) → i ≤ length nodes → (sources : List ℕ)
    → AllByRecursion (λ s. IsSource nodes i s P) sources → AllByRecursion (λ s. IsSource (nodes ++ more) i s P) sources
all_sources nodes more i P few [] all = tt
all_sources nodes more i P few (s ∷ sources) all = (same_source nodes more i s P few all.0, all_sources nodes more i P few sources all.1)

rows_kept : (nodes more : List Node) (i : ℕ) (P : List Column → ℕ → Type 0) → i ≤ length nodes → (sources : List ℕ)
    → AllByRecursion (λ s. IsSource nodes i s P) sources → map (rows_at nodes) sources ≡ map (rows_at (nodes ++ more)) sources
rows_kept nodes more i P few [] all = refl
rows_kept nodes more i P few (s ∷ sources) all =
    cons_same (ap (λ o. option_map_or (λ (n : Node). n.rows) o 0) (sym (kept_get nodes more s (omega (arith, few, all.0.earlier)))))
    (rows_kept nodes more i P few sources all.1)

concat_kept : (nodes more : List Node) (i : ℕ) (n : Node) (c : Concat) → i ≤ length nodes → IsConcat nodes i n c → IsConcat (nodes ++ more) i n c
concat_kept nodes more i n c few is =
    let P : List Column → ℕ → Type 0 = λ columns rows. n.columns ≡ columns in
    let all = recursion_from_All (λ s. IsSource nodes i s P) c.sources is.columns in
    record {
      some = is.some;
      few = is.few;
      columns = All-from_recursion (λ s. IsSource (nodes ++ more) i s P) c.sources (all_sources nodes more i P few c.sources all);
      size = is.size ∙ ap sum (rows_kept nodes more i P few c.sources all);
    }

sources_kept : (nodes more : List Node) (i : ℕ) (n : Node) (shape : Operator) → i ≤ length nodes → FitsSources nodes i n shape → FitsSources (nodes ++ more) i n shape
sources_kept nodes more i n (operators.Relation r) few fits = fits
sources_kept nodes more i n (operators.Filter f) few fits = same_source nodes more i f.source (λ columns rows. IsFilter columns rows n f) few fits
sources_kept nodes more i n (operators.Select s) few fits = same_source nodes more i s.source (λ columns rows. IsSelect columns rows n s) few fits
sources_kept nodes more i n (operators.Concat c) few fits = concat_kept nodes more i n c few fits
sources_kept nodes more i n (operators.Join j) few fits =
    kept_source nodes more i j.left
    (λ left left_rows. IsSource nodes i j.right (λ right right_rows. IsJoin left right left_rows right_rows n j))
    (λ left left_rows. IsSource (nodes ++ more) i j.right (λ right right_rows. IsJoin left right left_rows right_rows n j)) few
    (λ left left_rows source. same_source nodes more i j.right (λ right right_rows. IsJoin left right left_rows right_rows n j) few source) fits
sources_kept nodes more i n (operators.Group g) few fits = same_source nodes more i g.source (λ columns rows. IsGroup columns rows n g) few fits
sources_kept nodes more i n (operators.Distinct d) few fits = same_source nodes more i d.source (λ columns rows. IsDistinctOf columns rows n d) few fits

node_kept : (nodes more : List Node) (i : ℕ) (n : Node) → i ≤ length nodes → IsNode nodes i n → IsNode (nodes ++ more) i n
node_kept nodes more i n few is = record {
  name = is.name;
  column_names = is.column_names;
  some_rows = is.some_rows;
  few_rows = is.few_rows;
  some_columns = is.some_columns;
  few_columns = is.few_columns;
  different = is.different;
  sources = sources_kept nodes more i n n.shape few is.sources;
}

some_same : (n m : Node) → Some n ≡ Some m → n ≡ m
some_same n m same = ap (λ o. unwrap_or o n) same

one_further : (n i : ℕ) (P Q : Type 0) → ((i < n) × P) ⊎ ((i ≡ n) × Q) → ((suc i < suc n) × P) ⊎ ((suc i ≡ suc n) × Q)
one_further n i P Q (inl both) = inl (omega (arith, both.0), both.1)
one_further n i P Q (inr both) = inr (ap suc both.0, both.1)

place_of_last : (nodes : List Node) (n m : Node) (i : ℕ) → slice_get (nodes ++ n ∷ []) i ≡ Some m
    → ((i < length nodes) × (slice_get nodes i ≡ Some m)) ⊎ ((i ≡ length nodes) × (n ≡ m))
place_of_last [] n m zero is = inr (refl, some_same n m is)
place_of_last [] n m (suc i) is = absurd cc
place_of_last (x ∷ nodes) n m zero is = inl (omega arith, is)
place_of_last (x ∷ nodes) n m (suc i) is = one_further (length nodes) i (slice_get nodes i ≡ Some m) (n ≡ m) (place_of_last nodes n m i is)

either_node : (nodes : List Node) (n m : Node) (i : ℕ) → ((i : ℕ) (m : Node) → slice_get nodes i ≡ Some m → IsNode nodes i m) → IsNode nodes (length nodes) n
    → ((i < length nodes) × (slice_get nodes i ≡ Some m)) ⊎ ((i ≡ length nodes) × (n ≡ m)) → IsNode (nodes ++ n ∷ []) i m
either_node nodes n m i each last (inl before) = node_kept nodes (n ∷ []) i m (omega (arith, before.0)) (each i m before.1)
either_node nodes n m i each last (inr at_end) =
    subst (λ j. IsNode (nodes ++ n ∷ []) j m) (sym at_end.0)
    (subst (λ (o : Node). IsNode (nodes ++ n ∷ []) (length nodes) o) at_end.1 (node_kept nodes (n ∷ []) (length nodes) n (omega arith) last))

pub nodes_push : (nodes : List Node) (n : Node) → ((i : ℕ) (m : Node) → slice_get nodes i ≡ Some m → IsNode nodes i m) → IsNode nodes (length nodes) n
    → (i : ℕ) (m : Node) → slice_get (nodes ++ n ∷ []) i ≡ Some m → IsNode (nodes ++ n ∷ []) i m
nodes_push nodes n each last i m is = either_node nodes n m i each last (place_of_last nodes n m i is)

-- ---- rows and columns of a statement's node

pub tables : (graph : Content) → IsDraft graph → AllByRecursion (λ (n : Node). IsTable n.columns n.rows) graph.nodes
tables graph is = recursion_from_All (λ (n : Node). IsTable n.columns n.rows) graph.nodes
    (λ i d within. let n = is.nodes i (get_or graph.nodes i d) (slice_get-get_or graph.nodes i d within) in (n.some_rows, n.some_columns, n.different))

pub bounded_some : (bound : Option ℕ) (rows : ℕ) → is_bound bound ≡ true → 1 ≤ rows → 1 ≤ bounded bound rows
bounded_some None rows fits some = some
bounded_some (Some k) rows fits some = grind (arith, nat_tests)

parts_some : (bound : Option ℕ) (rows : ℕ) → is_bound bound ≡ true → 1 ≤ rows → 1 ≤ bounded_parts bound rows
parts_some None rows fits some = some
parts_some (Some k) rows fits some = grind (arith, nat_tests)

pub group_some : {A : Type 0} (keys : List A) (bound : Option ℕ) (rows : ℕ) → is_bound bound ≡ true → 1 ≤ rows → 1 ≤ group_rows keys bound rows
group_some [] bound rows fits some = omega arith
group_some (k ∷ keys) bound rows fits some = parts_some bound rows fits some

pub count_some : (rows : ℕ) → is_row_count rows ≡ true → 1 ≤ rows
count_some rows fits = grind (arith, nat_tests)

pub known_first : (line : ℕ) (nodes : List Node) (name : List ℕ) (others : List (List ℕ)) → first_fault (unknown_node line nodes) (name ∷ others) ≡ None → is_node nodes name ≡ true
known_first line nodes name others passes = known_of _ _ (both_none (unknown_node line nodes name) (first_fault (unknown_node line nodes) others) passes).0

pub table_of : (graph : Content) (line : ℕ) (name : List ℕ) (others : List (List ℕ)) → IsDraft graph → first_fault (unknown_node line graph.nodes) (name ∷ others) ≡ None
    → IsTable (node_columns graph.nodes name) (node_rows graph.nodes name)
table_of graph line name others is known = of_known_node IsTable graph.nodes name (known_first line graph.nodes name others known) (tables graph is)

-- a list with two names or more begins with one
pub concat_some : (graph : Content) (line : ℕ) (names : List (List ℕ)) → IsDraft graph → 2 ≤ length names → first_fault (unknown_node line graph.nodes) names ≡ None
    → (1 ≤ sum (map (node_rows graph.nodes) names)) × (1 ≤ length (first_columns graph.nodes names))
concat_some graph line [] is some known = absurd (omega (arith, some))
concat_some graph line (name ∷ names) is some known =
    let table = table_of graph line name names is known in
    let all = sum_by-cons (λ n. n) (node_rows graph.nodes name) (map (node_rows graph.nodes) names) in
    (omega (arith, table.0, all), table.1)

pub filled_some : {A : Type 0} (xs : List A) → IsFilled xs → 1 ≤ length xs
filled_some [] filled = absurd filled
filled_some (x ∷ xs) filled = omega arith

pub product_some : (m n : ℕ) → 1 ≤ m → 1 ≤ n → 1 ≤ m * n
product_some m n first second = grind arith

pub map_some : {A B : Type 0} (f : A → B) (xs : List A) → IsFilled xs → 1 ≤ length (map f xs)
map_some f [] filled = absurd filled
map_some f (x ∷ xs) filled = omega arith

pub front_some : {A : Type 0} (xs ys : List A) → 1 ≤ length xs → 1 ≤ length (xs ++ ys)
front_some xs ys some = let all = length-append xs ys in omega (arith, all, some)

pub back_some : {A : Type 0} (xs ys : List A) → 1 ≤ length ys → 1 ≤ length (xs ++ ys)
back_some xs ys some = let all = length-append xs ys in omega (arith, all, some)
