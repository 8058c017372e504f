-- The columns of each node of a graph, from those of its sources.
use Rattle.std.proofs.Common.{◌≡◌, ℕ, zero, suc, ◌+◌, ◌<◌, Bool, true, false, cond, not, ◌||◌, List, [], ◌∷◌, ◌++◌, Option, Some, None, length, map, take, drop, get_or, add-zero, refl, sym, ◌∙◌, ap, subst, arith, inl, inr}
use Rattle.std.specs.Prelude.{◌≢◌, ◌==◌, AllPairs, IsSomeAnd, slice_get}
use Rattle.std.specs.List.{All, filter, range_with_len}
use Rattle.std.specs.Option.{option_map, option_map_or}
use Rattle.std.specs.Str.{bytes_eq}
use Rattle.std.proofs.lemmas.Bool.{cases_eq, cases_lt}
use Rattle.std.proofs.lemmas.Bool.Decides.{nat_tests}
use Rattle.std.proofs.lemmas.List.{map-append, take-append-drop}
use Rattle.std.proofs.lemmas.List.Elements.{All-cons, All-head, All-nil, All-tail, All-weaker}
use Rattle.std.proofs.lemmas.Option.{get_or_from_slice_get, slice_get_within}
use Rattle.std.proofs.lemmas.Slice.Eq.{bytes_eq-Decides}
use Rattle.words.specs.declared.column.Column.{Column}
use Rattle.query_graph.specs.declared.node.Node.{Node}
use Rattle.query_graph.specs.declared.operator.Join.{Join}
use Rattle.query_graph.specs.declared.operator.Operator.{Operator}
use Rattle.query_graph.specs.declared.operator.Operator.TheVariants as operators
use Rattle.query_graph.specs.Columns as named
use Rattle.query_graph.specs.Content.{Content}
use Rattle.query_graph.specs.IsGraph.{FitsSources, IsDistinctOf, IsFilter, IsGraph, IsGroup, IsJoin, IsKey, IsSelect, IsSource, first_names, rows_at}
use Rattle.query_graph.specs.Names.{is_among}
use Rattle.query_graph.specs.NodeSizes.{IsNodeOf}
use Rattle.query_graph.specs.Observers.{sources_of}
use Rattle.plain_operators.specs.Columns.{is_key, other_columns}
use Rattle.plain_operators.specs.Operators.{left_keys, right_keys}
use Rattle.plain_meaning.specs.Columns.{HasJoinedColumns, NodesHaveColumns, columns_at, keeps_columns}

-- ---- columns whose names aren't keys, by their numbers

-- what passes a test by the element and by its number is the same
module _ (p : Column → Bool) (q : ℕ → Bool) (get : ℕ → Option Column) where
  numbered : (columns : List Column) (a : ℕ) → ((i : ℕ) → get (a + i) ≡ slice_get columns i) → ((i : ℕ) (c : Column) → slice_get columns i ≡ Some c → p c ≡ q (a + i))
      → map Some (filter p columns) ≡ map get (filter q (range_with_len a (length columns)))
  numbered [] a gets agree = refl
  numbered (c ∷ columns) a gets agree =
      let here : get a ≡ Some c = ap get (sym (add-zero a)) ∙ gets 0 in
      let test : p c ≡ q a = agree 0 c refl ∙ ap q (add-zero a) in
      let place : (i : ℕ) → a + 1 + i ≡ a + suc i = λ i. omega arith in
      let later = numbered columns (a + 1) (λ i. ap get (place i) ∙ gets (suc i)) (λ i d at. agree (suc i) d at ∙ ap q (sym (place i))) in
      by (q a) here test later
    where
      by : (b : Bool) → get a ≡ Some c → p c ≡ b → map Some (filter p columns) ≡ map get (filter q (range_with_len (a + 1) (length columns)))
          → map Some (filter p (c ∷ columns)) ≡ map get (cond b (a ∷ filter q (range_with_len (a + 1) (length columns))) (filter q (range_with_len (a + 1) (length columns))))
      by true here test later = rw test (λ i. sym here i ∷ later i)
      by false here test later = rw test later

unequal : (a b : List ℕ) → (a ≡ b → ⊥) → bytes_eq a b ≡ false
unequal a b apart = by (bytes_eq a b) refl
  where
    by : (t : Bool) → bytes_eq a b ≡ t → bytes_eq a b ≡ false
    by true is = absurd (apart ((bytes_eq-Decides a b).0 is))
    by false is = is

module _ (columns : List Column) (different : AllPairs (λ (a b : Column). a.name ≢ b.name) columns) (i : ℕ) (c : Column) (at : slice_get columns i ≡ Some c) where
  -- another column has another name
  other_name : (k : ℕ) (d : Column) → slice_get columns k ≡ Some d → (k ≡ i → ⊥) → d.name ≡ c.name → ⊥
  other_name k d at_k apart same =
      let inside = slice_get_within columns k d at_k in
      let inside_too = slice_get_within columns i c at in
      let own = ap (λ (x : Column). x.name) (get_or_from_slice_get columns k d c at_k) in
      let own_too = ap (λ (x : Column). x.name) (get_or_from_slice_get columns i c c at) in
      elim (cases_lt k i) [
        | inl before ↦ different k i c before inside_too (own ∙ same ∙ sym own_too)
        | inr behind ↦ different i k c (omega (arith, apart)) inside (own_too ∙ sym same ∙ sym own)
      ]

  one_key : (k : ℕ) (name : List ℕ) → option_map (λ (d : Column). d.name) (slice_get columns k) ≡ Some name → bytes_eq name c.name ≡ (k == i)
  one_key k name has = by (slice_get columns k) refl has
    where
      by : (o : Option Column) → slice_get columns k ≡ o → option_map (λ (d : Column). d.name) o ≡ Some name → bytes_eq name c.name ≡ (k == i)
      by None at_k is = absurd cc
      by (Some d) at_k is = elim (cases_eq k i) [
        | inl same ↦
            let here : Some d ≡ Some c = sym at_k ∙ ap (slice_get columns) same ∙ at in
            let names : name ≡ c.name = cc in
            let yes : (k == i) ≡ true = grind (arith, nat_tests) in
            (bytes_eq-Decides name c.name).1 names ∙ sym yes
        | inr apart ↦
            let no : (k == i) ≡ false = grind (arith, nat_tests) in
            let own : d.name ≡ name = cc in
            unequal name c.name (λ same. other_name k d at_k apart (own ∙ same)) ∙ sym no
      ]

  among : (numbers : List ℕ) (names : List (List ℕ)) → map (λ k. option_map (λ (d : Column). d.name) (slice_get columns k)) numbers ≡ map Some names → is_among names c.name ≡ is_key numbers i
  among [] [] same = refl
  among [] (name ∷ names) same = absurd cc
  among (k ∷ numbers) [] same = absurd cc
  among (k ∷ numbers) (name ∷ names) same =
      let first : option_map (λ (d : Column). d.name) (slice_get columns k) ≡ Some name = cc in
      let rest : map (λ k. option_map (λ (d : Column). d.name) (slice_get columns k)) numbers ≡ map Some names = cc in
      λ j. one_key k name first j || among numbers names rest j

others_by_number : (columns : List Column) → AllPairs (λ (a b : Column). a.name ≢ b.name) columns → (numbers : List ℕ) (names : List (List ℕ))
    → map (λ k. option_map (λ (d : Column). d.name) (slice_get columns k)) numbers ≡ map Some names → map Some (named.other_columns names columns) ≡ map (slice_get columns) (other_columns numbers (length columns))
others_by_number columns different numbers names same =
    numbered (λ c. not (is_among names c.name)) (λ i. not (is_key numbers i)) (slice_get columns) columns 0 (λ i. ap (slice_get columns) (omega arith))
    (λ i c at. ap not (among columns different i c at numbers names same) ∙ ap (λ k. not (is_key numbers k)) (omega arith))

-- ---- a source of a node

at_source : (nodes : List Node) (i s : ℕ) (P : List Column → ℕ → Type 0) → IsSource nodes i s P → P (columns_at nodes s) (rows_at nodes s)
at_source nodes i s P h = by (slice_get nodes s) h.fits
  where
    by : (o : Option Node) → IsSomeAnd o (λ n. P n.columns n.rows) → P (option_map_or (λ n. n.columns) o []) (option_map_or (λ n. n.rows) o 0)
    by None fits = absurd fits
    by (Some n) fits = fits

columns_differ : (graph : Content) → IsGraph graph → (s : ℕ) → AllPairs (λ (a b : Column). a.name ≢ b.name) (columns_at graph.nodes s)
columns_differ graph is_graph s = by (slice_get graph.nodes s) refl
  where
    by : (o : Option Node) → slice_get graph.nodes s ≡ o → AllPairs (λ (a b : Column). a.name ≢ b.name) (option_map_or (λ (n : Node). n.columns) o [])
    by None at = λ i j d below inside. absurd (omega arith)
    by (Some n) at = (is_graph.nodes s n at).different

-- ---- joins

module _ (left right columns : List Column) (keys : List (ℕ × ℕ)) (are_keys : All (IsKey left right) keys) (firsts : map Some (take (length keys) columns) ≡ map (λ (key : ℕ × ℕ). slice_get left key.0) keys) where
  left_names : (keys : List (ℕ × ℕ)) (columns : List Column) → map Some columns ≡ map (λ (key : ℕ × ℕ). slice_get left key.0) keys
      → map (λ k. option_map (λ (d : Column). d.name) (slice_get left k)) (left_keys keys) ≡ map Some (map (λ (c : Column). c.name) columns)
  left_names [] [] same = refl
  left_names [] (c ∷ columns) same = absurd cc
  left_names (key ∷ keys) [] same = absurd cc
  left_names (key ∷ keys) (c ∷ columns) same =
      let first : Some c ≡ slice_get left key.0 = cc in
      let rest : map Some columns ≡ map (λ (key : ℕ × ℕ). slice_get left key.0) keys = cc in
      λ i. option_map (λ (d : Column). d.name) (sym first i) ∷ left_names keys columns rest i

  right_names : (keys : List (ℕ × ℕ)) → All (IsKey left right) keys
      → map (λ k. option_map (λ (d : Column). d.name) (slice_get right k)) (right_keys keys) ≡ map (λ k. option_map (λ (d : Column). d.name) (slice_get left k)) (left_keys keys)
  right_names [] all = refl
  right_names (key ∷ keys) all =
      let is = All-head (IsKey left right) key keys all in
      let rest = right_names keys (All-tail (IsKey left right) key keys all) in
      λ i. option_map (λ (d : Column). d.name) (sym is.same i) ∷ rest i

  gotten : (keys : List (ℕ × ℕ)) → map (λ (key : ℕ × ℕ). slice_get left key.0) keys ≡ map (slice_get left) (left_keys keys)
  gotten [] = refl
  gotten (key ∷ keys) = ap (λ l. slice_get left key.0 ∷ l) (gotten keys)

  joined_columns : AllPairs (λ (a b : Column). a.name ≢ b.name) left → AllPairs (λ (a b : Column). a.name ≢ b.name) right
      → drop (length keys) columns ≡ named.other_columns (first_names (length keys) columns) left ++ named.other_columns (first_names (length keys) columns) right → HasJoinedColumns left right keys columns
  joined_columns left_differ right_differ others =
      let names = first_names (length keys) columns in
      let on_left = left_names keys (take (length keys) columns) firsts in
      let on_right = right_names keys are_keys ∙ on_left in
      let lefts = others_by_number left left_differ (left_keys keys) names on_left in
      let rights = others_by_number right right_differ (right_keys keys) names on_right in
      let cut = ap (map Some) (sym (take-append-drop (length keys) columns)) ∙ map-append Some (take (length keys) columns) (drop (length keys) columns) in
      let rest = ap (map Some) others ∙ map-append Some (named.other_columns names left) (named.other_columns names right) ∙ (λ i. lefts i ++ rights i) in
      record { all = cut ∙ (λ i. (firsts ∙ gotten keys) i ++ rest i) }

-- ---- each node

all_sources : (nodes : List Node) (i : ℕ) (columns : List Column) (sources : List ℕ) → All (λ s. IsSource nodes i s (λ own rows. columns ≡ own)) sources → All (λ s. columns ≡ columns_at nodes s) sources
all_sources nodes i columns sources all =
    All-weaker (λ s. IsSource nodes i s (λ own rows. columns ≡ own)) (λ s. columns ≡ columns_at nodes s) (λ s is. at_source nodes i s (λ own rows. columns ≡ own) is) sources all

one_source : (nodes : List Node) (columns : List Column) (s : ℕ) → columns ≡ columns_at nodes s → All (λ s. columns ≡ columns_at nodes s) (s ∷ [])
one_source nodes columns s is = All-cons (λ s. columns ≡ columns_at nodes s) s [] is (All-nil (λ s. columns ≡ columns_at nodes s))

kept : (nodes : List Node) (i : ℕ) (n : Node) (shape : Operator) → FitsSources nodes i n shape → keeps_columns shape ≡ true → All (λ s. n.columns ≡ columns_at nodes s) (sources_of shape)
kept nodes i n (operators.Relation r) fits keeps = absurd cc
kept nodes i n (operators.Filter f) fits keeps = one_source nodes n.columns f.source (at_source nodes i f.source (λ columns rows. IsFilter columns rows n f) fits).columns
kept nodes i n (operators.Select s) fits keeps = absurd cc
kept nodes i n (operators.Concat c) fits keeps = all_sources nodes i n.columns c.sources fits.columns
kept nodes i n (operators.Join j) fits keeps = absurd cc
kept nodes i n (operators.Group g) fits keeps = absurd cc
kept nodes i n (operators.Distinct d) fits keeps = one_source nodes n.columns d.source (at_source nodes i d.source (λ columns rows. IsDistinctOf columns rows n d) fits).columns

fits_of : (graph : Content) (i : ℕ) (node : Node) → IsNodeOf graph i node → FitsSources graph.nodes i node node.shape
fits_of graph i node h = (h.is_graph.nodes i node h.is_node).sources

joined : (graph : Content) (i : ℕ) (node : Node) (j : Join) → IsNodeOf graph i node → node.shape ≡ operators.Join j → HasJoinedColumns (columns_at graph.nodes j.left) (columns_at graph.nodes j.right) j.keys node.columns
joined graph i node j h is =
    let nodes = graph.nodes in
    let left = columns_at nodes j.left in
    let right = columns_at nodes j.right in
    let fits = subst (FitsSources nodes i node) is (fits_of graph i node h) in
    let on_left = at_source nodes i j.left (λ own own_rows. IsSource nodes i j.right (λ other other_rows. IsJoin own other own_rows other_rows node j)) fits in
    let both = at_source nodes i j.right (λ other other_rows. IsJoin left other (rows_at nodes j.left) other_rows node j) on_left in
    joined_columns left right node.columns j.keys both.keys both.key_columns (columns_differ graph h.is_graph j.left) (columns_differ graph h.is_graph j.right) both.others

pub nodes_have_columns : NodesHaveColumns
nodes_have_columns = record {
  kept = λ graph i node h keeps. kept graph.nodes i node node.shape (fits_of graph i node h) keeps;
  selected = λ graph i node s h is. (at_source graph.nodes i s.source (λ columns rows. IsSelect columns rows node s) (subst (FitsSources graph.nodes i node) is (fits_of graph i node h))).columns;
  joined = joined;
  grouped = λ graph i node g h is.
      (let own = at_source graph.nodes i g.source (λ columns rows. IsGroup columns rows node g) (subst (FitsSources graph.nodes i node) is (fits_of graph i node h)) in
      record { keys = own.key_columns; others = own.columns });
}
