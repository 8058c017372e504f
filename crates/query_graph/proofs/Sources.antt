-- What a statement without a fault does fits the earlier nodes.
use Rattle.std.proofs.Common.{◌≡◌, ℕ, ◌+◌, ◌*◌, ◌<◌, ◌≤◌, true, ◌&&◌, List, [], ◌∷◌, ◌++◌, Option, Some, None, length, map, take, drop, refl, sym, ap, ◌∙◌, subst, arith, append_assoc, length-append}
use Rattle.std.specs.Prelude.{◌≢◌, AllPairs, is_none, slice_get, sum}
use Rattle.std.specs.List.{AllByRecursion, AllZip, list_all}
use Rattle.std.specs.Str.{bytes_eq}
use Rattle.std.proofs.Math.Seq.{drop-append_seam, take-append_seam}
use Rattle.std.proofs.lemmas.List.{length-map}
use Rattle.std.proofs.lemmas.List.Elements.{All-from_recursion}
use Rattle.std.proofs.lemmas.Slice.Eq.{bytes_eq-Decides}
use Rattle.words.specs.declared.column.Column.{Column}
use Rattle.words.specs.declared.column.Kind.TheVariants.{Flag}
use Rattle.query_text.specs.Grammar.{Fits, FitsForm, IsFilled}
use Rattle.query_text.specs.Spelling.{item, test}
use Rattle.query_text.specs.declared.operand.KindText.{KindText}
use Rattle.query_text.specs.declared.operand.KindText.TheVariants as written
use Rattle.query_text.specs.declared.parts.AggregateText.{AggregateText}
use Rattle.query_text.specs.declared.parts.ColumnText.{ColumnText}
use Rattle.query_text.specs.declared.parts.ItemText.{ItemText}
use Rattle.query_text.specs.declared.parts.TestText.{TestText}
use Rattle.query_text.specs.declared.statement.Body.{Body}
use Rattle.query_text.specs.declared.statement.Body.TheVariants as bodies
use Rattle.query_text.specs.declared.statement.ConcatText.{ConcatText}
use Rattle.query_text.specs.declared.statement.DistinctText.{DistinctText}
use Rattle.query_text.specs.declared.statement.FilterText.{FilterText}
use Rattle.query_text.specs.declared.statement.GroupText.{GroupText}
use Rattle.query_text.specs.declared.statement.JoinText.{JoinText}
use Rattle.query_text.specs.declared.statement.RelationText.{RelationText}
use Rattle.query_text.specs.declared.statement.SelectText.{SelectText}
use Rattle.query_graph.specs.declared.node.Node.{Node}
use Rattle.query_graph.specs.Build.{key_numbers, node_of, operator_of}
use Rattle.query_graph.specs.Columns.{aggregate_column, columns_of, declared_column, first_columns, item_column, key_column, other_columns, repeated_column, taken_in_node, taken_name, taken_node}
use Rattle.query_graph.specs.Content.{Content}
use Rattle.query_graph.specs.Faults.{first_fault}
use Rattle.query_graph.specs.IsGraph.{FitsSources, Gathers, IsJoin, IsKey, IsSource, IsTest, Makes, first_names, rows_at}
use Rattle.query_graph.specs.Kinds.{aggregate_fits, declared_kind, item_fits, kinds_fit, same_kind, test_fits}
use Rattle.query_graph.specs.Names.{column_kind, column_number, is_column, is_node, node_columns, node_number, node_rows}
use Rattle.query_graph.specs.Operators.{aggregate_of, item_of, test_of}
use Rattle.query_graph.specs.Shapes.{keyless_fits, same_column, same_columns, shape_fits}
use Rattle.query_graph.specs.Sizes.{bounded, counts_fit, group_rows, is_bound}
use Rattle.query_graph.specs.Used.{unknown_column, unknown_columns, unknown_in_aggregate, unknown_in_item, unknown_in_test, unknown_node, used_nodes}
use Rattle.query_graph.proofs.Different.{different_behind, each_of, keys_differ, numbers_differ}
use Rattle.query_graph.proofs.Faultless.{aggregate_gathers, all_of, both_none, both_true, each_unit, item_makes, key_is, kind_same, known_column, known_of, test_is, zip_of}
use Rattle.query_graph.proofs.Places.{column_within, node_at_number, node_within, of_known_node, rows_at_number}
use Rattle.query_graph.proofs.RealTokens.{AreReal, real_items, real_tests}
use Rattle.query_graph.proofs.Widths.{cons_same, count_others, key_columns}

-- columns that differ, at least one, and at least one row
abbrev pub IsTable : List Column → ℕ → Type 0
IsTable columns rows = (1 ≤ rows) × (1 ≤ length columns) × AllPairs (λ (a b : Column). a.name ≢ b.name) columns

-- a statement without a fault
pub record IsFaultless (graph : Content) (line : ℕ) (body : Body) : Type 0 where
  pub nodes : first_fault (unknown_node line graph.nodes) (used_nodes body) ≡ None
  pub columns : unknown_columns line graph.nodes body ≡ None
  pub taken : taken_name line graph body ≡ None
  pub kinds : kinds_fit graph.nodes body ≡ true
  pub shape : shape_fits graph.nodes body ≡ true
  pub counts : counts_fit body ≡ true

known_node : (line : ℕ) (nodes : List Node) (name : List ℕ) (others : List (List ℕ)) → first_fault (unknown_node line nodes) (name ∷ others) ≡ None → is_node nodes name ≡ true
known_node line nodes name others passes = known_of _ _ (both_none (unknown_node line nodes name) (first_fault (unknown_node line nodes) others) passes).0

-- a known name is that of an earlier node
source_of : (nodes : List Node) (name : List ℕ) (P : List Column → ℕ → Type 0) → is_node nodes name ≡ true → P (node_columns nodes name) (node_rows nodes name)
    → IsSource nodes (length nodes) (node_number nodes name) P
source_of nodes name P known holds = record { earlier = node_within nodes name known; fits = node_at_number P nodes name known holds }

filled_map : {A B : Type 0} (f : A → B) (xs : List A) → IsFilled xs → IsFilled (map f xs)
filled_map f [] filled = filled
filled_map f (x ∷ xs) filled = tt

stored_kind : (kind : KindText) → declared_kind kind ≢ Flag
stored_kind written.Num = λ same. absurd cc
stored_kind written.Text = λ same. absurd cc

stored : (columns : List ColumnText) → AllByRecursion (λ (c : Column). c.kind ≢ Flag) (map declared_column columns)
stored [] = tt
stored (c ∷ columns) = (stored_kind c.kind, stored columns)

pub relation_is : (graph : Content) (line : ℕ) (r : RelationText) → FitsForm (bodies.Relation r) → FitsSources graph.nodes (length graph.nodes) (node_of graph.nodes line (bodies.Relation r)) (operator_of graph.nodes (bodies.Relation r))
relation_is graph line r form = record {
  owner = form.0;
  trusted = length-map r.columns _ ∙ sym (length-map r.columns declared_column);
  stored = All-from_recursion (λ (c : Column). c.kind ≢ Flag) (map declared_column r.columns) (stored r.columns);
}

pub filter_is : (graph : Content) (line : ℕ) (f : FilterText) → Fits (bodies.Filter f) → IsFaultless graph line (bodies.Filter f)
    → FitsSources graph.nodes (length graph.nodes) (node_of graph.nodes line (bodies.Filter f)) (operator_of graph.nodes (bodies.Filter f))
filter_is graph line f fits passes =
    let source = node_columns graph.nodes f.source in
    source_of graph.nodes f.source _ (known_node line graph.nodes f.source [] passes.nodes) (record {
      columns = refl;
      size = refl;
      filled = filled_map (test_of source) f.tests fits.form.0;
      tests = All-from_recursion (IsTest source) (map (test_of source) f.tests)
          (all_of (λ (t : TestText). AreReal (test t)) (unknown_in_test line source source) (test_fits source) (test_of source) (IsTest source) (test_is line source)
          f.tests (real_tests f fits) passes.columns passes.kinds);
      bound = passes.counts;
      clear = fits.form.1;
    })

pub select_is : (graph : Content) (line : ℕ) (s : SelectText) → Fits (bodies.Select s) → IsFaultless graph line (bodies.Select s)
    → FitsSources graph.nodes (length graph.nodes) (node_of graph.nodes line (bodies.Select s)) (operator_of graph.nodes (bodies.Select s))
select_is graph line s fits passes =
    let source = node_columns graph.nodes s.source in
    source_of graph.nodes s.source _ (known_node line graph.nodes s.source [] passes.nodes) (record {
      columns = zip_of (λ (i : ItemText). AreReal (item i)) (unknown_in_item line source source) (item_fits source) (item_of source) (item_column source) (Makes source)
          (item_makes line source) s.items (real_items s fits) passes.columns passes.kinds;
      size = refl;
      clear = fits.form.1;
    })

pub distinct_is : (graph : Content) (line : ℕ) (d : DistinctText) → FitsForm (bodies.Distinct d) → IsFaultless graph line (bodies.Distinct d)
    → FitsSources graph.nodes (length graph.nodes) (node_of graph.nodes line (bodies.Distinct d)) (operator_of graph.nodes (bodies.Distinct d))
distinct_is graph line d form passes =
    source_of graph.nodes d.source _ (known_node line graph.nodes d.source [] passes.nodes) (record { columns = refl; size = refl; bound = passes.counts; clear = form })

column_same : (a b : Column) → same_column a b ≡ true → a ≡ b
column_same a b same =
    let both = both_true (bytes_eq a.name b.name) (same_kind a.kind b.kind) same in
    let names : a.name ≡ b.name = (bytes_eq-Decides a.name b.name).0 both.0 in
    let kinds : a.kind ≡ b.kind = kind_same a.kind b.kind both.1 in
    λ i. record { name = names i; kind = kinds i }

columns_same : (a b : List Column) → same_columns a b ≡ true → a ≡ b
columns_same [] [] same = refl
columns_same [] (d ∷ b) same = absurd cc
columns_same (c ∷ a) [] same = absurd cc
columns_same (c ∷ a) (d ∷ b) same =
    let both = both_true (same_column c d) (same_columns a b) same in
    cons_same (column_same c d both.0) (columns_same a b both.1)

summed : (nodes : List Node) (names : List (List ℕ)) → map (node_rows nodes) names ≡ map (rows_at nodes) (map (node_number nodes) names)
summed nodes [] = refl
summed nodes (name ∷ names) = cons_same (rows_at_number nodes name) (summed nodes names)

pub concat_is : (graph : Content) (line : ℕ) (c : ConcatText) → FitsForm (bodies.Concat c) → IsFaultless graph line (bodies.Concat c)
    → FitsSources graph.nodes (length graph.nodes) (node_of graph.nodes line (bodies.Concat c)) (operator_of graph.nodes (bodies.Concat c))
concat_is graph line c form passes =
    let columns = first_columns graph.nodes c.sources in
    let P : List Column → ℕ → Type 0 = λ source rows. columns ≡ source in
    let many = length-map c.sources (node_number graph.nodes) in
    record {
      some = rw many form.0;
      few = rw many form.1;
      columns = All-from_recursion (λ s. IsSource graph.nodes (length graph.nodes) s P) (map (node_number graph.nodes) c.sources)
          (all_of (λ (source : List ℕ). Unit {0}) (unknown_node line graph.nodes) (λ source. same_columns (node_columns graph.nodes source) columns) (node_number graph.nodes)
          (λ s. IsSource graph.nodes (length graph.nodes) s P)
          (λ source unit known same. source_of graph.nodes source P (known_of _ _ known) (sym (columns_same (node_columns graph.nodes source) columns same)))
          c.sources (each_unit c.sources) passes.nodes passes.shape);
      size = ap sum (summed graph.nodes c.sources);
    }

firsts : (left right : List Column) (keys : List (List ℕ)) → map (column_number left) keys ≡ map (λ (key : ℕ × ℕ). key.0) (map (key_numbers left right) keys)
firsts left right [] = refl
firsts left right (k ∷ keys) = cons_same refl (firsts left right keys)

seconds : (left right : List Column) (keys : List (List ℕ)) → map (column_number right) keys ≡ map (λ (key : ℕ × ℕ). key.1) (map (key_numbers left right) keys)
seconds left right [] = refl
seconds left right (k ∷ keys) = cons_same refl (seconds left right keys)

got : (left right : List Column) (keys : List (List ℕ)) → map (slice_get left) (map (column_number left) keys) ≡ map (λ (key : ℕ × ℕ). slice_get left key.0) (map (key_numbers left right) keys)
got left right [] = refl
got left right (k ∷ keys) = cons_same refl (got left right keys)

known_all : (line : ℕ) (left right : List Column) (keys : List (List ℕ)) → first_fault (unknown_column line left right) keys ≡ None
    → AllByRecursion (λ (k : List ℕ). (is_column left k ≡ true) × (is_column right k ≡ true)) keys
known_all line left right [] passes = tt
known_all line left right (k ∷ keys) passes =
    let none = both_none (unknown_column line left right k) (first_fault (unknown_column line left right) keys) passes in
    (known_column line left right k none.0, known_all line left right keys none.1)

on_left : (left right : List Column) (keys : List (List ℕ)) → AllByRecursion (λ (k : List ℕ). (is_column left k ≡ true) × (is_column right k ≡ true)) keys
    → AllByRecursion (λ (k : List ℕ). is_column left k ≡ true) keys
on_left left right keys known = each_of (λ (k : List ℕ). (is_column left k ≡ true) × (is_column right k ≡ true)) (λ (k : List ℕ). is_column left k ≡ true) (λ k both. both.0) keys known

on_right : (left right : List Column) (keys : List (List ℕ)) → AllByRecursion (λ (k : List ℕ). (is_column left k ≡ true) × (is_column right k ≡ true)) keys
    → AllByRecursion (λ (k : List ℕ). is_column right k ≡ true) keys
on_right left right keys known = each_of (λ (k : List ℕ). (is_column left k ≡ true) × (is_column right k ≡ true)) (λ (k : List ℕ). is_column right k ≡ true) (λ k both. both.1) keys known

pub new_columns : (line : ℕ) (nodes : List Node) (name : List ℕ) (columns : List Column) → taken_in_node line nodes name columns ≡ None
    → AllPairs (λ (a b : Column). a.name ≢ b.name) columns
new_columns line nodes name columns passes =
    different_behind line [] columns (both_none (taken_node line nodes name) (repeated_column line columns) passes).1

joined_width : (left right : List Column) (keys : List (List ℕ)) → length (other_columns keys left) + length keys ≡ length left
    → length (other_columns keys right) + length keys ≡ length right
    → length (map (key_column left) keys ++ other_columns keys left ++ other_columns keys right) + length (map (key_numbers left right) keys) ≡ length left + length right
joined_width left right keys first second =
    let all = length-append (map (key_column left) keys ++ other_columns keys left) (other_columns keys right) in
    let others = length-append (map (key_column left) keys) (other_columns keys left) in
    let made = length-map keys (key_column left) in
    let numbers = length-map keys (key_numbers left right) in
    omega (arith, all, others, made, numbers, first, second)

key_names : (source : List Column) (keys : List (List ℕ)) → map (λ (c : Column). c.name) (map (key_column source) keys) ≡ keys
key_names source [] = refl
key_names source (k ∷ keys) = cons_same refl (key_names source keys)

join_fits : (nodes : List Node) (line : ℕ) (j : JoinText) (left right : List Column) → FitsForm (bodies.Join j) → AllPairs (λ (a b : Column). a.name ≢ b.name) left
    → AllPairs (λ (a b : Column). a.name ≢ b.name) right → first_fault (unknown_column line left right) j.keys ≡ None
    → AllPairs (λ (a b : Column). a.name ≢ b.name) (map (key_column left) j.keys ++ other_columns j.keys left ++ other_columns j.keys right)
    → list_all (λ key. same_kind (column_kind left key) (column_kind right key)) j.keys ≡ true → is_bound j.at_most ≡ true
    → left ≡ node_columns nodes j.left → right ≡ node_columns nodes j.right
    → IsJoin left right (node_rows nodes j.left) (node_rows nodes j.right)
    (record {
      name = j.name;
      line = line;
      columns = map (key_column left) j.keys ++ other_columns j.keys left ++ other_columns j.keys right;
      rows = bounded j.at_most (node_rows nodes j.left * node_rows nodes j.right);
      shape = operator_of nodes (bodies.Join j);
    })
    (record { left = node_number nodes j.left; right = node_number nodes j.right; keys = map (key_numbers left right) j.keys; at_most = j.at_most; via = j.via; clear_at = j.clear_at })
join_fits nodes line j left right form left_differ right_differ known new kinds bound first second =
    let both = known_all line left right j.keys known in
    let known_left = on_left left right j.keys both in
    let known_right = on_right left right j.keys both in
    let rest = other_columns j.keys left ++ other_columns j.keys right in
    let apart = append_assoc (map (key_column left) j.keys) (other_columns j.keys left) (other_columns j.keys right) in
    let differ = keys_differ left rest j.keys (subst (AllPairs (λ (a b : Column). a.name ≢ b.name)) apart new) in
    let count = length-map j.keys (key_numbers left right) ∙ sym (length-map j.keys (key_column left)) in
    let front = ap (λ n. take n (map (key_column left) j.keys ++ rest)) count ∙ take-append_seam (map (key_column left) j.keys) rest in
    let names = ap (first_names (length (map (key_numbers left right) j.keys))) apart ∙ (ap (map (λ (c : Column). c.name)) front ∙ key_names left j.keys) in
    record {
      filled = filled_map (key_numbers left right) j.keys form.0;
      keys = All-from_recursion (IsKey left right) (map (key_numbers left right) j.keys)
          (all_of (λ (key : List ℕ). Unit {0}) (unknown_column line left right) (λ key. same_kind (column_kind left key) (column_kind right key)) (key_numbers left right)
          (IsKey left right) (λ key unit. key_is line left right key) j.keys (each_unit j.keys) known kinds);
      different_left = subst (AllPairs (λ (a b : ℕ). a ≢ b)) (firsts left right j.keys) (numbers_differ left j.keys known_left differ);
      different_right = subst (AllPairs (λ (a b : ℕ). a ≢ b)) (seconds left right j.keys) (numbers_differ right j.keys known_right differ);
      key_columns = ap (λ columns. map Some (take (length (map (key_numbers left right) j.keys)) columns)) apart
          ∙ (ap (λ n. map Some (take n (map (key_column left) j.keys ++ rest))) (length-map j.keys (key_numbers left right))
          ∙ (key_columns left rest j.keys known_left ∙ got left right j.keys));
      others = ap (drop (length (map (key_numbers left right) j.keys))) apart
          ∙ (ap (λ n. drop n (map (key_column left) j.keys ++ rest)) count
          ∙ (drop-append_seam (map (key_column left) j.keys) rest ∙ ap (λ keys. other_columns keys left ++ other_columns keys right) (sym names)));
      width = joined_width left right j.keys (count_others left j.keys left_differ differ known_left) (count_others right j.keys right_differ differ known_right);
      size = refl;
      bound = bound;
      via = form.1;
      clear = form.2;
      one_place = form.3;
    }

pub join_is : (graph : Content) (line : ℕ) (j : JoinText) → FitsForm (bodies.Join j) → IsFaultless graph line (bodies.Join j)
    → AllByRecursion (λ (n : Node). IsTable n.columns n.rows) graph.nodes
    → FitsSources graph.nodes (length graph.nodes) (node_of graph.nodes line (bodies.Join j)) (operator_of graph.nodes (bodies.Join j))
join_is graph line j form passes tables =
    let none = both_none (unknown_node line graph.nodes j.left) (first_fault (unknown_node line graph.nodes) (j.right ∷ [])) passes.nodes in
    let left_known = known_of (is_node graph.nodes j.left) _ none.0 in
    let right_known = known_node line graph.nodes j.right [] none.1 in
    source_of graph.nodes j.left _ left_known (source_of graph.nodes j.right _ right_known
    (join_fits graph.nodes line j (node_columns graph.nodes j.left) (node_columns graph.nodes j.right) form
    (of_known_node IsTable graph.nodes j.left left_known tables).2 (of_known_node IsTable graph.nodes j.right right_known tables).2
    passes.columns (new_columns line graph.nodes j.name (columns_of graph.nodes (bodies.Join j)) passes.taken) passes.kinds passes.counts refl refl))

grouped_rows : {A B : Type 0} (f : A → B) (keys : List A) (parts : Option ℕ) (rows : ℕ) → group_rows keys parts rows ≡ group_rows (map f keys) parts rows
grouped_rows f [] parts rows = refl
grouped_rows f (k ∷ keys) parts rows = refl

none_of : (o : Option ℕ) → is_none o ≡ true → o ≡ None
none_of None holds = refl
none_of (Some n) holds = absurd cc

filled_not : (n : ℕ) (ns : List ℕ) → n ∷ ns ≡ [] → ⊥
filled_not n ns same = subst IsFilled same tt

keyless_of : (source : List Column) (keys : List (List ℕ)) (via at_most parts : Option ℕ) → keyless_fits keys via at_most parts ≡ true
    → map (column_number source) keys ≡ [] → (via ≡ None) × (at_most ≡ None) × (parts ≡ None)
keyless_of source [] via at_most parts fits none =
    let last = both_true (is_none via && is_none at_most) (is_none parts) fits in
    let first = both_true (is_none via) (is_none at_most) last.0 in
    (none_of via first.0, none_of at_most first.1, none_of parts last.1)
keyless_of source (k ∷ keys) via at_most parts fits none = absurd (filled_not (column_number source k) (map (column_number source) keys) none)

within_all : (source : List Column) (keys : List (List ℕ)) → AllByRecursion (λ (k : List ℕ). is_column source k ≡ true) keys
    → AllByRecursion (λ (k : ℕ). k < length source) (map (column_number source) keys)
within_all source [] known = tt
within_all source (k ∷ keys) known = (column_within source k known.0, within_all source keys known.1)

pub group_is : (graph : Content) (line : ℕ) (g : GroupText) → FitsForm (bodies.Group g) → IsFaultless graph line (bodies.Group g)
    → FitsSources graph.nodes (length graph.nodes) (node_of graph.nodes line (bodies.Group g)) (operator_of graph.nodes (bodies.Group g))
group_is graph line g form passes =
    let source = node_columns graph.nodes g.source in
    let rest = map (aggregate_column source) g.aggregates in
    let none = both_none (first_fault (unknown_column line source source) g.keys) (first_fault (unknown_in_aggregate line source source) g.aggregates) passes.columns in
    let known = on_left source source g.keys (known_all line source source g.keys none.0) in
    let new = new_columns line graph.nodes g.name (columns_of graph.nodes (bodies.Group g)) passes.taken in
    let differ = keys_differ source rest g.keys new in
    let numbers = length-map g.keys (column_number source) in
    let made = length-map g.keys (key_column source) in
    let bounds = both_true (is_bound g.parts_at_most) (is_bound g.at_most) passes.counts in
    let shape = both_true (keyless_fits g.keys g.via g.at_most g.parts_at_most) _ passes.shape in
    source_of graph.nodes g.source _ (known_node line graph.nodes g.source [] passes.nodes) (record {
      keys = All-from_recursion (λ (k : ℕ). k < length source) (map (column_number source) g.keys) (within_all source g.keys known);
      different = numbers_differ source g.keys known differ;
      key_columns = ap (λ n. map Some (take n (map (key_column source) g.keys ++ rest))) numbers ∙ key_columns source rest g.keys known;
      filled = filled_map (aggregate_of source) g.aggregates form.0;
      columns = subst (AllZip (Gathers source) (map (aggregate_of source) g.aggregates))
          (sym (ap (λ n. drop n (map (key_column source) g.keys ++ rest)) (numbers ∙ sym made) ∙ drop-append_seam (map (key_column source) g.keys) rest))
          (zip_of (λ (a : AggregateText). Unit {0}) (unknown_in_aggregate line source source) (aggregate_fits source) (aggregate_of source) (aggregate_column source)
          (Gathers source) (λ a unit. aggregate_gathers line source a) g.aggregates (each_unit g.aggregates) none.1 passes.kinds);
      width = length-append (map (key_column source) g.keys) rest ∙ (ap (λ n. n + length rest) (made ∙ sym numbers) ∙ ap (λ n. length (map (column_number source) g.keys) + n)
          (length-map g.aggregates (aggregate_column source) ∙ sym (length-map g.aggregates (aggregate_of source))));
      size = ap (bounded g.at_most) (grouped_rows (column_number source) g.keys g.parts_at_most (node_rows graph.nodes g.source));
      bound = bounds.1;
      bound_of_parts = bounds.0;
      keyless = keyless_of source g.keys g.via g.at_most g.parts_at_most shape.0;
      apart = shape.1;
      via = form.1;
      clear = form.2;
      one_place = form.3;
    })
