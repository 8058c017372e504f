-- The node of a statement without a fault, and the graph with it.
use Rattle.std.proofs.Common.{◌≡◌, ℕ, ◌+◌, ◌<◌, ◌≤◌, false, ◌&&◌, List, [], ◌∷◌, ◌++◌, Option, Some, None, length, map, ap, ◌∙◌, subst, arith, length-append}
use Rattle.std.specs.Prelude.{◌≢◌, AllPairs, nat_le, ◌==◌}
use Rattle.std.specs.List.{list_any}
use Rattle.std.proofs.lemmas.List.Elements.{All-from_recursion, All-push}
use Rattle.words.specs.declared.column.Column.{Column}
use Rattle.query_tokens.specs.Token.{IsName}
use Rattle.query_text.specs.Grammar.{Fits, FitsForm}
use Rattle.query_text.specs.declared.statement.Body.{Body}
use Rattle.query_text.specs.declared.statement.Body.TheVariants as bodies
use Rattle.query_text.specs.declared.statement.OutputText.{OutputText}
use Rattle.query_graph.specs.declared.fault.GraphFault.TheVariants.{Kind, Shape, Size}
use Rattle.query_graph.specs.declared.node.Node.{Node}
use Rattle.query_graph.specs.declared.node.Output.{Output}
use Rattle.query_graph.specs.declared.parties.Parties.{Parties}
use Rattle.query_graph.specs.Build.{empty_graph, fault_of, name_of, node_of, operator_of, output_of, rule_of, with_node, with_output}
use Rattle.query_graph.specs.Columns.{aggregate_column, columns_of, declared_column, item_column, key_column, other_columns, repeated_column, taken_name, taken_node}
use Rattle.query_graph.specs.Content.{Content}
use Rattle.query_graph.specs.Draft.{IsDraft}
use Rattle.query_graph.specs.Faults.{first_fault, first_of, unless}
use Rattle.query_graph.specs.IsGraph.{FitsSources, IsNode, IsOutput}
use Rattle.query_graph.specs.Kinds.{kinds_fit}
use Rattle.query_graph.specs.Names.{is_node, node_columns, node_number}
use Rattle.query_graph.specs.Parties.{no_party, parties_of}
use Rattle.query_graph.specs.Shapes.{shape_fits}
use Rattle.query_graph.specs.Sizes.{cell_limit, cells, cells_of, column_limit, constants_fit, counts_fit, is_bound, row_limit, declared_rows, sizes_fit}
use Rattle.query_graph.specs.Used.{unknown_columns, unknown_name, unknown_node, used_nodes}
use Rattle.query_graph.proofs.Different.{names_push, outputs_push}
use Rattle.query_graph.proofs.Faultless.{both_none, both_true, new_of, unless_none}
use Rattle.query_graph.proofs.Invariant.{cells_of-append, le_of}
use Rattle.query_graph.proofs.Kept.{back_some, bounded_some, concat_some, count_some, front_some, group_some, known_first, map_some, nodes_push, product_some, table_of, tables}
use Rattle.query_graph.proofs.Named.{defined_name, named_columns, named_tables, some_recipient}
use Rattle.query_graph.proofs.Places.{node_within}
use Rattle.query_graph.proofs.Sources.{IsFaultless, concat_is, distinct_is, filter_is, group_is, join_is, new_columns, relation_is, select_is}

-- known names and no other rule broken
pub no_fault : (graph : Content) (line : ℕ) (body : Body) → unknown_name line graph.nodes body ≡ None → rule_of graph line body ≡ None → fault_of graph line body ≡ None
no_fault graph line body known rules = ap (λ f. first_of f (rule_of graph line body)) known ∙ rules

-- the parts of having no fault
faultless : (graph : Content) (line : ℕ) (body : Body) → fault_of graph line body ≡ None → IsFaultless graph line body
faultless graph line body passes =
    let names = both_none (unknown_name line graph.nodes body) (rule_of graph line body) passes in
    let known = both_none (first_fault (unknown_node line graph.nodes) (used_nodes body)) (unknown_columns line graph.nodes body) names.0 in
    let taken = both_none (taken_name line graph body) _ names.1 in
    let kinds = both_none (unless (kinds_fit graph.nodes body) (Kind line)) _ taken.1 in
    let shape = both_none (unless (shape_fits graph.nodes body) (Shape line)) (unless (sizes_fit graph.nodes body) (Size line)) kinds.1 in
    let sizes = both_true (counts_fit body && constants_fit body) _ (unless_none (sizes_fit graph.nodes body) (Size line) shape.1) in
    record {
      nodes = known.0;
      columns = known.1;
      taken = taken.0;
      kinds = unless_none (kinds_fit graph.nodes body) (Kind line) kinds.0;
      shape = unless_none (shape_fits graph.nodes body) (Shape line) shape.0;
      counts = (both_true (counts_fit body) (constants_fit body) sizes.0).0;
    }

-- the size of its node is within the limits
record IsWithin (nodes : List Node) (body : Body) : Type 0 where
  pub rows : declared_rows nodes body ≤ row_limit
  pub columns : length (columns_of nodes body) ≤ column_limit
  pub all : cells_of nodes + cells (declared_rows nodes body) (length (columns_of nodes body)) ≤ cell_limit

within : (graph : Content) (line : ℕ) (body : Body) → fault_of graph line body ≡ None → IsWithin graph.nodes body
within graph line body passes =
    let names = both_none (unknown_name line graph.nodes body) (rule_of graph line body) passes in
    let taken = both_none (taken_name line graph body) _ names.1 in
    let kinds = both_none (unless (kinds_fit graph.nodes body) (Kind line)) _ taken.1 in
    let shape = both_none (unless (shape_fits graph.nodes body) (Shape line)) (unless (sizes_fit graph.nodes body) (Size line)) kinds.1 in
    let sizes = both_true (counts_fit body && constants_fit body) _ (unless_none (sizes_fit graph.nodes body) (Size line) shape.1) in
    let last = both_true (nat_le (declared_rows graph.nodes body) row_limit && nat_le (length (columns_of graph.nodes body)) column_limit) _ sizes.1 in
    let both = both_true (nat_le (declared_rows graph.nodes body) row_limit) _ last.0 in
    record { rows = le_of _ _ both.0; columns = le_of _ _ both.1; all = le_of _ _ last.1 }

-- it has a row and a column
some_of : (graph : Content) (line : ℕ) (body : Body) → IsDraft graph → FitsForm body → IsFaultless graph line body → output_of graph.nodes line body ≡ None
    → (1 ≤ declared_rows graph.nodes body) × (1 ≤ length (columns_of graph.nodes body))
some_of graph line (bodies.Relation r) is form passes none = (count_some r.rows passes.counts, map_some declared_column r.columns form.1.0)
some_of graph line (bodies.Filter f) is form passes none =
    let table = table_of graph line f.source [] is passes.nodes in (bounded_some f.at_most _ passes.counts table.0, table.1)
some_of graph line (bodies.Select s) is form passes none =
    let table = table_of graph line s.source [] is passes.nodes in (table.0, map_some (item_column (node_columns graph.nodes s.source)) s.items form.0)
some_of graph line (bodies.Concat c) is form passes none = concat_some graph line c.sources is form.0 passes.nodes
some_of graph line (bodies.Join j) is form passes none =
    let left = table_of graph line j.left (j.right ∷ []) is passes.nodes in
    let rest = (both_none (unknown_node line graph.nodes j.left) (first_fault (unknown_node line graph.nodes) (j.right ∷ [])) passes.nodes).1 in
    let right = table_of graph line j.right [] is rest in (
      bounded_some j.at_most _ passes.counts (product_some _ _ left.0 right.0),
      front_some (map (key_column (node_columns graph.nodes j.left)) j.keys ++ other_columns j.keys (node_columns graph.nodes j.left)) (other_columns j.keys (node_columns graph.nodes j.right))
          (front_some (map (key_column (node_columns graph.nodes j.left)) j.keys) (other_columns j.keys (node_columns graph.nodes j.left))
          (map_some (key_column (node_columns graph.nodes j.left)) j.keys form.0)),
    )
some_of graph line (bodies.Group g) is form passes none =
    let table = table_of graph line g.source [] is passes.nodes in
    let bounds = both_true (is_bound g.parts_at_most) (is_bound g.at_most) passes.counts in (
      bounded_some g.at_most _ bounds.1 (group_some g.keys g.parts_at_most _ bounds.0 table.0),
      back_some (map (key_column (node_columns graph.nodes g.source)) g.keys) (map (aggregate_column (node_columns graph.nodes g.source)) g.aggregates)
          (map_some (aggregate_column (node_columns graph.nodes g.source)) g.aggregates form.0),
    )
some_of graph line (bodies.Distinct d) is form passes none =
    let table = table_of graph line d.source [] is passes.nodes in (bounded_some d.at_most _ passes.counts table.0, table.1)
some_of graph line (bodies.Output o) is form passes none = absurd cc

new_node : (line : ℕ) (nodes : List Node) (name : List ℕ) (columns : List Column) → first_of (taken_node line nodes name) (repeated_column line columns) ≡ None
    → (is_node nodes name ≡ false) × AllPairs (λ (a b : Column). a.name ≢ b.name) columns
new_node line nodes name columns passes =
    (new_of _ _ (both_none (taken_node line nodes name) (repeated_column line columns) passes).0, new_columns line nodes name columns passes)

-- its columns differ, and its name is new
new_of_body : (graph : Content) (line : ℕ) (body : Body) → IsFaultless graph line body → output_of graph.nodes line body ≡ None
    → (is_node graph.nodes (name_of body) ≡ false) × AllPairs (λ (a b : Column). a.name ≢ b.name) (columns_of graph.nodes body)
new_of_body graph line (bodies.Relation r) passes none = new_node line graph.nodes r.name _ passes.taken
new_of_body graph line (bodies.Filter f) passes none = new_node line graph.nodes f.name _ passes.taken
new_of_body graph line (bodies.Select s) passes none = new_node line graph.nodes s.name _ passes.taken
new_of_body graph line (bodies.Concat c) passes none = new_node line graph.nodes c.name _ passes.taken
new_of_body graph line (bodies.Join j) passes none = new_node line graph.nodes j.name _ passes.taken
new_of_body graph line (bodies.Group g) passes none = new_node line graph.nodes g.name _ passes.taken
new_of_body graph line (bodies.Distinct d) passes none = new_node line graph.nodes d.name _ passes.taken
new_of_body graph line (bodies.Output o) passes none = absurd cc

sources_of : (graph : Content) (line : ℕ) (body : Body) → IsDraft graph → Fits body → IsFaultless graph line body → output_of graph.nodes line body ≡ None
    → FitsSources graph.nodes (length graph.nodes) (node_of graph.nodes line body) (operator_of graph.nodes body)
sources_of graph line (bodies.Relation r) is fits passes none = relation_is graph line r fits.form
sources_of graph line (bodies.Filter f) is fits passes none = filter_is graph line f fits passes
sources_of graph line (bodies.Select s) is fits passes none = select_is graph line s fits passes
sources_of graph line (bodies.Concat c) is fits passes none = concat_is graph line c fits.form passes
sources_of graph line (bodies.Join j) is fits passes none = join_is graph line j fits.form passes (tables graph is)
sources_of graph line (bodies.Group g) is fits passes none = group_is graph line g fits.form passes
sources_of graph line (bodies.Distinct d) is fits passes none = distinct_is graph line d fits.form passes
sources_of graph line (bodies.Output o) is fits passes none = absurd cc

node_is : (graph : Content) (line : ℕ) (body : Body) → IsDraft graph → Fits body → fault_of graph line body ≡ None → output_of graph.nodes line body ≡ None
    → IsNode graph.nodes (length graph.nodes) (node_of graph.nodes line body)
node_is graph line body is fits passes none =
    let faults = faultless graph line body passes in
    let limits = within graph line body passes in
    let some = some_of graph line body is fits.form faults none in
    record {
      name = defined_name graph.nodes line body fits none;
      column_names = All-from_recursion (λ (c : Column). IsName c.name) (columns_of graph.nodes body) (named_columns graph.nodes body (named_tables graph is) fits);
      some_rows = some.0;
      few_rows = limits.rows;
      some_columns = some.1;
      few_columns = limits.columns;
      different = (new_of_body graph line body faults none).1;
      sources = sources_of graph line body is fits faults none;
    }

pub graph_with_node : (graph : Content) (line : ℕ) (body : Body) → IsDraft graph → Fits body → fault_of graph line body ≡ None → output_of graph.nodes line body ≡ None
    → length graph.nodes < 4294967295 → IsDraft (with_node graph (node_of graph.nodes line body))
graph_with_node graph line body is fits passes none few =
    let n = node_of graph.nodes line body in
    let longer = length-append graph.nodes (n ∷ []) in
    let limits = within graph line body passes in
    record {
      few = omega (arith, few, longer);
      few_cells = rw (cells_of-append graph.nodes n) limits.all;
      names = names_push graph.nodes n is.names (new_of_body graph line body (faultless graph line body passes) none).0;
      nodes = nodes_push graph.nodes n is.nodes (node_is graph line body is fits passes none);
      outputs = λ i o within. let old = is.outputs i o within in record { node = omega (arith, old.node, longer); some = old.some };
      different_outputs = is.different_outputs;
    }

node_in : Option Output → ℕ
node_in None = 0
node_in (Some o) = o.node

node_of_output : (graph : Content) (line : ℕ) (w : OutputText) (o : Output) → output_of graph.nodes line (bodies.Output w) ≡ Some o → node_number graph.nodes w.node ≡ o.node
unfolding node_in
node_of_output graph line w o some = ap node_in some

recipients_in : Option Output → Parties
recipients_in None = no_party
recipients_in (Some o) = o.recipients

recipients_of_output : (graph : Content) (line : ℕ) (w : OutputText) (o : Output) → output_of graph.nodes line (bodies.Output w) ≡ Some o → parties_of w.recipients ≡ o.recipients
unfolding recipients_in
recipients_of_output graph line w o some = ap recipients_in some

pub graph_with_output : (graph : Content) (line : ℕ) (body : Body) (o : Output) → IsDraft graph → Fits body → fault_of graph line body ≡ None → output_of graph.nodes line body ≡ Some o
    → IsDraft (with_output graph o)
graph_with_output graph line (bodies.Relation r) o is fits passes some = absurd cc
graph_with_output graph line (bodies.Filter f) o is fits passes some = absurd cc
graph_with_output graph line (bodies.Select s) o is fits passes some = absurd cc
graph_with_output graph line (bodies.Concat c) o is fits passes some = absurd cc
graph_with_output graph line (bodies.Join j) o is fits passes some = absurd cc
graph_with_output graph line (bodies.Group g) o is fits passes some = absurd cc
graph_with_output graph line (bodies.Distinct d) o is fits passes some = absurd cc
graph_with_output graph line (bodies.Output w) o is fits passes some =
    let faults = faultless graph line (bodies.Output w) passes in
    let node : node_number graph.nodes w.node ≡ o.node = node_of_output graph line w o some in
    let earlier = node_within graph.nodes w.node (known_first line graph.nodes w.node [] faults.nodes) in
    record {
      few = is.few;
      few_cells = is.few_cells;
      names = is.names;
      nodes = is.nodes;
      outputs = All-push (IsOutput graph.nodes) graph.outputs o is.outputs (record {
        node = subst (λ s. s < length graph.nodes) node earlier;
        some = subst (λ set. set ≢ no_party) (recipients_of_output graph line w o some) (some_recipient w.recipients fits.form.0 fits.form.1);
      });
      different_outputs = outputs_push graph.outputs o is.different_outputs
          (subst (λ s. list_any (λ (p : Output). p.node == s) graph.outputs ≡ false) node (new_of _ _ faults.taken));
    }

pub empty_is : IsDraft empty_graph
empty_is = record {
  few = omega arith;
  few_cells = omega arith;
  names = λ i j d below within. absurd (omega (arith, within));
  nodes = λ i n at. absurd cc;
  outputs = λ i d within. absurd (omega (arith, within));
  different_outputs = λ i j d below within. absurd (omega (arith, within));
}
