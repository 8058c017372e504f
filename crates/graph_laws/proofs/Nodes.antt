-- The node of a statement without a fault is the one that it writes, and so is its output.
use Rattle.std.proofs.Common.{◌≡◌, ℕ, false, List, [], ◌∷◌, None, Some, refl, subst}
use Rattle.std.specs.Prelude.{slice_get}
use Rattle.std.specs.List.{AllZip}
use Rattle.words.specs.declared.column.Column.{Column}
use Rattle.query_text.specs.Grammar.{Fits}
use Rattle.query_text.specs.declared.parts.ColumnText.{ColumnText}
use Rattle.query_text.specs.declared.statement.Body.{Body}
use Rattle.query_text.specs.declared.statement.Body.TheVariants as bodies
use Rattle.query_text.specs.declared.statement.ConcatText.{ConcatText}
use Rattle.query_text.specs.declared.statement.FilterText.{FilterText}
use Rattle.query_text.specs.declared.statement.GroupText.{GroupText}
use Rattle.query_text.specs.declared.statement.JoinText.{JoinText}
use Rattle.query_text.specs.declared.statement.SelectText.{SelectText}
use Rattle.query_graph.specs.declared.node.Node.{Node}
use Rattle.query_graph.specs.declared.node.Output.{Output}
use Rattle.query_graph.specs.declared.parties.Parties.{Parties}
use Rattle.query_graph.specs.Build.{node_of, operator_of, output_of}
use Rattle.query_graph.specs.Columns.{columns_of}
use Rattle.query_graph.specs.Content.{Content}
use Rattle.query_graph.specs.Faults.{first_fault}
use Rattle.query_graph.specs.Names.{node_columns, node_number}
use Rattle.query_graph.specs.Parties.{parties_of}
use Rattle.query_graph.specs.Statements.{is_output_body}
use Rattle.query_graph.specs.Used.{unknown_node}
use Rattle.graph_laws.specs.Columns.{GroupHasColumns, ItemHasColumn}
use Rattle.graph_laws.specs.Nodes.{MakesOutput, MakesNode}
use Rattle.graph_laws.specs.Parts.{WritesAggregate, WritesItem, WritesKey, WritesName, WritesParties, WritesSource, WritesTest}
use Rattle.graph_laws.proofs.Columns.{declared_columns, group_columns, item_columns}
use Rattle.graph_laws.proofs.Faults.{IsFaultless, both_none, each_part, known_of, none_faulty, zip_made}
use Rattle.graph_laws.proofs.Known.{KnownNode, known_node}
use Rattle.graph_laws.proofs.Parts.{aggregates_written, items_written, keys_written, names_written, tests_written}
use Rattle.graph_laws.proofs.Sets.{written_parties}
use Rattle.graph_laws.proofs.Texts.{tokens_of_items, tokens_of_tests}

-- parts that are written over these columns are so over the same
over : {A B : Type 0} (R : List Column → A → B → Type 0) (xs : List A) (ys : List B) (a b : List Column) → a ≡ b → AllZip (R a) xs ys → AllZip (R b) xs ys
over R xs ys a b same all = subst (λ columns. AllZip (R columns) xs ys) same all

-- the earlier nodes stand in all nodes where they stood
abbrev pub StandIn : List Node → List Node → Type 0
StandIn nodes all = (k : ℕ) (n : Node) → slice_get nodes k ≡ Some n → slice_get all k ≡ Some n

module _ (graph : Content) (all : List Node) (stand : StandIn graph.nodes all) (line : ℕ) where
  -- a known name is that of an earlier node, which has these columns
  source_of : (name : List ℕ) → unknown_node line graph.nodes name ≡ None → KnownNode all name (node_number graph.nodes name) (node_columns graph.nodes name)
  source_of name passes =
      let found = known_node graph.nodes name (known_of _ _ passes) in
      record { node = found.node; is = record { stands = stand (node_number graph.nodes name) found.node found.is.stands; named = found.is.named }; same = found.same }

  source_written : (name : List ℕ) → unknown_node line graph.nodes name ≡ None → WritesSource all name (node_number graph.nodes name)
  source_written name passes = let found = source_of name passes in (found.node, found.is)

  first_known : (name : List ℕ) (others : List (List ℕ)) → first_fault (unknown_node line graph.nodes) (name ∷ others) ≡ None → unknown_node line graph.nodes name ≡ None
  first_known name others passes = (both_none (unknown_node line graph.nodes name) (first_fault (unknown_node line graph.nodes) others) passes).0

  second_known : (name other : List ℕ) → first_fault (unknown_node line graph.nodes) (name ∷ other ∷ []) ≡ None → unknown_node line graph.nodes other ≡ None
  second_known name other passes =
      first_known other [] (both_none (unknown_node line graph.nodes name) (first_fault (unknown_node line graph.nodes) (other ∷ [])) passes).1

  filter_written : (f : FilterText) → Fits (bodies.Filter f) → IsFaultless graph line (bodies.Filter f)
      → MakesNode all (bodies.Filter f) (node_of graph.nodes line (bodies.Filter f)) (operator_of graph.nodes (bodies.Filter f))
  filter_written f fits passes =
      let source = source_of f.source (first_known f.source [] passes.nodes) in
      record {
        name = refl;
        source = source.node;
        is_source = source.is;
        tests = over WritesTest f.tests _ _ _ source.same
            (tests_written line (node_columns graph.nodes f.source) f.tests (tokens_of_tests f fits) passes.constants passes.columns);
        at_most = refl;
        clear_at = refl;
      }

  select_written : (s : SelectText) → Fits (bodies.Select s) → IsFaultless graph line (bodies.Select s)
      → MakesNode all (bodies.Select s) (node_of graph.nodes line (bodies.Select s)) (operator_of graph.nodes (bodies.Select s))
  select_written s fits passes =
      let source = source_of s.source (first_known s.source [] passes.nodes) in
      record {
        name = refl;
        source = source.node;
        is_source = source.is;
        items = over WritesItem s.items _ _ _ source.same
            (items_written line (node_columns graph.nodes s.source) s.items (tokens_of_items s fits) passes.constants passes.columns);
        columns = over ItemHasColumn s.items _ _ _ source.same (item_columns line (node_columns graph.nodes s.source) s.items passes.columns);
        clear_at = refl;
      }

  join_written : (j : JoinText) → IsFaultless graph line (bodies.Join j)
      → MakesNode all (bodies.Join j) (node_of graph.nodes line (bodies.Join j)) (operator_of graph.nodes (bodies.Join j))
  join_written j passes =
      let left = source_of j.left (first_known j.left (j.right ∷ []) passes.nodes) in
      let right = source_of j.right (second_known j.left j.right passes.nodes) in
      let keys = keys_written line (node_columns graph.nodes j.left) (node_columns graph.nodes j.right) j.keys passes.columns in
      record {
        name = refl;
        left = left.node;
        is_left = left.is;
        right = right.node;
        is_right = right.is;
        keys = over (WritesKey left.node.columns) j.keys _ _ _ right.same (over (λ columns. WritesKey columns (node_columns graph.nodes j.right)) j.keys _ _ _ left.same keys);
        at_most = refl;
        via = refl;
        clear_at = refl;
      }

  group_written : (g : GroupText) → IsFaultless graph line (bodies.Group g)
      → MakesNode all (bodies.Group g) (node_of graph.nodes line (bodies.Group g)) (operator_of graph.nodes (bodies.Group g))
  group_written g passes =
      let source = source_of g.source (first_known g.source [] passes.nodes) in
      let columns = node_columns graph.nodes g.source in
      let known = both_none _ _ passes.columns in
      record {
        name = refl;
        source = source.node;
        is_source = source.is;
        keys = over WritesName g.keys _ _ _ source.same (names_written line columns g.keys known.0);
        aggregates = over WritesAggregate g.aggregates _ _ _ source.same (aggregates_written line columns g.aggregates known.1);
        columns = subst (λ source. GroupHasColumns source g.keys g.aggregates (columns_of graph.nodes (bodies.Group g))) source.same
            (group_columns line columns g.keys g.aggregates known.0 known.1);
        parts_at_most = refl;
        at_most = refl;
        via = refl;
        clear_at = refl;
      }

  concat_written : (c : ConcatText) → IsFaultless graph line (bodies.Concat c)
      → MakesNode all (bodies.Concat c) (node_of graph.nodes line (bodies.Concat c)) (operator_of graph.nodes (bodies.Concat c))
  concat_written c passes = record {
    name = refl;
    sources = zip_made (λ source. unknown_node line graph.nodes source ≡ None) (node_number graph.nodes) (WritesSource all) source_written c.sources
        (none_faulty (unknown_node line graph.nodes) c.sources passes.nodes);
  }

  -- the node of each statement but an output
  pub node_made : (body : Body) → Fits body → IsFaultless graph line body → is_output_body body ≡ false
      → MakesNode all body (node_of graph.nodes line body) (operator_of graph.nodes body)
  node_made (bodies.Relation r) fits passes other = record {
    name = refl;
    owner = refl;
    rows = refl;
    columns = declared_columns r.columns;
    trusted = each_part (λ (c : ColumnText). parties_of c.trusted) (λ (c : ColumnText) (set : Parties). WritesParties c.trusted set) (λ c. written_parties c.trusted) r.columns;
    release = written_parties r.release;
  }
  node_made (bodies.Filter f) fits passes other = filter_written f fits passes
  node_made (bodies.Select s) fits passes other = select_written s fits passes
  node_made (bodies.Concat c) fits passes other = concat_written c passes
  node_made (bodies.Join j) fits passes other = join_written j passes
  node_made (bodies.Group g) fits passes other = group_written g passes
  node_made (bodies.Distinct d) fits passes other =
      record { name = refl; source = source_written d.source (first_known d.source [] passes.nodes); at_most = refl; clear_at = refl }
  node_made (bodies.Output o) fits passes other = absurd cc

  -- and the output
  pub output_made : (body : Body) (output : Output) → IsFaultless graph line body → output_of graph.nodes line body ≡ Some output → (output.line ≡ line) × MakesOutput all body output
  output_made (bodies.Relation r) output passes is = absurd cc
  output_made (bodies.Filter f) output passes is = absurd cc
  output_made (bodies.Select s) output passes is = absurd cc
  output_made (bodies.Concat c) output passes is = absurd cc
  output_made (bodies.Join j) output passes is = absurd cc
  output_made (bodies.Group g) output passes is = absurd cc
  output_made (bodies.Distinct d) output passes is = absurd cc
  output_made (bodies.Output o) output passes is =
      let made : Output = record { line = line; node = node_number graph.nodes o.node; recipients = parties_of o.recipients } in
      let same : made ≡ output = cc in
      subst (λ (told : Output). (told.line ≡ line) × MakesOutput all (bodies.Output o) told) same
      (refl, record { node = source_written o.node (first_known o.node [] passes.nodes); recipients = written_parties o.recipients })
