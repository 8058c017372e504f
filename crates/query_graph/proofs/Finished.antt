-- The graph of all statements of a query: few nodes, an output, and lines that rise.
use Rattle.std.proofs.Common.{◌≡◌, ℕ, ◌+◌, ◌<◌, Bool, true, false, cond, not, List, [], ◌∷◌, Ok, length, filter, refl, ◌∙◌, arith}
use Rattle.std.specs.Prelude.{◌≢◌, All, AllPairs}
use Rattle.std.specs.List.{AllZip, AllByRecursion}
use Rattle.std.proofs.lemmas.List.Elements.{recursion_from_All, All-filter, All-from_recursion}
use Rattle.std.proofs.lemmas.List.Filters.{length-filter_both}
use Rattle.std.proofs.lemmas.List.Kept.{AllPairs-cons, AllPairs-filter}
use Rattle.std.proofs.lemmas.Slice.Zip.{AllZip-long}
use Rattle.query_text.specs.Grammar.{AreStatements}
use Rattle.query_text.specs.declared.statement.Statement.{Statement}
use Rattle.query_graph.specs.declared.node.Node.{Node}
use Rattle.query_graph.specs.declared.node.Output.{Output}
use Rattle.query_graph.specs.Build.{graph_of}
use Rattle.query_graph.specs.Content.{Content}
use Rattle.query_graph.specs.Draft.{IsDraft}
use Rattle.query_graph.specs.IsGraph.{HasRisingLines, IsGraph}
use Rattle.query_graph.specs.Statements.{IsGraphOf, IsNodeOf, IsOutputOf, is_output}
use Rattle.query_graph.proofs.Made.{made_of, zip_kept}
use Rattle.query_graph.proofs.Widths.{first_differs, rest_differ}

abbrev pub Later : ℕ → List Statement → Type 0
Later n statements = AllByRecursion (λ (s : Statement). n < s.line) statements

abbrev pub Rise : List Statement → Type 0
Rise statements = AllPairs (λ (a b : Statement). a.line < b.line) statements

-- things that stand on the lines of statements, one of each in order, rise with them
module _ {A : Type 0} (line : A → ℕ) where
  later : (n : ℕ) (statements : List Statement) (things : List A) → Later n statements → AllZip (λ (s : Statement) (x : A). line x ≡ s.line) statements things
      → AllByRecursion (λ x. n < line x) things
  later n [] [] all zip = tt
  later n [] (x ∷ things) all zip = absurd zip
  later n (s ∷ statements) [] all zip = absurd zip
  later n (s ∷ statements) (x ∷ things) all zip = (omega (arith, all.0, zip.0), later n statements things all.1 zip.1)

  rising : (statements : List Statement) (things : List A) → Rise statements → AllZip (λ (s : Statement) (x : A). line x ≡ s.line) statements things
      → AllPairs (λ a b. line a < line b) things
  rising [] [] rise zip = λ i j d below within. absurd (omega (arith, within))
  rising [] (x ∷ things) rise zip = absurd zip
  rising (s ∷ statements) [] rise zip = absurd zip
  rising (s ∷ statements) (x ∷ things) rise zip =
      let first = first_differs (λ (a b : Statement). a.line < b.line) s statements rise in
      AllPairs-cons (λ a b. line a < line b) x things
      (All-from_recursion (λ y. line x < line y) things
      (later (line x) statements things (rw zip.0 (recursion_from_All (λ (t : Statement). s.line < t.line) statements first)) zip.1))
      (rising statements things (rest_differ (λ (a b : Statement). a.line < b.line) s statements rise) zip.1)

-- statements of one list and of another stand on different lines
abbrev pub Apart : List Statement → List Statement → Type 0
Apart left right = AllByRecursion (λ (s : Statement). AllByRecursion (λ (t : Statement). s.line ≢ t.line) right) left

one_left : (s : Statement) (right : List Statement) → Later s.line right → AllByRecursion (λ (t : Statement). s.line ≢ t.line) right
one_left s [] all = tt
one_left s (t ∷ right) all = ((λ same. absurd (omega (arith, all.0, same))), one_left s right all.1)

one_right : (s : Statement) (left right : List Statement) → Later s.line left → Apart left right → Apart left (s ∷ right)
one_right s [] right all apart = tt
one_right s (t ∷ left) right all apart = (((λ same. absurd (omega (arith, all.0, same))), apart.0), one_right s left right all.1 apart.1)

one_more : (s : Statement) (b : Bool) (left right : List Statement) → Later s.line left → Later s.line right → Apart left right
    → Apart (cond (not b) (s ∷ left) left) (cond b (s ∷ right) right)
one_more s true left right all all_too apart = one_right s left right all apart
one_more s false left right all all_too apart = (one_left s right all_too, apart)

statements_apart : (statements : List Statement) → Rise statements → Apart (filter (λ s. not (is_output s)) statements) (filter is_output statements)
statements_apart [] rise = tt
statements_apart (s ∷ statements) rise =
    let first = first_differs (λ (a b : Statement). a.line < b.line) s statements rise in
    let behind = λ (p : Statement → Bool). recursion_from_All (λ (t : Statement). s.line < t.line) (filter p statements) (All-filter p (λ (t : Statement). s.line < t.line) statements first) in
    one_more s (is_output s) (filter (λ s. not (is_output s)) statements) (filter is_output statements) (behind (λ s. not (is_output s))) (behind is_output)
    (statements_apart statements (rest_differ (λ (a b : Statement). a.line < b.line) s statements rise))

outputs_apart : (n : ℕ) (right : List Statement) (outputs : List Output) → AllByRecursion (λ (t : Statement). n ≢ t.line) right
    → AllZip (λ (s : Statement) (o : Output). o.line ≡ s.line) right outputs → AllByRecursion (λ (o : Output). n ≢ o.line) outputs
outputs_apart n [] [] apart zip = tt
outputs_apart n [] (o ∷ outputs) apart zip = absurd zip
outputs_apart n (t ∷ right) [] apart zip = absurd zip
outputs_apart n (t ∷ right) (o ∷ outputs) apart zip = ((λ same. apart.0 (same ∙ zip.0)), outputs_apart n right outputs apart.1 zip.1)

nodes_apart : (left right : List Statement) (nodes : List Node) (outputs : List Output) → Apart left right → AllZip (λ (s : Statement) (n : Node). n.line ≡ s.line) left nodes
    → AllZip (λ (s : Statement) (o : Output). o.line ≡ s.line) right outputs → AllByRecursion (λ (n : Node). All (λ (o : Output). n.line ≢ o.line) outputs) nodes
nodes_apart [] right [] outputs apart zip zip_too = tt
nodes_apart [] right (n ∷ nodes) outputs apart zip zip_too = absurd zip
nodes_apart (s ∷ left) right [] outputs apart zip zip_too = absurd zip
nodes_apart (s ∷ left) right (n ∷ nodes) outputs apart zip zip_too = (
  All-from_recursion (λ (o : Output). n.line ≢ o.line) outputs (outputs_apart n.line right outputs (rw zip.0 apart.0) zip_too),
  nodes_apart left right nodes outputs apart.1 zip.1 zip_too,
)

-- the nodes and outputs of statements stand on their lines
node_lines : (statements : List Statement) (graph : Content) → IsGraphOf statements graph
    → AllZip (λ (s : Statement) (n : Node). n.line ≡ s.line) (filter (λ s. not (is_output s)) statements) graph.nodes
node_lines statements graph made =
    zip_kept (IsNodeOf graph.nodes) (λ (s : Statement) (n : Node). n.line ≡ s.line) (λ s n is. is.line) (filter (λ s. not (is_output s)) statements) graph.nodes made.made.nodes

output_lines : (statements : List Statement) (graph : Content) → IsGraphOf statements graph
    → AllZip (λ (s : Statement) (o : Output). o.line ≡ s.line) (filter is_output statements) graph.outputs
output_lines statements graph made =
    zip_kept (IsOutputOf graph.nodes) (λ (s : Statement) (o : Output). o.line ≡ s.line) (λ s o is. is.line) (filter is_output statements) graph.outputs made.made.outputs

lines_rise : (statements : List Statement) (graph : Content) → AreStatements statements → IsGraphOf statements graph → HasRisingLines graph
lines_rise statements graph are made =
    let others = filter (λ s. not (is_output s)) statements in
    let outputs = filter is_output statements in
    let on_nodes = node_lines statements graph made in
    let on_outputs = output_lines statements graph made in
    record {
      nodes = rising (λ (n : Node). n.line) others graph.nodes (AllPairs-filter (λ (a b : Statement). a.line < b.line) (λ s. not (is_output s)) statements are.rise) on_nodes;
      outputs = rising (λ (o : Output). o.line) outputs graph.outputs (AllPairs-filter (λ (a b : Statement). a.line < b.line) is_output statements are.rise) on_outputs;
      apart = All-from_recursion (λ (n : Node). All (λ (o : Output). n.line ≢ o.line) graph.outputs) graph.nodes
          (nodes_apart others outputs graph.nodes graph.outputs (statements_apart statements are.rise) on_nodes on_outputs);
    }

-- each statement is a node or an output
counted : (statements : List Statement) (graph : Content) → IsGraphOf statements graph → length graph.outputs + length graph.nodes ≡ length statements
counted statements graph made =
    let nodes = AllZip-long (λ (s : Statement) (n : Node). n.line ≡ s.line) (filter (λ s. not (is_output s)) statements) graph.nodes (node_lines statements graph made) in
    let outputs = AllZip-long (λ (s : Statement) (o : Output). o.line ≡ s.line) (filter is_output statements) graph.outputs (output_lines statements graph made) in
    omega (arith, nodes, outputs, length-filter_both is_output (λ s. not (is_output s)) (λ s. refl) statements)

pub finished : (statements : List Statement) (graph : Content) → AreStatements statements → graph_of statements ≡ Ok graph → IsDraft graph → IsGraph graph
finished statements graph are is draft =
    let made = made_of statements graph is in
    record {
      few = omega (arith, counted statements graph made, are.few, made.some);
      few_cells = draft.few_cells;
      names = draft.names;
      nodes = draft.nodes;
      some_output = made.some;
      outputs = draft.outputs;
      different_outputs = draft.different_outputs;
      lines = lines_rise statements graph are made;
    }
