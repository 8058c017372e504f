-- The graph of statements is the one that they write.
use Rattle.std.proofs.Common.{◌≡◌, ℕ, zero, suc, Bool, true, false, cond, not, List, [], ◌∷◌, ◌++◌, Option, Some, None, Result, Ok, filter, refl, sym, ap, ◌∙◌, subst, append_assoc}
use Rattle.std.specs.List.{AllByRecursion, AllZip}
use Rattle.std.proofs.lemmas.List.{append-nil}
use Rattle.std.proofs.lemmas.List.Elements.{recursion_from_All}
use Rattle.query_text.specs.Grammar.{AreStatements, Fits}
use Rattle.query_text.specs.Laws.{HasOneReading, TextsGiveStatements}
use Rattle.query_text.specs.declared.statement.Body.{Body}
use Rattle.query_text.specs.declared.statement.Body.TheVariants as bodies
use Rattle.query_text.specs.declared.statement.Statement.{Statement}
use Rattle.query_graph.specs.declared.fault.GraphFault.{GraphFault}
use Rattle.query_graph.specs.declared.node.Node.{Node}
use Rattle.query_graph.specs.declared.node.Output.{Output}
use Rattle.query_graph.specs.Build.{empty_graph, fault_of, graph_behind, graph_of, node_of, output_of, with_any_output, with_either, with_statement, without}
use Rattle.query_graph.specs.Content.{Content}
use Rattle.query_graph.specs.Statements.{is_output, is_output_body}
use Rattle.graph_laws.specs.Graphs.{GraphsAreWritten, IsWritten}
use Rattle.graph_laws.specs.Nodes.{HasNode, HasOutput}
use Rattle.graph_laws.proofs.Faults.{faultless}
use Rattle.graph_laws.proofs.Nodes.{StandIn, output_made, node_made}

abbrev pub inner : List Statement → List Statement
inner statements = filter (λ s. not (is_output s)) statements

-- what statements behind a graph write: nodes and outputs behind those of the graph
record Behind (graph : Content) (statements : List Statement) (after : Content) : Type 0 where
  nodes : List Node
  outputs : List Output
  all_nodes : after.nodes ≡ graph.nodes ++ nodes
  all_outputs : after.outputs ≡ graph.outputs ++ outputs
  are_nodes : AllZip (HasNode after.nodes) (inner statements) nodes
  are_outputs : AllZip (HasOutput after.nodes) (filter is_output statements) outputs

stand_first : (nodes more : List Node) → StandIn nodes (nodes ++ more)
stand_first [] more k n at = absurd cc
stand_first (m ∷ nodes) more zero n at = at
stand_first (m ∷ nodes) more (suc k) n at = stand_first nodes more k n at

stand_in : (nodes all more : List Node) → all ≡ nodes ++ more → StandIn nodes all
stand_in nodes all more is = subst (StandIn nodes) (sym is) (stand_first nodes more)

-- one statement more in front, which is a node or an output
zip_front : {A B : Type 0} (R : A → B → Type 0) (x : A) (xs : List A) (y : B) (ys : List B) (b : Bool) → b ≡ true → R x y → AllZip R xs ys → AllZip R (cond b (x ∷ xs) xs) (y ∷ ys)
zip_front R x xs y ys true is first rest = (first, rest)
zip_front R x xs y ys false is first rest = absurd cc

zip_none : {A B : Type 0} (R : A → B → Type 0) (x : A) (xs : List A) (ys : List B) (b : Bool) → b ≡ false → AllZip R xs ys → AllZip R (cond b (x ∷ xs) xs) ys
zip_none R x xs ys true is rest = absurd cc
zip_none R x xs ys false is rest = rest

not_false : (b : Bool) → b ≡ false → not b ≡ true
not_false b is = ap not is

not_true : (b : Bool) → b ≡ true → not b ≡ false
not_true b is = ap not is

is_told : (nodes : List Node) (line : ℕ) (body : Body) (output : Output) → output_of nodes line body ≡ Some output → is_output_body body ≡ true
is_told nodes line (bodies.Relation r) output is = absurd cc
is_told nodes line (bodies.Filter f) output is = absurd cc
is_told nodes line (bodies.Select s) output is = absurd cc
is_told nodes line (bodies.Concat c) output is = absurd cc
is_told nodes line (bodies.Join j) output is = absurd cc
is_told nodes line (bodies.Group g) output is = absurd cc
is_told nodes line (bodies.Distinct d) output is = absurd cc
is_told nodes line (bodies.Output o) output is = refl

is_kept : (nodes : List Node) (line : ℕ) (body : Body) → output_of nodes line body ≡ None → is_output_body body ≡ false
is_kept nodes line (bodies.Relation r) is = refl
is_kept nodes line (bodies.Filter f) is = refl
is_kept nodes line (bodies.Select s) is = refl
is_kept nodes line (bodies.Concat c) is = refl
is_kept nodes line (bodies.Join j) is = refl
is_kept nodes line (bodies.Group g) is = refl
is_kept nodes line (bodies.Distinct d) is = refl
is_kept nodes line (bodies.Output o) is = absurd cc

one_more : (graph : Content) (s : Statement) (statements : List Statement) (after : Content) (o : Option Output) → output_of graph.nodes s.line s.body ≡ o → Fits s.body
    → fault_of graph s.line s.body ≡ None → Behind (with_either graph o (node_of graph.nodes s.line s.body)) statements after → Behind graph (s ∷ statements) after
one_more graph s statements after (Some output) is fits passes behind =
    let stand = stand_in graph.nodes after.nodes behind.nodes behind.all_nodes in
    let told = output_made graph after.nodes stand s.line s.body output (faultless graph s.line s.body passes) is in
    let yes = is_told graph.nodes s.line s.body output is in
    record {
      nodes = behind.nodes;
      outputs = output ∷ behind.outputs;
      all_nodes = behind.all_nodes;
      all_outputs = behind.all_outputs ∙ append_assoc graph.outputs (output ∷ []) behind.outputs;
      are_nodes = zip_none (HasNode after.nodes) s (inner statements) behind.nodes (not (is_output s)) (not_true (is_output s) yes) behind.are_nodes;
      are_outputs = zip_front (HasOutput after.nodes) s (filter is_output statements) output behind.outputs (is_output s) yes (record { line = told.0; made = told.1 }) behind.are_outputs;
    }
one_more graph s statements after None is fits passes behind =
    let node = node_of graph.nodes s.line s.body in
    let all : after.nodes ≡ graph.nodes ++ node ∷ behind.nodes = behind.all_nodes ∙ append_assoc graph.nodes (node ∷ []) behind.nodes in
    let stand = stand_in graph.nodes after.nodes (node ∷ behind.nodes) all in
    let no = is_kept graph.nodes s.line s.body is in
    let made = node_made graph after.nodes stand s.line s.body fits (faultless graph s.line s.body passes) no in
    record {
      nodes = node ∷ behind.nodes;
      outputs = behind.outputs;
      all_nodes = all;
      all_outputs = behind.all_outputs;
      are_nodes = zip_front (HasNode after.nodes) s (inner statements) node behind.nodes (not (is_output s)) (not_false (is_output s) no) (record { line = refl; made = made }) behind.are_nodes;
      are_outputs = zip_none (HasOutput after.nodes) s (filter is_output statements) behind.outputs (is_output s) no behind.are_outputs;
    }

any_output : (graph after : Content) (outputs : List Output) → with_any_output graph outputs ≡ Ok after → after ≡ graph
any_output graph after [] is = absurd cc
any_output graph after (o ∷ outputs) is = cc

without_none : (o : Option GraphFault) (answer : Result Content GraphFault) (after : Content) → without o answer ≡ Ok after → (o ≡ None) × (answer ≡ Ok after)
without_none None answer after is = (refl, is)
without_none (Some fault) answer after is = absurd cc

behind_graph : (graph : Content) (statements : List Statement) (after : Content) → AllByRecursion (λ (s : Statement). Fits s.body) statements → graph_behind graph statements ≡ Ok after
    → Behind graph statements after
behind_graph graph [] after fit is =
    let same = any_output graph after graph.outputs is in
    record {
      nodes = [];
      outputs = [];
      all_nodes = ap (λ (g : Content). g.nodes) same ∙ sym (append-nil graph.nodes);
      all_outputs = ap (λ (g : Content). g.outputs) same ∙ sym (append-nil graph.outputs);
      are_nodes = tt;
      are_outputs = tt;
    }
behind_graph graph (s ∷ statements) after fit is =
    let parts = without_none (fault_of graph s.line s.body) (graph_behind (with_statement graph s.line s.body) statements) after is in
    one_more graph s statements after (output_of graph.nodes s.line s.body) refl fit.0 parts.0 (behind_graph (with_statement graph s.line s.body) statements after fit.1 parts.1)

graph_written : (statements : List Statement) (graph : Content) → AreStatements statements → graph_of statements ≡ Ok graph → IsWritten statements graph
graph_written statements graph are is =
    let behind = behind_graph empty_graph statements graph (recursion_from_All (λ (s : Statement). Fits s.body) statements are.fit) is in
    record {
      nodes = subst (AllZip (HasNode graph.nodes) (inner statements)) (sym behind.all_nodes) behind.are_nodes;
      outputs = subst (AllZip (HasOutput graph.nodes) (filter is_output statements)) (sym behind.all_outputs) behind.are_outputs;
    }

pub graphs_are_written : HasOneReading → TextsGiveStatements → GraphsAreWritten
graphs_are_written reading gives = record {
  of_queries = graph_written;
  of_texts = λ text statements graph read has.
      graph_written statements graph (gives text statements read) (ap graph_of ((reading text).1 statements has.statements read has.read) ∙ has.built);
}
