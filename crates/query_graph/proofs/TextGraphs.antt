-- A text has one graph, one fault of its statements, or one place where it stops being a query.
use Rattle.std.proofs.Common.{◌≡◌, ℕ, ◌+◌, ◌<◌, ◌≤◌, ◌⊎◌, inl, inr, List, [], ◌∷◌, Option, Some, None, Result, Ok, Err, length, refl, sym, ap, ◌∙◌, subst, arith, length-append}
use Rattle.std.specs.List.{AllByRecursion}
use Rattle.std.proofs.lemmas.List.Elements.{recursion_from_All}
use Rattle.query_text.specs.Grammar.{AreStatements, Fits}
use Rattle.query_text.specs.Laws.{HasOneReading, TextsGiveStatements}
use Rattle.query_text.specs.Text.{IsFaultAt, IsQuery}
use Rattle.query_text.specs.declared.statement.Body.{Body}
use Rattle.query_text.specs.declared.statement.Statement.{Statement}
use Rattle.query_graph.specs.declared.fault.GraphFault.{GraphFault}
use Rattle.query_graph.specs.declared.node.Node.{Node}
use Rattle.query_graph.specs.declared.node.Output.{Output}
use Rattle.query_graph.specs.Build.{empty_graph, fault_of, graph_behind, graph_of, node_of, output_of, with_any_output, with_either, with_statement, without}
use Rattle.query_graph.specs.Content.{Content}
use Rattle.query_graph.specs.Draft.{IsDraft}
use Rattle.query_graph.specs.IsGraph.{IsGraph}
use Rattle.query_graph.specs.TextGraph.{HasGraph, HasGraphFault, TextsHaveGraphs}
use Rattle.query_graph.proofs.Finished.{finished}
use Rattle.query_graph.proofs.Grown.{empty_is, graph_with_node, graph_with_output}
use Rattle.query_graph.proofs.Made.{fault_is, made_of}

-- one statement more
step_is : (graph : Content) (line : ℕ) (body : Body) (o : Option Output) → output_of graph.nodes line body ≡ o → IsDraft graph → Fits body → fault_of graph line body ≡ None
    → length graph.nodes < 4294967295 → IsDraft (with_either graph o (node_of graph.nodes line body))
step_is graph line body (Some output) is draft fits passes few = graph_with_output graph line body output draft fits passes is
step_is graph line body None is draft fits passes few = graph_with_node graph line body draft fits passes is few

one_more : (graph : Content) (o : Option Output) (n : Node) → length (with_either graph o n).nodes ≤ length graph.nodes + 1
one_more graph (Some output) n = omega arith
one_more graph None n = omega (arith, length-append graph.nodes (n ∷ []))

ok_same : (a b : Content) → (let x : Result Content GraphFault = Ok a in x) ≡ Ok b → a ≡ b
ok_same a b same = cc

any_output : (graph after : Content) (outputs : List Output) → with_any_output graph outputs ≡ Ok after → graph ≡ after
any_output graph after [] is = absurd cc
any_output graph after (o ∷ outputs) is = ok_same graph after is

-- a statement before a graph has no fault
without_none : (o : Option GraphFault) (answer : Result Content GraphFault) (after : Content) → without o answer ≡ Ok after → (o ≡ None) × (answer ≡ Ok after)
without_none None answer after is = (refl, is)
without_none (Some fault) answer after is = absurd cc

behind_is : (graph : Content) (statements : List Statement) (after : Content) → IsDraft graph → AllByRecursion (λ (s : Statement). Fits s.body) statements
    → length graph.nodes + length statements < 4294967295 → graph_behind graph statements ≡ Ok after → IsDraft after
behind_is graph [] after draft fit few is = subst IsDraft (any_output graph after graph.outputs is) draft
behind_is graph (s ∷ statements) after draft fit few is =
    let parts = without_none (fault_of graph s.line s.body) (graph_behind (with_statement graph s.line s.body) statements) after is in
    let longer = one_more graph (output_of graph.nodes s.line s.body) (node_of graph.nodes s.line s.body) in
    behind_is (with_statement graph s.line s.body) statements after
    (step_is graph s.line s.body (output_of graph.nodes s.line s.body) refl draft fit.0 parts.0 (omega (arith, few)))
    fit.1 (omega (arith, few, longer)) parts.1

-- the graph of a query's statements is one
pub is_graph : (statements : List Statement) (graph : Content) → AreStatements statements → graph_of statements ≡ Ok graph → IsGraph graph
is_graph statements graph are is =
    finished statements graph are is
    (behind_is empty_graph statements graph empty_is (recursion_from_All (λ (s : Statement). Fits s.body) statements are.fit) (omega (arith, are.few)) is)

either_of : (text : List ℕ) (statements : List Statement) (answer : Result Content GraphFault) → IsQuery text statements → graph_of statements ≡ answer
    → ((fault : GraphFault) × HasGraphFault text fault) ⊎ ((graph : Content) × HasGraph text graph)
either_of text statements (Ok graph) read is = inr (graph, record { statements = statements; read = read; built = is })
either_of text statements (Err fault) read is = inl (fault, record { statements = statements; read = read; faulty = is })

module _ (reading : HasOneReading) (gives : TextsGiveStatements) where
  one_of : (text : List ℕ) (p q : List Statement) → IsQuery text p → IsQuery text q → graph_of p ≡ graph_of q
  one_of text p q first second = ap graph_of ((reading text).1 p q first second)

  each_of : (text : List ℕ) → ((q : List Statement) × IsQuery text q) ⊎ ((line : ℕ) × (column : ℕ) × IsFaultAt text line column)
      → ((line : ℕ) × (column : ℕ) × IsFaultAt text line column) ⊎ (((fault : GraphFault) × HasGraphFault text fault) ⊎ ((graph : Content) × HasGraph text graph))
  each_of text (inl query) = inr (either_of text query.0 (graph_of query.0) query.1 refl)
  each_of text (inr place) = inl place

  same_graph : (text : List ℕ) (a b : Content) → HasGraph text a → HasGraph text b → a ≡ b
  same_graph text a b first second =
      let same : (let x : Result Content GraphFault = Ok a in x) ≡ Ok b = sym first.built ∙ (one_of text first.statements second.statements first.read second.read ∙ second.built) in
      ok_same a b same

  same_fault : (text : List ℕ) (a b : GraphFault) → HasGraphFault text a → HasGraphFault text b → a ≡ b
  same_fault text a b first second =
      let same : (let x : Result Content GraphFault = Err a in x) ≡ Err b = sym first.faulty ∙ (one_of text first.statements second.statements first.read second.read ∙ second.faulty) in
      cc

  not_both : (text : List ℕ) (graph : Content) (fault : GraphFault) → HasGraph text graph → HasGraphFault text fault → ⊥
  not_both text graph fault first second =
      let wrong : (let x : Result Content GraphFault = Ok graph in x) ≡ Err fault = sym first.built ∙ (one_of text first.statements second.statements first.read second.read ∙ second.faulty) in
      absurd cc

  pub texts_have_graphs : TextsHaveGraphs
  texts_have_graphs = record {
    each = λ text. each_of text (reading text).0;
    one_graph = same_graph;
    one_fault = same_fault;
    no_fault = not_both;
    no_place = λ text graph line column has place. (reading text).2 has.statements line column has.read place;
    is_graph = λ text graph has. is_graph has.statements graph (gives text has.statements has.read) has.built;
    made = λ text graph statements has read. made_of statements graph (one_of text statements has.statements read has.read ∙ has.built);
    broken = λ text fault statements has read. fault_is statements fault (one_of text statements has.statements read has.read ∙ has.faulty);
  }
