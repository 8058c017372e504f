-- The graph of statements, one after the other.
use Rattle.std.proofs.Common.{◌≡◌, ℕ, ◌+◌, ◌<◌, List, Option, None, Result, length, get_or, drop, suc, refl, sym, ap, ◌∙◌, add-one}
use Rattle.std.proofs.Math.Seq.{drop-cons}
use Rattle.query_text.specs.declared.statement.Statement.{Statement}
use Rattle.query_graph.specs.declared.fault.GraphFault.{GraphFault}
use Rattle.query_graph.specs.declared.fault.GraphFault.TheVariants as faults
use Rattle.query_graph.specs.Build.{GivesFault, fault_of, graph_behind, with_statement, without}
use Rattle.query_graph.specs.Content.{Content}
use Rattle.query_graph.specs.Faults.{Faults}

-- the statement at this place, and those behind it
statement_at : (graph : Content) (statements : List Statement) (i : ℕ) (s : Statement) → i < length statements → s ≡ get_or statements i s
    → graph_behind graph (drop i statements) ≡ without (fault_of graph s.line s.body) (graph_behind (with_statement graph s.line s.body) (drop (i + 1) statements))
statement_at graph statements i s within is =
    ap (graph_behind graph) (drop-cons statements i s within)
    ∙ ap (λ (t : Statement). without (fault_of graph t.line t.body) (graph_behind (with_statement graph t.line t.body) (drop (suc i) statements))) (sym is)
    ∙ ap (λ n. without (fault_of graph s.line s.body) (graph_behind (with_statement graph s.line s.body) (drop n statements))) (sym (add-one i))

-- it is without fault
pub statement_passes : (graph after : Content) (statements : List Statement) (i : ℕ) (s : Statement) (total : Result Content GraphFault) → i < length statements → s ≡ get_or statements i s
    → total ≡ graph_behind graph (drop i statements) → fault_of graph s.line s.body ≡ None → after ≡ with_statement graph s.line s.body
    → total ≡ graph_behind after (drop (i + 1) statements)
statement_passes graph after statements i s total within is so_far passes added =
    so_far ∙ statement_at graph statements i s within is
    ∙ ap (λ f. without f (graph_behind (with_statement graph s.line s.body) (drop (i + 1) statements))) passes
    ∙ ap (λ g. graph_behind g (drop (i + 1) statements)) (sym added)

-- an answer for its fault is one for the graph
gives_first : (answer : GraphFault) (fault : Option GraphFault) (other : Result Content GraphFault) → Faults answer fault → GivesFault answer (without fault other)
gives_first (faults.Unknown line name) fault other h = rw h refl
gives_first (faults.Taken line name) fault other h = rw h refl
gives_first (faults.Kind line) fault other h = rw h refl
gives_first (faults.Shape line) fault other h = rw h refl
gives_first (faults.Size line) fault other h = rw h refl
gives_first faults.NoOutput fault other h = rw h refl
gives_first faults.Memory fault other h = tt

-- it has the answer's fault
pub statement_fails : (answer : GraphFault) (graph : Content) (statements : List Statement) (i : ℕ) (s : Statement) (total : Result Content GraphFault) → i < length statements
    → s ≡ get_or statements i s → total ≡ graph_behind graph (drop i statements) → Faults answer (fault_of graph s.line s.body) → GivesFault answer total
statement_fails answer graph statements i s total within is so_far fails =
    rw (so_far ∙ statement_at graph statements i s within is)
    (gives_first answer (fault_of graph s.line s.body) (graph_behind (with_statement graph s.line s.body) (drop (i + 1) statements)) fails)
