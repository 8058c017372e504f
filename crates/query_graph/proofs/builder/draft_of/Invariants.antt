use Rattle.std.proofs.Common.{◌≡◌, drop}
use Rattle.query_graph.specs.Build.{graph_behind, graph_of}
use Rattle.query_graph.proofs.builder.draft_of.Given as goal

-- the graph of all is that of the rest behind the graph so far
abbrev pub invariant-loop-statement : goal.invariant-loop-statement
invariant-loop-statement l = graph_of l.statements ≡ graph_behind l.draft (drop l.statement-index l.statements)
