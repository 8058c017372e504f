use Rattle.std.proofs.Common.{◌≡◌, map, take}
use Rattle.conclave_top.specs.Answers.{answers}
use Rattle.conclave_top.proofs.answers.print_all.Given as goal

-- the answers so far
abbrev pub invariant-loop-output : goal.invariant-loop-output
invariant-loop-output l = l.text.items ≡ answers l.graph.nodes (map (λ t. t.rows) l.tables) (take l.output-index l.graph.outputs)
