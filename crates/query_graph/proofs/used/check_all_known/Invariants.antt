use Rattle.std.proofs.Common.{◌≡◌, drop}
use Rattle.query_graph.specs.Faults.{first_fault}
use Rattle.query_graph.proofs.used.check_all_known.Given as goal

-- no part so far has a fault
abbrev pub invariant-loop-part : goal.invariant-loop-part
invariant-loop-part g l = first_fault (g.P.Uses.unknown l.line l.left l.right) l.parts ≡ first_fault (g.P.Uses.unknown l.line l.left l.right) (drop l.part-index l.parts)
