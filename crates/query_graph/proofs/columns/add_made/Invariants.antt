use Rattle.std.proofs.Common.{◌≡◌, ◌++◌, map, take}
use Rattle.query_graph.proofs.columns.add_made.Given as goal

-- the columns of the parts so far were added
abbrev pub invariant-loop-part : goal.invariant-loop-part
invariant-loop-part g l = l.columns.items ≡ l.fn.columns.items ++ map (g.P.Makes.made l.source) (take l.part-index l.parts)
