use Rattle.std.proofs.Common.{◌≡◌, ◌*◌, ◌^◌, ◌≤◌, map, take}
use Rattle.std.specs.Prelude.{sum}
use Rattle.query_graph.specs.Names.{node_rows}
use Rattle.query_graph.proofs.sizes.sum_rows.Given as goal

-- the rows of the nodes so far, each below 2^32
abbrev pub invariant-loop-name : goal.invariant-loop-name
invariant-loop-name l = (l.rows ≡ sum (map (node_rows l.nodes) (take l.name-index l.names))) × (l.rows ≤ l.name-index * 2 ^ 32)
