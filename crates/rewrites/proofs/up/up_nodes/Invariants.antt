use Rattle.std.proofs.Common.{◌≡◌, ◌≤◌, drop, length}
use Rattle.rewrites.specs.Up.{up_from}
use Rattle.rewrites.proofs.up.up_nodes.Given as goal

-- those from this number on are told
abbrev pub invariant-loop-number : goal.invariant-loop-number
invariant-loop-number l = record {
  below : l.number ≤ length l.graph.nodes;
  long : length l.up.items ≡ length l.graph.nodes;
  done : drop l.number l.up.items ≡ up_from l.graph l.parts l.number (drop l.number l.graph.nodes);
}

abbrev pub decreases-loop-number : goal.decreases-loop-number
decreases-loop-number l = l.number
