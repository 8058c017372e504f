use Rattle.std.proofs.Common.{◌≡◌, ◌++◌, ◌≤◌, drop}
use Rattle.lanes.specs.Lanes.{xors}
use Rattle.party_core.proofs.lists.xored.Given as goal

abbrev pub invariant-loop-i : goal.invariant-loop-i
invariant-loop-i l = record {
  within : l.i ≤ l.both;
  made : xors l.left l.right ≡ l.made.items ++ xors (drop l.i l.left) (drop l.i l.right);
}
