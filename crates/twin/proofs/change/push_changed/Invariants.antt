use Rattle.std.proofs.Common.{◌≡◌, ◌++◌, ◌≤◌, drop}
use Rattle.step_lists.specs.Twin.{changed}
use Rattle.twin.proofs.Changes.{part}
use Rattle.twin.proofs.change.push_changed.Given as goal

abbrev pub invariant-loop-place : goal.invariant-loop-place
invariant-loop-place l = record {
  within : l.used ≤ l.place;
  same : l.fn.made ++ changed l.order l.words (part l.fn.from l.fn.to l.tape) ≡ l.made ++ changed l.order (drop l.used l.words) (part l.place l.fn.to l.tape);
}
