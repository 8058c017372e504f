use Rattle.std.proofs.Common.{◌≡◌, drop}
use Rattle.rewrites.specs.Up.{is_under_up}
use Rattle.rewrites.proofs.uses.is_under_up.Given as goal

-- what is looked for is found in the nodes that are left, or nowhere
abbrev pub invariant-loop-place : goal.invariant-loop-place
invariant-loop-place l = is_under_up l.number l.nodes l.up ≡ is_under_up l.number (drop l.place l.nodes) (drop l.place l.up)
