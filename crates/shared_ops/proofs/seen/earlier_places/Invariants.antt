use Rattle.std.proofs.Common.{◌≡◌, map}
use Rattle.std.specs.List.{range_with_len}
use Rattle.shared_ops.specs.Groups.{earlier_place}
use Rattle.shared_ops.proofs.seen.earlier_places.Given as goal

abbrev pub invariant-loop-place : goal.invariant-loop-place
invariant-loop-place l = l.places.items ≡ map (earlier_place l.rows) (range_with_len 0 l.place)
