use Rattle.std.proofs.Common.{◌≡◌, ◌*◌, ◌^◌, ◌≤◌, sum_by, take}
use Rattle.places.specs.Cost.{joint_part}
use Rattle.places.proofs.cost.joint_rows.Given as goal

abbrev pub invariant-loop-part : goal.invariant-loop-part
invariant-loop-part l = record { so_far : l.rows ≡ sum_by joint_part (take l.part-index l.parts); few : l.rows ≤ 2 ^ 32 * l.part-index }
