use Rattle.std.proofs.Common.{◌≡◌, ◌≤◌, ◌*◌, ◌++◌, length, drop, map}
use Rattle.step_lists.specs.Phases.{reshared_all, there_all, back_all}
use Rattle.joint_machine.specs.Seen.{lists}
use Rattle.joint_machine.proofs.phases.turn.Given as goal

abbrev pub invariant-loop-i : goal.invariant-loop-i
invariant-loop-i l = record {
  within : l.i ≤ length l.shares;
  masks : length l.masks ≡ length (drop l.i l.shares) * length l.order;
  others : length l.others ≡ length (drop l.i l.shares) * length l.order;
  shares : reshared_all l.j l.order (length l.order) (map lists l.shares) l.mask l.other
      ≡ map lists l.turned.shares.items ++ reshared_all l.j l.order (length l.order) (map lists (drop l.i l.shares)) l.masks l.others;
  there : there_all l.j l.order (length l.order) (map lists l.shares) l.mask
      ≡ l.turned.there.items ++ there_all l.j l.order (length l.order) (map lists (drop l.i l.shares)) l.masks;
  back : back_all l.j l.order (length l.order) (map lists l.shares) l.other
      ≡ l.turned.back.items ++ back_all l.j l.order (length l.order) (map lists (drop l.i l.shares)) l.others;
}
