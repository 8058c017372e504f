use Rattle.std.proofs.Common.{◌≡◌, take}
use Rattle.lanes.specs.declared.party.Party.TheVariants.{First, Second, Third}
use Rattle.lanes.specs.SharedAnd.{and_share}
use Rattle.joint_machine.specs.Seen.{slices}
use Rattle.joint_machine.proofs.masked.and_shares.Given as goal

abbrev pub invariant-loop-i : goal.invariant-loop-i
invariant-loop-i l = record {
  first : l.first.items ≡ take l.i (and_share First (slices l.s) (slices l.t) (slices l.masks));
  second : l.second.items ≡ take l.i (and_share Second (slices l.s) (slices l.t) (slices l.masks));
  third : l.third.items ≡ take l.i (and_share Third (slices l.s) (slices l.t) (slices l.masks));
}
