use Rattle.std.proofs.Common.{◌≡◌, take}
use Rattle.listed.specs.Lists.{owned}
use Rattle.tapes.specs.Align.{rows_applied}
use Rattle.tapes.proofs.align_rows.have_equal_rows.Given as goal

abbrev pub invariant-loop-i : goal.invariant-loop-i
invariant-loop-i l =
    take l.i (rows_applied l.first (owned l.source.items)) ≡ take l.i (rows_applied l.second (owned l.target.items))
