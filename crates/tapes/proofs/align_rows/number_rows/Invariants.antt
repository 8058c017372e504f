use Rattle.std.proofs.Common.{take}
use Rattle.listed.specs.Lists.{owned}
use Rattle.tapes.specs.Align.{Numbered}
use Rattle.tapes.proofs.align_rows.number_rows.Given as goal

abbrev pub invariant-loop-i : goal.invariant-loop-i
invariant-loop-i l =
    Numbered (λ pair. pair.0.now) (λ pair. pair.1) 0 (owned (take l.i l.rows.items)) l.keyed.items
