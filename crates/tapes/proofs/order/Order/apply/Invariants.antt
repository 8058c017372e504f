use Rattle.std.proofs.Common.{◌≡◌, ◌++◌, take, drop}
use Rattle.tapes.specs.Order.{applied}
use Rattle.tapes.proofs.order.Order.apply.Given as goal

abbrev pub invariant-loop-i : goal.invariant-loop-i
invariant-loop-i l =
    l.into ≡ take l.i (applied l.self-inside.places.items l.source) ++ drop l.i l.fn.into
