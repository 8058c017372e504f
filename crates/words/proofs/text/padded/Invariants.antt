use Rattle.std.proofs.Common.{◌≡◌, ◌++◌, ◌-◌, take}
use Rattle.std.specs.Prelude.{replicate}
use Rattle.words.proofs.text.padded.Given as goal

-- the bytes so far, and zeros behind them
abbrev pub invariant-loop-index : goal.invariant-loop-index
invariant-loop-index l = l.padded ≡ take l.index l.bytes ++ replicate (8 - l.index) 0
