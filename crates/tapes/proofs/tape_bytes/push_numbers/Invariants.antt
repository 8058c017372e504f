use Rattle.std.proofs.Common.{◌≡◌, ◌++◌, take}
use Rattle.tapes.specs.Bytes.{number_bytes}
use Rattle.tapes.proofs.tape_bytes.push_numbers.Given as goal

abbrev pub invariant-loop-number : goal.invariant-loop-number
invariant-loop-number l =
    l.bytes.items ≡ l.fn.bytes.items ++ number_bytes (take l.number-index l.numbers)
