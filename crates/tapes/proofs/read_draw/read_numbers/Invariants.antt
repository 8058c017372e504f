use Rattle.std.proofs.Common.{◌≡◌, ℕ, ◌*◌, ◌<◌, ◌^◌, ◌++◌, length, get_or, drop}
use Rattle.tapes.specs.Bytes.{number_bytes}
use Rattle.tapes.proofs.read_draw.read_numbers.Given as goal

abbrev pub invariant-loop-i : goal.invariant-loop-i
invariant-loop-i l =
    (length l.numbers.items ≡ l.i) × ((k : ℕ) → get_or l.numbers.items k 0 < 2 ^ 32)
    × (l.bytes ≡ number_bytes l.numbers.items ++ drop (4 * l.i) l.bytes)
