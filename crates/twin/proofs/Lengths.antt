-- How long orders are.
use Rattle.std.proofs.Common.{◌≡◌, ℕ, List, length}
use Rattle.std.proofs.lemmas.List.FromFn.{length-map-range_with_len}
use Rattle.tapes.specs.Order.{inverse_of}

pub inverse_long : (o : List ℕ) → length (inverse_of o) ≡ length o
inverse_long o = length-map-range_with_len _ 0 (length o)
