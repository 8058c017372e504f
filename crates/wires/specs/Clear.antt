-- How a `Clear` holds its values.
use Rattle.std.specs.Prelude.{map, All}
use Rattle.wires.specs.Held.{Held, IsValue}
use Rattle.wires.specs.declared.clear.Clear.TheInside.{Inside}

abbrev pub held_by : Inside → Held
held_by clear = record { values = map (λ v. v.items) clear.values.items; and_words = clear.and_words; and_calls = clear.and_calls }

-- each value is words of fewer than 2 ^ 32 lanes
abbrev pub AreValues : Inside → Type 0
AreValues clear = All (λ v. IsValue v.items) clear.values.items
