-- The three parties, who go round.
use Rattle.std.specs.Prelude.{ℕ, zero, suc, Option, Some, None}
use Rattle.lanes.specs.declared.party.Party.{Party}
use Rattle.lanes.specs.declared.party.Party.TheVariants.{First, Second, Third}

-- the party after one, and the party before it
abbrev pub next : Party → Party
next First = Second
next Second = Third
next Third = First

abbrev pub before : Party → Party
before First = Third
before Second = First
before Third = Second

-- the number by which files and messages name a party
abbrev pub number_of : Party → ℕ
number_of First = 1
number_of Second = 2
number_of Third = 3

-- the party of a number
abbrev pub party_at : ℕ → Option Party
party_at (suc zero) = Some First
party_at (suc (suc zero)) = Some Second
party_at (suc (suc (suc zero))) = Some Third
party_at _ = None
