-- The three parties, and the lists of them that a text can write.
use Rattle.std.specs.Prelude.{ℕ, ◌<◌, ◌≤◌, List, [], ◌∷◌}

-- the number of a party: 1, 2 or 3
abbrev pub IsParty : ℕ → Type 0
IsParty p = (0 < p) × (p ≤ 3)

-- parties above this number, in rising order
abbrev pub AreRisingAbove : ℕ → List ℕ → Type 0
AreRisingAbove n [] = Unit {0}
AreRisingAbove n (p ∷ parties) = (n < p) × (p ≤ 3) × AreRisingAbove p parties

-- no party, or up to three in rising order
abbrev pub AreParties : List ℕ → Type 0
AreParties parties = AreRisingAbove 0 parties
