-- Lists that are cut off at a limit, where one is given.
use Rattle.std.specs.Prelude.{ℕ, ◌-◌, Bool, false, not, nat_lt, Option, Some, None, List, take}

-- the first elements of a list, as many as a limit lets through
abbrev pub first_of : {X : Type 0} → Option ℕ → List X → List X
first_of None xs = xs
first_of (Some limit) xs = take limit xs

-- what is left of a limit after some elements
abbrev pub left_of : Option ℕ → ℕ → Option ℕ
left_of None n = None
left_of (Some limit) n = Some (limit - n)

-- whether a limit lets no other element through after so many
abbrev pub is_reached : Option ℕ → ℕ → Bool
is_reached None n = false
is_reached (Some limit) n = not (nat_lt n limit)
