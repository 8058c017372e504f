-- The parties of a set, in rising order.
use Rattle.std.specs.Prelude.{◌≡◌, ◌↔◌, ℕ, ◌<◌, ◌≤◌, true, List, [], ◌∷◌, Option, Some, AllPairs, filter, slice_get}
use Rattle.query_graph.specs.Parties.{has, has_number, no_party}
use Rattle.query_graph.specs.declared.parties.Parties.{Parties}

abbrev pub members_of : Parties → List ℕ
members_of set = filter (has set) (1 ∷ 2 ∷ 3 ∷ [])

-- the least of them, if there is one
abbrev pub least_of : Parties → Option ℕ
least_of set = slice_get (members_of set) 0

-- the list has exactly the parties of the set, rising; none exactly in the set without parties, and the least is the least
pub record MembersAreListed : Type 0 where
  pub listed : (s : Parties) (p : ℕ) → has_number p (members_of s) ≡ has s p
  pub rising : (s : Parties) → AllPairs (λ a b. a < b) (members_of s)
  pub none : (s : Parties) → (members_of s ≡ []) ↔ (s ≡ no_party)
  pub least : (s : Parties) (p : ℕ) → least_of s ≡ Some p → (has s p ≡ true) × ((q : ℕ) → has s q ≡ true → p ≤ q)
