-- Sets of the three parties.
use Rattle.std.specs.Prelude.{◌≡◌, ℕ, ◌==◌, Bool, false, ◌&&◌, ◌||◌, if◌then◌else◌, List}
use Rattle.std.specs.List.{list_any}
use Rattle.query_text.specs.Parties.{IsParty}
use Rattle.query_graph.specs.declared.parties.Parties.{Parties}

-- whether a set has this number; it has no number but 1, 2 and 3
abbrev pub has : Parties → ℕ → Bool
has set party = if party == 1 then set.first else if party == 2 then set.second else if party == 3 then set.third else false

-- the set with no party
abbrev pub no_party : Parties
no_party = record { first = false; second = false; third = false }

-- the set with this party too
abbrev pub with_party : Parties → ℕ → Parties
with_party set party = record { first = set.first || party == 1; second = set.second || party == 2; third = set.third || party == 3 }

-- the parties that both have
abbrev pub common_parties : Parties → Parties → Parties
common_parties a b = record { first = a.first && b.first; second = a.second && b.second; third = a.third && b.third }

-- the parties that one of them has
abbrev pub united_parties : Parties → Parties → Parties
united_parties a b = record { first = a.first || b.first; second = a.second || b.second; third = a.third || b.third }

-- a number is among these
abbrev pub has_number : ℕ → List ℕ → Bool
has_number party numbers = list_any (λ number. number == party) numbers

-- the parties with these numbers
abbrev pub parties_of : List ℕ → Parties
parties_of numbers = record { first = has_number 1 numbers; second = has_number 2 numbers; third = has_number 3 numbers }

-- a set is fixed by its members, and each way to make one has exactly those that its name says
pub record SetsByMembers : Type 0 where
  pub none : (p : ℕ) → has no_party p ≡ false
  pub one_more : (s : Parties) (p q : ℕ) → IsParty q → has (with_party s q) p ≡ (has s p || p == q)
  pub common : (a b : Parties) (p : ℕ) → has (common_parties a b) p ≡ (has a p && has b p)
  pub united : (a b : Parties) (p : ℕ) → has (united_parties a b) p ≡ (has a p || has b p)
  pub fixed : (a b : Parties) → ((p : ℕ) → IsParty p → has a p ≡ has b p) → a ≡ b
