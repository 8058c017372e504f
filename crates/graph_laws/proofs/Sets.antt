-- The set of these numbers has exactly their parties.
use Rattle.std.proofs.Common.{◌≡◌, ℕ, zero, suc, true, List, subst, arith}
use Rattle.std.specs.Prelude.{◌==◌, ◌↔◌, Contains, slice_index_or}
use Rattle.std.proofs.lemmas.Bool.Decides.{nat_tests}
use Rattle.std.proofs.lemmas.List.Folds.{Any-from_list_any, list_any-from_Any}
use Rattle.query_graph.specs.Parties.{has_number, parties_of}
use Rattle.graph_laws.specs.Parts.{WritesParties}

same_number : (a b : ℕ) → (a == b) ≡ true → a ≡ b
same_number a b same = grind (arith, nat_tests)

same_test : (a : ℕ) → (a == a) ≡ true
same_test a = grind (arith, nat_tests)

number_among : (numbers : List ℕ) (party : ℕ) → (has_number party numbers ≡ true) ↔ Contains numbers party
number_among numbers party = (
  (λ known.
      let any = Any-from_list_any (λ number. number == party) numbers known in
      let same = same_number any.1 party any.4 in
      (any.0, any.2, subst (λ n. slice_index_or numbers any.0 n ≡ n) same any.3)),
  (λ among. list_any-from_Any (λ number. number == party) numbers (among.0, party, among.1, among.2, same_test party)),
)

pub written_parties : (numbers : List ℕ) → WritesParties numbers (parties_of numbers)
written_parties numbers zero is = absurd (omega (arith, is.0))
written_parties numbers (suc zero) is = number_among numbers 1
written_parties numbers (suc (suc zero)) is = number_among numbers 2
written_parties numbers (suc (suc (suc zero))) is = number_among numbers 3
written_parties numbers (suc (suc (suc (suc p)))) is = absurd (omega (arith, is.1))
