-- The members of a set of parties.
use Rattle.std.proofs.Common.{◌≡◌, ℕ, zero, suc, ◌<◌, ◌≤◌, ◌==◌, Bool, true, false, cond, ◌&&◌, ◌||◌, List, [], ◌∷◌, Some, refl, sym, ◌∙◌, ap, subst, arith, true≢false}
use Rattle.std.proofs.lemmas.Bool.{eqb-true, ne_eqb}
use Rattle.std.specs.Prelude.{AllPairs, ◌↔◌, filter}
use Rattle.query_graph.specs.Members.{MembersAreListed, least_of, members_of}
use Rattle.query_graph.specs.Parties.{has, has_number, no_party}
use Rattle.query_graph.specs.declared.parties.Parties.{Parties}

-- a set by its three tests
abbrev set_of : Bool → Bool → Bool → Parties
set_of a b c = record { first = a; second = b; third = c }

and_false : (b : Bool) → (b && false) ≡ false
and_false true = refl
and_false false = refl

-- a number among those that pass a test
among_passing : (q : ℕ → Bool) (p : ℕ) (xs : List ℕ) → has_number p (filter q xs) ≡ (has_number p xs && q p)
among_passing q p [] = refl
among_passing q p (x ∷ xs) = by (among_passing q p xs) (q x) refl (x == p) refl
  where
    by : has_number p (filter q xs) ≡ (has_number p xs && q p) → (b : Bool) → q x ≡ b → (t : Bool) → (x == p) ≡ t
        → has_number p (cond b (x ∷ filter q xs) (filter q xs)) ≡ ((t || has_number p xs) && q p)
    by rest true e true f = let same : x ≡ p = eqb-true x p f in rw f (sym e ∙ ap q same)
    by rest true e false f = rw f rest
    by rest false e true f =
        let same : x ≡ p = eqb-true x p f in
        let none : q p ≡ false = sym (ap q same) ∙ e in
        rest ∙ ap (λ b. has_number p xs && b) none ∙ and_false (has_number p xs) ∙ sym none
    by rest false e false f = rest

-- a party of a set is one of the three
one_of_three : (a b c : Bool) (p : ℕ) → (has_number p (1 ∷ 2 ∷ 3 ∷ []) && has (set_of a b c) p) ≡ has (set_of a b c) p
one_of_three a b c zero = refl
one_of_three a b c (suc zero) = refl
one_of_three a b c (suc (suc zero)) = refl
one_of_three a b c (suc (suc (suc zero))) = refl
one_of_three a b c (suc (suc (suc (suc p)))) =
    let n = suc (suc (suc (suc p))) in
    let first : (1 == n) ≡ false = ne_eqb 1 n (λ e. absurd (omega arith)) in
    let second : (2 == n) ≡ false = ne_eqb 2 n (λ e. absurd (omega arith)) in
    let third : (3 == n) ≡ false = ne_eqb 3 n (λ e. absurd (omega arith)) in
    let not_first : (n == 1) ≡ false = ne_eqb n 1 (λ e. absurd (omega arith)) in
    let not_second : (n == 2) ≡ false = ne_eqb n 2 (λ e. absurd (omega arith)) in
    let not_third : (n == 3) ≡ false = ne_eqb n 3 (λ e. absurd (omega arith)) in
    rw (first, second, third, not_first, not_second, not_third) refl

listed : (a b c : Bool) (p : ℕ) → has_number p (members_of (set_of a b c)) ≡ has (set_of a b c) p
listed a b c p = among_passing (has (set_of a b c)) p (1 ∷ 2 ∷ 3 ∷ []) ∙ one_of_three a b c p

-- lists of up to three rising numbers
rising_3 : (x y z : ℕ) → x < y → y < z → AllPairs (λ a b. a < b) (x ∷ y ∷ z ∷ [])
rising_3 x y z h k zero zero d less within = absurd (omega arith)
rising_3 x y z h k zero (suc zero) d less within = h
rising_3 x y z h k zero (suc (suc zero)) d less within = omega arith
rising_3 x y z h k zero (suc (suc (suc j))) d less within = absurd (omega arith)
rising_3 x y z h k (suc zero) zero d less within = absurd (omega arith)
rising_3 x y z h k (suc zero) (suc zero) d less within = absurd (omega arith)
rising_3 x y z h k (suc zero) (suc (suc zero)) d less within = k
rising_3 x y z h k (suc zero) (suc (suc (suc j))) d less within = absurd (omega arith)
rising_3 x y z h k (suc (suc i)) j d less within = absurd (omega arith)

rising_2 : (x y : ℕ) → x < y → AllPairs (λ a b. a < b) (x ∷ y ∷ [])
rising_2 x y h zero zero d less within = absurd (omega arith)
rising_2 x y h zero (suc zero) d less within = h
rising_2 x y h zero (suc (suc j)) d less within = absurd (omega arith)
rising_2 x y h (suc i) j d less within = absurd (omega arith)

rising_1 : (x : ℕ) → AllPairs (λ a b. a < b) (x ∷ [])
rising_1 x i j d less within = absurd (omega arith)

rising : (a b c : Bool) → AllPairs (λ x y. x < y) (members_of (set_of a b c))
rising true true true = rising_3 1 2 3 (omega arith) (omega arith)
rising true true false = rising_2 1 2 (omega arith)
rising true false true = rising_2 1 3 (omega arith)
rising true false false = rising_1 1
rising false true true = rising_2 2 3 (omega arith)
rising false true false = rising_1 2
rising false false true = rising_1 3
rising false false false = λ i j d less within. absurd (omega arith)

none : (a b c : Bool) → (members_of (set_of a b c) ≡ []) ↔ (set_of a b c ≡ no_party)
none true b c = (λ e. absurd (cc), λ e. absurd (let same : true ≡ false = ap (λ (s : Parties). s.first) e in cc))
none false true c = (λ e. absurd (cc), λ e. absurd (let same : true ≡ false = ap (λ (s : Parties). s.second) e in cc))
none false false true = (λ e. absurd (cc), λ e. absurd (let same : true ≡ false = ap (λ (s : Parties). s.third) e in cc))
none false false false = (λ e. refl, λ e. refl)

-- what a least party is
abbrev IsLeast : Parties → ℕ → Type 0
IsLeast s p = (has s p ≡ true) × ((q : ℕ) → has s q ≡ true → p ≤ q)

first_least : (b c : Bool) → IsLeast (set_of true b c) 1
first_least b c = (refl, from) where
  from : (q : ℕ) → has (set_of true b c) q ≡ true → 1 ≤ q
  from zero e = absurd (true≢false (sym e))
  from (suc q) e = omega arith

second_least : (c : Bool) → IsLeast (set_of false true c) 2
second_least c = (refl, from) where
  from : (q : ℕ) → has (set_of false true c) q ≡ true → 2 ≤ q
  from zero e = absurd (true≢false (sym e))
  from (suc zero) e = absurd (true≢false (sym e))
  from (suc (suc q)) e = omega arith

third_least : IsLeast (set_of false false true) 3
third_least = (refl, from) where
  from : (q : ℕ) → has (set_of false false true) q ≡ true → 3 ≤ q
  from zero e = absurd (true≢false (sym e))
  from (suc zero) e = absurd (true≢false (sym e))
  from (suc (suc zero)) e = absurd (true≢false (sym e))
  from (suc (suc (suc q))) e = omega arith

least : (a b c : Bool) (p : ℕ) → least_of (set_of a b c) ≡ Some p → IsLeast (set_of a b c) p
least true b c p e = let same : 1 ≡ p = cc in subst (IsLeast (set_of true b c)) same (first_least b c)
least false true c p e = let same : 2 ≡ p = cc in subst (IsLeast (set_of false true c)) same (second_least c)
least false false true p e = let same : 3 ≡ p = cc in subst (IsLeast (set_of false false true)) same third_least
least false false false p e = absurd (cc)

pub members_are_listed : MembersAreListed
members_are_listed = record {
  listed = λ s p. listed s.first s.second s.third p;
  rising = λ s. rising s.first s.second s.third;
  none = λ s. none s.first s.second s.third;
  least = λ s p. least s.first s.second s.third p;
}
