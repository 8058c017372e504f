-- A decision procedure for equalities of xors: two terms over numbered atoms are equal where each
-- atom occurs in both an odd or in both an even number of times.
-- Use: `solve (x ∷ y ∷ []) (atom 0 ⊕ atom 1) (atom 1 ⊕ atom 0) refl` proves
-- `bit_xor x y ≡ bit_xor y x`.
use Rattle.std.proofs.Common.{◌≡◌, ℕ, suc, zero, Bool, true, false, cond, List, [], ◌∷◌, get_or, refl, sym, ◌∙◌, ap}
use Rattle.std.specs.Prelude.{bit_xor}
use Rattle.std.proofs.lemmas.Nat.{xor_comm}
use Rattle.std.specs.Int.Bits.{xor_assoc, xor_self, xor_zero_l, xor_zero_r}
use Rattle.lanes.proofs.WordLemmas.{same_from_xor}

-- a term over the atoms of a list, by their places
pub data XorTerm : Type 0 where
  none : XorTerm
  atom : ℕ → XorTerm
  ◌⊕◌ : XorTerm → XorTerm → XorTerm

infixl 50 ◌⊕◌
-- its value
abbrev pub value : List ℕ → XorTerm → ℕ
value vs none = 0
value vs (atom k) = get_or vs k 0
value vs (e ⊕ f) = bit_xor (value vs e) (value vs f)

-- exclusive or of two parities
abbrev pub differ : Bool → Bool → Bool
differ true true = false
differ true false = true
differ false b = b

-- the parities of two terms, added
abbrev pub added : List Bool → List Bool → List Bool
added [] qs = qs
added (p ∷ ps) [] = p ∷ ps
added (p ∷ ps) (q ∷ qs) = differ p q ∷ added ps qs

-- the atom at a place alone
abbrev pub single : ℕ → List Bool
single zero = true ∷ []
single (suc k) = false ∷ single k

-- for each atom whether it occurs an odd number of times
abbrev pub parities : XorTerm → List Bool
parities none = []
parities (atom k) = single k
parities (e ⊕ f) = added (parities e) (parities f)

-- no atom occurs an odd number of times
abbrev pub all_even : List Bool → Bool
all_even [] = true
all_even (true ∷ ps) = false
all_even (false ∷ ps) = all_even ps

-- the xor of the atoms with odd parity
abbrev xor_at : List Bool → List ℕ → ℕ
xor_at [] vs = 0
xor_at (p ∷ ps) [] = 0
xor_at (p ∷ ps) (v ∷ vs) = bit_xor (cond p v 0) (xor_at ps vs)

xor_at-no_atoms : (ps : List Bool) → xor_at ps [] ≡ 0
xor_at-no_atoms [] = refl
xor_at-no_atoms (p ∷ ps) = refl

xor_at-single : (k : ℕ) (vs : List ℕ) → xor_at (single k) vs ≡ get_or vs k 0
xor_at-single zero [] = refl
xor_at-single zero (v ∷ vs) = xor_zero_r v
xor_at-single (suc k) [] = refl
xor_at-single (suc k) (v ∷ vs) = xor_zero_l (xor_at (single k) vs) ∙ xor_at-single k vs

-- two xors, taken together in pairs
pub xor_pairs : (a b c d : ℕ) → bit_xor (bit_xor a b) (bit_xor c d) ≡ bit_xor (bit_xor a c) (bit_xor b d)
xor_pairs a b c d =
    xor_assoc a b (bit_xor c d) ∙ ap (λ n. bit_xor a n) (sym (xor_assoc b c d) ∙ ap (λ n. bit_xor n d) (xor_comm b c) ∙ xor_assoc c b d)
    ∙ sym (xor_assoc a c (bit_xor b d))

cond-differ : (p q : Bool) (v : ℕ) → cond (differ p q) v 0 ≡ bit_xor (cond p v 0) (cond q v 0)
cond-differ true true v = sym (xor_self v)
cond-differ true false v = sym (xor_zero_r v)
cond-differ false q v = sym (xor_zero_l (cond q v 0))

xor_at-added : (ps qs : List Bool) (vs : List ℕ) → xor_at (added ps qs) vs ≡ bit_xor (xor_at ps vs) (xor_at qs vs)
xor_at-added [] qs vs = sym (xor_zero_l (xor_at qs vs))
xor_at-added (p ∷ ps) [] vs = sym (xor_zero_r (xor_at (p ∷ ps) vs))
xor_at-added (p ∷ ps) (q ∷ qs) [] = refl
xor_at-added (p ∷ ps) (q ∷ qs) (v ∷ vs) =
    rw (cond-differ p q v, xor_at-added ps qs vs)
    (xor_pairs (cond p v 0) (cond q v 0) (xor_at ps vs) (xor_at qs vs))

value-parities : (vs : List ℕ) (e : XorTerm) → value vs e ≡ xor_at (parities e) vs
value-parities vs none = refl
value-parities vs (atom k) = sym (xor_at-single k vs)
value-parities vs (e ⊕ f) =
    rw (value-parities vs e, value-parities vs f) (sym (xor_at-added (parities e) (parities f) vs))

xor_at-even : (ps : List Bool) (vs : List ℕ) → all_even ps ≡ true → xor_at ps vs ≡ 0
xor_at-even [] vs h = refl
xor_at-even (true ∷ ps) vs h = cc
xor_at-even (false ∷ ps) [] h = refl
xor_at-even (false ∷ ps) (v ∷ vs) h = xor_zero_l (xor_at ps vs) ∙ xor_at-even ps vs h

-- terms in which each atom has the same parity are equal
pub solve : (vs : List ℕ) (e f : XorTerm) → all_even (parities (e ⊕ f)) ≡ true → value vs e ≡ value vs f
solve vs e f h =
    same_from_xor (value vs e) (value vs f)
    (value-parities vs (e ⊕ f) ∙ xor_at-even (parities (e ⊕ f)) vs h)

-- the sum of three xors of three, regrouped
example : (a b c d : ℕ) → bit_xor (bit_xor a b) (bit_xor c (bit_xor b d)) ≡ bit_xor d (bit_xor c a)
example a b c d =
    solve (a ∷ b ∷ c ∷ d ∷ []) ((atom 0 ⊕ atom 1) ⊕ (atom 2 ⊕ (atom 1 ⊕ atom 3))) (atom 3 ⊕ (atom 2 ⊕ atom 0)) refl
