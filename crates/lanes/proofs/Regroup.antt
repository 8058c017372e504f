-- A decision procedure for equalities of a commutative operation with a neutral element: two terms
-- over numbered atoms are equal where each atom occurs equally often in both.
-- Use: `regroup joined_xors (x ∷ y ∷ []) (atom 0 ⊕ atom 1) (atom 1 ⊕ atom 0) refl` proves
-- `xors x y ≡ xors y x`.
use Rattle.std.proofs.Common.{◌≡◌, ℕ, suc, zero, List, [], ◌∷◌, refl, sym, ◌∙◌, ap}
use Rattle.lanes.proofs.XorSolver.{XorTerm, none, atom, ◌⊕◌}

-- a commutative monoid
pub record Monoid (A : Type 0) : Type 0 where
  pub op : A → A → A
  pub unit : A
  pub comm : (x y : A) → op x y ≡ op y x
  pub assoc : (x y z : A) → op (op x y) z ≡ op x (op y z)
  pub left : (x : A) → op unit x ≡ x

-- the item of a list, the neutral element where there is none
abbrev pub item : {A : Type 0} → A → List A → ℕ → A
item u [] k = u
item u (v ∷ vs) zero = v
item u (v ∷ vs) (suc k) = item u vs k

-- a term's value
abbrev pub total : {A : Type 0} → Monoid A → List A → XorTerm → A
total m vs none = m.unit
total m vs (atom k) = item m.unit vs k
total m vs (e ⊕ f) = m.op (total m vs e) (total m vs f)

-- a sum that computes on its first number
abbrev pub more : ℕ → ℕ → ℕ
more zero n = n
more (suc m) n = suc (more m n)

-- the counts of two terms, added
abbrev pub counts_added : List ℕ → List ℕ → List ℕ
counts_added [] ns = ns
counts_added (m ∷ ms) [] = m ∷ ms
counts_added (m ∷ ms) (n ∷ ns) = more m n ∷ counts_added ms ns

abbrev pub one_at : ℕ → List ℕ
one_at zero = 1 ∷ []
one_at (suc k) = 0 ∷ one_at k

-- how often each atom occurs
abbrev pub counts : XorTerm → List ℕ
counts none = []
counts (atom k) = one_at k
counts (e ⊕ f) = counts_added (counts e) (counts f)

abbrev times : {A : Type 0} → Monoid A → ℕ → A → A
times m zero x = m.unit
times m (suc n) x = m.op x (times m n x)

abbrev all_of : {A : Type 0} → Monoid A → List ℕ → List A → A
all_of m [] vs = m.unit
all_of m (n ∷ ns) [] = m.unit
all_of m (n ∷ ns) (v ∷ vs) = m.op (times m n v) (all_of m ns vs)

pairs : {A : Type 0} (m : Monoid A) (a b c d : A) → m.op (m.op a b) (m.op c d) ≡ m.op (m.op a c) (m.op b d)
pairs m a b c d =
    m.assoc a b (m.op c d) ∙ ap (λ n. m.op a n) (sym (m.assoc b c d) ∙ ap (λ n. m.op n d) (m.comm b c) ∙ m.assoc c b d)
    ∙ sym (m.assoc a c (m.op b d))

right : {A : Type 0} (m : Monoid A) (x : A) → m.op x m.unit ≡ x
right m x = m.comm x m.unit ∙ m.left x

times-more : {A : Type 0} (m : Monoid A) (i j : ℕ) (x : A) → times m (more i j) x ≡ m.op (times m i x) (times m j x)
times-more m zero j x = sym (m.left (times m j x))
times-more m (suc i) j x =
    ap (λ n. m.op x n) (times-more m i j x) ∙ sym (m.assoc x (times m i x) (times m j x))

all_of-added : {A : Type 0} (m : Monoid A) (is js : List ℕ) (vs : List A)
    → all_of m (counts_added is js) vs ≡ m.op (all_of m is vs) (all_of m js vs)
all_of-added m [] js vs = sym (m.left (all_of m js vs))
all_of-added m (i ∷ is) [] vs = sym (right m (all_of m (i ∷ is) vs))
all_of-added m (i ∷ is) (j ∷ js) [] = sym (m.left m.unit)
all_of-added m (i ∷ is) (j ∷ js) (v ∷ vs) =
    ap (λ n. m.op n (all_of m (counts_added is js) vs)) (times-more m i j v)
    ∙ ap (λ n. m.op (m.op (times m i v) (times m j v)) n) (all_of-added m is js vs)
    ∙ pairs m (times m i v) (times m j v) (all_of m is vs) (all_of m js vs)

all_of-one : {A : Type 0} (m : Monoid A) (k : ℕ) (vs : List A) → all_of m (one_at k) vs ≡ item m.unit vs k
all_of-one m zero [] = refl
all_of-one m zero (v ∷ vs) = right m (m.op v m.unit) ∙ right m v
all_of-one m (suc k) [] = refl
all_of-one m (suc k) (v ∷ vs) = m.left (all_of m (one_at k) vs) ∙ all_of-one m k vs

total-counts : {A : Type 0} (m : Monoid A) (vs : List A) (e : XorTerm) → total m vs e ≡ all_of m (counts e) vs
total-counts m vs none = refl
total-counts m vs (atom k) = sym (all_of-one m k vs)
total-counts m vs (e ⊕ f) =
    ap (λ n. m.op n (total m vs f)) (total-counts m vs e) ∙ ap (λ n. m.op (all_of m (counts e) vs) n) (total-counts m vs f)
    ∙ sym (all_of-added m (counts e) (counts f) vs)

-- terms with the same atoms, as often in both, are equal
pub regroup : {A : Type 0} (m : Monoid A) (vs : List A) (e f : XorTerm) → counts e ≡ counts f → total m vs e ≡ total m vs f
regroup m vs e f same =
    total-counts m vs e ∙ ap (λ c. all_of m c vs) same ∙ sym (total-counts m vs f)
