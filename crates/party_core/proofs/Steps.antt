-- A list that is cut before one of its items.
use Rattle.std.proofs.Common.{◌≡◌, ℕ, zero, suc, Some, None, List, [], ◌∷◌, ◌++◌, length, take, drop, refl, ap}
use Rattle.std.specs.Prelude.{slice_get}

pub none_some : {A : Type 0} (x : A) → None ≡ Some x → ⊥
none_some x e = cc

pub some_none : {A : Type 0} (x : A) → Some x ≡ None → ⊥
some_none x e = cc

pub some_same : {A : Type 0} (x y : A) → Some x ≡ Some y → x ≡ y
some_same x y e = cc

pub drop_here : {A : Type 0} (xs : List A) (k : ℕ) (s : A) → slice_get xs k ≡ Some s → drop k xs ≡ s ∷ drop (suc k) xs
drop_here [] zero s e = absurd (none_some s e)
drop_here [] (suc k) s e = absurd (none_some s e)
drop_here (x ∷ xs) zero s e = ap (λ y. y ∷ xs) (some_same x s e)
drop_here (x ∷ xs) (suc k) s e = drop_here xs k s e

pub take_here : {A : Type 0} (xs : List A) (k : ℕ) (s : A) → slice_get xs k ≡ Some s → take (suc k) xs ≡ take k xs ++ s ∷ []
take_here [] zero s e = absurd (none_some s e)
take_here [] (suc k) s e = absurd (none_some s e)
take_here (x ∷ xs) zero s e = ap (λ y. y ∷ []) (some_same x s e)
take_here (x ∷ xs) (suc k) s e = ap (λ ys. x ∷ ys) (take_here xs k s e)

pub drop_none : {A : Type 0} (xs : List A) (k : ℕ) → slice_get xs k ≡ None → drop k xs ≡ []
drop_none [] zero e = refl
drop_none [] (suc k) e = refl
drop_none (x ∷ xs) zero e = absurd (some_none x e)
drop_none (x ∷ xs) (suc k) e = drop_none xs k e

pub end_here : {A : Type 0} (xs : List A) (k : ℕ) (s : A) → slice_get xs k ≡ Some s → slice_get xs (suc k) ≡ None → suc k ≡ length xs
end_here [] zero s e f = absurd (none_some s e)
end_here [] (suc k) s e f = absurd (none_some s e)
end_here (x ∷ []) zero s e f = refl
end_here (x ∷ (y ∷ xs)) zero s e f = absurd (some_none y f)
end_here (x ∷ xs) (suc k) s e f = ap suc (end_here xs k s e f)
