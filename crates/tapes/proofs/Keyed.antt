-- Sorting items by a key and then by a number.
use Rattle.std.proofs.Common.{◌≡◌, ◌≢◌, ℕ, ◌<◌, false, List, length, get_or, refl, sym, ◌∙◌, ap, ◌⊎◌, inl, inr, Ordering, cond, eqb, arith}
use Rattle.std.specs.declared.cmp.Ordering.TheVariants.{Less, Equal, Greater}
use Rattle.std.specs.Ordering.{nat_cmp, ordering_then, ordering_reverse, is_lt}
use Rattle.std.specs.Cmp.{IsTotalOrder}
use Rattle.std.specs.List.Sorted.{IsSorted}
use Rattle.std.proofs.lemmas.Cmp.{then_total, on_total, nat_cmp_total}
use Rattle.std.proofs.lemmas.List.Sorted.{sorted_far, ranks_by}
use Rattle.std.proofs.lemmas.Bool.{cases_order, true≢false, lt-ltb}

-- by the key, and where the keys tie by the number
abbrev pub keyed_cmp : {X K : Type 0} → (K → K → Ordering) → (X → K) → (X → ℕ) → X → X → Ordering
keyed_cmp R f g x y = ordering_then (R (f x) (f y)) (nat_cmp (g x) (g y))

pub keyed_total : {X K : Type 0} {R : K → K → Ordering} → IsTotalOrder R → (f : X → K) (g : X → ℕ) → IsTotalOrder (keyed_cmp R f g)
keyed_total o f g = then_total (on_total f o) (on_total g nat_cmp_total)

-- x comes strictly before y
abbrev pub KeyedBelow : {X K : Type 0} → (K → K → Ordering) → (X → K) → (X → ℕ) → X → X → Type 0
KeyedBelow R f g x y = (R (f x) (f y) ≡ Less) ⊎ ((R (f x) (f y) ≡ Equal) × (g x < g y))

below_from : (r s : Ordering) (m n : ℕ) → r ≡ ordering_reverse s → is_lt (ordering_then s (nat_cmp n m)) ≡ false → m ≢ n
    → (r ≡ Less) ⊎ ((r ≡ Equal) × (m < n))
below_from Less s m n e h d = inl refl
below_from Equal Less m n e h d = absurd (cc)
below_from Equal Equal m n e h d =
    elim (cases_order m n) as (λ _. (Equal ≡ Less) ⊎ ((Equal ≡ Equal) × (m < n))) [
      | inl same ↦ absurd (d same)
      | inr other ↦ elim other as (λ _. (Equal ≡ Less) ⊎ ((Equal ≡ Equal) × (m < n))) [
        | inl lt ↦ inr (refl, lt)
        | inr gt ↦ absurd (true≢false (sym (ap (λ t. is_lt (cond t Less (cond (eqb n m) Equal Greater))) (lt-ltb n m gt)) ∙ h))
      ]
    ]
below_from Equal Greater m n e h d = absurd (cc)
below_from Greater Less m n e h d = absurd (cc)
below_from Greater Equal m n e h d = absurd (cc)
below_from Greater Greater m n e h d = absurd (cc)

-- in a sorted list of items with different numbers each comes strictly before the later ones
pub keyed_rising : {X K : Type 0} {R : K → K → Ordering} (o : IsTotalOrder R) (f : X → K) (g : X → ℕ) (ys : List X) → IsSorted (keyed_cmp R f g) ys
    → (i j : ℕ) (d : X) → i < j → j < length ys → g (get_or ys i d) ≢ g (get_or ys j d) → KeyedBelow R f g (get_or ys i d) (get_or ys j d)
keyed_rising {R = R} o f g ys up i j d h w apart =
    below_from (R (f (get_or ys i d)) (f (get_or ys j d))) (R (f (get_or ys j d)) (f (get_or ys i d))) (g (get_or ys i d)) (g (get_or ys j d))
    (o.antisymm (f (get_or ys i d)) (f (get_or ys j d)))
    (sorted_far (λ x y. is_lt (keyed_cmp R f g x y)) (ranks_by (keyed_total o f g) (λ x. x)) ys up i j d (omega arith) w)
    apart
