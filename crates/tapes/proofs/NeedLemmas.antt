-- Draws that fit needs: in parts, place by place, and the first one that doesn't.
use Rattle.std.proofs.Common.{◌≡◌, ℕ, suc, zero, ◌<◌, ◌≤◌, ◌^◌, ◌⊎◌, inl, inr, ⊎_elim, List, [], ◌∷◌, ◌++◌, length, get_or, take, drop, slice_get, Some, refl, sym, ap, arith}
use Rattle.std.proofs.lemmas.Bool.{cases_eq, cases_lt}
use Rattle.tapes.specs.declared.draw.Draw.{Draw}
use Rattle.tapes.specs.declared.draw.Draw.TheVariants.{Word, Order}
use Rattle.tapes.specs.declared.draw.Need.{Need}
use Rattle.tapes.specs.declared.draw.Need.TheVariants.{Word as NeedsWord, OrderOf}
use Rattle.tapes.specs.NeedLaws.{FitsByPlace, FitsOfParts, FitsOrFirstUnfit, IsFirstUnfit}
use Rattle.tapes.specs.Needs.{FitsNeeds, Meets}
use Rattle.tapes.specs.Order.{IsOrder, NoneTwice, place_of}
use Rattle.tapes.proofs.OrderLemmas.{place_of-found, place_of-le}

-- ---- parts

fits_both : (ms ns : List Need) (ds es : List Draw) → FitsNeeds ms ds → FitsNeeds ns es → FitsNeeds (ms ++ ns) (ds ++ es)
fits_both [] ns [] es f g = g
fits_both [] ns (d ∷ ds) es f g = absurd f
fits_both (m ∷ ms) ns [] es f g = absurd f
fits_both (m ∷ ms) ns (d ∷ ds) es f g = (f.0, fits_both ms ns ds es f.1 g)

fits_first : (ms ns : List Need) (ds : List Draw) → FitsNeeds (ms ++ ns) ds → FitsNeeds ms (take (length ms) ds)
fits_first [] ns ds f = tt
fits_first (m ∷ ms) ns [] f = absurd f
fits_first (m ∷ ms) ns (d ∷ ds) f = (f.0, fits_first ms ns ds f.1)

fits_behind : (ms ns : List Need) (ds : List Draw) → FitsNeeds (ms ++ ns) ds → FitsNeeds ns (drop (length ms) ds)
fits_behind [] ns ds f = f
fits_behind (m ∷ ms) ns [] f = absurd f
fits_behind (m ∷ ms) ns (d ∷ ds) f = fits_behind ms ns ds f.1

pub fits_of_parts : FitsOfParts
fits_of_parts = record { both = fits_both; first = fits_first; behind = fits_behind }

-- ---- places

fits_count : (needs : List Need) (draws : List Draw) → FitsNeeds needs draws → length draws ≡ length needs
fits_count [] [] f = refl
fits_count [] (d ∷ ds) f = absurd f
fits_count (n ∷ ns) [] f = absurd f
fits_count (n ∷ ns) (d ∷ ds) f = ap suc (fits_count ns ds f.1)

fits_each : (needs : List Need) (draws : List Draw) → FitsNeeds needs draws → (k : ℕ) (need : Need) (draw : Draw) → slice_get needs k ≡ Some need → slice_get draws k ≡ Some draw → Meets need draw
fits_each [] [] f k need draw e g = absurd (cc)
fits_each [] (d ∷ ds) f k need draw e g = absurd f
fits_each (n ∷ ns) [] f k need draw e g = absurd f
fits_each (n ∷ ns) (d ∷ ds) f zero need draw e g =
    let same : n ≡ need = cc in
    let same_draw : d ≡ draw = cc in
    rw (sym same, sym same_draw) f.0
fits_each (n ∷ ns) (d ∷ ds) f (suc k) need draw e g = fits_each ns ds f.1 k need draw e g

fits_all : (needs : List Need) (draws : List Draw) → length draws ≡ length needs
    → ((k : ℕ) (need : Need) (draw : Draw) → slice_get needs k ≡ Some need → slice_get draws k ≡ Some draw → Meets need draw) → FitsNeeds needs draws
fits_all [] [] e h = tt
fits_all [] (d ∷ ds) e h = absurd (omega arith)
fits_all (n ∷ ns) [] e h = absurd (omega arith)
fits_all (n ∷ ns) (d ∷ ds) e h = (h 0 n d refl refl, fits_all ns ds (omega arith) (λ k. h (suc k)))

pub fits_by_place : FitsByPlace
fits_by_place = record { count = fits_count; each = fits_each; all = fits_all }

-- ---- lists of numbers are orders or not

below_or_not : (n : ℕ) (o : List ℕ) → ((k : ℕ) → k < length o → get_or o k 0 < n) ⊎ (((k : ℕ) → k < length o → get_or o k 0 < n) → ⊥)
below_or_not n [] = inl (λ k h. absurd (omega arith))
below_or_not n (x ∷ xs) =
    elim (below_or_not n xs) [
      | inr none ↦ inr (λ all. none (λ k h. all (suc k) (omega arith)))
      | inl rest ↦ ⊎_elim (λ (here : x < n). inl (both n x xs here rest)) (λ (above : n ≤ x). inr (λ all. absurd (let h : x < n = all 0 (omega arith) in omega arith))) (cases_lt x n)
    ]
  where
    both : (n x : ℕ) (xs : List ℕ) → x < n → ((k : ℕ) → k < length xs → get_or xs k 0 < n) → (k : ℕ) → k < length (x ∷ xs) → get_or (x ∷ xs) k 0 < n
    both n x xs here rest zero h = here
    both n x xs here rest (suc k) h = rest k (omega arith)

once_more : (x : ℕ) (xs : List ℕ) → length xs ≤ place_of x xs → NoneTwice xs → NoneTwice (x ∷ xs)
once_more x xs past apart zero zero h g e = refl
once_more x xs past apart zero (suc j) h g e = absurd (omega (arith, place_of-le x xs j (omega arith) (sym e)))
once_more x xs past apart (suc i) zero h g e = absurd (omega (arith, place_of-le x xs i (omega arith) e))
once_more x xs past apart (suc i) (suc j) h g e = ap suc (apart i j (omega arith) (omega arith) e)

twice_or_not : (o : List ℕ) → NoneTwice o ⊎ (NoneTwice o → ⊥)
twice_or_not [] = inl (λ i j h g e. absurd (omega arith))
twice_or_not (x ∷ xs) =
    elim (twice_or_not xs) [
      | inr twice ↦ inr (λ apart. twice (λ i j h g e. let s : suc i ≡ suc j = apart (suc i) (suc j) (omega arith) (omega arith) e in omega arith))
      | inl apart ↦ ⊎_elim
          (λ (there : place_of x xs < length xs). inr (λ all. absurd (let s : 0 ≡ suc (place_of x xs) = all 0 (suc (place_of x xs)) (omega arith) (omega arith) (sym (place_of-found x xs there)) in omega arith)))
          (λ (past : length xs ≤ place_of x xs). inl (once_more x xs past apart))
          (cases_lt (place_of x xs) (length xs))
    ]

pub order_or_not : (o : List ℕ) → IsOrder o ⊎ (IsOrder o → ⊥)
order_or_not o =
    elim (below_or_not (length o) o) [
      | inr none ↦ inr (λ ok. none ok.below)
      | inl below ↦ elim (twice_or_not o) [ inr twice ↦ inr (λ ok. twice ok.apart) | inl apart ↦ inl (record { below = below; apart = apart }) ]
    ]

-- ---- a draw meets a need or not

meets_or_not : (need : Need) (draw : Draw) → Meets need draw ⊎ (Meets need draw → ⊥)
meets_or_not NeedsWord (Word w) = ⊎_elim (λ (h : w < 2 ^ 64). inl h) (λ (h : 2 ^ 64 ≤ w). inr (λ k. absurd (omega arith))) (cases_lt w (2 ^ 64))
meets_or_not NeedsWord (Order o) = inr (λ h. h)
meets_or_not (OrderOf n) (Word w) = inr (λ h. h)
meets_or_not (OrderOf n) (Order o) =
    elim (order_or_not o) [
      | inr none ↦ inr (λ h. none h.0.order)
      | inl ok ↦ ⊎_elim
          (λ (same : length o ≡ n). ⊎_elim
          (λ (long : 2 ^ 32 < length o). inr (λ h. absurd (omega (arith, h.0.short))))
          (λ (short : length o ≤ 2 ^ 32). inl (record { order = ok; short = short }, same))
          (cases_lt (2 ^ 32) (length o)))
          (λ other. inr (λ h. other h.1))
          (cases_eq (length o) n)
    ]

unfit_later : (need : Need) (needs : List Need) (draw : Draw) (draws : List Draw) → Meets need draw → (d : ℕ) → IsFirstUnfit needs draws d → IsFirstUnfit (need ∷ needs) (draw ∷ draws) (suc d)
unfit_later need needs draw draws m d h = record { before = (m, h.before); unmet = h.unmet }

fits_or_unfit : (needs : List Need) (draws : List Draw) → FitsNeeds needs draws ⊎ ((d : ℕ) × IsFirstUnfit needs draws d)
fits_or_unfit [] [] = inl tt
fits_or_unfit [] (d ∷ ds) = inr (0, record { before = tt; unmet = tt })
fits_or_unfit (n ∷ ns) [] = inr (0, record { before = tt; unmet = tt })
fits_or_unfit (n ∷ ns) (d ∷ ds) =
    elim (meets_or_not n d) [
      | inr unmet ↦ inr (0, record { before = tt; unmet = unmet })
      | inl meets ↦ elim (fits_or_unfit ns ds) [ inl rest ↦ inl (meets, rest) | inr later ↦ inr (suc later.0, unfit_later n ns d ds meets later.0 later.1) ]
    ]

fits_not_unfit : (needs : List Need) (draws : List Draw) (d : ℕ) → FitsNeeds needs draws → IsFirstUnfit needs draws d → ⊥
fits_not_unfit [] [] d f h = h.unmet
fits_not_unfit [] (x ∷ ds) d f h = absurd f
fits_not_unfit (n ∷ ns) [] d f h = absurd f
fits_not_unfit (n ∷ ns) (x ∷ ds) zero f h = h.unmet f.0
fits_not_unfit (n ∷ ns) (x ∷ ds) (suc d) f h = fits_not_unfit ns ds d f.1 (record { before = h.before.1; unmet = h.unmet })

one_unfit : (needs : List Need) (draws : List Draw) (d e : ℕ) → IsFirstUnfit needs draws d → IsFirstUnfit needs draws e → d ≡ e
one_unfit needs draws zero zero a b = refl
one_unfit [] [] d e a b = absurd a.unmet
one_unfit [] (x ∷ ds) zero (suc e) a b = absurd b.before
one_unfit [] (x ∷ ds) (suc d) e a b = absurd a.before
one_unfit (n ∷ ns) [] zero (suc e) a b = absurd b.before
one_unfit (n ∷ ns) [] (suc d) e a b = absurd a.before
one_unfit (n ∷ ns) (x ∷ ds) zero (suc e) a b = absurd (a.unmet b.before.0)
one_unfit (n ∷ ns) (x ∷ ds) (suc d) zero a b = absurd (b.unmet a.before.0)
one_unfit (n ∷ ns) (x ∷ ds) (suc d) (suc e) a b =
    ap suc (one_unfit ns ds d e (record { before = a.before.1; unmet = a.unmet }) (record { before = b.before.1; unmet = b.unmet }))

pub fits_or_first_unfit : FitsOrFirstUnfit
fits_or_first_unfit = record { some = fits_or_unfit; apart = fits_not_unfit; only = one_unfit }
