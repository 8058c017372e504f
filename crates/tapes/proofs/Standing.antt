-- A place in a tape, and how many orders stand before it.
use Rattle.std.proofs.Common.{◌≡◌, ℕ, suc, zero, ◌+◌, ◌-◌, ◌<◌, ◌≤◌, ◌^◌, List, [], ◌∷◌, ◌++◌, length, get_or, take, drop, refl, sym, ◌∙◌, ap, subst, arith, length-drop}
use Rattle.std.proofs.lemmas.List.{length-map, length-take-le, drop-drop, drop_more}
use Rattle.tapes.specs.declared.draw.Draw.{Draw}
use Rattle.tapes.specs.declared.draw.Draw.TheVariants.{Word, Order}
use Rattle.tapes.specs.declared.placed.PlacedOrder.{PlacedOrder}
use Rattle.tapes.specs.Laid.{as_draws, draws_from, ArePlaced, IsLaid, StandsAt, words_before}
use Rattle.tapes.proofs.LaidLemmas.{placed_next, placed_room, words_fit, words_dropped, order_first}

-- what was read at an index begins what is left from there
pub drop_at_read : {X : Type 0} → (xs : List X) (i : ℕ) (x : X) → i < length xs → x ≡ get_or xs i x → drop i xs ≡ x ∷ drop (i + 1) xs
drop_at_read xs i x h e = drop_more xs i x h ∙ ap (λ y. y ∷ drop (i + 1) xs) (sym e)

-- all draws are passed or still to come
pub counted : (ws : List ℕ) (os : List PlacedOrder) (p k : ℕ) → StandsAt ws os p k
    → length ws + length os ≡ p + length (drop (p - k) ws) + length (drop k os)
counted ws os p k s =
    omega
    (arith, length-drop (p - k) ws, length-drop k os, s.passed, s.short, placed_room p (length ws + length os) (drop k os) s.placed)

pub at_start : (ws : List ℕ) (os : List PlacedOrder) → IsLaid ws os → length ws + length os < 2 ^ 64 → StandsAt ws os 0 0
at_start ws os a u = record { passed = omega arith; short = omega arith; all = u; placed = a; rest = refl }

-- so many words on
pub after_words : (ws : List ℕ) (os : List PlacedOrder) (p k n : ℕ) → StandsAt ws os p k → n ≤ words_before p (drop (p - k) ws) (drop k os) → StandsAt ws os (p + n) k
after_words ws os p k n s h =
    let all = length ws + length os in
    let fit = words_fit n p all (drop (p - k) ws) (drop k os) (counted ws os p k s) s.placed h in
    record {
      passed = omega (arith, s.passed);
      short = s.short;
      all = s.all;
      placed = fit.1;
      rest =
          sym (drop-drop n p (draws_from 0 ws os)) ∙ ap (λ ds. drop n ds) s.rest
          ∙ words_dropped n p all (drop (p - k) ws) (drop k os) fit.0 fit.1
          ∙ ap (λ xs. draws_from (p + n) xs (drop k os)) (drop-drop n (p - k) ws ∙ ap (λ i. drop i ws) (omega (arith, s.passed)));
    }

-- one order on
pub after_order : (ws : List ℕ) (os : List PlacedOrder) (p k : ℕ) (o : PlacedOrder) → StandsAt ws os p k → k < length os → o ≡ get_or os k o → o.place ≡ p
    → StandsAt ws os (p + 1) (k + 1)
after_order ws os p k o s h e q =
    let left : drop k os ≡ o ∷ drop (k + 1) os = drop_at_read os k o h e in
    let next = placed_next p (length ws + length os) o (drop (k + 1) os) (subst (λ (xs : List PlacedOrder). ArePlaced p (length ws + length os) xs) left s.placed) in
    record {
      passed = omega (arith, s.passed);
      short = omega arith;
      all = s.all;
      placed = subst (λ (i : ℕ). ArePlaced i (length ws + length os) (drop (k + 1) os)) (omega arith) next.1;
      rest =
          sym (drop-drop 1 p (draws_from 0 ws os))
          ∙ ap (λ ds. drop 1 ds)
          (s.rest ∙ ap (λ xs. draws_from p (drop (p - k) ws) xs) left ∙ order_first p (drop (p - k) ws) o (drop (k + 1) os) q)
          ∙ ap (λ i. draws_from i (drop (p - k) ws) (drop (k + 1) os)) (omega arith)
          ∙ ap (λ i. draws_from (p + 1) (drop i ws) (drop (k + 1) os)) (omega (arith, s.passed));
    }

-- ---- any place

drop_over : {X : Type 0} → (xs ys : List X) (y : X) (n m : ℕ) → n ≡ length xs + suc m → drop n (xs ++ y ∷ ys) ≡ drop m ys
drop_over [] ys y zero m e = absurd (omega arith)
drop_over [] ys y (suc n) m e = ap (λ i. drop i ys) (omega arith)
drop_over (x ∷ xs) ys y zero m e = absurd (omega arith)
drop_over (x ∷ xs) ys y (suc n) m e = drop_over xs ys y n m (omega arith)

-- the first k orders stand before a place, and the others don't
pub record IsCut (os : List PlacedOrder) (i low high : ℕ) : Type 0 where
  pub low_high : low ≤ high
  pub high_end : high ≤ length os
  pub before : (j : ℕ) (d : PlacedOrder) → j < low → (get_or os j d).place < i
  pub behind : (j : ℕ) (d : PlacedOrder) → high ≤ j → j < length os → i ≤ (get_or os j d).place

pub places_rise : (p n : ℕ) (os : List PlacedOrder) (i j : ℕ) (d e : PlacedOrder) → ArePlaced p n os → i ≤ j → j < length os → (get_or os i d).place ≤ (get_or os j e).place
places_rise p n [] i j d e a h w = absurd (omega arith)
places_rise p n (o ∷ os) zero zero d e a h w = omega arith
places_rise p n (o ∷ os) (suc i) zero d e a h w = absurd (omega arith)
places_rise p n (o ∷ os) zero (suc j) d e a h w = let later = from (suc o.place) n os j e (placed_next p n o os a).1 (omega arith) in omega arith
  where
    from : (p n : ℕ) (os : List PlacedOrder) (j : ℕ) (e : PlacedOrder) → ArePlaced p n os → j < length os → p ≤ (get_or os j e).place
    from p n [] j e a w = absurd (omega arith)
    from p n (o ∷ os) zero e a w = (placed_next p n o os a).0
    from p n (o ∷ os) (suc j) e a w = let next = placed_next p n o os a in omega (arith, next.0, from (suc o.place) n os j e next.1 (omega arith))
places_rise p n (o ∷ os) (suc i) (suc j) d e a h w = places_rise (suc o.place) n os i j d e (placed_next p n o os a).1 (omega arith) (omega arith)

-- one half of what was between is told
pub cut_up : (ws : List ℕ) (os : List PlacedOrder) (i low middle high : ℕ) (o : PlacedOrder) → IsLaid ws os → IsCut os i low high → low ≤ middle → middle < high
    → o ≡ get_or os middle o → o.place < i → IsCut os i (middle + 1) high
cut_up ws os i low middle high o a c h w e lt = record {
  low_high = omega arith;
  high_end = c.high_end;
  before = λ j d x.
      let far : (get_or os j d).place ≤ (get_or os middle o).place
      = places_rise 0 (length ws + length os) os j middle d o a (omega arith) (omega (arith, c.high_end)) in
      omega (arith, ap (λ (y : PlacedOrder). y.place) e);
  behind = c.behind;
}

pub cut_down : (ws : List ℕ) (os : List PlacedOrder) (i low middle high : ℕ) (o : PlacedOrder) → IsLaid ws os → IsCut os i low high → low ≤ middle → middle < high
    → o ≡ get_or os middle o → i ≤ o.place → IsCut os i low middle
cut_down ws os i low middle high o a c h w e le = record {
  low_high = h;
  high_end = omega (arith, c.high_end);
  before = c.before;
  behind = λ j d x y.
      let far : (get_or os middle o).place ≤ (get_or os j d).place = places_rise 0 (length ws + length os) os middle j o d a x y in
      omega (arith, ap (λ (z : PlacedOrder). z.place) e);
}

record Cuts (p i n k : ℕ) (ws : List ℕ) (os : List PlacedOrder) : Type 0 where
  passed : k ≤ i - p
  placed : ArePlaced i n (drop k os)
  rest : drop (i - p) (draws_from p ws os) ≡ draws_from i (drop (i - p - k) ws) (drop k os)

words_till : (p i n : ℕ) (ws : List ℕ) (os : List PlacedOrder) → n ≡ p + length ws + length os → p ≤ i → i ≤ n
    → ((j : ℕ) (d : PlacedOrder) → j < length os → i ≤ (get_or os j d).place) → i - p ≤ words_before p ws os
words_till p i n ws [] e h u b = omega arith
words_till p i n ws (o ∷ os) e h u b = let late : i ≤ o.place = b 0 o (omega arith) in omega arith

cuts : (p i n k : ℕ) (ws : List ℕ) (os : List PlacedOrder) → n ≡ p + length ws + length os → ArePlaced p n os → p ≤ i → i ≤ n → k ≤ length os
    → ((j : ℕ) (d : PlacedOrder) → j < k → (get_or os j d).place < i) → ((j : ℕ) (d : PlacedOrder) → k ≤ j → j < length os → i ≤ (get_or os j d).place)
    → Cuts p i n k ws os
unfolding draws_from
cuts p i n zero ws os e a h u w early late =
    let fit = words_fit (i - p) p n ws os e a (words_till p i n ws os e h u (λ j d x. late j d (omega arith) x)) in
    let there : p + (i - p) ≡ i = omega arith in
    record {
      passed = omega arith;
      placed = subst (λ (q : ℕ). ArePlaced q n os) there fit.1;
      rest =
          words_dropped (i - p) p n ws os fit.0 fit.1 ∙ ap (λ q. draws_from q (drop (i - p) ws) os) there
          ∙ ap (λ q. draws_from i (drop q ws) os) (omega arith);
    }
cuts p i n (suc k) ws [] e a h u w early late = absurd (omega arith)
cuts p i n (suc k) ws (o ∷ os) e a h u w early late =
    let g = o.place - p in
    let next = placed_next p n o os a in
    let room = placed_room (suc o.place) n os next.1 in
    let here : o.place < i = early 0 o (omega arith) in
    let inner = cuts (suc o.place) i n k (drop g ws) os (omega (arith, length-drop g ws, next.0)) next.1 (omega arith) u (omega arith)
    (λ j d x. early (suc j) d (omega arith)) (λ j d x y. late (suc j) d (omega arith) (omega arith)) in
    let front : length (as_draws (take g ws)) ≡ g = length-map {B = Draw} (take g ws) (λ w. Word w) ∙ length-take-le g ws (omega (arith, next.0)) in
    record {
      passed = omega (arith, inner.passed, next.0);
      placed = inner.placed;
      rest =
          drop_over (as_draws (take g ws)) (draws_from (suc o.place) (drop g ws) os) (Order o.order) (i - p) (i - suc o.place) (omega (arith, next.0))
          ∙ inner.rest
          ∙ ap (λ xs. draws_from i xs (drop k os)) (drop-drop (i - suc o.place - k) g ws ∙ ap (λ q. drop q ws) (omega (arith, next.0, inner.passed)));
    }

pub stands_at_cut : (ws : List ℕ) (os : List PlacedOrder) (i k : ℕ) → IsLaid ws os → length ws + length os < 2 ^ 64 → i ≤ length ws + length os → IsCut os i k k
    → StandsAt ws os i k
stands_at_cut ws os i k a u h c =
    let s = cuts 0 i (length ws + length os) k ws os (omega arith) a (omega arith) h c.high_end c.before c.behind in
    let whole : i - 0 ≡ i = omega arith in
    record { passed = omega (arith, s.passed); short = c.high_end; all = u; placed = s.placed; rest = rw whole at s.rest }
