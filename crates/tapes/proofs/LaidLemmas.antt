-- How a tape lies: what comes next at a place.
use Rattle.std.proofs.Common.{◌≡◌, ℕ, suc, zero, ◌+◌, ◌-◌, ◌<◌, ◌≤◌, List, [], ◌∷◌, ◌++◌, Some, None, length, take, drop, refl, sym, ◌∙◌, ap, subst, arith, length-append, length-drop}
use Rattle.std.specs.Prelude.{slice_get, option_and_then}
use Rattle.std.specs.Option.{option_map}
use Rattle.std.proofs.lemmas.List.{length-map, length-take, length-take-le}
use Rattle.tapes.specs.declared.draw.Draw.{Draw}
use Rattle.tapes.specs.declared.draw.Draw.TheVariants.{Word, Order}
use Rattle.tapes.specs.declared.placed.PlacedOrder.{PlacedOrder}
use Rattle.tapes.specs.Laid.{as_draws, draws_from, ArePlaced, words_before}
use Rattle.tapes.specs.Reading.{order_of, first_words, leading_words}

-- ---- where orders stand

pub placed_from : (p q n : ℕ) (os : List PlacedOrder) → p ≤ q → ArePlaced q n os → ArePlaced p n os
unfolding ArePlaced
placed_from p q n [] h a = omega (arith, a)
placed_from p q n (o ∷ os) h a = (omega (arith, a.0), a.1)

pub placed_up_to : (p n m : ℕ) (os : List PlacedOrder) → n ≤ m → ArePlaced p n os → ArePlaced p m os
unfolding ArePlaced
placed_up_to p n m [] h a = omega (arith, a)
placed_up_to p n m (o ∷ os) h a = (a.0, placed_up_to (suc o.place) n m os h a.1)

pub placed_room : (p n : ℕ) (os : List PlacedOrder) → ArePlaced p n os → p + length os ≤ n
unfolding ArePlaced
placed_room p n [] a = omega (arith, a)
placed_room p n (o ∷ os) a = omega (arith, a.0, placed_room (suc o.place) n os a.1)

pub placed_end : (p n : ℕ) → p ≤ n → ArePlaced p n []
unfolding ArePlaced
placed_end p n h = h

pub placed_next : (p n : ℕ) (o : PlacedOrder) (os : List PlacedOrder) → ArePlaced p n (o ∷ os) → (p ≤ o.place) × ArePlaced (suc o.place) n os
unfolding ArePlaced
placed_next p n o os a = a

pub placed_later : (p q n : ℕ) (o : PlacedOrder) (os : List PlacedOrder) → q ≤ o.place → ArePlaced p n (o ∷ os) → ArePlaced q n (o ∷ os)
unfolding ArePlaced
placed_later p q n o os h a = (h, a.1)

-- ---- what comes next

pub length-draws_from : (p : ℕ) (ws : List ℕ) (os : List PlacedOrder) → length (draws_from p ws os) ≡ length ws + length os
unfolding draws_from
length-draws_from p ws [] = length-map {B = Draw} ws (λ w. Word w) ∙ omega arith
length-draws_from p ws (o ∷ os) =
    let g = o.place - p in
    let rest : length (draws_from (suc o.place) (drop g ws) os) ≡ length (drop g ws) + length os = length-draws_from (suc o.place) (drop g ws) os in
    let front : length (as_draws (take g ws)) ≡ length (take g ws) = length-map {B = Draw} (take g ws) (λ w. Word w) in
    omega
    (arith, length-append (as_draws (take g ws)) (Order o.order ∷ draws_from (suc o.place) (drop g ws) os), length-take g ws, length-drop g ws)

pub word_first : (p x n : ℕ) (ws : List ℕ) (os : List PlacedOrder) → ArePlaced (suc p) n os → draws_from p (x ∷ ws) os ≡ Word x ∷ draws_from (suc p) ws os
unfolding draws_from ArePlaced
word_first p x n ws [] a = refl
word_first p x n ws (o ∷ os) a =
    let e : o.place - p ≡ suc (o.place - suc p) = omega (arith, a.0) in
    ap (λ g. as_draws (take g (x ∷ ws)) ++ Order o.order ∷ draws_from (suc o.place) (drop g (x ∷ ws)) os) e

pub order_first : (p : ℕ) (ws : List ℕ) (o : PlacedOrder) (os : List PlacedOrder) → o.place ≡ p
    → draws_from p ws (o ∷ os) ≡ Order o.order ∷ draws_from (suc p) ws os
unfolding draws_from
order_first p ws o os h =
    let e : o.place - p ≡ 0 = omega arith in
    ap (λ g. as_draws (take g ws) ++ Order o.order ∷ draws_from (suc o.place) (drop g ws) os) e
    ∙ ap (λ q. Order o.order ∷ draws_from (suc q) ws os) h

-- so many words on
pub words_dropped : (k p n : ℕ) (ws : List ℕ) (os : List PlacedOrder) → k ≤ length ws → ArePlaced (p + k) n os
    → drop k (draws_from p ws os) ≡ draws_from (p + k) (drop k ws) os
words_dropped zero p n ws os h a = ap (λ q. draws_from q ws os) (omega arith)
words_dropped (suc k) p n [] os h a = absurd (omega arith)
words_dropped (suc k) p n (x ∷ ws) os h a =
    let q : p + suc k ≡ suc p + k = omega arith in
    let b : ArePlaced (suc p + k) n os = subst (λ (i : ℕ). ArePlaced i n os) q a in
    ap (λ ds. drop (suc k) ds) (word_first p x n ws os (placed_from (suc p) (suc p + k) n os (omega arith) b))
    ∙ words_dropped k (suc p) n ws os (omega arith) b ∙ ap (λ i. draws_from i (drop k ws) os) (sym q)

pub words_first : (k p n : ℕ) (ws : List ℕ) (os : List PlacedOrder) → k ≤ length ws → ArePlaced (p + k) n os
    → first_words k (draws_from p ws os) ≡ Some (take k ws)
unfolding first_words
words_first zero p n ws os h a = refl
words_first (suc k) p n [] os h a = absurd (omega arith)
words_first (suc k) p n (x ∷ ws) os h a =
    let b : ArePlaced (suc p + k) n os = subst (λ (i : ℕ). ArePlaced i n os) (omega arith) a in
    ap (λ ds. first_words (suc k) ds) (word_first p x n ws os (placed_from (suc p) (suc p + k) n os (omega arith) b))
    ∙ ap (λ o. option_map (λ ys. x ∷ ys) o) (words_first k (suc p) n ws os (omega arith) b)

leading-words : (ws : List ℕ) → leading_words (as_draws ws) ≡ length ws
unfolding leading_words
leading-words [] = refl
leading-words (x ∷ ws) = ap suc (leading-words ws)

leading-order : (ws o : List ℕ) (ds : List Draw) → leading_words (as_draws ws ++ Order o ∷ ds) ≡ length ws
unfolding leading_words
leading-order [] o ds = refl
leading-order (x ∷ ws) o ds = ap suc (leading-order ws o ds)

-- how many words come next
pub words_lead : (p n : ℕ) (ws : List ℕ) (os : List PlacedOrder) → n ≡ p + length ws + length os → ArePlaced p n os
    → leading_words (draws_from p ws os) ≡ words_before p ws os
unfolding draws_from
words_lead p n ws [] e a = leading-words ws
words_lead p n ws (o ∷ os) e a =
    let next = placed_next p n o os a in
    leading-order (take (o.place - p) ws) o.order (draws_from (suc o.place) (drop (o.place - p) ws) os)
    ∙ length-take-le (o.place - p) ws (omega (arith, next.0, placed_room (suc o.place) n os next.1))

-- fewer words lead than are asked for
pub too_few_words : (k : ℕ) (ds : List Draw) → leading_words ds < k → first_words k ds ≡ None
unfolding first_words leading_words
too_few_words zero ds h = absurd (omega arith)
too_few_words (suc k) [] h = refl
too_few_words (suc k) (Word w ∷ ds) h = ap (λ o. option_map (λ ys. w ∷ ys) o) (too_few_words k ds (omega arith))
too_few_words (suc k) (Order o ∷ ds) h = refl

pub words_fit : (k p n : ℕ) (ws : List ℕ) (os : List PlacedOrder) → n ≡ p + length ws + length os → ArePlaced p n os → k ≤ words_before p ws os
    → (k ≤ length ws) × ArePlaced (p + k) n os
words_fit k p n ws [] e a h = (h, placed_end (p + k) n (omega arith))
words_fit k p n ws (o ∷ os) e a h =
    let next = placed_next p n o os a in
    (omega (arith, next.0, placed_room (suc o.place) n os next.1), placed_later p (p + k) n o os (omega (arith, next.0)) a)

-- ---- one draw

pub get-drop : {X : Type 0} → (xs : List X) (p : ℕ) → slice_get xs p ≡ slice_get (drop p xs) 0
get-drop [] zero = refl
get-drop [] (suc p) = refl
get-drop (x ∷ xs) zero = refl
get-drop (x ∷ xs) (suc p) = get-drop xs p

pub order_leads : (p : ℕ) (ws : List ℕ) (o : PlacedOrder) (os : List PlacedOrder) → o.place ≡ p
    → option_and_then order_of (slice_get (draws_from p ws (o ∷ os)) 0) ≡ Some o.order
order_leads p ws o os h = ap (λ ds. option_and_then order_of (slice_get ds 0)) (order_first p ws o os h)

pub no_order_leads : (ds : List Draw) → 0 < leading_words ds → option_and_then order_of (slice_get ds 0) ≡ None
unfolding leading_words
no_order_leads [] h = refl
no_order_leads (Word w ∷ ds) h = refl
no_order_leads (Order o ∷ ds) h = absurd (omega arith)

pub no_order_left : (p : ℕ) (ws : List ℕ) → option_and_then order_of (slice_get (draws_from p ws []) 0) ≡ None
unfolding draws_from
no_order_left p [] = refl
no_order_left p (x ∷ ws) = refl
