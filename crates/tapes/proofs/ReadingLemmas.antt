-- What stands at a place of a tape.
use Rattle.std.proofs.Common.{◌≡◌, ◌≢◌, ℕ, ◌+◌, ◌-◌, ◌<◌, ◌≤◌, List, [], ◌∷◌, Option, Some, None, true, length, get_or, take, drop, refl, sym, ◌∙◌, ap, subst, arith, length-drop}
use Rattle.std.specs.Prelude.{slice_get, option_and_then, is_some}
use Rattle.std.specs.Option.{option_map}
use Rattle.std.proofs.lemmas.List.{drop_all}
use Rattle.tapes.specs.declared.draw.Draw.{Draw}
use Rattle.tapes.specs.declared.draw.Draw.TheVariants.{Word, Order}
use Rattle.tapes.specs.declared.placed.PlacedOrder.{PlacedOrder}
use Rattle.tapes.specs.Laid.{draws_from, ArePlaced, StandsAt, words_before}
use Rattle.tapes.specs.Reading.{Reading, word_of, order_of, first_words, leading_words, word_at, words_at}
use Rattle.tapes.proofs.LaidLemmas.{placed_next, placed_room, words_fit, words_lead, words_first, too_few_words, get-drop, order_leads, no_order_leads, no_order_left}
use Rattle.tapes.proofs.Standing.{drop_at_read, counted}

-- the words before the next order, or before the end
abbrev ready : List ℕ → List PlacedOrder → ℕ → ℕ → ℕ
ready ws os p k = words_before p (drop (p - k) ws) (drop k os)

fit : (ws : List ℕ) (os : List PlacedOrder) (p k n : ℕ) → StandsAt ws os p k → n ≤ ready ws os p k
    → (n ≤ length (drop (p - k) ws)) × ArePlaced (p + n) (length ws + length os) (drop k os)
fit ws os p k n s h = words_fit n p (length ws + length os) (drop (p - k) ws) (drop k os) (counted ws os p k s) s.placed h

pub words_within : (ws : List ℕ) (os : List PlacedOrder) (p k n : ℕ) → StandsAt ws os p k → n ≤ ready ws os p k → (p - k) + n ≤ length ws
words_within ws os p k n s h = omega (arith, (fit ws os p k n s h).0, length-drop (p - k) ws, behind)
  where
    behind : p - k ≤ length ws
    behind = omega (arith, s.passed, s.short, length-drop k os, placed_room p (length ws + length os) (drop k os) s.placed)

pub place_within : (ws : List ℕ) (os : List PlacedOrder) (p k n : ℕ) → StandsAt ws os p k → n ≤ ready ws os p k → p + n ≤ length ws + length os
place_within ws os p k n s h = omega (arith, placed_room (p + n) (length ws + length os) (drop k os) (fit ws os p k n s h).1)

one : (ds : List Draw) → first_words 1 ds ≡ option_map (λ w. w ∷ []) (option_and_then word_of (slice_get ds 0))
unfolding first_words
one [] = refl
one (Word w ∷ ds) = refl
one (Order o ∷ ds) = refl

here : (ws : List ℕ) (os : List PlacedOrder) (p k : ℕ) → StandsAt ws os p k
    → slice_get (draws_from 0 ws os) p ≡ slice_get (draws_from p (drop (p - k) ws) (drop k os)) 0
here ws os p k s = get-drop (draws_from 0 ws os) p ∙ ap (λ ds. slice_get ds 0) s.rest

-- ---- words

pub ready_here : (ws : List ℕ) (os : List PlacedOrder) (p k : ℕ) → StandsAt ws os p k → leading_words (drop p (draws_from 0 ws os)) ≡ ready ws os p k
ready_here ws os p k s =
    ap leading_words s.rest ∙ words_lead p (length ws + length os) (drop (p - k) ws) (drop k os) (counted ws os p k s) s.placed

pub words_here : (ws : List ℕ) (os : List PlacedOrder) (p k n : ℕ) → StandsAt ws os p k → n ≤ ready ws os p k
    → first_words n (drop p (draws_from 0 ws os)) ≡ Some (take n (drop (p - k) ws))
words_here ws os p k n s h =
    let f = fit ws os p k n s h in
    ap (λ ds. first_words n ds) s.rest ∙ words_first n p (length ws + length os) (drop (p - k) ws) (drop k os) f.0 f.1

pub no_words_here : (ws : List ℕ) (os : List PlacedOrder) (p k n : ℕ) → StandsAt ws os p k → ready ws os p k < n
    → first_words n (drop p (draws_from 0 ws os)) ≡ None
no_words_here ws os p k n s h = too_few_words n (drop p (draws_from 0 ws os)) (omega (arith, ready_here ws os p k s))

-- the next draw's word is the next words, where one is asked for
pub one_word : (ds : List Draw) (p : ℕ) → first_words 1 (drop p ds) ≡ option_map (λ w. w ∷ []) (option_and_then word_of (slice_get ds p))
one_word ds p = one (drop p ds) ∙ ap (λ d. option_map (λ w. w ∷ []) (option_and_then word_of d)) (sym (get-drop ds p))

pub only_word : (r : Reading) (words : List ℕ) → Some words ≡ words_at r 1 → slice_get words 0 ≡ word_at r
only_word r words e = go (word_at r) (e ∙ one_word r.draws r.place)
  where
    go : (o : Option ℕ) → Some words ≡ option_map (λ w. w ∷ []) o → slice_get words 0 ≡ o
    go None e = absurd (cc)
    go (Some w) e = let same : words ≡ w ∷ [] = cc in ap (λ ws. slice_get ws 0) same

pub one_is_there : (r : Reading) (words : List ℕ) → Some words ≡ words_at r 1 → is_some (slice_get words 0) ≡ true
one_is_there r words e = go (word_at r) (e ∙ one_word r.draws r.place)
  where
    go : (o : Option ℕ) → Some words ≡ option_map (λ w. w ∷ []) o → is_some (slice_get words 0) ≡ true
    go None e = absurd (cc)
    go (Some w) e = let same : words ≡ w ∷ [] = cc in ap (λ ws. is_some (slice_get ws 0)) same

pub no_word_there : (r : Reading) → None ≡ words_at r 1 → None ≡ word_at r
no_word_there r e = go (word_at r) (e ∙ one_word r.draws r.place)
  where
    go : (o : Option ℕ) → None ≡ option_map (λ w. w ∷ []) o → None ≡ o
    go None e = refl
    go (Some w) e = absurd (cc)

-- ---- orders

pub order_here : (ws : List ℕ) (os : List PlacedOrder) (p k : ℕ) (o : PlacedOrder) → StandsAt ws os p k → k < length os → o ≡ get_or os k o → o.place ≡ p
    → option_and_then order_of (slice_get (draws_from 0 ws os) p) ≡ Some o.order
order_here ws os p k o s h e q =
    ap (λ d. option_and_then order_of d) (here ws os p k s)
    ∙ ap (λ xs. option_and_then order_of (slice_get (draws_from p (drop (p - k) ws) xs) 0)) (drop_at_read os k o h e)
    ∙ order_leads p (drop (p - k) ws) o (drop (k + 1) os) q

pub no_order_at_end : (ws : List ℕ) (os : List PlacedOrder) (p k : ℕ) → StandsAt ws os p k → length os ≤ k
    → option_and_then order_of (slice_get (draws_from 0 ws os) p) ≡ None
no_order_at_end ws os p k s h =
    ap (λ d. option_and_then order_of d) (here ws os p k s)
    ∙ ap (λ xs. option_and_then order_of (slice_get (draws_from p (drop (p - k) ws) xs) 0)) (drop_all k os h)
    ∙ no_order_left p (drop (p - k) ws)

pub no_order_yet : (ws : List ℕ) (os : List PlacedOrder) (p k : ℕ) (o : PlacedOrder) → StandsAt ws os p k → k < length os → o ≡ get_or os k o → o.place ≢ p
    → option_and_then order_of (slice_get (draws_from 0 ws os) p) ≡ None
no_order_yet ws os p k o s h e q =
    let all = length ws + length os in
    let left : drop k os ≡ o ∷ drop (k + 1) os = drop_at_read os k o h e in
    let next = placed_next p all o (drop (k + 1) os) (subst (λ (xs : List PlacedOrder). ArePlaced p all xs) left s.placed) in
    let more : words_before p (drop (p - k) ws) (drop k os) ≡ o.place - p = ap (λ xs. words_before p (drop (p - k) ws) xs) left in
    let lead : leading_words (draws_from p (drop (p - k) ws) (drop k os)) ≡ ready ws os p k
    = words_lead p all (drop (p - k) ws) (drop k os) (counted ws os p k s) s.placed in
    ap (λ d. option_and_then order_of d) (here ws os p k s)
    ∙ no_order_leads (draws_from p (drop (p - k) ws) (drop k os)) (omega (arith, next.0))

pub order_room : (ws : List ℕ) (os : List PlacedOrder) (p k : ℕ) → StandsAt ws os p k → k < length os → p + 1 ≤ length ws + length os
order_room ws os p k s h = omega (arith, length-drop k os, placed_room p (length ws + length os) (drop k os) s.placed)
