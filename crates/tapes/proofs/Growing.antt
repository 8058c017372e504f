-- A tape with one more draw.
use Rattle.std.proofs.Common.{◌≡◌, ℕ, suc, ◌+◌, ◌-◌, ◌≤◌, List, [], ◌∷◌, ◌++◌, length, take, drop, refl, sym, ◌∙◌, ap, arith, length-drop}
use Rattle.std.proofs.lemmas.List.{append_assoc, map_push, take-append-le, drop-append-le, take_all, drop_all, length_push}
use Rattle.tapes.specs.declared.draw.Draw.{Draw}
use Rattle.tapes.specs.declared.draw.Draw.TheVariants.{Word, Order}
use Rattle.tapes.specs.declared.placed.PlacedOrder.{PlacedOrder}
use Rattle.tapes.specs.Laid.{as_draws, draws_from, ArePlaced, IsLaid}
use Rattle.tapes.proofs.LaidLemmas.{placed_next, placed_room, placed_up_to, placed_end}

word_behind : (p x n : ℕ) (ws : List ℕ) (os : List PlacedOrder) → n ≡ p + length ws + length os → ArePlaced p n os
    → draws_from p (ws ++ x ∷ []) os ≡ draws_from p ws os ++ Word x ∷ []
unfolding draws_from
word_behind p x n ws [] e a = map_push {Y = Draw} (λ w. Word w) ws x
word_behind p x n ws (o ∷ os) e a =
    let g = o.place - p in
    let next = placed_next p n o os a in
    let room : g ≤ length ws = omega (arith, next.0, placed_room (suc o.place) n os next.1) in
    ap (λ xs. as_draws xs ++ Order o.order ∷ draws_from (suc o.place) (drop g (ws ++ x ∷ [])) os) (take-append-le g ws (x ∷ []) room)
    ∙ ap (λ xs. as_draws (take g ws) ++ Order o.order ∷ draws_from (suc o.place) xs os) (drop-append-le g ws (x ∷ []) room)
    ∙ ap (λ ds. as_draws (take g ws) ++ Order o.order ∷ ds) (word_behind (suc o.place) x n (drop g ws) os (omega (arith, length-drop g ws, next.0)) next.1)
    ∙ sym (append_assoc (as_draws (take g ws)) (Order o.order ∷ draws_from (suc o.place) (drop g ws) os) (Word x ∷ []))

order_behind : (p n : ℕ) (ws : List ℕ) (os : List PlacedOrder) (o : PlacedOrder) → n ≡ p + length ws + length os → ArePlaced p n os → o.place ≡ n
    → draws_from p ws (os ++ o ∷ []) ≡ draws_from p ws os ++ Order o.order ∷ []
unfolding draws_from
order_behind p n ws [] o e a q =
    ap (λ xs. as_draws xs ++ Order o.order ∷ as_draws (drop (o.place - p) ws)) (take_all (o.place - p) ws (omega arith))
    ∙ ap (λ xs. as_draws ws ++ Order o.order ∷ as_draws xs) (drop_all (o.place - p) ws (omega arith))
order_behind p n ws (y ∷ os) o e a q =
    let g = y.place - p in
    let next = placed_next p n y os a in
    let room : g ≤ length ws = omega (arith, next.0, placed_room (suc y.place) n os next.1) in
    ap (λ ds. as_draws (take g ws) ++ Order y.order ∷ ds) (order_behind (suc y.place) n (drop g ws) os o (omega (arith, length-drop g ws, next.0)) next.1 q)
    ∙ sym (append_assoc (as_draws (take g ws)) (Order y.order ∷ draws_from (suc y.place) (drop g ws) os) (Order o.order ∷ []))

placed_push : (p n : ℕ) (os : List PlacedOrder) (o : PlacedOrder) → ArePlaced p n os → o.place ≡ n → ArePlaced p (n + 1) (os ++ o ∷ [])
unfolding ArePlaced
placed_push p n [] o a e = (omega (arith, a), omega (arith, e))
placed_push p n (y ∷ os) o a e = (a.0, placed_push (suc y.place) n os o a.1 e)

pub laid_empty : IsLaid [] []
laid_empty = placed_end 0 0 (omega arith)

pub laid_word : (ws : List ℕ) (os : List PlacedOrder) (x : ℕ) → IsLaid ws os → IsLaid (ws ++ x ∷ []) os
laid_word ws os x a = placed_up_to 0 (length ws + length os) (length (ws ++ x ∷ []) + length os) os (omega (arith, length_push ws x)) a

pub laid_order : (ws : List ℕ) (os : List PlacedOrder) (o : PlacedOrder) → IsLaid ws os → o.place ≡ length ws + length os → IsLaid ws (os ++ o ∷ [])
laid_order ws os o a e =
    placed_up_to 0 (length ws + length os + 1) (length ws + length (os ++ o ∷ [])) (os ++ o ∷ []) (omega (arith, length_push os o))
    (placed_push 0 (length ws + length os) os o a e)

pub draws_word : (ws : List ℕ) (os : List PlacedOrder) (x : ℕ) → IsLaid ws os → draws_from 0 (ws ++ x ∷ []) os ≡ draws_from 0 ws os ++ Word x ∷ []
draws_word ws os x a = word_behind 0 x (length ws + length os) ws os (omega arith) a

pub draws_order : (ws : List ℕ) (os : List PlacedOrder) (o : PlacedOrder) → IsLaid ws os → o.place ≡ length ws + length os
    → draws_from 0 ws (os ++ o ∷ []) ≡ draws_from 0 ws os ++ Order o.order ∷ []
draws_order ws os o a e = order_behind 0 (length ws + length os) ws os o (omega arith) a e

pub no_draws : draws_from 0 [] [] ≡ []
unfolding draws_from
no_draws = refl
