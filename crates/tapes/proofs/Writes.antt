-- A list that is written over another one from the front.
use Rattle.std.proofs.Common.{◌≡◌, ℕ, ◌+◌, ◌<◌, List, ◌++◌, length, get_or, set, take, drop, refl, ◌∙◌, arith}
use Rattle.std.proofs.lemmas.List.{append-nil, append_assoc, drop_more, drop_all, take_more, take_all, set_at, length-take-le}

-- one more item
pub written_more : {X : Type 0} (ws xs : List X) (i : ℕ) (d : X) → length ws ≡ length xs → i < length xs
    → set (take i ws ++ drop i xs) i (get_or ws i d) ≡ take (i + 1) ws ++ drop (i + 1) xs
written_more ws xs i d e h =
    let within : i < length ws = omega arith in
    let front : length (take i ws) ≡ i = length-take-le i ws (omega arith) in
    rw (drop_more xs i d h)
    (set_at (take i ws) (get_or xs i d) (drop (i + 1) xs) (get_or ws i d) i front ∙ rw (take_more ws i d within, append_assoc) refl)

-- all of them
pub written_all : {X : Type 0} (ws xs : List X) (i : ℕ) → length ws ≡ length xs → i ≡ length xs → take i ws ++ drop i xs ≡ ws
written_all ws xs i e h = rw (drop_all i xs (omega arith), take_all i ws (omega arith)) (append-nil ws)
