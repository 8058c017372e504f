-- The new share of an and, one lane after the other.
use Rattle.std.proofs.Common.{◌≡◌, ℕ, ◌+◌, ◌<◌, List, [], ◌∷◌, ◌++◌, length, take, get_or, sym, ◌∙◌, ap, arith}
use Rattle.std.specs.Prelude.{bit_xor}
use Rattle.std.proofs.lemmas.List.{take_more}
use Rattle.lanes.specs.Items.{LaneItems, LaneLengths}
use Rattle.lanes.specs.Lanes.{xors, crosses}
use Rattle.lanes.specs.Word.{cross}

pub masked_long : LaneLengths → (n : ℕ) (x x' y y' a b : List ℕ) → length x ≡ n → length x' ≡ n → length y ≡ n → length y' ≡ n → length a ≡ n → length b ≡ n
    → length (xors (xors (crosses x x' y y') a) b) ≡ n
masked_long lengths n x x' y y' a b hx hx' hy hy' ha hb =
    let c = lengths.cross x x' y y' (hx' ∙ sym hx) (hy ∙ sym hx) (hy' ∙ sym hx) in
    omega (arith, lengths.xor (crosses x x' y y') a, lengths.xor (xors (crosses x x' y y') a) b)

pub masked_at : LaneItems → (k : ℕ) (x x' y y' a b : List ℕ)
    → get_or (xors (xors (crosses x x' y y') a) b) k 0
    ≡ bit_xor (bit_xor (cross (get_or x k 0) (get_or x' k 0) (get_or y k 0) (get_or y' k 0)) (get_or a k 0)) (get_or b k 0)
masked_at items k x x' y y' a b =
    items.xor (xors (crosses x x' y y') a) b k
    ∙ ap (λ w. bit_xor w (get_or b k 0)) (items.xor (crosses x x' y y') a k ∙ ap (λ w. bit_xor w (get_or a k 0)) (items.cross x x' y y' k))

pub masked_more : LaneLengths → (n k : ℕ) (x x' y y' a b : List ℕ) → length x ≡ n → length x' ≡ n → length y ≡ n → length y' ≡ n → length a ≡ n
    → length b ≡ n → k < n
    → take (k + 1) (xors (xors (crosses x x' y y') a) b)
    ≡ take k (xors (xors (crosses x x' y y') a) b) ++ get_or (xors (xors (crosses x x' y y') a) b) k 0 ∷ []
masked_more lengths n k x x' y y' a b hx hx' hy hy' ha hb h =
    let long = masked_long lengths n x x' y y' a b hx hx' hy hy' ha hb in
    take_more (xors (xors (crosses x x' y y') a) b) k 0 (omega arith)
