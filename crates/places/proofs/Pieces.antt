-- Words by the table, and what the pieces of an operator add up to.
use Rattle.std.proofs.Common.{◌≡◌, ◌≢◌, ℕ, zero, suc, ◌+◌, ◌*◌, ◌≤◌, List, [], ◌∷◌, length, refl, ◌∙◌, ap, subst, arith}
use Rattle.std.proofs.Math.Nat.{add-mul, mul-add, mul-le-mul_left, mul-le-mul_right, mul-one}
use Rattle.lanes.specs.Logarithm.{ceil_log2}
use Rattle.places.specs.Cost.{hybrid_group, hybrid_join, shared_distinct, shared_group, shared_join}

-- a number is at most its square
squares : (n : ℕ) → n ≤ n * n
squares zero = omega arith
squares (suc n) = let more : suc n * 1 ≤ suc n * suc n = mul-le-mul_left (suc n) (omega arith) in let one = mul-one (suc n) in omega (arith, more, one)

-- pairs of rows, and each row besides
pairs : (n a b : ℕ) → n * n * a + n * b ≤ n * n * (a + b)
pairs n a b =
    let whole = mul-add (n * n) a b in
    let more : n * b ≤ n * n * b = mul-le-mul_right b (squares n) in
    omega (arith, whole, more)

pub join_pieces : (keys n m : ℕ) → n * m * (7 * keys + 1) ≤ shared_join keys n m
join_pieces keys n m = mul-le-mul_left (n * m) (omega arith)

pub group_pieces : (keys : List ℕ) (aggregates n : ℕ) → keys ≢ [] → n * n * (7 * length keys + 2 + 15 * aggregates) + n * (2 + 2 * aggregates) ≤ shared_group keys aggregates n
group_pieces [] aggregates n some = absurd (some refl)
group_pieces (key ∷ keys) aggregates n some =
    let k = length (key ∷ keys) in
    let same : (7 * k + 2 + 15 * aggregates) + (2 + 2 * aggregates) ≡ 7 * k + 4 + 17 * aggregates = omega arith in
    subst (λ w. n * n * (7 * k + 2 + 15 * aggregates) + n * (2 + 2 * aggregates) ≤ n * n * w) same (pairs n (7 * k + 2 + 15 * aggregates) (2 + 2 * aggregates))

pub whole_pieces : (aggregates n : ℕ) → n * (15 * aggregates + 1) ≤ shared_group [] aggregates n
whole_pieces aggregates n = mul-le-mul_left n (omega arith)

pub distinct_pieces : (columns n : ℕ) → n * n * (7 * columns + 2) + n * 2 ≤ shared_distinct columns n
distinct_pieces columns n =
    let same : (7 * columns + 2) + 2 ≡ 7 * columns + 4 = omega arith in
    subst (λ w. n * n * (7 * columns + 2) + n * 2 ≤ n * n * w) same (pairs n (7 * columns + 2) 2)

pub hybrid_join_pieces : (keys columns n m rows : ℕ) → keys ≤ columns → (n + m) * keys + rows * ceil_log2 rows * (columns + 2) ≤ hybrid_join columns n m rows
hybrid_join_pieces keys columns n m rows few =
    let levels = ceil_log2 rows in
    let split = add-mul (n + m) (rows * (levels + 1)) (columns + 2) in
    let seen : (n + m) * keys ≤ (n + m) * (columns + 2) = mul-le-mul_left (n + m) (omega (arith, few)) in
    let fewer : rows * levels ≤ rows * (levels + 1) = mul-le-mul_left rows (omega arith) in
    let moved : rows * levels * (columns + 2) ≤ rows * (levels + 1) * (columns + 2) = mul-le-mul_right (columns + 2) fewer in
    omega (arith, split, seen, moved)

pub hybrid_group_pieces : (keys aggregates n : ℕ) → n * keys + ceil_log2 n * n * (16 * aggregates) ≤ hybrid_group keys aggregates n
hybrid_group_pieces keys aggregates n =
    let levels = ceil_log2 n in
    let width = 17 * aggregates + keys + 2 in
    let apart : (levels + 2) * n * width ≡ (levels * n) * width + (2 * n) * width = ap (λ k. k * width) (add-mul levels 2 n) ∙ add-mul (levels * n) (2 * n) width in
    let moved : levels * n * (16 * aggregates) ≤ levels * n * width = mul-le-mul_left (levels * n) (omega arith) in
    let narrow : n * keys ≤ n * width = mul-le-mul_left n (omega arith) in
    let twice : n * width ≤ (2 * n) * width = mul-le-mul_right width (omega arith) in
    omega (arith, apart, moved, narrow, twice)
