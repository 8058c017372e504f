-- The AND words of groups and of distinct rows.
use Rattle.std.proofs.Common.{◌≡◌, ℕ, zero, suc, ◌+◌, ◌-◌, ◌*◌, ◌≤◌, sym, ap, ◌∙◌, arith}
use Rattle.std.proofs.Math.Nat.{add-mul, mul-add, mul-le-mul_left, mul_assoc, mul_comm}
use Rattle.circuits.specs.BlockCosts.{blocks_cost, sum_cost}
use Rattle.circuits.specs.declared.folds.Fold.{Fold}
use Rattle.circuits.specs.declared.folds.Fold.TheVariants.{Sum, Least, Greatest, Any}

fewer : (w n : ℕ) → w * (n - 1) ≤ n * w
fewer w n = let told : w * (n - 1) ≤ w * n = mul-le-mul_left w (omega arith) in omega (arith, told, mul_comm w n)

eight : (w n : ℕ) → 8 * w * (n - 1) ≤ 16 * (n * w)
eight w n = omega (arith, fewer w n, mul_assoc 8 w (n - 1))

sums : (w n : ℕ) → sum_cost w n ≤ 16 * (n * w)
sums w zero = omega arith
sums w (suc zero) = omega arith
sums w (suc (suc more)) =
    let told : suc (suc more) * w ≡ 2 * w + w * more = ap (λ n. n * w) (omega arith) ∙ add-mul 2 more w ∙ ap (λ n. 2 * w + n) (mul_comm more w) in
    omega (arith, told)

pub fold_cost : (fold : Fold) (w n : ℕ) → blocks_cost fold w n ≤ 16 * (n * w)
fold_cost Sum w n = sums w n
fold_cost Least w n = eight w n
fold_cost Greatest w n = eight w n
fold_cost Any w n = omega (arith, fewer w n, mul_assoc 1 w (n - 1))

pub any_cost : (w n : ℕ) → blocks_cost Any w n ≤ n * w
any_cost w n = omega (arith, fewer w n, mul_assoc 1 w (n - 1))

pub rows_below_pairs : (n : ℕ) → n ≤ n * n
rows_below_pairs zero = omega arith
rows_below_pairs (suc n) = let told : suc n * 1 ≤ suc n * suc n = mul-le-mul_left (suc n) (omega arith) in omega (arith, told)

-- pairs compared, seen and left in
pub firsts_cost : (before mid after n keys : ℕ) → mid ≤ before + n * n * (7 * keys + 1) → after ≤ mid + (n * n + n) → after ≤ before + n * n * (7 * keys + 3)
firsts_cost before mid after n keys first second =
    omega (arith, first, second, rows_below_pairs n, mul-add (n * n) (7 * keys) 1, mul-add (n * n) (7 * keys) 3)

pub grouped_cost : (before mid after pairs keys aggregates : ℕ) → mid ≤ before + pairs * (7 * keys + 3) → after ≤ mid + aggregates * (17 * pairs)
    → after ≤ before + pairs * (7 * keys + 4 + 17 * aggregates)
grouped_cost before mid after pairs keys aggregates first second =
    let same : aggregates * (17 * pairs) ≡ pairs * (17 * aggregates) = sym (mul_assoc aggregates 17 pairs) ∙ mul_comm (aggregates * 17) pairs ∙ ap (λ n. pairs * n) (mul_comm aggregates 17) in
    omega (arith, first, second, same, mul-add pairs (7 * keys) 3, mul-add pairs (7 * keys + 4) (17 * aggregates), mul-add pairs (7 * keys) 4)

pub distinct_costs : (before after pairs keys : ℕ) → after ≤ before + pairs * (7 * keys + 3) → after ≤ before + pairs * (7 * keys + 4)
distinct_costs before after pairs keys paid = omega (arith, paid, mul-add pairs (7 * keys) 3, mul-add pairs (7 * keys) 4)

pub whole_cost : (before mid after rows aggregates : ℕ) → mid ≤ before + aggregates * (17 * (rows * 1)) → after ≤ mid + rows * 1 → after ≤ before + rows * (17 * aggregates + 4)
whole_cost before mid after rows aggregates first second =
    let same : aggregates * (17 * rows) ≡ rows * (17 * aggregates) = sym (mul_assoc aggregates 17 rows) ∙ mul_comm (aggregates * 17) rows ∙ ap (λ n. rows * n) (mul_comm aggregates 17) in
    let one : aggregates * (17 * (rows * 1)) ≡ aggregates * (17 * rows) = ap (λ n. aggregates * (17 * n)) (omega arith) in
    omega (arith, first, second, same, one, mul-add rows (17 * aggregates) 4)
