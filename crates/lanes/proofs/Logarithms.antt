-- The logarithm to base 2, rounded up.
use Rattle.std.proofs.Common.{◌≡◌, ℕ, suc, zero, ◌+◌, ◌*◌, ◌/◌, ◌^◌, ◌<◌, ◌≤◌, ⊎_elim, Bool, true, false, nat_le, refl, sym, subst, arith}
use Rattle.std.proofs.lemmas.Bool.{cases_lt}
use Rattle.std.proofs.lemmas.Bool.Decides.{nat_tests}
use Rattle.std.proofs.Math.Pow.{pow-lt}
use Rattle.std.proofs.lemmas.Nat.{pow_pos}
use Rattle.lanes.specs.Logarithm.{IsLeastLog, LogCountsDoublings, LogOfNumbers, ceil_log2, first_level}

-- n ≤ 2 ^ r, and no power of 2 below that one reaches n
pub record Reaches (n r : ℕ) : Type 0 where
  pub enough : n ≤ 2 ^ r
  pub before : (k : ℕ) → k < r → 2 ^ k < n

first_reaches : (more level n : ℕ) → n ≤ 2 ^ (level + more) → ((k : ℕ) → k < level → 2 ^ k < n) → Reaches n (first_level more level n)
unfolding first_level
first_reaches zero level n high low = record { enough = (let same : level + 0 ≡ level = omega arith in subst (λ (k : ℕ). n ≤ 2 ^ k) same high); before = low }
first_reaches (suc more) level n high low = by (first_reaches more (suc level) n (let same : level + suc more ≡ suc level + more = omega arith in subst (λ (k : ℕ). n ≤ 2 ^ k) same high)) (nat_le n (2 ^ level)) refl
  where
    by : (((k : ℕ) → k < suc level → 2 ^ k < n) → Reaches n (first_level more (suc level) n)) → (b : Bool) → nat_le n (2 ^ level) ≡ b
        → Reaches n (elim b [ true ↦ level | false ↦ first_level more (suc level) n ])
    by later true e = record { enough = grind (arith, nat_tests); before = low }
    by later false e =
        let above : 2 ^ level < n = grind (arith, nat_tests) in
        later (λ k h. ⊎_elim (λ (lower : k < level). low k lower) (λ (here : level ≤ k). let same : level ≡ k = omega arith in subst (λ (i : ℕ). 2 ^ i < n) same above) (cases_lt k level))

-- a number is at most 2 to its power
reached : (n : ℕ) → n ≤ 2 ^ n
reached zero = omega arith
reached (suc n) = let rest = reached n in omega (arith, pow_pos n)

pub log_reaches : (n : ℕ) → Reaches n (ceil_log2 n)
unfolding ceil_log2
log_reaches n = first_reaches n 0 n (let same : 0 + n ≡ n = omega arith in subst (λ (k : ℕ). n ≤ 2 ^ k) (sym same) (reached n)) (λ k h. absurd (omega arith))

pub least_log : (n l : ℕ) → n ≤ 2 ^ l → ceil_log2 n ≤ l
least_log n l h =
    ⊎_elim (λ (above : l < ceil_log2 n). absurd (omega (arith, (log_reaches n).before l above))) (λ (within : ceil_log2 n ≤ l). within) (cases_lt l (ceil_log2 n))

pub is_least_log : IsLeastLog
is_least_log = record { enough = λ n. (log_reaches n).enough; least = least_log }

pub log_counts_doublings : LogCountsDoublings
log_counts_doublings n l before enough =
    let most = least_log n l enough in
    ⊎_elim (λ (early : ceil_log2 n < l). absurd (omega (arith, before (ceil_log2 n) early, (log_reaches n).enough))) (λ (late : l ≤ ceil_log2 n). omega arith) (cases_lt (ceil_log2 n) l)

rises : (m n : ℕ) → m ≤ n → ceil_log2 m ≤ ceil_log2 n
rises m n h = least_log m (ceil_log2 n) (omega (arith, (log_reaches n).enough))

power : (l : ℕ) → ceil_log2 (2 ^ l) ≡ l
power l = log_counts_doublings (2 ^ l) l (λ k h. pow-lt h) (omega arith)

-- 2 to a number's power, of one number more
next_power : (l : ℕ) → 2 ^ suc l ≡ 2 * 2 ^ l
next_power l = omega arith

doubled : (n : ℕ) → 0 < n → ceil_log2 (2 * n) ≡ suc (ceil_log2 n)
doubled n some = log_counts_doublings (2 * n) (suc (ceil_log2 n)) before (omega (arith, (log_reaches n).enough))
  where
    before : (k : ℕ) → k < suc (ceil_log2 n) → 2 ^ k < 2 * n
    before zero h = omega arith
    before (suc k) h = omega (arith, (log_reaches n).before k (omega arith))

halved : (n : ℕ) → 1 < n → ceil_log2 n ≡ suc (ceil_log2 ((n + 1) / 2))
halved n some =
    let half = (n + 1) / 2 in
    log_counts_doublings n (suc (ceil_log2 half)) before (omega (arith, (log_reaches half).enough))
  where
    before : (k : ℕ) → k < suc (ceil_log2 ((n + 1) / 2)) → 2 ^ k < n
    before zero h = omega arith
    before (suc k) h = omega (arith, (log_reaches ((n + 1) / 2)).before k (omega arith))

pub log_of_numbers : LogOfNumbers
log_of_numbers = record {
  one = power 0;
  power = power;
  doubled = doubled;
  halved = halved;
  rises = rises;
  short = λ n h. least_log n 32 h;
}
