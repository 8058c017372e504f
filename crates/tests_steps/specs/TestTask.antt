-- A task that doubles words, and one that gives the numbers of their places.
use Rattle.std.proofs.Common.{◌≡◌, ℕ, zero, suc, ◌+◌, ◌-◌, ◌*◌, ◌%◌, ◌^◌, ◌<◌, ◌≤◌, Bool, true, false, List, [], ◌∷◌, length, map, get_or, refl, sym, ap, subst, ◌∙◌, arith, true≢false, rules}
use Rattle.std.specs.Prelude.{IsTrue, ◌==◌, ◌&&◌, nat_lt, if◌then◌else◌}
use Rattle.std.specs.List.{range_with_len}
use Rattle.std.proofs.lemmas.Bool.{eqb-true, ltb-true, lt-ltb, le-ltb}
use Rattle.std.proofs.lemmas.Nat.{mod_below}
use Rattle.std.proofs.lemmas.List.{length-map}
use Rattle.std.proofs.lemmas.List.FromFn.{get_or-range_with_len, get_or-map-range_with_len, length-range_with_len}
use Rattle.std.proofs.Math.ListN.{get_or-map}
use Rattle.std.proofs.lemmas.List.{get_or_past}
use Rattle.std.proofs.lemmas.Bool.{cases_lt}
use Rattle.std.proofs.Common.{⊎_elim, ◌⊎◌, inl, inr}
use Rattle.lanes.specs.Word.{AreWords}
use Rattle.tapes.specs.Order.{IsOrder}
use Rattle.step_lists.specs.declared.step.Shape.{Shape}
use Rattle.step_lists.specs.declared.step.Shape.TheVariants as shapes
use Rattle.step_lists.specs.Open.{item}
use Rattle.step_lists.specs.Shapes.{HasLength, HasShape, HaveShapes}
use Rattle.tests_steps.specs.declared.test_task.TestTask.{TestTask}
use Rattle.tests_steps.specs.declared.test_task.TestTask.TheVariants.{Doubles, Counts, Turns}

-- words doubled modulo 2 ^ 64, and the numbers of their places
abbrev pub doubled : ℕ → ℕ
doubled w = w * 2 % 2 ^ 64

-- the place so many behind one of n places, going round
abbrev pub turned_place : ℕ → ℕ → ℕ → ℕ
turned_place n by place = if nat_lt by (n - place) then place + by else by - (n - place)

-- the places turned by the first word
abbrev pub turned : List ℕ → List ℕ
turned ws = map (turned_place (length ws) (get_or ws 0 0 % length ws)) (range_with_len 0 (length ws))

abbrev pub given : TestTask → List ℕ → List ℕ
given Doubles ws = map doubled ws
given Counts ws = range_with_len 0 (length ws)
given Turns ws = turned ws

abbrev pub goes : TestTask → Shape → Shape → Bool
goes Doubles (shapes.Words m) (shapes.Words n) = m == n
goes Doubles (shapes.Words m) (shapes.OrderOf n) = false
goes Doubles (shapes.OrderOf m) give = false
goes Counts (shapes.Words m) (shapes.OrderOf n) = (m == n) && nat_lt n (2 ^ 32)
goes Counts (shapes.Words m) (shapes.Words n) = false
goes Counts (shapes.OrderOf m) give = false
goes Turns (shapes.Words m) (shapes.OrderOf n) = (m == n) && nat_lt n (2 ^ 32)
goes Turns (shapes.Words m) (shapes.Words n) = false
goes Turns (shapes.OrderOf m) give = false

-- one slot is taken and one given
abbrev pub accepts : TestTask → List Shape → List Shape → Bool
accepts task [] gives = false
accepts task (t ∷ u ∷ takes) gives = false
accepts task (t ∷ []) [] = false
accepts task (t ∷ []) (g ∷ h ∷ gives) = false
accepts task (t ∷ []) (g ∷ []) = goes task t g

abbrev pub answer : TestTask → List (List ℕ) → List (List ℕ)
answer task xs = given task (item xs 0) ∷ []

doubled_fits : (n : ℕ) (ws : List ℕ) → HasLength n ws → HasLength n (map doubled ws)
doubled_fits n ws h = record {
  long = length-map ws doubled ∙ h.long;
  below = record { below = λ k. subst (λ w. w < 2 ^ 64) (sym (get_or-map doubled ws k 0)) (mod_below (get_or ws k 0 * 2) (2 ^ 64) (omega arith)) };
}

counted_fits : (n : ℕ) (ws : List ℕ) → n < 2 ^ 64 → HasLength n ws → HasLength n (range_with_len 0 (length ws)) × IsOrder (range_with_len 0 (length ws))
counted_fits n ws small h =
    subst (λ k. HasLength n (range_with_len 0 k) × IsOrder (range_with_len 0 k)) (sym h.long) (
      record { long = length-range_with_len 0 n; below = record { below = below } },
      record { below = λ k i. inside k i; apart = λ i j p q e. apart i j p q e },
    )
  where
    at_place : (k : ℕ) → k < n → get_or (range_with_len 0 n) k 0 ≡ k
    at_place k i = get_or-range_with_len 0 n k 0 i ∙ omega arith

    long : length (range_with_len 0 n) ≡ n
    long = length-range_with_len 0 n

    below : (k : ℕ) → get_or (range_with_len 0 n) k 0 < 2 ^ 64
    below k =
        ⊎_elim (λ (i : k < n). let e = at_place k i in omega (arith, e, i, small))
        (λ (i : n ≤ k). let e = get_or_past (range_with_len 0 n) k 0 (omega (arith, i, length-range_with_len 0 n)) in omega (arith, e)) (cases_lt k n)

    inside : (k : ℕ) → k < length (range_with_len 0 n) → get_or (range_with_len 0 n) k 0 < length (range_with_len 0 n)
    inside k i = let e = length-range_with_len 0 n in let f = at_place k (omega (arith, i, e)) in omega (arith, e, f, i)

    apart : (i j : ℕ) → i < length (range_with_len 0 n) → j < length (range_with_len 0 n) → get_or (range_with_len 0 n) i 0 ≡ get_or (range_with_len 0 n) j 0 → i ≡ j
    apart i j p q e =
        let l = length-range_with_len 0 n in
        let a = at_place i (omega (arith, p, l)) in
        let b = at_place j (omega (arith, q, l)) in
        omega (arith, a, b, e)

turned_here : (n by k : ℕ) → by < n - k → turned_place n by k ≡ k + by
turned_here n by k i = rw (lt-ltb by (n - k) i) refl

turned_round : (n by k : ℕ) → n - k ≤ by → turned_place n by k ≡ by - (n - k)
turned_round n by k i = rw (le-ltb by (n - k) i) refl

turned_below : (n by k : ℕ) → by < n → k < n → turned_place n by k < n
turned_below n by k b i =
    ⊎_elim (λ (h : by < n - k). let e = turned_here n by k h in omega (arith, e, h, i))
    (λ (h : n - k ≤ by). let e = turned_round n by k h in omega (arith, e, h, i, b)) (cases_lt by (n - k))

turned_apart : (n by i j : ℕ) → by < n → i < n → j < n → turned_place n by i ≡ turned_place n by j → i ≡ j
turned_apart n by i j b p q e =
    ⊎_elim
    (λ (h : by < n - i). let f = turned_here n by i h in
    ⊎_elim (λ (g : by < n - j). let d = turned_here n by j g in omega (arith, e, f, d))
    (λ (g : n - j ≤ by). let d = turned_round n by j g in omega (arith, e, f, d, g, h, b, p, q)) (cases_lt by (n - j)))
    (λ (h : n - i ≤ by). let f = turned_round n by i h in
    ⊎_elim (λ (g : by < n - j). let d = turned_here n by j g in omega (arith, e, f, d, g, h, b, p, q))
    (λ (g : n - j ≤ by). let d = turned_round n by j g in omega (arith, e, f, d, g, h, b, p, q)) (cases_lt by (n - j)))
    (cases_lt by (n - i))

-- what stands at a place of the places turned
turned_at : (n by k : ℕ) → k < n → get_or (map (turned_place n by) (range_with_len 0 n)) k 0 ≡ turned_place n by k
turned_at n by k i = get_or-map-range_with_len (turned_place n by) 0 n k k 0 i (omega arith)

turned_order : (n by : ℕ) → by < n → n < 2 ^ 64 → HasLength n (map (turned_place n by) (range_with_len 0 n)) × IsOrder (map (turned_place n by) (range_with_len 0 n))
turned_order n by b small = (
  record { long = long; below = record { below = λ k. short k (cases_lt k n) } },
  record { below = λ k i. inside k (omega (arith, long, i)); apart = λ i j p q e. apart i j (omega (arith, long, p)) (omega (arith, long, q)) e },
)
  where
    xs : List ℕ
    xs = map (turned_place n by) (range_with_len 0 n)

    long : length xs ≡ n
    long = length-map (range_with_len 0 n) (turned_place n by) ∙ length-range_with_len 0 n

    inside : (k : ℕ) → k < n → get_or xs k 0 < length xs
    inside k i = let e = turned_at n by k i in let f = turned_below n by k b i in omega (arith, e, f, long)

    short : (k : ℕ) → (k < n) ⊎ (n ≤ k) → get_or xs k 0 < 2 ^ 64
    short k (inl i) = let e = inside k i in omega (arith, e, long, small)
    short k (inr i) = let e = get_or_past xs k 0 (omega (arith, i, long)) in omega (arith, e)

    apart : (i j : ℕ) → i < n → j < n → get_or xs i 0 ≡ get_or xs j 0 → i ≡ j
    apart i j p q e = turned_apart n by i j b p q (sym (turned_at n by i p) ∙ e ∙ turned_at n by j q)

-- places of words, turned by a word
turned_fits : (n : ℕ) (ws : List ℕ) → n < 2 ^ 32 → HasLength n ws → HasLength n (turned ws) × IsOrder (turned ws)
turned_fits n ws small h = subst (λ k. HasLength n (places k) × IsOrder (places k)) (sym h.long) (some n (omega (arith, small)))
  where
    places : ℕ → List ℕ
    places k = map (turned_place k (get_or ws 0 0 % k)) (range_with_len 0 k)

    some : (k : ℕ) → k < 2 ^ 64 → HasLength k (places k) × IsOrder (places k)
    some zero i = (record { long = refl; below = record { below = λ j. omega arith } }, record { below = λ j p. absurd (omega (arith, p)); apart = λ i j p q e. absurd (omega (arith, p)) })
    some (suc k) i = turned_order (suc k) (get_or ws 0 0 % suc k) (mod_below (get_or ws 0 0) (suc k) (omega arith)) i

two : (a b : Bool) → (a && b) ≡ true → (a ≡ true) × (b ≡ true)
two true b h = (refl, h)
two false b h = absurd (true≢false (sym h))

pub shaped : (task : TestTask) (takes gives : List Shape) (xs : List (List ℕ)) → IsTrue (accepts task takes gives)
    → HaveShapes takes xs → HaveShapes gives (answer task xs)
shaped task [] gives xs a h = absurd (true≢false (sym a))
shaped task (t ∷ u ∷ takes) gives xs a h = absurd (true≢false (sym a))
shaped task (t ∷ []) [] xs a h = absurd (true≢false (sym a))
shaped task (t ∷ []) (g ∷ k ∷ gives) xs a h = absurd (true≢false (sym a))
shaped task (t ∷ []) (g ∷ []) [] a h = absurd h
shaped task (t ∷ []) (g ∷ []) (x ∷ y ∷ xs) a h = absurd h.1
shaped task (t ∷ []) (g ∷ []) (x ∷ []) a h = (one task t g x a h.0, tt)
  where
    one : (task : TestTask) (t g : Shape) (x : List ℕ) → IsTrue (goes task t g) → HasShape t x → HasShape g (given task x)
    one Doubles (shapes.Words m) (shapes.Words n) x a h = doubled_fits n x (subst (λ k. HasLength k x) (eqb-true m n a) h)
    one Doubles (shapes.Words m) (shapes.OrderOf n) x a h = absurd (true≢false (sym a))
    one Doubles (shapes.OrderOf m) g x a h = absurd (true≢false (sym a))
    one Counts (shapes.Words m) (shapes.OrderOf n) x a h =
        let both = two (m == n) (nat_lt n (2 ^ 32)) a in
        let small : n < 2 ^ 32 = ltb-true n (2 ^ 32) both.1 in
        counted_fits n x (omega (arith, small)) (subst (λ k. HasLength k x) (eqb-true m n both.0) h)
    one Counts (shapes.Words m) (shapes.Words n) x a h = absurd (true≢false (sym a))
    one Counts (shapes.OrderOf m) g x a h = absurd (true≢false (sym a))
    one Turns (shapes.Words m) (shapes.OrderOf n) x a h =
        let both = two (m == n) (nat_lt n (2 ^ 32)) a in
        turned_fits n x (ltb-true n (2 ^ 32) both.1) (subst (λ k. HasLength k x) (eqb-true m n both.0) h)
    one Turns (shapes.Words m) (shapes.Words n) x a h = absurd (true≢false (sym a))
    one Turns (shapes.OrderOf m) g x a h = absurd (true≢false (sym a))
