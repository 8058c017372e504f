-- How many columns aren't keys.
use Rattle.std.proofs.Common.{◌≡◌, ℕ, zero, suc, ◌+◌, ◌<◌, ◌≤◌, Bool, true, false, cond, not, ◌||◌, List, [], ◌∷◌, length, refl, sym, ◌∙◌, ap, subst, arith}
use Rattle.std.specs.Prelude.{◌≢◌, ◌==◌, AllPairs}
use Rattle.std.specs.List.{All, filter, list_any, range_with_len}
use Rattle.std.proofs.lemmas.Bool.Decides.{nat_tests}
use Rattle.std.proofs.lemmas.List.Elements.{All-head, All-tail, filter_agree}
use Rattle.std.proofs.lemmas.List.FromFn.{length-range_with_len}
use Rattle.plain_operators.specs.Columns.{other_columns}
use Rattle.plain_operators.specs.Within.{HasColumns}

filter_all : {X : Type 0} (p : X → Bool) (xs : List X) → All (λ x. p x ≡ true) xs → filter p xs ≡ xs
filter_all p [] all = refl
filter_all p (x ∷ xs) all = rw (All-head (λ z. p z ≡ true) x xs all) (ap (λ l. x ∷ l) (filter_all p xs (All-tail (λ z. p z ≡ true) x xs all)))

-- a test that k fails too
but : ℕ → (ℕ → Bool) → ℕ → Bool
but k p c = cond (k == c) false (p c)

apart : (a b : ℕ) → a ≢ b → (a == b) ≡ false
apart a b ne = grind (arith, nat_tests)

itself : (a b : ℕ) → a ≡ b → (a == b) ≡ true
itself a b same = grind (arith, nat_tests)

-- behind k nothing changes
behind : (k : ℕ) (p : ℕ → Bool) (a n : ℕ) → k < a → filter (but k p) (range_with_len a n) ≡ filter p (range_with_len a n)
unfolding but
behind k p a zero later = refl
behind k p a (suc n) later =
    let other : (k == a) ≡ false = apart k a (λ same. absurd (omega (arith, same))) in
    rw other (ap (λ l. cond (p a) (a ∷ l) l) (behind k p (a + 1) n (omega arith)))

-- one element fewer, where k passed
one_fewer : (k : ℕ) (p : ℕ → Bool) (a n : ℕ) → a ≤ k → k < a + n → p k ≡ true → length (filter p (range_with_len a n)) ≡ length (filter (but k p) (range_with_len a n)) + 1
unfolding but
one_fewer k p a zero from below passes = absurd (omega arith)
one_fewer k p a (suc n) from below passes = by (λ later. one_fewer k p (a + 1) n later (omega arith) passes) (k == a) refl
  where
    by : (a + 1 ≤ k → length (filter p (range_with_len (a + 1) n)) ≡ length (filter (but k p) (range_with_len (a + 1) n)) + 1) → (b : Bool) → (k == a) ≡ b → length (filter p (range_with_len a (suc n))) ≡ length (filter (but k p) (range_with_len a (suc n))) + 1
    by deeper true same =
        let is : k ≡ a = grind (arith, nat_tests) in
        let here : p a ≡ true = subst (λ c. p c ≡ true) is passes in
        let rest = ap length (behind k p (a + 1) n (omega arith)) in
        rw (same, here) (omega (arith, rest))
    by deeper false other =
        let ne : k ≢ a = λ is. (let yes = itself k a is in absurd cc) in
        let later : a + 1 ≤ k = omega (arith, ne) in
        let rest = deeper later in
        rw other (at (p a) rest)
      where
        at : (b : Bool) → length (filter p (range_with_len (a + 1) n)) ≡ length (filter (but k p) (range_with_len (a + 1) n)) + 1
            → length (cond b (a ∷ filter p (range_with_len (a + 1) n)) (filter p (range_with_len (a + 1) n))) ≡ length (cond b (a ∷ filter (but k p) (range_with_len (a + 1) n)) (filter (but k p) (range_with_len (a + 1) n))) + 1
        at true rest = omega (arith, rest)
        at false rest = rest

none_is : (k : ℕ) (keys : List ℕ) → All (λ key. k ≢ key) keys → list_any (λ key. key == k) keys ≡ false
none_is k [] all = refl
none_is k (key ∷ keys) all =
    let other : (key == k) ≡ false = apart key k (λ same. All-head (λ z. k ≢ z) key keys all (sym same)) in
    rw other (none_is k keys (All-tail (λ z. k ≢ z) key keys all))

de_morgan : (a b : Bool) → not (a || b) ≡ cond a false (not b)
de_morgan true b = refl
de_morgan false b = refl

-- with different keys, each a column
pub others_count : (keys : List ℕ) (width : ℕ) → AllPairs (λ a b. a ≢ b) keys → HasColumns keys width → length (other_columns keys width) + length keys ≡ width
unfolding but
others_count [] width different within =
    let all = filter_all (λ (column : ℕ). true) (range_with_len 0 width) (λ k d below. refl) in
    let long = ap length all ∙ length-range_with_len 0 width in
    omega (arith, long)
others_count (key ∷ keys) width different within =
    let p = λ (column : ℕ). not (list_any (λ other. other == column) keys) in
    let rest = others_count keys width (λ i j d lt below. different (suc i) (suc j) d (omega arith) (omega arith)) (All-tail (λ column. column < width) key keys within) in
    let new : p key ≡ true = ap not (none_is key keys (λ j d below. different 0 (suc j) d (omega arith) (omega arith))) in
    let below : key < width = All-head (λ column. column < width) key keys within in
    let fewer = one_fewer key p 0 width (omega arith) (omega arith) new in
    let same = ap length (filter_agree (λ column. not ((key == column) || list_any (λ other. other == column) keys)) (but key p) (λ column. de_morgan (key == column) (list_any (λ other. other == column) keys)) (range_with_len 0 width)) in
    omega (arith, rest, fewer, same)
