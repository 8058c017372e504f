-- The places of halves of blocks: the bits of their words, found by going through all of them, and which places they are.
use Rattle.std.proofs.Common.{◌≡◌, ℕ, zero, suc, ◌+◌, ◌-◌, ◌*◌, ◌/◌, ◌%◌, ◌^◌, ◌<◌, ◌≤◌, Bool, true, false, cond, refl, sym, ap, ◌∙◌, ⊎_elim, arith, lit<}
use Rattle.std.specs.Prelude.{nat_eq}
use Rattle.std.specs.Int.{bit_at}
use Rattle.std.proofs.Math.Nat.{add-mod_right, mod-add-div'}
use Rattle.std.proofs.lemmas.Bool.{cases_lt}
use Rattle.std.proofs.lemmas.Bool.Decides.{nat_tests}
use Rattle.std.proofs.lemmas.Nat.{div-mul-add, mod-mul-add, mod-pow-add, mod_below, pow_pos}
use Rattle.std.proofs.lemmas.Nat.Bits.{bit_at_above, bit_at-lt}
use Rattle.lanes.specs.Prefix.{lower_places, top_places, upper_places}

-- whether each number below a bound passes
abbrev passes : ℕ → (ℕ → Bool) → Bool
passes zero test = true
passes (suc n) test = cond (test n) (passes n test) false

first_passes : (a b : Bool) → cond a b false ≡ true → a ≡ true
first_passes true b h = refl
first_passes false b h = absurd (cc)

rest_passes : (a b : Bool) → cond a b false ≡ true → b ≡ true
rest_passes true b h = h
rest_passes false b h = absurd (cc)

passed : (n : ℕ) (test : ℕ → Bool) → passes n test ≡ true → (i : ℕ) → i < n → test i ≡ true
passed zero test h i below = absurd (omega arith)
passed (suc n) test h i below = ⊎_elim
    (λ (lower : i < n). passed n test (rest_passes (test n) (passes n test) h) i lower)
    (λ (last : n ≤ i). let same : i ≡ n = omega arith in ap test same ∙ first_passes (test n) (passes n test) h)
    (cases_lt i n)

-- the bits that the words should have
lower_test : ℕ → ℕ → Bool
lower_test level i = nat_eq (bit_at (lower_places level) i) (1 - bit_at i level)

upper_test : ℕ → ℕ → Bool
upper_test level i = nat_eq (bit_at (upper_places level) i) (bit_at i level)

top_test : ℕ → ℕ → Bool
top_test level i = nat_eq (bit_at (top_places level) i) (cond (nat_eq (i % 2 ^ suc level) (2 ^ level - 1)) 1 0)

record AreMasks (level : ℕ) : Type 0 where
  lower : passes 64 (lower_test level) ≡ true
  upper : passes 64 (upper_test level) ≡ true
  top : passes 64 (top_test level) ≡ true
  lower_word : lower_places level < 2 ^ 64
  upper_word : upper_places level < 2 ^ 64
  top_word : top_places level < 2 ^ 64

are_masks : (level : ℕ) → level < 6 → AreMasks level
unfolding lower_places upper_places top_places lower_test upper_test top_test
are_masks zero few = record { lower = refl; upper = refl; top = refl; lower_word = lit< tt; upper_word = lit< tt; top_word = lit< tt }
are_masks (suc zero) few = record { lower = refl; upper = refl; top = refl; lower_word = lit< tt; upper_word = lit< tt; top_word = lit< tt }
are_masks (suc (suc zero)) few = record { lower = refl; upper = refl; top = refl; lower_word = lit< tt; upper_word = lit< tt; top_word = lit< tt }
are_masks (suc (suc (suc zero))) few = record { lower = refl; upper = refl; top = refl; lower_word = lit< tt; upper_word = lit< tt; top_word = lit< tt }
are_masks (suc (suc (suc (suc zero)))) few = record { lower = refl; upper = refl; top = refl; lower_word = lit< tt; upper_word = lit< tt; top_word = lit< tt }
are_masks (suc (suc (suc (suc (suc zero))))) few = record { lower = refl; upper = refl; top = refl; lower_word = lit< tt; upper_word = lit< tt; top_word = lit< tt }
are_masks (suc (suc (suc (suc (suc (suc level)))))) few = absurd (omega arith)

same_numbers : (a b : ℕ) → nat_eq a b ≡ true → a ≡ b
same_numbers a b h = grind (arith, nat_tests)

pub lower_bit : (level i : ℕ) → level < 6 → i < 64 → bit_at (lower_places level) i ≡ 1 - bit_at i level
unfolding lower_test
lower_bit level i few word = same_numbers _ _ (passed 64 (lower_test level) (are_masks level few).lower i word)

pub upper_bit : (level i : ℕ) → level < 6 → i < 64 → bit_at (upper_places level) i ≡ bit_at i level
unfolding upper_test
upper_bit level i few word = same_numbers _ _ (passed 64 (upper_test level) (are_masks level few).upper i word)

pub upper_beyond : (level i : ℕ) → level < 6 → 64 ≤ i → bit_at (upper_places level) i ≡ 0
upper_beyond level i few beyond = bit_at_above (upper_places level) 64 i (are_masks level few).upper_word beyond

pub upper_below : (level : ℕ) → level < 6 → upper_places level < 2 ^ 64
upper_below level few = (are_masks level few).upper_word

top_bit : (level i : ℕ) → level < 6 → i < 64 → bit_at (top_places level) i ≡ cond (nat_eq (i % 2 ^ suc level) (2 ^ level - 1)) 1 0
unfolding top_test
top_bit level i few word = same_numbers _ _ (passed 64 (top_test level) (are_masks level few).top i word)

-- a place's rest in a block of twice as many places
pub rest_of_two : (level i : ℕ) → i % 2 ^ suc level ≡ bit_at i level * 2 ^ level + i % 2 ^ level
rest_of_two level i =
    let one : suc level ≡ 1 + level = omega arith in
    ap (λ k. i % 2 ^ k) one ∙ mod-pow-add i 1 level

-- the top of a lower half, and the places that are none
pub top_is : (level i : ℕ) → level < 6 → i < 64 → bit_at i level ≡ 0 → i % 2 ^ level ≡ 2 ^ level - 1 → bit_at (top_places level) i ≡ 1
top_is level i few word lower last =
    let here : i % 2 ^ suc level ≡ 2 ^ level - 1 = rest_of_two level i ∙ rw (lower) (omega (arith, last)) in
    let yes : nat_eq (i % 2 ^ suc level) (2 ^ level - 1) ≡ true = grind (arith, nat_tests) in
    top_bit level i few word ∙ ap (λ b. cond b 1 0) yes

pub top_is_not_upper : (level i : ℕ) → level < 6 → i < 64 → bit_at i level ≡ 1 → bit_at (top_places level) i ≡ 0
top_is_not_upper level i few word upper =
    let here : i % 2 ^ suc level ≡ 2 ^ level + i % 2 ^ level = rest_of_two level i ∙ rw (upper) (omega arith) in
    let some = pow_pos level in
    let no : nat_eq (i % 2 ^ suc level) (2 ^ level - 1) ≡ false = grind (arith, nat_tests) in
    top_bit level i few word ∙ ap (λ b. cond b 1 0) no

pub top_is_last : (level i : ℕ) → level < 6 → (i % 2 ^ level ≡ 2 ^ level - 1 → ⊥) → bit_at (top_places level) i ≡ 0
top_is_last level i few inner = ⊎_elim
    (λ (word : i < 64). ⊎_elim
    (λ (lower : bit_at i level < 1).
    let none : bit_at i level ≡ 0 = omega arith in
    let here : i % 2 ^ suc level ≡ i % 2 ^ level = rest_of_two level i ∙ rw (none) (omega arith) in
    let no : nat_eq (i % 2 ^ suc level) (2 ^ level - 1) ≡ false = grind (arith, nat_tests) in
    top_bit level i few word ∙ ap (λ b. cond b 1 0) no)
    (λ (upper : 1 ≤ bit_at i level). top_is_not_upper level i few word (omega (arith, bit_at-lt i level)))
    (cases_lt (bit_at i level) 1))
    (λ (beyond : 64 ≤ i). bit_at_above (top_places level) 64 i (are_masks level few).top_word beyond)
    (cases_lt i 64)

-- places behind a place, in its block and in the next one
pub within_block : (n i d : ℕ) → i % n + d < n → ((i + d) % n ≡ i % n + d) × ((i + d) / n ≡ i / n)
within_block n i d within =
    let split : i + d ≡ i / n * n + (i % n + d) = omega (arith, mod-add-div' i n) in
    (ap (λ k. k % n) split ∙ mod-mul-add (i / n) n (i % n + d) within, ap (λ k. k / n) split ∙ div-mul-add (i / n) n (i % n + d) within)

pub next_block : (n i d : ℕ) → n ≤ i % n + d → i % n + d < n + n → (i + d) % n ≡ i % n + d - n
next_block n i d behind near =
    let split : i + d ≡ suc (i / n) * n + (i % n + d - n) = omega (arith, mod-add-div' i n) in
    ap (λ k. k % n) split ∙ mod-mul-add (suc (i / n)) n (i % n + d - n) (omega arith)

-- the same place of the other half
pub other_half : (level i : ℕ) → bit_at (i + 2 ^ level) level ≡ 1 - bit_at i level
other_half level i =
    let n = 2 ^ level in
    let split : i + n ≡ suc (i / n) * n + i % n = omega (arith, mod-add-div' i n) in
    ap (λ k. k / n % 2) split ∙ ap (λ k. k % 2) (div-mul-add (suc (i / n)) n (i % n) (mod_below i n (pow_pos level))) ∙ turned (i / n)
  where
    turned : (q : ℕ) → suc q % 2 ≡ 1 - q % 2
    turned q = omega arith

pub same_rest : (level i : ℕ) → (i + 2 ^ level) % 2 ^ level ≡ i % 2 ^ level
same_rest level i = add-mod_right i (2 ^ level)

-- an upper place stands behind a whole half
pub behind_lower : (level i : ℕ) → bit_at i level ≡ 1 → 2 ^ level ≤ i
behind_lower level i upper = ⊎_elim
    (λ (below : i < 2 ^ level). absurd (zero_one (sym (bit_at_above i level level below (omega arith)) ∙ upper)))
    (λ (behind : 2 ^ level ≤ i). behind)
    (cases_lt i (2 ^ level))
  where
    zero_one : ◌≡◌ {A = ℕ} 0 1 → ⊥
    zero_one h = omega arith
