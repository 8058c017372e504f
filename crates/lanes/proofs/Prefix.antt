-- The carries of a sum by a parallel prefix: blocks of places, joined in pairs until one reaches over the word.
use Rattle.std.proofs.Common.{◌≡◌, ℕ, zero, suc, ◌+◌, ◌-◌, ◌*◌, ◌%◌, ◌^◌, ◌<◌, ◌≤◌, ◌⊎◌, min, sym, ap, ◌∙◌, ⊎_elim, arith}
use Rattle.std.specs.Prelude.{bit_and, bit_xor}
use Rattle.std.specs.Int.{bit_at}
use Rattle.std.proofs.Math.Nat.{pow-le-pow_right}
use Rattle.std.proofs.lemmas.Bool.{cases_lt}
use Rattle.std.proofs.lemmas.Nat.{and_le_r, mod_below, pow_pos, xor_lt}
use Rattle.std.proofs.lemmas.Nat.Bits.{bit_at_above, bit_at_and, bit_at_xor, bit_at-lt}
use Rattle.lanes.specs.Shifts.{shifted_left, shifted_right}
use Rattle.lanes.specs.Carry.{carry_into, carry_out}
use Rattle.lanes.specs.Prefix.{Span, first_span, half_products, half_tops, joined_generate, joined_propagate, joined_span, lower_places, span_after, spread_down, top_places, upper_places, upper_twice}
use Rattle.lanes.proofs.Carries.{apart_wider, bit_at-shifted_high, bit_at-shifted_low, bit_at-shifted_right, bit_cases, carry_above, out_wider}
use Rattle.lanes.proofs.Masks.{behind_lower, lower_bit, next_block, other_half, rest_of_two, same_rest, top_is, top_is_last, top_is_not_upper, upper_below, upper_beyond, upper_bit, within_block}
use Rattle.lanes.proofs.WordLemmas.{and_lt}

-- how far the top of its half is from a place
abbrev gap : ℕ → ℕ → ℕ
gap level i = 2 ^ level - 1 - i % 2 ^ level

-- a word whose bits stand at the tops of halves alone
abbrev OnlyTops : ℕ → ℕ → Type 0
OnlyTops level x = (i : ℕ) → (i % 2 ^ level ≡ 2 ^ level - 1 → ⊥) → bit_at x i ≡ 0

-- a bit that is spread down reaches so far and no further
record Spreads (level steps x : ℕ) : Type 0 where
  near : (i : ℕ) → gap level i < 2 ^ steps → bit_at (spread_down steps x) i ≡ bit_at x (i + gap level i)
  far : (i : ℕ) → 2 ^ steps ≤ gap level i → bit_at (spread_down steps x) i ≡ 0

plus_none : (a b : ℕ) → a < 2 → b ≡ 0 → (a + b) % 2 ≡ a
plus_none a b bit none = omega arith

none_plus : (a b : ℕ) → a ≡ 0 → b < 2 → (a + b) % 2 ≡ b
none_plus a b none bit = omega arith

-- so many places up a place is that much nearer to its top, or it is far from the next one
nearer : (n i d : ℕ) → 0 < n → d ≤ n - 1 - i % n → n - 1 - (i + d) % n ≡ n - 1 - i % n - d
nearer n i d some within =
    let below = mod_below i n some in
    let moved = (within_block n i d (omega arith)).0 in
    omega arith

further : (n i d : ℕ) → 0 < n → d + d ≤ n → n - 1 - i % n < d → d ≤ n - 1 - (i + d) % n
further n i d some twice behind =
    let below = mod_below i n some in
    let moved = next_block n i d (omega arith) (omega arith) in
    omega arith

spreads : (level steps x : ℕ) → steps ≤ level → OnlyTops level x → Spreads level steps x
unfolding spread_down
spreads level zero x within tops = record {
  near = λ i top. let here : i + gap level i ≡ i = omega arith in ap (bit_at x) (sym here);
  far = λ i inner. tops i (λ last. absurd (omega arith));
}
spreads level (suc steps) x within tops =
    let before = spreads level steps x (omega arith) tops in
    let w = spread_down steps x in
    let d = 2 ^ steps in
    let some : 0 < 2 ^ level = pow_pos level in
    let twice : 2 ^ suc steps ≤ 2 ^ level = pow-le-pow_right {n = 2} (omega arith) {i = suc steps} {j = level} within in
    let bits : (i : ℕ) → bit_at (bit_xor w (shifted_right d w)) i ≡ (bit_at w i + bit_at w (i + d)) % 2 = λ i.
    bit_at_xor w (shifted_right d w) i ∙ ap (λ b. (bit_at w i + b) % 2) (bit_at-shifted_right d w i) in
    record {
      near = λ i top. bits i ∙ ⊎_elim
          (λ (near : gap level i < d).
          plus_none _ _ (bit_at-lt w i) (before.far (i + d) (further (2 ^ level) i d some (omega (arith, twice)) near))
          ∙ before.near i near)
          (λ (beyond : d ≤ gap level i).
          let closer : gap level (i + d) ≡ gap level i - d = nearer (2 ^ level) i d some beyond in
          let place : i + d + gap level (i + d) ≡ i + gap level i = omega arith in
          none_plus _ _ (before.far i beyond) (bit_at-lt w (i + d))
          ∙ before.near (i + d) (omega arith)
          ∙ ap (bit_at x) place)
          (cases_lt (gap level i) d);
      far = λ i inner.
          let closer : gap level (i + d) ≡ gap level i - d = nearer (2 ^ level) i d some (omega arith) in
          bits i ∙ none_plus _ _ (before.far i (omega arith)) (bit_at-lt w (i + d)) ∙ before.far (i + d) (omega arith);
    }

-- the bits of the tops
min_one : (a b : ℕ) → a < 2 → b ≡ 1 → min a b ≡ a
min_one a b bit one = omega arith

min_zero : (a b : ℕ) → b ≡ 0 → min a b ≡ 0
min_zero a b none = omega arith

-- a bit under a mask
kept : (x m i : ℕ) → bit_at m i ≡ 1 → bit_at (bit_and x m) i ≡ bit_at x i
kept x m i one = bit_at_and x m i ∙ min_one _ _ (bit_at-lt x i) one

dropped : (x m i : ℕ) → bit_at m i ≡ 0 → bit_at (bit_and x m) i ≡ 0
dropped x m i none = bit_at_and x m i ∙ min_zero _ _ none

-- the same place of the lower half
record Below (level i j : ℕ) : Type 0 where
  at : j + 2 ^ level ≡ i
  lower : bit_at j level ≡ 0
  rest : j % 2 ^ level ≡ i % 2 ^ level

below : (level i : ℕ) → bit_at i level ≡ 1 → Below level i (i - 2 ^ level)
below level i upper =
    let behind = behind_lower level i upper in
    let at : i - 2 ^ level + 2 ^ level ≡ i = omega arith in
    let half = other_half level (i - 2 ^ level) in
    let here = ap (λ k. bit_at k level) at in
    record {
      at = at;
      lower = omega (arith, half, here, upper, bit_at-lt (i - 2 ^ level) level);
      rest = sym (same_rest level (i - 2 ^ level)) ∙ ap (λ k. k % 2 ^ level) at;
    }

-- a word moved up by a half: a bit at an upper place comes from the lower one, and a bit at a lower place from an upper one or from nowhere
moved_up : (level x i : ℕ) → i < 64 → bit_at i level ≡ 1 → bit_at (shifted_left (2 ^ level) x) i ≡ bit_at x (i - 2 ^ level)
moved_up level x i word upper = bit_at-shifted_high (2 ^ level) x i (behind_lower level i upper) word

above_lower : (level i : ℕ) → 2 ^ level ≤ i → bit_at i level ≡ 0 → bit_at (i - 2 ^ level) level ≡ 1
above_lower level i behind lower =
    let at : i - 2 ^ level + 2 ^ level ≡ i = omega arith in
    omega (arith, other_half level (i - 2 ^ level), ap (λ k. bit_at k level) at, lower, bit_at-lt (i - 2 ^ level) level)

moved_into_lower : (level x i : ℕ) → i < 64 → bit_at i level ≡ 0 → ((j : ℕ) → j < 64 → bit_at j level ≡ 1 → bit_at x j ≡ 0) → bit_at (shifted_left (2 ^ level) x) i ≡ 0
moved_into_lower level x i word lower none = ⊎_elim
    (λ (early : i < 2 ^ level). bit_at-shifted_low (2 ^ level) x i early word)
    (λ (behind : 2 ^ level ≤ i). bit_at-shifted_high (2 ^ level) x i behind word ∙ none (i - 2 ^ level) (omega arith) (above_lower level i behind lower))
    (cases_lt i (2 ^ level))

-- the bits of the tops of halves
tops_lower : (level g p i : ℕ) → level < 6 → i < 64 → bit_at i level ≡ 0 → i % 2 ^ level ≡ 2 ^ level - 1 → bit_at (half_tops level g p) i ≡ bit_at g i
unfolding half_tops
tops_lower level g p i few word lower last =
    bit_at_xor (bit_and g (top_places level)) _ i
    ∙ plus_none _ _ (bit_at-lt (bit_and g (top_places level)) i)
    (moved_into_lower level (bit_and p (top_places level)) i word lower (λ j inside upper. dropped p (top_places level) j (top_is_not_upper level j few inside upper)))
    ∙ kept g (top_places level) i (top_is level i few word lower last)

tops_upper : (level g p i : ℕ) → level < 6 → i < 64 → bit_at i level ≡ 1 → i % 2 ^ level ≡ 2 ^ level - 1 → bit_at (half_tops level g p) i ≡ bit_at p (i - 2 ^ level)
unfolding half_tops
tops_upper level g p i few word upper last =
    let b = below level i upper in
    bit_at_xor (bit_and g (top_places level)) _ i
    ∙ none_plus _ _ (dropped g (top_places level) i (top_is_not_upper level i few word upper)) (bit_at-lt (shifted_left (2 ^ level) (bit_and p (top_places level))) i)
    ∙ moved_up level (bit_and p (top_places level)) i word upper
    ∙ kept p (top_places level) (i - 2 ^ level) (top_is level (i - 2 ^ level) few (omega arith) b.lower (b.rest ∙ last))

tops_only : (level g p : ℕ) → level < 6 → OnlyTops level (half_tops level g p)
unfolding half_tops
tops_only level g p few i inner =
    bit_at_xor (bit_and g (top_places level)) _ i
    ∙ none_plus _ _ (dropped g (top_places level) i (top_is_last level i few inner)) (bit_at-lt (shifted_left (2 ^ level) (bit_and p (top_places level))) i)
    ∙ ⊎_elim
    (λ (word : i < 64). ⊎_elim
    (λ (early : i < 2 ^ level). bit_at-shifted_low (2 ^ level) _ i early word)
    (λ (behind : 2 ^ level ≤ i).
    let at : i - 2 ^ level + 2 ^ level ≡ i = omega arith in
    let rest : (i - 2 ^ level) % 2 ^ level ≡ i % 2 ^ level = sym (same_rest level (i - 2 ^ level)) ∙ ap (λ k. k % 2 ^ level) at in
    bit_at-shifted_high (2 ^ level) _ i behind word ∙ dropped p (top_places level) (i - 2 ^ level) (top_is_last level (i - 2 ^ level) few (λ last. inner (sym rest ∙ last))))
    (cases_lt i (2 ^ level)))
    (λ (beyond : 64 ≤ i). bit_at_above _ 64 i (mod_below (bit_and p (top_places level) * 2 ^ 2 ^ level) (2 ^ 64) (omega arith)) beyond)
    (cases_lt i 64)

-- the bits of the upper places in both halves
twice_upper : (level p i : ℕ) → level < 6 → i < 64 → bit_at i level ≡ 1 → bit_at (upper_twice level p) i ≡ bit_at p i
unfolding upper_twice
twice_upper level p i few word upper =
    let u = bit_and p (upper_places level) in
    bit_at_xor u (shifted_right (2 ^ level) u) i
    ∙ plus_none _ _ (bit_at-lt u i) (bit_at-shifted_right (2 ^ level) u i ∙ dropped p (upper_places level) (i + 2 ^ level) (next_lower (cases_lt (i + 2 ^ level) 64)))
    ∙ kept p (upper_places level) i (upper_bit level i few word ∙ upper)
  where
    next_lower : (i + 2 ^ level < 64) ⊎ (64 ≤ i + 2 ^ level) → bit_at (upper_places level) (i + 2 ^ level) ≡ 0
    next_lower h = ⊎_elim
        (λ (inside : i + 2 ^ level < 64). upper_bit level (i + 2 ^ level) few inside ∙ other_half level i ∙ ap (λ b. 1 - b) upper)
        (λ (beyond : 64 ≤ i + 2 ^ level). upper_beyond level (i + 2 ^ level) few beyond)
        h

twice_lower : (level p i : ℕ) → level < 6 → i + 2 ^ level < 64 → bit_at i level ≡ 0 → bit_at (upper_twice level p) i ≡ bit_at p (i + 2 ^ level)
unfolding upper_twice
twice_lower level p i few word lower =
    let u = bit_and p (upper_places level) in
    bit_at_xor u (shifted_right (2 ^ level) u) i
    ∙ none_plus _ _ (dropped p (upper_places level) i (upper_bit level i few (omega arith) ∙ lower)) (bit_at-lt (shifted_right (2 ^ level) u) i)
    ∙ bit_at-shifted_right (2 ^ level) u i
    ∙ kept p (upper_places level) (i + 2 ^ level) (upper_bit level (i + 2 ^ level) few word ∙ other_half level i ∙ ap (λ b. 1 - b) lower)

-- the top of the half of a place
record TopOf (level i t : ℕ) : Type 0 where
  half : bit_at t level ≡ bit_at i level
  last : t % 2 ^ level ≡ 2 ^ level - 1
  place : t + i % 2 ^ level + 1 ≡ i + 2 ^ level

top_of : (level i : ℕ) → TopOf level i (i + gap level i)
top_of level i =
    let inside = mod_below i (2 ^ level) (pow_pos level) in
    let moved = within_block (2 ^ level) i (gap level i) (omega (arith, pow_pos level)) in
    record { half = ap (λ q. q % 2) moved.1; last = omega (arith, moved.0); place = omega (arith, inside) }

-- a spread bit at each place of its half
spread_tops : (level g p i : ℕ) → level < 6 → bit_at (spread_down level (half_tops level g p)) i ≡ bit_at (half_tops level g p) (i + gap level i)
spread_tops level g p i few =
    (spreads level level (half_tops level g p) (omega arith) (tops_only level g p few)).near i (omega (arith, pow_pos level))

-- places of a word lie below its end: halves fill a word
half_within : (level i : ℕ) → level < 6 → i < 64 → bit_at i level ≡ 0 → i + 2 ^ level < 64
half_within zero i few word lower = omega arith
half_within (suc zero) i few word lower = omega arith
half_within (suc (suc zero)) i few word lower = omega arith
half_within (suc (suc (suc zero))) i few word lower = omega arith
half_within (suc (suc (suc (suc zero)))) i few word lower = omega arith
half_within (suc (suc (suc (suc (suc zero))))) i few word lower = omega arith
half_within (suc (suc (suc (suc (suc (suc level)))))) i few word lower = absurd (omega arith)

top_within : (level i : ℕ) → level < 6 → i < 64 → i + gap level i < 64
top_within zero i few word = omega arith
top_within (suc zero) i few word = omega arith
top_within (suc (suc zero)) i few word = omega arith
top_within (suc (suc (suc zero))) i few word = omega arith
top_within (suc (suc (suc (suc zero)))) i few word = omega arith
top_within (suc (suc (suc (suc (suc zero))))) i few word = omega arith
top_within (suc (suc (suc (suc (suc (suc level)))))) i few word = absurd (omega arith)

-- the products: of an upper place with the top of its lower half
pub record Products (level g p i t : ℕ) : Type 0 where
  pub makes : bit_at (half_products level g p) (i - 2 ^ level) ≡ min (bit_at p i) (bit_at g t)
  pub hands : bit_at (half_products level g p) i ≡ min (bit_at p i) (bit_at p t)

products : (level g p i : ℕ) → level < 6 → i < 64 → bit_at i level ≡ 1 → Products level g p i (i - 2 ^ level + gap level (i - 2 ^ level))
unfolding half_products
products level g p i few word upper =
    let j = i - 2 ^ level in
    let b = below level i upper in
    let low = top_of level j in
    let high = top_of level i in
    let some = pow_pos level in
    let inner = mod_below i (2 ^ level) some in
    let place : i + gap level i - 2 ^ level ≡ j + gap level j = omega (arith, b.at, b.rest, inner) in
    let within : i + gap level i < 64 = top_within level i few word in
    record {
      makes =
          bit_at_and (upper_twice level p) (spread_down level (half_tops level g p)) j
          ∙ ap (λ a. min a (bit_at (spread_down level (half_tops level g p)) j)) (twice_lower level p j few (omega (arith, b.at)) b.lower ∙ ap (bit_at p) b.at)
          ∙ ap (min (bit_at p i)) (spread_tops level g p j few ∙ tops_lower level g p (j + gap level j) few (omega (arith, b.at, place)) (low.half ∙ b.lower) low.last);
      hands =
          bit_at_and (upper_twice level p) (spread_down level (half_tops level g p)) i
          ∙ ap (λ a. min a (bit_at (spread_down level (half_tops level g p)) i)) (twice_upper level p i few word upper)
          ∙ ap (min (bit_at p i)) (spread_tops level g p i few ∙ tops_upper level g p (i + gap level i) few within (high.half ∙ upper) high.last ∙ ap (bit_at p) place);
    }

-- the bits of a joined span: a lower place stays, and an upper one is joined with the top of its lower half
generate_lower : (level g products i : ℕ) → level < 6 → i < 64 → bit_at i level ≡ 0 → bit_at (joined_generate level g products) i ≡ bit_at g i
unfolding joined_generate
generate_lower level g products i few word lower =
    bit_at_xor g _ i
    ∙ plus_none _ _ (bit_at-lt g i)
    (moved_into_lower level (bit_and products (lower_places level)) i word lower
    (λ j inside upper. dropped products (lower_places level) j (lower_bit level j few inside ∙ ap (λ b. 1 - b) upper)))

generate_upper : (level g products i : ℕ) → level < 6 → i < 64 → bit_at i level ≡ 1
    → bit_at (joined_generate level g products) i ≡ (bit_at g i + bit_at products (i - 2 ^ level)) % 2
unfolding joined_generate
generate_upper level g products i few word upper =
    bit_at_xor g _ i
    ∙ ap (λ b. (bit_at g i + b) % 2)
    (moved_up level (bit_and products (lower_places level)) i word upper
    ∙ kept products (lower_places level) (i - 2 ^ level) (lower_bit level (i - 2 ^ level) few (omega arith) ∙ ap (λ b. 1 - b) (below level i upper).lower))

propagate_lower : (level p products i : ℕ) → level < 6 → i < 64 → bit_at i level ≡ 0 → bit_at (joined_propagate level p products) i ≡ bit_at p i
unfolding joined_propagate
propagate_lower level p products i few word lower =
    bit_at_xor (bit_and p (lower_places level)) _ i
    ∙ plus_none _ _ (bit_at-lt (bit_and p (lower_places level)) i) (dropped products (upper_places level) i (upper_bit level i few word ∙ lower))
    ∙ kept p (lower_places level) i (lower_bit level i few word ∙ ap (λ b. 1 - b) lower)

propagate_upper : (level p products i : ℕ) → level < 6 → i < 64 → bit_at i level ≡ 1 → bit_at (joined_propagate level p products) i ≡ bit_at products i
unfolding joined_propagate
propagate_upper level p products i few word upper =
    bit_at_xor (bit_and p (lower_places level)) _ i
    ∙ none_plus _ _ (dropped p (lower_places level) i (lower_bit level i few word ∙ ap (λ b. 1 - b) upper)) (bit_at-lt (bit_and products (upper_places level)) i)
    ∙ kept products (upper_places level) i (upper_bit level i few word ∙ upper)

-- the words of blocks of 2 ^ level places tell the carry out of a place by the one into its block
record Blocks (x y level : ℕ) (s : Span) : Type 0 where
  apart : (i : ℕ) → i < 64 → bit_at s.generate i + bit_at s.propagate i ≤ 1
  carry : (i : ℕ) → i < 64 → carry_out x y i ≡ bit_at s.generate i + bit_at s.propagate i * carry_into x y (i - i % 2 ^ level)

first_blocks : (x y : ℕ) → Blocks x y 0 (first_span x y)
unfolding carry_out
first_blocks x y = record {
  apart = λ i word. rw (bit_at_and, bit_at_xor) (omega (arith, bit_at-lt x i, bit_at-lt y i));
  carry = λ i word. single i;
}
  where
    single : (i : ℕ) → carry_out x y i ≡ bit_at (bit_and x y) i + bit_at (bit_xor x y) i * carry_into x y (i - i % 2 ^ 0)
    single zero = rw (bit_at_and) (omega (arith, bit_at-lt x 0, bit_at-lt y 0))
    single (suc i) =
        let place : suc i - suc i % 2 ^ 0 ≡ suc i = omega arith in
        carry_above x y i ∙ ap (λ k. bit_at (bit_and x y) (suc i) + bit_at (bit_xor x y) (suc i) * carry_into x y k) (sym place)

joined_blocks : (x y level : ℕ) (s : Span) → level < 6 → Blocks x y level s → Blocks x y (suc level) (joined_span level s)
joined_blocks x y level s few h = record {
  apart = λ i word. apart_by i word (bit_cases (bit_at i level) (bit_at-lt i level));
  carry = λ i word. carry_by i word (bit_cases (bit_at i level) (bit_at-lt i level));
}
  where
    g : ℕ
    g = s.generate

    p : ℕ
    p = s.propagate

    all : ℕ
    all = half_products level s.generate s.propagate

    top : ℕ → ℕ
    top i = i - 2 ^ level + gap level (i - 2 ^ level)

    top_below : (i : ℕ) → i < 64 → bit_at i level ≡ 1 → top i < i
    top_below i word upper =
        let b = below level i upper in
        let low = top_of level (i - 2 ^ level) in
        omega (arith, b.at, b.rest, low.place)

    generates : (i : ℕ) → i < 64 → bit_at i level ≡ 1 → bit_at (joined_generate level g all) i ≡ (bit_at g i + min (bit_at p i) (bit_at g (top i))) % 2
    generates i word upper =
        generate_upper level g all i few word upper ∙ ap (λ b. (bit_at g i + b) % 2) (products level g p i few word upper).makes

    propagates : (i : ℕ) → i < 64 → bit_at i level ≡ 1 → bit_at (joined_propagate level p all) i ≡ min (bit_at p i) (bit_at p (top i))
    propagates i word upper = propagate_upper level p all i few word upper ∙ (products level g p i few word upper).hands

    apart_by : (i : ℕ) → i < 64 → (bit_at i level ≡ 0) ⊎ (bit_at i level ≡ 1) → bit_at (joined_generate level g all) i + bit_at (joined_propagate level p all) i ≤ 1
    apart_by i word half = ⊎_elim
        (λ (lower : bit_at i level ≡ 0). rw (generate_lower level g all i few word lower, propagate_lower level p all i few word lower) (h.apart i word))
        (λ (upper : bit_at i level ≡ 1). rw (generates i word upper, propagates i word upper)
        (apart_wider _ _ _ _ (h.apart i word) (h.apart (top i) (omega (arith, top_below i word upper)))))
        half

    carry_by : (i : ℕ) → i < 64 → (bit_at i level ≡ 0) ⊎ (bit_at i level ≡ 1)
        → carry_out x y i ≡ bit_at (joined_generate level g all) i + bit_at (joined_propagate level p all) i * carry_into x y (i - i % 2 ^ suc level)
    carry_by i word half = ⊎_elim
        (λ (lower : bit_at i level ≡ 0).
        let start : i - i % 2 ^ suc level ≡ i - i % 2 ^ level = ap (λ k. i - k) (rest_of_two level i ∙ rw (lower) (omega arith)) in
        rw (generate_lower level g all i few word lower, propagate_lower level p all i few word lower, start) (h.carry i word))
        (λ (upper : bit_at i level ≡ 1).
        let b = below level i upper in
        let t = top i in
        let low = top_of level (i - 2 ^ level) in
        let inside : t < 64 = omega (arith, top_below i word upper) in
        let into : i - i % 2 ^ level ≡ suc t = omega (arith, b.at, b.rest, low.place) in
        let start : t - t % 2 ^ level ≡ i - i % 2 ^ suc level =
        omega (arith, low.last, low.place, b.at, b.rest, rest_of_two level i, ap (λ k. k * 2 ^ level) upper, pow_pos level) in
        h.carry i word
        ∙ ap (λ k. bit_at g i + bit_at p i * carry_into x y k) into
        ∙ ap (λ c. bit_at g i + bit_at p i * c) (h.carry t inside ∙ ap (λ k. bit_at g t + bit_at p t * carry_into x y k) start)
        ∙ out_wider _ _ _ _ (carry_into x y (i - i % 2 ^ suc level)) (bit_at-lt p i) (h.apart i word) (h.apart t inside)
        ∙ sym (ap (λ b. b + bit_at (joined_propagate level p all) i * carry_into x y (i - i % 2 ^ suc level)) (generates i word upper)
        ∙ ap (λ b. (bit_at g i + min (bit_at p i) (bit_at g t)) % 2 + b * carry_into x y (i - i % 2 ^ suc level)) (propagates i word upper)))
        half

blocks_after : (level x y : ℕ) → level ≤ 6 → Blocks x y level (span_after level x y)
unfolding span_after
blocks_after zero x y within = first_blocks x y
blocks_after (suc level) x y within = joined_blocks x y level (span_after level x y) (omega arith) (blocks_after level x y (omega arith))

-- the carry out of a place is a bit of the word of a block that reaches over all places
pub last_blocks : (x y i : ℕ) → i < 64 → carry_out x y i ≡ bit_at (span_after 6 x y).generate i
last_blocks x y i word =
    let lowest : i - i % 2 ^ 6 ≡ 0 = omega arith in
    (blocks_after 6 x y (omega arith)).carry i word
    ∙ ap (λ k. bit_at (span_after 6 x y).generate i + bit_at (span_after 6 x y).propagate i * carry_into x y k) lowest
    ∙ omega arith

-- the words of blocks are words
pub span_words : (level x y : ℕ) → level ≤ 6 → x < 2 ^ 64 → y < 2 ^ 64 → ((span_after level x y).generate < 2 ^ 64) × ((span_after level x y).propagate < 2 ^ 64)
unfolding span_after joined_generate joined_propagate
span_words zero x y within first second = (and_lt 64 x y first, xor_lt 64 x y first second)
span_words (suc level) x y within first second =
    let s = span_after level x y in
    let all = half_products level s.generate s.propagate in
    let words = span_words level x y (omega arith) first second in (
      xor_lt 64 s.generate _ words.0 (mod_below (bit_and all (lower_places level) * 2 ^ 2 ^ level) (2 ^ 64) (omega arith)),
      xor_lt 64 _ _ (and_lt 64 s.propagate (lower_places level) words.1) (omega (arith, and_le_r all (upper_places level), upper_below level (omega arith))),
    )
