-- How many draws of a tape a step takes, and how many of them are words.
use Rattle.std.proofs.Common.{◌≡◌, ℕ, zero, suc, ◌+◌, ◌*◌, cond, List, [], ◌∷◌, ◌++◌, length, replicate, refl, sym, ap, ◌∙◌, arith, length-append}
use Rattle.std.specs.Prelude.{◌||◌}
use Rattle.std.proofs.lemmas.List.{length-replicate}
use Rattle.lanes.specs.declared.party.Party.{Party}
use Rattle.lanes.specs.declared.party.Party.TheVariants.{First, Second, Third}
use Rattle.lanes.specs.declared.three.Three.{Three}
use Rattle.lanes.specs.Party.{next, before}
use Rattle.lanes.specs.Three.{at}
use Rattle.tapes.specs.declared.draw.Need.{Need}
use Rattle.tapes.specs.declared.draw.Need.TheVariants.{Word as NeedsWord, OrderOf}
use Rattle.step_lists.specs.declared.step.Step.{Step}
use Rattle.step_lists.specs.declared.step.Step.TheVariants.{Const, Lin, And, Share, Reveal, Steer, Tell, Work, Flag}
use Rattle.step_lists.specs.Layout.{Layout, party_of, length_of, words_in_slot, rows_moved}
use Rattle.step_lists.specs.Draws.{joined, needs_of, needs_words, needs_order, needs_masks, needs_phase, needs_reveal, needs_steer}
use Rattle.step_lists.specs.Seen.{same_party}
use Rattle.party_core.specs.Doing.{draws_by, steer_draws}
use Rattle.party_core.specs.Holding.{rows_of}
use Rattle.party_core.proofs.Progressing.{at_parties}
use Rattle.party_core.proofs.Runs.{at_joined}

-- how many words some needs ask for
abbrev pub words_needed : List Need → ℕ
words_needed [] = 0
words_needed (NeedsWord ∷ ns) = suc (words_needed ns)
words_needed (OrderOf n ∷ ns) = words_needed ns

-- a number of some needs that adds up and counts each word
pub record Counts (f : List Need → ℕ) : Type 0 where
  pub none : f [] ≡ 0
  pub more : (xs ys : List Need) → f (xs ++ ys) ≡ f xs + f ys
  pub words : (n : ℕ) → f (replicate n NeedsWord) ≡ n

pub count_draws : Counts (λ ns. length ns)
count_draws = record { none = refl; more = λ xs ys. length-append xs ys; words = λ n. length-replicate n NeedsWord }

needed_append : (xs ys : List Need) → words_needed (xs ++ ys) ≡ words_needed xs + words_needed ys
needed_append [] ys = omega arith
needed_append (NeedsWord ∷ xs) ys = let e = needed_append xs ys in omega (arith, e)
needed_append (OrderOf n ∷ xs) ys = needed_append xs ys

needed_words : (n : ℕ) → words_needed (replicate n NeedsWord) ≡ n
needed_words zero = refl
needed_words (suc n) = ap suc (needed_words n)

pub count_words : Counts words_needed
count_words = record { none = refl; more = needed_append; words = needed_words }

module _ (f : List Need → ℕ) (c : Counts f) where
  pub joined_count : (q : Party) (x y : Three (List Need)) → f (at q (joined x y)) ≡ f (at q x) + f (at q y)
  joined_count q x y = ap f (at_joined q x y) ∙ c.more (at q x) (at q y)

  pub words_count : (q p : Party) (n : ℕ) → f (at q (needs_words p n)) ≡ cond (same_party q p) n 0
  words_count First First n = c.words n
  words_count First Second n = c.none
  words_count First Third n = c.none
  words_count Second First n = c.none
  words_count Second Second n = c.words n
  words_count Second Third n = c.none
  words_count Third First n = c.none
  words_count Third Second n = c.none
  words_count Third Third n = c.words n

  of_others : (q j : Party) (k : ℕ) → cond (same_party q (before j)) k 0 + cond (same_party q (next j)) k 0 ≡ cond (same_party q j) 0 k
  of_others First First k = refl
  of_others First Second k = omega arith
  of_others First Third k = omega arith
  of_others Second First k = omega arith
  of_others Second Second k = refl
  of_others Second Third k = omega arith
  of_others Third First k = omega arith
  of_others Third Second k = omega arith
  of_others Third Third k = refl

  pub masks_count : (q j : Party) (k : ℕ) → f (at q (needs_masks j k)) ≡ cond (same_party q j) 0 k
  masks_count q j k =
      let a = joined_count q (needs_words (before j) k) (needs_words (next j) k) in
      let b = words_count q (before j) k in
      let d = words_count q (next j) k in
      let e = of_others q j k in
      omega (arith, a, b, d, e)

  pub phase_count : (q j : Party) (m n : ℕ) → f (at q (needs_phase j m n)) ≡ f (at q (needs_order j n)) + cond (same_party q j) 0 (m * n)
  phase_count q j m n =
      let a = joined_count q (needs_order j n) (needs_masks j (m * n)) in
      let b = masks_count q j (m * n) in
      omega (arith, a, b)

  twice : (q : Party) (w : ℕ) → cond (same_party q First) 0 w + (cond (same_party q Second) 0 w + cond (same_party q Third) 0 w) ≡ w + w
  twice First w = omega arith
  twice Second w = omega arith
  twice Third w = omega arith

  pub reveal_count : (q : Party) (m n : ℕ)
      → f (at q (needs_reveal m n)) ≡ f (at q (needs_order First n)) + f (at q (needs_order Second n)) + f (at q (needs_order Third n)) + (m * n + m * n)
  reveal_count q m n =
      let a = joined_count q (needs_phase First m n) (joined (needs_phase Second m n) (needs_phase Third m n)) in
      let b = joined_count q (needs_phase Second m n) (needs_phase Third m n) in
      let x = phase_count q First m n in
      let y = phase_count q Second m n in
      let z = phase_count q Third m n in
      let t = twice q (m * n) in
      omega (arith, a, b, x, y, z, t)

  pub steer_count : (q p : Party) (m n : ℕ)
      → f (at q (needs_steer p m n)) ≡ f (at q (needs_order (next p) n)) + cond (same_party q (next p)) 0 (m * n) + cond (same_party q p) 0 (m * n)
  steer_count q p m n =
      let a = joined_count q (needs_phase (next p) m n) (needs_masks p (m * n)) in
      let x = phase_count q (next p) m n in
      let y = masks_count q p (m * n) in
      omega (arith, a, x, y)

-- ---- draws

order_size : (q j : Party) (n : ℕ) → length (at q (needs_order j n)) ≡ cond (same_party q j) 1 0
order_size First First n = refl
order_size First Second n = refl
order_size First Third n = refl
order_size Second First n = refl
order_size Second Second n = refl
order_size Second Third n = refl
order_size Third First n = refl
order_size Third Second n = refl
order_size Third Third n = refl

one_order : (q : Party) → cond (same_party q First) 1 0 + cond (same_party q Second) 1 0 + cond (same_party q Third) 1 0 ≡ 1
one_order First = refl
one_order Second = refl
one_order Third = refl

reveal_size : (q : Party) (m n : ℕ) → m * n + m * n + 1 ≡ length (at q (needs_reveal m n))
reveal_size q m n =
    let e = reveal_count (λ ns. length ns) count_draws q m n in
    let a = order_size q First n in
    let b = order_size q Second n in
    let c = order_size q Third n in
    let o = one_order q in
    omega (arith, e, a, b, c, o)

steer_sum : (q p : Party) (w : ℕ) → steer_draws q p w ≡ cond (same_party q (next p)) 1 0 + cond (same_party q (next p)) 0 w + cond (same_party q p) 0 w
steer_sum First First w = omega arith
steer_sum First Second w = omega arith
steer_sum First Third w = omega arith
steer_sum Second First w = omega arith
steer_sum Second Second w = omega arith
steer_sum Second Third w = omega arith
steer_sum Third First w = omega arith
steer_sum Third Second w = omega arith
steer_sum Third Third w = omega arith

steer_size : (q p : Party) (m n : ℕ) → steer_draws q p (m * n) ≡ length (at q (needs_steer p m n))
steer_size q p m n =
    let e = steer_count (λ ns. length ns) count_draws q p m n in
    let a = order_size q (next p) n in
    let s = steer_sum q p (m * n) in
    omega (arith, e, a, s)

share_sum : (q p : Party) (n : ℕ) → cond (same_party q p || same_party q (next p)) n 0 ≡ cond (same_party q p) n 0 + cond (same_party q (next p)) n 0
share_sum First First n = omega arith
share_sum First Second n = omega arith
share_sum First Third n = omega arith
share_sum Second First n = omega arith
share_sum Second Second n = omega arith
share_sum Second Third n = omega arith
share_sum Third First n = omega arith
share_sum Third Second n = omega arith
share_sum Third Third n = omega arith

share_size : (q p : Party) (n : ℕ) → cond (same_party q p || same_party q (next p)) n 0 ≡ length (at q (joined (needs_words p n) (needs_words (next p) n)))
share_size q p n =
    let a = joined_count (λ ns. length ns) count_draws q (needs_words p n) (needs_words (next p) n) in
    let b = words_count (λ ns. length ns) count_draws q p n in
    let c = words_count (λ ns. length ns) count_draws q (next p) n in
    let s = share_sum q p n in
    omega (arith, a, b, c, s)

none_size : (q : Party) → 0 ≡ length (at q (needs_words First 0))
none_size First = refl
none_size Second = refl
none_size Third = refl

pub draws_are : {T : Type 0} (q : Party) (l : Layout) (s : Step T) → draws_by q s (rows_of l s) ≡ length (at q (needs_of l s))
draws_are q l (Const words) = none_size q
draws_are q l (Lin op) = none_size q
draws_are q l (And left right) = sym (ap length (at_parties (λ p. replicate (length_of l left) NeedsWord) q) ∙ length-replicate (length_of l left) NeedsWord)
draws_are q l (Share party slot) = share_size q (party_of party) (words_in_slot l (party_of party) slot)
draws_are q l (Reveal to moved shown) = reveal_size q (length moved) (rows_moved l moved)
draws_are q l (Steer by slot moved) = steer_size q (party_of by) (length moved) (rows_moved l moved)
draws_are q l (Tell source target slot) = none_size q
draws_are q l (Work party task takes gives) = none_size q
draws_are q l (Flag party slot) = none_size q
