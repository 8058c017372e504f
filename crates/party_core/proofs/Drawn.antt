-- The words and the order in draws of which it is known what was needed.
use Rattle.std.proofs.Common.{◌≡◌, ℕ, zero, suc, ◌+◌, ◌*◌, ◌≤◌, cond, List, [], ◌∷◌, ◌++◌, length, replicate, take, refl, ap, arith}
use Rattle.std.specs.Prelude.{⊤}
use Rattle.std.specs.List.{AllByRecursion}
use Rattle.lanes.specs.declared.party.Party.{Party}
use Rattle.lanes.specs.declared.party.Party.TheVariants.{First, Second, Third}
use Rattle.lanes.specs.Party.{next}
use Rattle.lanes.specs.Three.{at}
use Rattle.lanes.specs.Word.{AreWords}
use Rattle.tapes.specs.declared.draw.Need.{Need}
use Rattle.tapes.specs.declared.draw.Need.TheVariants.{Word as NeedsWord, OrderOf}
use Rattle.tapes.specs.declared.draw.Draw.{Draw}
use Rattle.tapes.specs.declared.draw.Draw.TheVariants.{Word, Order}
use Rattle.tapes.specs.Needs.{FitsNeeds}
use Rattle.step_lists.specs.Draws.{joined, needs_order, needs_masks, needs_phase, needs_reveal, needs_steer, words_in, order_in}
use Rattle.step_lists.specs.Possible.{FitsFront}
use Rattle.step_lists.specs.Seen.{same_party}
use Rattle.party_core.proofs.LongWords.{none_below, words_more}
use Rattle.party_core.proofs.Needing.{words_needed, count_words, reveal_count, steer_count}

pub fits_count : (ns : List Need) (ds : List Draw) → FitsNeeds ns ds → length ds ≡ length ns
fits_count [] [] h = refl
fits_count [] (d ∷ ds) h = absurd h
fits_count (n ∷ ns) [] h = absurd h
fits_count (n ∷ ns) (d ∷ ds) h = ap suc (fits_count ns ds h.1)

pub whole_front : (ns : List Need) (ds : List Draw) → FitsNeeds ns ds → FitsFront ns ds
whole_front [] ds h = tt
whole_front (n ∷ ns) [] h = absurd h
whole_front (n ∷ ns) (d ∷ ds) h = (h.0, whole_front ns ds h.1)

-- of needs that are met by some first draws, the first ones are met
pub front_fits : (xs ys : List Need) (ds : List Draw) → FitsFront (xs ++ ys) ds → FitsNeeds xs (take (length xs) ds)
front_fits [] ys ds h = tt
front_fits (x ∷ xs) ys [] h = absurd h
front_fits (x ∷ xs) ys (d ∷ ds) h = (h.0, front_fits xs ys ds h.1)

pub drawn_words : (ns : List Need) (ds : List Draw) → FitsNeeds ns ds → length (words_in ds) ≡ words_needed ns
drawn_words [] [] h = refl
drawn_words [] (d ∷ ds) h = absurd h
drawn_words (n ∷ ns) [] h = absurd h
drawn_words (NeedsWord ∷ ns) (Word w ∷ ds) h = ap suc (drawn_words ns ds h.1)
drawn_words (NeedsWord ∷ ns) (Order o ∷ ds) h = absurd h.0
drawn_words (OrderOf n ∷ ns) (Word w ∷ ds) h = absurd h.0
drawn_words (OrderOf n ∷ ns) (Order o ∷ ds) h = drawn_words ns ds h.1

pub drawn_below : (ns : List Need) (ds : List Draw) → FitsNeeds ns ds → AreWords (words_in ds)
drawn_below [] [] h = none_below
drawn_below [] (d ∷ ds) h = absurd h
drawn_below (n ∷ ns) [] h = absurd h
drawn_below (NeedsWord ∷ ns) (Word w ∷ ds) h = words_more w (words_in ds) h.0 (drawn_below ns ds h.1)
drawn_below (NeedsWord ∷ ns) (Order o ∷ ds) h = absurd h.0
drawn_below (OrderOf n ∷ ns) (Word w ∷ ds) h = absurd h.0
drawn_below (OrderOf n ∷ ns) (Order o ∷ ds) h = drawn_below ns ds h.1

-- ---- orders of at most n items

abbrev pub IsUpTo : ℕ → Need → Type 0
IsUpTo n NeedsWord = ⊤
IsUpTo n (OrderOf k) = k ≤ n

drawn_order : (n : ℕ) (ns : List Need) (ds : List Draw) → AllByRecursion (IsUpTo n) ns → FitsNeeds ns ds → length (order_in ds) ≤ n
drawn_order n [] [] i h = omega arith
drawn_order n [] (d ∷ ds) i h = absurd h
drawn_order n (x ∷ ns) [] i h = absurd h
drawn_order n (NeedsWord ∷ ns) (Word w ∷ ds) i h = drawn_order n ns ds i.1 h.1
drawn_order n (NeedsWord ∷ ns) (Order o ∷ ds) i h = absurd h.0
drawn_order n (OrderOf k ∷ ns) (Word w ∷ ds) i h = absurd h.0
drawn_order n (OrderOf k ∷ ns) (Order o ∷ ds) i h = let e = h.0.1 in let le = i.0 in omega (arith, e, le)

all_append : (n : ℕ) (xs ys : List Need) → AllByRecursion (IsUpTo n) xs → AllByRecursion (IsUpTo n) ys → AllByRecursion (IsUpTo n) (xs ++ ys)
all_append n [] ys h i = i
all_append n (x ∷ xs) ys h i = (h.0, all_append n xs ys h.1 i)

words_up : (n k : ℕ) → AllByRecursion (IsUpTo n) (replicate k NeedsWord)
words_up n zero = tt
words_up n (suc k) = (tt, words_up n k)

masks_up : (n : ℕ) (q j : Party) (k : ℕ) → AllByRecursion (IsUpTo n) (at q (needs_masks j k))
masks_up n First First k = tt
masks_up n First Second k = all_append n (replicate k NeedsWord) [] (words_up n k) tt
masks_up n First Third k = words_up n k
masks_up n Second First k = words_up n k
masks_up n Second Second k = tt
masks_up n Second Third k = all_append n (replicate k NeedsWord) [] (words_up n k) tt
masks_up n Third First k = all_append n (replicate k NeedsWord) [] (words_up n k) tt
masks_up n Third Second k = words_up n k
masks_up n Third Third k = tt

order_up : (q j : Party) (n : ℕ) → AllByRecursion (IsUpTo n) (at q (needs_order j n))
order_up First First n = (omega arith, tt)
order_up First Second n = tt
order_up First Third n = tt
order_up Second First n = tt
order_up Second Second n = (omega arith, tt)
order_up Second Third n = tt
order_up Third First n = tt
order_up Third Second n = tt
order_up Third Third n = (omega arith, tt)

phase_up : (q j : Party) (m n : ℕ) → AllByRecursion (IsUpTo n) (at q (needs_phase j m n))
phase_up First j m n = all_append n (at First (needs_order j n)) (at First (needs_masks j (m * n))) (order_up First j n) (masks_up n First j (m * n))
phase_up Second j m n = all_append n (at Second (needs_order j n)) (at Second (needs_masks j (m * n))) (order_up Second j n) (masks_up n Second j (m * n))
phase_up Third j m n = all_append n (at Third (needs_order j n)) (at Third (needs_masks j (m * n))) (order_up Third j n) (masks_up n Third j (m * n))

-- ---- the draws of a Reveal and of a Steer on one tape

-- so many words, and an order of at most n items
pub record HasDrawn (w n : ℕ) (ds : List Draw) : Type 0 where
  pub words : length (words_in ds) ≡ w
  pub below : AreWords (words_in ds)
  pub order : length (order_in ds) ≤ n

no_order_words : (q j : Party) (n : ℕ) → words_needed (at q (needs_order j n)) ≡ 0
no_order_words First First n = refl
no_order_words First Second n = refl
no_order_words First Third n = refl
no_order_words Second First n = refl
no_order_words Second Second n = refl
no_order_words Second Third n = refl
no_order_words Third First n = refl
no_order_words Third Second n = refl
no_order_words Third Third n = refl

reveal_up : (q : Party) (m n : ℕ) → AllByRecursion (IsUpTo n) (at q (needs_reveal m n))
reveal_up First m n =
    all_append n (at First (needs_phase First m n)) (at First (joined (needs_phase Second m n) (needs_phase Third m n))) (phase_up First First m n)
    (all_append n (at First (needs_phase Second m n)) (at First (needs_phase Third m n)) (phase_up First Second m n) (phase_up First Third m n))
reveal_up Second m n =
    all_append n (at Second (needs_phase First m n)) (at Second (joined (needs_phase Second m n) (needs_phase Third m n))) (phase_up Second First m n)
    (all_append n (at Second (needs_phase Second m n)) (at Second (needs_phase Third m n)) (phase_up Second Second m n) (phase_up Second Third m n))
reveal_up Third m n =
    all_append n (at Third (needs_phase First m n)) (at Third (joined (needs_phase Second m n) (needs_phase Third m n))) (phase_up Third First m n)
    (all_append n (at Third (needs_phase Second m n)) (at Third (needs_phase Third m n)) (phase_up Third Second m n) (phase_up Third Third m n))

pub reveal_drawn : (q : Party) (m n : ℕ) (ds : List Draw) → FitsNeeds (at q (needs_reveal m n)) ds → HasDrawn (m * n + m * n) n ds
reveal_drawn q m n ds h = record {
  words =
      let e = drawn_words (at q (needs_reveal m n)) ds h in
      let c = reveal_count words_needed count_words q m n in
      let x = no_order_words q First n in
      let y = no_order_words q Second n in
      let z = no_order_words q Third n in
      omega (arith, e, c, x, y, z);
  below = drawn_below (at q (needs_reveal m n)) ds h;
  order = drawn_order n (at q (needs_reveal m n)) ds (reveal_up q m n) h;
}

steer_up : (q p : Party) (m n : ℕ) → AllByRecursion (IsUpTo n) (at q (needs_steer p m n))
steer_up First p m n = all_append n (at First (needs_phase (next p) m n)) (at First (needs_masks p (m * n))) (phase_up First (next p) m n) (masks_up n First p (m * n))
steer_up Second p m n = all_append n (at Second (needs_phase (next p) m n)) (at Second (needs_masks p (m * n))) (phase_up Second (next p) m n) (masks_up n Second p (m * n))
steer_up Third p m n = all_append n (at Third (needs_phase (next p) m n)) (at Third (needs_masks p (m * n))) (phase_up Third (next p) m n) (masks_up n Third p (m * n))

pub steer_drawn : (q p : Party) (m n : ℕ) (ds : List Draw) → FitsNeeds (at q (needs_steer p m n)) ds
    → HasDrawn (cond (same_party q (next p)) 0 (m * n) + cond (same_party q p) 0 (m * n)) n ds
steer_drawn q p m n ds h = record {
  words =
      let e = drawn_words (at q (needs_steer p m n)) ds h in
      let c = steer_count words_needed count_words q p m n in
      let x = no_order_words q (next p) n in
      omega (arith, e, c, x);
  below = drawn_below (at q (needs_steer p m n)) ds h;
  order = drawn_order n (at q (needs_steer p m n)) ds (steer_up q p m n) h;
}
