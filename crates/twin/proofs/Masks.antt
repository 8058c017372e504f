-- Draws that are changed, and words under a mask that is changed.
use Rattle.std.proofs.Common.{◌≡◌, ℕ, zero, suc, ◌≤◌, ◌<◌, ◌^◌, List, [], ◌∷◌, ◌++◌, length, replicate, refl, sym, ◌∙◌, ap, arith}
use Rattle.std.specs.Prelude.{⊤, bit_xor, slice_index}
use Rattle.std.specs.List.{AllByRecursion}
use Rattle.lanes.specs.Word.{AreWords}
use Rattle.lanes.specs.Lanes.{xors}
use Rattle.tapes.specs.declared.draw.Need.{Need}
use Rattle.tapes.specs.declared.draw.Need.TheVariants.{Word as NeedsWord, OrderOf}
use Rattle.tapes.specs.declared.draw.Draw.{Draw}
use Rattle.tapes.specs.declared.draw.Draw.TheVariants.{Word, Order}
use Rattle.tapes.specs.Needs.{Meets, FitsNeeds}
use Rattle.step_lists.specs.Draws.{words_in}
use Rattle.step_lists.specs.Twin.{changed}
use Rattle.twin.proofs.Facts.{Facts}

-- ---- words and their masks

-- a mask that takes up what two worlds differ by gives the same words in both
pub absorbed : Facts → (n : ℕ) (b c m r : List ℕ) → length b ≡ n → length c ≡ n → xors (xors c m) (xors r (xors b c)) ≡ xors (xors b m) r
absorbed facts n b c m r hb hc =
    let u = xors m r in
    let long : length c ≤ length (xors u b) = omega (arith, facts.lengths.xor u b) in
    facts.associates c m (xors r (xors b c))
    ∙ (ap (xors c) (sym (facts.associates m r (xors b c)) ∙ sym (facts.associates u b c))
    ∙ (facts.commutes c (xors (xors u b) c)
    ∙ (facts.comes_off (xors u b) c long
    ∙ (facts.commutes u b ∙ sym (facts.associates b m r)))))

-- the same, with the changed mask put on first
pub absorbed_first : Facts → (n : ℕ) (b c m r : List ℕ) → length b ≡ n → length c ≡ n → xors (xors c (xors r (xors b c))) m ≡ xors (xors b r) m
absorbed_first facts n b c m r hb hc = other c (xors r (xors b c)) m ∙ (absorbed facts n b c m r hb hc ∙ other b m r) where
  other : (x y z : List ℕ) → xors (xors x y) z ≡ xors (xors x z) y
  other x y z = facts.associates x y z ∙ (ap (xors x) (facts.commutes y z) ∙ sym (facts.associates x z y))

-- ---- draws

-- an order that may stand for a need
abbrev pub Suits : List ℕ → Need → Type 0
Suits order NeedsWord = ⊤
Suits order (OrderOf n) = Meets (OrderOf n) (Order order)

xor_below : Facts → (w c : ℕ) → w < 2 ^ 64 → c < 2 ^ 64 → bit_xor w c < 2 ^ 64
xor_below facts w c h i = (facts.stay.xor (w ∷ []) (c ∷ []) (one w h) (one c i)).below 0 where
  one : (w : ℕ) → w < 2 ^ 64 → AreWords (w ∷ [])
  one w h = facts.behind.within (w ∷ []) (λ k i. at k w h)
    where
      at : (k w : ℕ) → w < 2 ^ 64 → slice_index (w ∷ []) k < 2 ^ 64
      at zero w h = h
      at (suc k) w h = omega arith

-- words behind the first one
pub tail_words : (w : ℕ) (ws : List ℕ) → AreWords (w ∷ ws) → AreWords ws
tail_words w ws h = record { below = λ k. h.below (suc k) }

pub changed_fits : Facts → (order cs : List ℕ) (ns : List Need) (ds : List Draw) → FitsNeeds ns ds → AllByRecursion (Suits order) ns → AreWords cs
    → FitsNeeds ns (changed order cs ds)
changed_fits facts order cs [] [] h suit i = tt
changed_fits facts order cs [] (d ∷ ds) h suit i = absurd h
changed_fits facts order cs (n ∷ ns) [] h suit i = absurd h
changed_fits facts order [] (NeedsWord ∷ ns) (Word w ∷ ds) h suit i = (h.0, changed_fits facts order [] ns ds h.1 suit.1 i)
changed_fits facts order (c ∷ cs) (NeedsWord ∷ ns) (Word w ∷ ds) h suit i =
    (xor_below facts w c h.0 (i.below 0), changed_fits facts order cs ns ds h.1 suit.1 (tail_words c cs i))
changed_fits facts order cs (NeedsWord ∷ ns) (Order o ∷ ds) h suit i = absurd h.0
changed_fits facts order cs (OrderOf n ∷ ns) (Word w ∷ ds) h suit i = absurd h.0
changed_fits facts order cs (OrderOf n ∷ ns) (Order o ∷ ds) h suit i = (suit.0, changed_fits facts order cs ns ds h.1 suit.1 i)

-- the words of changed draws
pub changed_words : (order cs : List ℕ) (ds : List Draw) → length cs ≤ length (words_in ds) → words_in (changed order cs ds) ≡ xors (words_in ds) cs
changed_words order [] [] h = refl
changed_words order (c ∷ cs) [] h = absurd (omega arith)
changed_words order cs (Order o ∷ ds) h = changed_words order cs ds h
changed_words order [] (Word w ∷ ds) h = ap (λ ws. w ∷ ws) (changed_words order [] ds (omega arith) ∙ none (words_in ds)) where
  none : (ws : List ℕ) → xors ws [] ≡ ws
  none [] = refl
  none (w ∷ ws) = refl
changed_words order (c ∷ cs) (Word w ∷ ds) h = ap (λ ws. bit_xor w c ∷ ws) (changed_words order cs ds (omega arith))

-- what is changed twice by the same words is as before, where no order was drawn
abbrev pub IsWord : Need → Type 0
IsWord NeedsWord = ⊤
IsWord (OrderOf n) = ⊥

xor_twice : Facts → (w c : ℕ) → bit_xor (bit_xor w c) c ≡ w
xor_twice facts w c = let e = facts.comes_off (w ∷ []) (c ∷ []) (omega arith) in cc

pub changed_twice : Facts → (o p cs : List ℕ) (ns : List Need) (ds : List Draw) → FitsNeeds ns ds → AllByRecursion IsWord ns → changed o cs (changed p cs ds) ≡ ds
changed_twice facts o p cs [] [] h i = none cs where
  none : (cs : List ℕ) → changed o cs (changed p cs []) ≡ []
  none cs = refl
changed_twice facts o p cs [] (d ∷ ds) h i = absurd h
changed_twice facts o p cs (n ∷ ns) [] h i = absurd h
changed_twice facts o p [] (NeedsWord ∷ ns) (Word w ∷ ds) h i = ap (λ ds. Word w ∷ ds) (changed_twice facts o p [] ns ds h.1 i.1)
changed_twice facts o p (c ∷ cs) (NeedsWord ∷ ns) (Word w ∷ ds) h i =
    let e = xor_twice facts w c in
    let t = changed_twice facts o p cs ns ds h.1 i.1 in
    ap (λ w. Word w ∷ changed o cs (changed p cs ds)) e ∙ ap (λ ds. Word w ∷ ds) t
changed_twice facts o p cs (NeedsWord ∷ ns) (Order q ∷ ds) h i = absurd h.0
changed_twice facts o p cs (OrderOf n ∷ ns) d h i = absurd i.0

pub suits_words : (order : List ℕ) (ns : List Need) → AllByRecursion IsWord ns → AllByRecursion (Suits order) ns
suits_words order [] h = tt
suits_words order (NeedsWord ∷ ns) h = (tt, suits_words order ns h.1)
suits_words order (OrderOf n ∷ ns) h = absurd h.0

pub all_words : (n : ℕ) → AllByRecursion IsWord (replicate n NeedsWord)
all_words zero = tt
all_words (suc n) = (tt, all_words n)

pub all_appended : (P : Need → Type 0) (xs ys : List Need) → AllByRecursion P xs → AllByRecursion P ys → AllByRecursion P (xs ++ ys)
all_appended P [] ys h i = i
all_appended P (x ∷ xs) ys h i = (h.0, all_appended P xs ys h.1 i)

one_more : (w : ℕ) (ws : List ℕ) → w < 2 ^ 64 → AreWords ws → AreWords (w ∷ ws)
one_more w ws h i = record { below = at } where
  at : (k : ℕ) → slice_index (w ∷ ws) k < 2 ^ 64
  at zero = h
  at (suc k) = i.below k

-- drawn words are words
pub drawn_below : Facts → (ns : List Need) (ds : List Draw) → FitsNeeds ns ds → AreWords (words_in ds)
drawn_below facts [] [] h = record { below = λ k. omega arith }
drawn_below facts [] (d ∷ ds) h = absurd h
drawn_below facts (n ∷ ns) [] h = absurd h
drawn_below facts (NeedsWord ∷ ns) (Word w ∷ ds) h = one_more w (words_in ds) h.0 (drawn_below facts ns ds h.1)
drawn_below facts (NeedsWord ∷ ns) (Order o ∷ ds) h = absurd h.0
drawn_below facts (OrderOf n ∷ ns) (Word w ∷ ds) h = absurd h.0
drawn_below facts (OrderOf n ∷ ns) (Order o ∷ ds) h = drawn_below facts ns ds h.1

-- and as many as are needed, where no order is
pub drawn_long : (ns : List Need) (ds : List Draw) → FitsNeeds ns ds → AllByRecursion IsWord ns → length (words_in ds) ≡ length ns
drawn_long [] [] h i = refl
drawn_long [] (d ∷ ds) h i = absurd h
drawn_long (n ∷ ns) [] h i = absurd h
drawn_long (NeedsWord ∷ ns) (Word w ∷ ds) h i = ap suc (drawn_long ns ds h.1 i.1)
drawn_long (NeedsWord ∷ ns) (Order o ∷ ds) h i = absurd h.0
drawn_long (OrderOf n ∷ ns) ds h i = absurd i.0
