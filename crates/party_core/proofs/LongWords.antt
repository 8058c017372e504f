-- Words of one length, and the operations that keep it.
use Rattle.std.proofs.Common.{ℕ, zero, suc, ◌≤◌, ◌<◌, ◌^◌, List, [], ◌∷◌, length, take, drop, replicate, sym, subst, ◌∙◌, arith, length-take}
use Rattle.std.specs.Prelude.{slice_index}
use Rattle.std.proofs.lemmas.List.{take-append-drop, length-replicate}
use Rattle.lanes.specs.Items.{LaneLengths, WordsOfParts, WordsStay}
use Rattle.lanes.specs.Lanes.{xors, crosses}
use Rattle.lanes.specs.Word.{AreWords}
use Rattle.tapes.specs.Order.{applied}
use Rattle.step_lists.specs.Shapes.{HasLength}

-- the laws of lane-wise words that the lemmas here rest on
pub record LaneFacts : Type 0 where
  pub lengths : LaneLengths
  pub parts : WordsOfParts
  pub stay : WordsStay

pub none_below : AreWords []
none_below = record { below = λ k. omega arith }

pub words_more : (w : ℕ) (ws : List ℕ) → w < 2 ^ 64 → AreWords ws → AreWords (w ∷ ws)
words_more w ws h i = record { below = by } where
  by : (k : ℕ) → slice_index (w ∷ ws) k < 2 ^ 64
  by zero = h
  by (suc k) = i.below k

zeros_below : (n : ℕ) → AreWords (replicate n 0)
zeros_below zero = none_below
zeros_below (suc n) = words_more 0 (replicate n 0) (omega arith) (zeros_below n)

pub zeros_long : (n : ℕ) → HasLength n (replicate n 0)
zeros_long n = record { long = length-replicate n 0; below = zeros_below n }

module _ (facts : LaneFacts) where
  pub dropped_below : (n : ℕ) (xs : List ℕ) → AreWords xs → AreWords (drop n xs)
  dropped_below n xs h = facts.parts.behind (take n xs) (drop n xs) (subst AreWords (sym (take-append-drop n xs)) h)

  pub taken_below : (n : ℕ) (xs : List ℕ) → AreWords xs → AreWords (take n xs)
  taken_below n xs h = facts.parts.first (take n xs) (drop n xs) (subst AreWords (sym (take-append-drop n xs)) h)

  pub taken_long : (n : ℕ) (xs : List ℕ) → n ≤ length xs → AreWords xs → HasLength n (take n xs)
  taken_long n xs h k = record { long = let e = length-take n xs in omega (arith, e, h); below = taken_below n xs k }

  pub xors_long : (n : ℕ) (xs ys : List ℕ) → HasLength n xs → HasLength n ys → HasLength n (xors xs ys)
  xors_long n xs ys h k = record {
    long = let e = facts.lengths.xor xs ys in omega (arith, e, h.long, k.long);
    below = facts.stay.xor xs ys h.below k.below;
  }

  -- words in a new order under a mask, where the order is no longer than the mask
  pub masked_long : (n : ℕ) (o xs mask : List ℕ) → length o ≤ n → AreWords xs → HasLength n mask → HasLength n (xors (applied o xs) mask)
  masked_long n o xs mask h k m = record {
    long = let e = facts.lengths.xor (applied o xs) mask in let p = facts.lengths.pick o xs in omega (arith, e, p, h, m.long);
    below = facts.stay.xor (applied o xs) mask (facts.stay.pick o xs k) m.below;
  }

  pub crosses_long : (n : ℕ) (xs xs' ys ys' : List ℕ) → HasLength n xs → HasLength n xs' → HasLength n ys → HasLength n ys' → HasLength n (crosses xs xs' ys ys')
  crosses_long n xs xs' ys ys' h i j k = record {
    long = facts.lengths.cross xs xs' ys ys' (i.long ∙ sym h.long) (j.long ∙ sym h.long) (k.long ∙ sym h.long) ∙ h.long;
    below = facts.stay.cross xs xs' ys ys' h.below i.below;
  }
