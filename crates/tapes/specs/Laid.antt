-- How a tape lies in memory: its words, and its orders with the numbers of their draws.
use Rattle.std.specs.Prelude.{◌≡◌, ℕ, suc, ◌+◌, ◌-◌, ◌<◌, ◌≤◌, ◌^◌, List, [], ◌∷◌, ◌++◌, length, map, take, drop}
use Rattle.tapes.specs.declared.draw.Draw.{Draw}
use Rattle.tapes.specs.declared.draw.Draw.TheVariants.{Word, Order}
use Rattle.tapes.specs.declared.placed.PlacedOrder.{PlacedOrder}

-- words as draws
abbrev pub as_draws : List ℕ → List Draw
as_draws words = map (λ w. Word w) words

-- the draws from number p on: the words up to the first order, that order, and the draws behind it
unfoldable pub draws_from : ℕ → List ℕ → List PlacedOrder → List Draw
draws_from p words [] = as_draws words
draws_from p words (o ∷ orders) =
    as_draws (take (o.place - p) words) ++ Order o.order ∷ draws_from (suc o.place) (drop (o.place - p) words) orders

-- orders one behind the other, the first at p or later and the last before n
unfoldable pub ArePlaced : ℕ → ℕ → List PlacedOrder → Type 0
ArePlaced p n [] = p ≤ n
ArePlaced p n (o ∷ orders) = (p ≤ o.place) × ArePlaced (suc o.place) n orders

-- each order is the draw of its number
abbrev pub IsLaid : List ℕ → List PlacedOrder → Type 0
IsLaid words orders = ArePlaced 0 (length words + length orders) orders

-- draw number p is next, and k orders stand before it
pub record StandsAt (words : List ℕ) (orders : List PlacedOrder) (p k : ℕ) : Type 0 where
  pub passed : k ≤ p
  pub short : k ≤ length orders
  pub all : length words + length orders < 2 ^ 64
  pub placed : ArePlaced p (length words + length orders) (drop k orders)
  pub rest : drop p (draws_from 0 words orders) ≡ draws_from p (drop (p - k) words) (drop k orders)

-- how many words stand before the first order or the end, where draw number p is next
abbrev pub words_before : ℕ → List ℕ → List PlacedOrder → ℕ
words_before p words [] = length words
words_before p words (o ∷ orders) = o.place - p
