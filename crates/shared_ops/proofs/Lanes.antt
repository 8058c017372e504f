-- Gathered and masked lanes as blocks, by index.
use Rattle.std.proofs.Common.{◌≡◌, ℕ, zero, suc, ◌+◌, ◌*◌, ◌/◌, ◌%◌, ◌<◌, Bool, true, false, cond, ltb, List, [], ◌∷◌, ◌++◌, bit_or, map, length, get_or, refl, sym, ap, ◌∙◌, subst, arith}
use Rattle.std.specs.Prelude.{All}
use Rattle.std.specs.List.{range_with_len}
use Rattle.std.proofs.lemmas.List.{get_or_past}
use Rattle.std.proofs.lemmas.List.Elements.{All-map}
use Rattle.std.proofs.lemmas.List.FromFn.{get_or-map-range_with_len, length-map-range_with_len}
use Rattle.lanes.specs.Folds.{words_folded}
use Rattle.lanes.specs.Items.{LaneItems, LaneLengths}
use Rattle.lanes.specs.Lanes.{lanewise, picked}
use Rattle.lanes.specs.Table.{PlacesOfTable, table_place}
use Rattle.circuits.specs.Blocks.{blocks_folded}
use Rattle.circuits.specs.Folds.{combined_word, masked_word}
use Rattle.circuits.specs.declared.folds.Fold.{Fold}
use Rattle.padded.specs.Table.{column_at}
use Rattle.shared_ops.specs.Groups.{earlier_place, earlier_places, seen_lanes}
use Rattle.shared_ops.specs.Pairs.{left_places}
use Rattle.shared_ops.proofs.Elements.{map_agree, map_map, range_below}

-- a zero behind words changes no word
zero_behind : (xs : List ℕ) (k : ℕ) → get_or (xs ++ 0 ∷ []) k 0 ≡ get_or xs k 0
zero_behind [] zero = refl
zero_behind [] (suc k) = refl
zero_behind (x ∷ xs) zero = refl
zero_behind (x ∷ xs) (suc k) = zero_behind xs k

-- words picked at places that are told by the lane
picked_at : (f : ℕ → ℕ) (n k : ℕ) (xs : List ℕ) → k < n → get_or (picked (map f (range_with_len 0 n)) xs) k 0 ≡ get_or xs (f k) 0
picked_at f n k xs h = ap (λ l. get_or l k 0) (map_map (λ p. get_or xs p 0) f (range_with_len 0 n)) ∙ get_or-map-range_with_len (λ p. get_or xs (f p) 0) 0 n k k 0 h (omega arith)

earlier_at : PlacesOfTable → (n j i : ℕ) (flags : List ℕ) → length flags ≡ n * n → j < n → i < n
    → get_or (picked (earlier_places n) (flags ++ 0 ∷ [])) (table_place n j i) 0 ≡ cond (ltb j i) (get_or flags (table_place n j i) 0) 0
earlier_at places n j i flags long h w =
    picked_at (earlier_place n) (n * n) (table_place n j i) (flags ++ 0 ∷ []) (places.within n n j i h w)
    ∙ zero_behind flags (earlier_place n (table_place n j i))
    ∙ (λ s. get_or flags (cond (ltb (places.row n j i w s) (places.column n j i w s)) (table_place n j i) (n * n)) 0)
    ∙ by (ltb j i)
  where
    by : (b : Bool) → get_or flags (cond b (table_place n j i) (n * n)) 0 ≡ cond b (get_or flags (table_place n j i) 0) 0
    by true = refl
    by false = get_or_past flags (n * n) 0 (omega (arith, long))

pub seen_gathered : PlacesOfTable → (n : ℕ) (flags : List ℕ) → length flags ≡ n * n → blocks_folded bit_or n n (picked (earlier_places n) (flags ++ 0 ∷ [])) ≡ seen_lanes n flags
seen_gathered places n flags long =
    let all = range_with_len 0 n in
    let found = picked (earlier_places n) (flags ++ 0 ∷ []) in
    map_agree (λ i. words_folded bit_or (map (λ j. get_or found (j * n + i) 0) all)) (λ i. words_folded bit_or (map (λ j. cond (ltb j i) (get_or flags (table_place n j i) 0) 0) all)) all
    (λ k d h. let i = get_or all k d in
    ap (words_folded bit_or) (map_agree (λ j. get_or found (j * n + i) 0) (λ j. cond (ltb j i) (get_or flags (table_place n j i) 0) 0) all
    (λ l e w. earlier_at places n (get_or all l e) i flags long (range_below n l e w) (range_below n k d h))))

-- flags and the words of a column, each at the places of its row
pub masked_blocks : LaneItems → LaneLengths → PlacesOfTable → (op f : ℕ → ℕ → ℕ) (n m : ℕ) (flags column : List ℕ) → length flags ≡ n * m
    → blocks_folded op n m (lanewise f flags (picked (left_places n m) column))
    ≡ map (λ i. words_folded op (map (λ j. f (get_or flags (table_place m j i) 0) (get_or column j 0)) (range_with_len 0 n))) (range_with_len 0 m)
masked_blocks items lengths places op f n m flags column long =
    let rows = range_with_len 0 n in
    let lanes = range_with_len 0 m in
    let repeated = picked (left_places n m) column in
    let found = lanewise f flags repeated in
    let wide : length repeated ≡ n * m = lengths.pick (left_places n m) column ∙ length-map-range_with_len (λ p. p / m) 0 (n * m) in
    map_agree (λ i. words_folded op (map (λ j. get_or found (j * m + i) 0) rows)) (λ i. words_folded op (map (λ j. f (get_or flags (table_place m j i) 0) (get_or column j 0)) rows)) lanes
    (λ k d h. let i = get_or lanes k d in
    ap (words_folded op) (map_agree (λ j. get_or found (j * m + i) 0) (λ j. f (get_or flags (table_place m j i) 0) (get_or column j 0)) rows
    (λ l e w.
    let j = get_or rows l e in
    let inside : table_place m j i < n * m = places.within n m j i (range_below n l e w) (range_below m k d h) in
    items.lane f flags repeated (table_place m j i) (omega (arith, long, inside)) (omega (arith, wide, inside))
    ∙ ap (f (get_or flags (table_place m j i) 0)) (picked_at (λ p. p / m) (n * m) (table_place m j i) column inside ∙ ap (λ p. get_or column p 0) (places.row m j i (range_below m k d h))))))

-- the same, where the words are a column's
pub column_blocks : LaneItems → LaneLengths → PlacesOfTable → (fold : Fold) (n m : ℕ) (flags words : List ℕ) (columns : List (List ℕ)) (column : ℕ) → length flags ≡ n * m → words ≡ column_at columns column
    → blocks_folded (combined_word fold) n m (lanewise (masked_word fold) flags (picked (left_places n m) words))
    ≡ map (λ i. words_folded (combined_word fold) (map (λ j. masked_word fold (get_or flags (table_place m j i) 0) (get_or (column_at columns column) j 0)) (range_with_len 0 n))) (range_with_len 0 m)
column_blocks items lengths places fold n m flags words columns column long is =
    ap (λ found. blocks_folded (combined_word fold) n m (lanewise (masked_word fold) flags (picked (left_places n m) found))) is
    ∙ masked_blocks items lengths places (combined_word fold) (masked_word fold) n m flags (column_at columns column) long

-- ---- places of what is gathered

pub earlier_count : (n : ℕ) (places : List ℕ) → places ≡ earlier_places n → length places ≡ n * n
earlier_count n places is = ap length is ∙ length-map-range_with_len (earlier_place n) 0 (n * n)

pub earlier_below : (n : ℕ) (places : List ℕ) → places ≡ earlier_places n → (k : ℕ) → k < length places → get_or places k 0 < n * n + 1
earlier_below n places is k h =
    let inside : k < n * n = omega (arith, h, earlier_count n places is) in
    let here : get_or places k 0 ≡ earlier_place n k = ap (λ l. get_or l k 0) is ∙ get_or-map-range_with_len (earlier_place n) 0 (n * n) k k 0 inside (omega arith) in
    omega (arith, here, by (ltb (k / n) (k % n)) inside)
  where
    by : (b : Bool) → k < n * n → cond b k (n * n) < n * n + 1
    by true inside = omega (arith, inside)
    by false inside = omega arith

pub few_lanes : (n m : ℕ) (places : List ℕ) → places ≡ left_places n m → length places ≡ n * m
few_lanes n m places is = ap length is ∙ length-map-range_with_len (λ p. p / m) 0 (n * m)

pub row_within : PlacesOfTable → (n m bound : ℕ) (places : List ℕ) → places ≡ left_places n m → bound ≡ n → All (λ place. place < bound) places
row_within table n m bound places is same =
    let P : List ℕ → Type 0 = λ l. All (λ place. place < bound) l in
    let inside : All (λ place. place < bound) (left_places n m) = All-map (λ place. place < bound) (λ p. p / m) (range_with_len 0 (n * m))
    (λ k d h. let below : get_or (range_with_len 0 (n * m)) k d / m < n = table.row_within n m (get_or (range_with_len 0 (n * m)) k d) (range_below (n * m) k d h) in omega (arith, below, same)) in
    subst P (sym is) inside
