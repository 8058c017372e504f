-- Which pairs of rows match, lane by lane.
use Rattle.std.proofs.Common.{◌≡◌, ℕ, zero, suc, ◌+◌, ◌*◌, ◌/◌, ◌%◌, ◌<◌, ◌≤◌, Bool, true, false, ◌&&◌, cond, nat_eq, List, [], ◌∷◌, ◌++◌, bit_and, map, length, get_or, refl, sym, ap, ◌∙◌, subst, arith}
use Rattle.std.specs.Prelude.{All}
use Rattle.std.specs.List.{fold, range_with_len}
use Rattle.std.proofs.Math.ListN.{get_or-map}
use Rattle.std.proofs.Math.Nat.{mul-add, mul-le-mul_left, mul-one, mul_comm}
use Rattle.std.proofs.lemmas.List as lists
use Rattle.std.proofs.lemmas.List.{length-map}
use Rattle.std.proofs.lemmas.List.Elements.{All-map}
use Rattle.std.proofs.lemmas.List.FromFn.{length-range_with_len}
use Rattle.std.proofs.lemmas.List.Sums.{fold-append}
use Rattle.lanes.specs.Lanes.{lanewise, picked}
use Rattle.lanes.specs.Sums.{equal_word}
use Rattle.lanes.specs.Table.{PlacesOfTable}
use Rattle.padded.specs.Table.{AreBits, Table, column_at, is_live}
use Rattle.plain_operators.specs.Columns.{word_at}
use Rattle.plain_operators.specs.Operators.{have_equal_keys}
use Rattle.plain_operators.specs.Within.{HasColumns}
use Rattle.tapes.specs.RowLaws.{row_across}
use Rattle.wires.specs.Environment.{Environment, words}
use Rattle.wires.specs.declared.wire.Wire.{Wire}
use Rattle.shared_ops.specs.Joint.{IsWide}
use Rattle.shared_ops.specs.Pairs.{left_places, match_words, right_places, rows_match}
use Rattle.shared_ops.proofs.Elements.{map_agree, map_map, range_below}

-- ---- the places of pairs

pub left_within : PlacesOfTable → (n m : ℕ) → All (λ place. place < n) (left_places n m)
left_within places n m = All-map (λ place. place < n) (λ p. p / m) (range_with_len 0 (n * m)) (λ k d h. places.row_within n m _ (range_below (n * m) k d h))

pub right_within : PlacesOfTable → (n m : ℕ) → All (λ place. place < m) (right_places n m)
right_within places n m = All-map (λ place. place < m) (λ p. p % m) (range_with_len 0 (n * m)) (λ k d h. places.column_within n m _ (range_below (n * m) k d h))

pub left_count : (n m : ℕ) → length (left_places n m) ≡ n * m
left_count n m = length-map (range_with_len 0 (n * m)) (λ p. p / m) ∙ length-range_with_len 0 (n * m)

pub right_count : (n m : ℕ) → length (right_places n m) ≡ n * m
right_count n m = length-map (range_with_len 0 (n * m)) (λ p. p % m) ∙ length-range_with_len 0 (n * m)

-- places that are these are lanes of a wire with a lane for each row
pub left_fit : PlacesOfTable → (n m lanes : ℕ) (given made : List ℕ) → given ≡ made → made ≡ left_places n m → lanes ≡ n → All (λ place. place < lanes) given
left_fit places n m lanes given made same is wide k d h =
    let below : get_or given k d < n = subst (λ (ps : List ℕ). All (λ place. place < n) ps) (sym (same ∙ is)) (left_within places n m) k d h in
    omega (arith, wide)

pub right_fit : PlacesOfTable → (n m lanes : ℕ) (given made : List ℕ) → given ≡ made → made ≡ right_places n m → lanes ≡ m → All (λ place. place < lanes) given
right_fit places n m lanes given made same is wide k d h =
    let below : get_or given k d < m = subst (λ (ps : List ℕ). All (λ place. place < m) ps) (sym (same ∙ is)) (right_within places n m) k d h in
    omega (arith, wide)

pub left_as_many : (n m : ℕ) (given made : List ℕ) → given ≡ made → made ≡ left_places n m → length given ≡ n * m
left_as_many n m given made same is = ap length (same ∙ is) ∙ left_count n m

pub right_as_many : (n m : ℕ) (given made : List ℕ) → given ≡ made → made ≡ right_places n m → length given ≡ n * m
right_as_many n m given made same is = ap length (same ∙ is) ∙ right_count n m

-- ---- the words of pairs

-- a function of two words, where both are made of the same numbers
lanewise_maps : (f : ℕ → ℕ → ℕ) (g h : ℕ → ℕ) (xs : List ℕ) → lanewise f (map g xs) (map h xs) ≡ map (λ x. f (g x) (h x)) xs
lanewise_maps f g h [] = refl
lanewise_maps f g h (x ∷ xs) = ap (λ l. f (g x) (h x) ∷ l) (lanewise_maps f g h xs)

pair_words : (f : ℕ → ℕ → ℕ) (n m : ℕ) (xs ys : List ℕ)
    → lanewise f (picked (left_places n m) xs) (picked (right_places n m) ys) ≡ map (λ p. f (get_or xs (p / m) 0) (get_or ys (p % m) 0)) (range_with_len 0 (n * m))
pair_words f n m xs ys =
    let all = range_with_len 0 (n * m) in
    (λ i. lanewise f (map_map (λ q. get_or xs q 0) (λ p. p / m) all i) (map_map (λ q. get_or ys q 0) (λ p. p % m) all i))
    ∙ lanewise_maps f (λ p. get_or xs (p / m) 0) (λ p. get_or ys (p % m) 0) all

-- the word of a pair of rows after one more key, and after several
abbrev pub with_key : List ℕ → List ℕ → ℕ → ℕ × ℕ → ℕ
with_key left right word key = bit_and word (equal_word (word_at key.0 left) (word_at key.1 right))

abbrev pub pair_word : List (ℕ × ℕ) → Table → Table → ℕ → ℕ → ℕ
pair_word keys left right i j = fold (with_key (row_across left.columns i) (row_across right.columns j)) (bit_and (get_or left.valid i 0) (get_or right.valid j 0)) keys

abbrev pub pair_lanes : List (ℕ × ℕ) → ℕ → ℕ → Table → Table → List ℕ
pair_lanes keys n m left right = map (λ p. pair_word keys left right (p / m) (p % m)) (range_with_len 0 (n * m))

pub at_column : (columns : List (List ℕ)) (place column : ℕ) → get_or (column_at columns column) place 0 ≡ word_at column (row_across columns place)
at_column columns place column = sym (get_or-map (λ (words : List ℕ). get_or words place 0) columns column [])

pub no_key : (n m : ℕ) (left right : Table) → lanewise bit_and (picked (left_places n m) left.valid) (picked (right_places n m) right.valid) ≡ pair_lanes [] n m left right
no_key n m left right = pair_words bit_and n m left.valid right.valid

pub one_more_key : (keys : List (ℕ × ℕ)) (key : ℕ × ℕ) (n m : ℕ) (left right : Table)
    → lanewise bit_and (pair_lanes keys n m left right) (lanewise equal_word (picked (left_places n m) (column_at left.columns key.0)) (picked (right_places n m) (column_at right.columns key.1)))
    ≡ pair_lanes (keys ++ key ∷ []) n m left right
one_more_key keys key n m left right =
    let all = range_with_len 0 (n * m) in
    let word = λ (p : ℕ). pair_word keys left right (p / m) (p % m) in
    let equal = λ (p : ℕ). equal_word (get_or (column_at left.columns key.0) (p / m) 0) (get_or (column_at right.columns key.1) (p % m) 0) in
    let one = λ (p : ℕ). with_key (row_across left.columns (p / m)) (row_across right.columns (p % m)) in
    ap (lanewise bit_and (pair_lanes keys n m left right)) (pair_words equal_word n m (column_at left.columns key.0) (column_at right.columns key.1))
    ∙ lanewise_maps bit_and word equal all
    ∙ map_agree (λ p. bit_and (word p) (equal p)) (λ p. pair_word (keys ++ key ∷ []) left right (p / m) (p % m)) all
    (λ k d h.
    let p = get_or all k d in
    (λ i. bit_and (word p) (equal_word (at_column left.columns (p / m) key.0 i) (at_column right.columns (p % m) key.1 i)))
    ∙ sym (fold-append (one p) (bit_and (get_or left.valid (p / m) 0) (get_or right.valid (p % m) 0)) keys (key ∷ [])))

-- ---- where valid words are 0 and 1

both_bits : (a b : ℕ) → a ≤ 1 → b ≤ 1 → bit_and a b ≡ cond (nat_eq a 1 && nat_eq b 1) 1 0
both_bits zero zero first second = refl
both_bits zero (suc zero) first second = refl
both_bits (suc zero) zero first second = refl
both_bits (suc zero) (suc zero) first second = refl
both_bits (suc (suc a)) b first second = absurd (omega arith)
both_bits zero (suc (suc b)) first second = absurd (omega arith)
both_bits (suc zero) (suc (suc b)) first second = absurd (omega arith)

bit_kept : (t e : Bool) → bit_and (cond t 1 0) (cond e 1 0) ≡ cond (t && e) 1 0
bit_kept true true = refl
bit_kept true false = refl
bit_kept false true = refl
bit_kept false false = refl

and_end : (t : Bool) → t ≡ (t && true)
and_end true = refl
and_end false = refl

regrouped : (a b c : Bool) → ((a && b) && c) ≡ (a && (b && c))
regrouped true b c = refl
regrouped false b c = refl

all_keys : (left right : List ℕ) (t : Bool) (keys : List (ℕ × ℕ)) → fold (with_key left right) (cond t 1 0) keys ≡ cond (t && have_equal_keys keys left right) 1 0
all_keys left right t [] = ap (λ b. cond b 1 0) (and_end t)
all_keys left right t (key ∷ keys) =
    let equal = nat_eq (word_at key.0 left) (word_at key.1 right) in
    ap (λ word. fold (with_key left right) word keys) (bit_kept t equal)
    ∙ all_keys left right (t && equal) keys
    ∙ ap (λ b. cond b 1 0) (regrouped t equal (have_equal_keys keys left right))

pair_is : (keys : List (ℕ × ℕ)) (left right : Table) (i j : ℕ) → AreBits left.valid → AreBits right.valid → pair_word keys left right i j ≡ cond (rows_match keys left right i j) 1 0
pair_is keys left right i j first second =
    let lefts = row_across left.columns i in
    let rights = row_across right.columns j in
    ap (λ word. fold (with_key lefts rights) word keys) (both_bits (get_or left.valid i 0) (get_or right.valid j 0) (first.each i) (second.each j))
    ∙ all_keys lefts rights (is_live left.valid i && is_live right.valid j) keys
    ∙ ap (λ b. cond b 1 0) (regrouped (is_live left.valid i) (is_live right.valid j) (have_equal_keys keys lefts rights))

pub pairs_are : (keys : List (ℕ × ℕ)) (n m : ℕ) (left right : Table) → AreBits left.valid → AreBits right.valid → pair_lanes keys n m left right ≡ match_words keys left right n m
pairs_are keys n m left right first second =
    map_agree (λ p. pair_word keys left right (p / m) (p % m)) (λ p. cond (rows_match keys left right (p / m) (p % m)) 1 0) (range_with_len 0 (n * m))
    (λ k d h. pair_is keys left right _ _ first second)

-- ---- AND words

pub key_cost : (total i : ℕ) → total * (7 * i + 1) + 7 * total ≡ total * (7 * (i + 1) + 1)
key_cost total i =
    let more : 7 * (i + 1) + 1 ≡ (7 * i + 1) + 7 = omega arith in
    ap (λ n. total * (7 * i + 1) + n) (mul_comm 7 total) ∙ sym (mul-add total (7 * i + 1) 7) ∙ ap (λ n. total * n) (sym more)

pub valid_paid : (total keys before after count : ℕ) → after ≤ before + count → count ≡ total → after ≤ before + total * (7 * keys + 1)
valid_paid total keys before after count paid same =
    let one : total * 1 ≤ total * (7 * keys + 1) = mul-le-mul_left total (omega arith) in
    let alone : total * 1 ≡ total = mul-one total in
    omega (arith, paid, same, one, alone)

pub key_paid : (total i before now after count : ℕ) → now ≤ before + total * (7 * i + 1) → after ≤ now + 7 * count → count ≡ total → after ≤ before + total * (7 * (i + 1) + 1)
key_paid total i before now after count so_far paid same = omega (arith, so_far, paid, same, key_cost total i)

pub keys_at_most : (total i keys before after : ℕ) → i < keys → after ≤ before + total * (7 * (i + 1) + 1) → after ≤ before + total * (7 * keys + 1)
keys_at_most total i keys before after inside paid =
    let more : total * (7 * (i + 1) + 1) ≤ total * (7 * keys + 1) = mul-le-mul_left total (omega (arith, inside)) in
    omega (arith, paid, more)

-- ---- the columns of keys

pub key_within : (of_key : ℕ × ℕ → ℕ) (keys : List (ℕ × ℕ)) (width i : ℕ) (d : ℕ × ℕ) → HasColumns (map of_key keys) width → i < length keys → of_key (get_or keys i d) < width
key_within of_key keys width i d within inside =
    let here : of_key (get_or keys i d) ≡ get_or (map of_key keys) i (of_key d) = sym (get_or-map of_key keys i d) in
    let below : get_or (map of_key keys) i (of_key d) < width = within i (of_key d) (omega (arith, inside, length-map keys of_key)) in
    omega (arith, here, below)

pub indexed_wide : (shape : List ℕ) (lanes : ℕ) (wires : List Wire) (k : ℕ) (wire : Wire) → wire ≡ get_or wires k wire → k < length wires → All (IsWide shape lanes) wires → IsWide shape lanes wire
indexed_wide shape lanes wires k wire same inside all = subst (IsWide shape lanes) (sym same) (all k wire inside)

pub indexed_words : (v : Environment) (wires : List Wire) (k : ℕ) (wire : Wire) → wire ≡ get_or wires k wire → k < length wires → words v wire ≡ column_at (map (words v) wires) k
indexed_words v wires k wire same inside = ap (words v) same ∙ sym (lists.get_or-map (words v) wires k wire [] inside)
