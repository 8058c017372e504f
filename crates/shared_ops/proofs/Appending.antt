-- Tables one behind the other, wire by wire.
use Rattle.std.proofs.Common.{◌≡◌, ℕ, ◌+◌, ◌-◌, ◌<◌, ◌≤◌, ⊎_elim, List, [], ◌∷◌, ◌++◌, map, length, get_or, refl, sym, ap, ◌∙◌, subst, arith}
use Rattle.std.specs.Prelude.{All, sum_by}
use Rattle.std.specs.List.{flat_map, range_with_len}
use Rattle.std.proofs.lemmas.Bool.{cases_lt}
use Rattle.std.proofs.lemmas.List.{get_or-append-add, get_or-map, get_or_append_left, length-map}
use Rattle.std.proofs.lemmas.List.Concat.{length-flat_map}
use Rattle.std.proofs.lemmas.List.Elements.{All-head, All-map, All-tail}
use Rattle.std.proofs.lemmas.List.FromFn.{fill_by_all, get_or-range_with_len, length-range_with_len}
use Rattle.std.proofs.lemmas.List.Sums.{sum_by-cons}
use Rattle.lanes.specs.Lanes.{picked}
use Rattle.wires.specs.Environment.{Environment, all_words, words}
use Rattle.wires.specs.Growth.{AreMade, Grows, HasLanes, IsMade, lanes_of, total_lanes}
use Rattle.wires.specs.declared.wire.Wire.{Wire}
use Rattle.padded.specs.Laws.{RowsOfAppended}
use Rattle.padded.specs.Table.{AreBits, IsTable, Table, appended_column, column_at, rows_in, table_rows}
use Rattle.shared_ops.specs.declared.joint.Joint.{Joint}
use Rattle.shared_ops.proofs.Elements.{map_agree, range_below}
use Rattle.shared_ops.proofs.Growing.{wide_on}
use Rattle.shared_ops.specs.Joint.{AllBits, AreJoint, IsWide, column_wire, column_words, joint_count, joint_rows, valid_words}

-- all places of a list, picked
pub picked_all : (n : ℕ) (xs : List ℕ) → n ≡ length xs → picked (range_with_len 0 n) xs ≡ xs
picked_all n xs same = ap (λ m. picked (range_with_len 0 m) xs) same ∙ sym (fill_by_all (λ k. get_or xs k 0) xs (length xs) 0 refl (λ k h. refl))

sum_same : {X : Type 0} (f g : X → ℕ) (xs : List X) → All (λ x. f x ≡ g x) xs → sum_by f xs ≡ sum_by g xs
sum_same f g [] all = refl
sum_same f g (x ∷ xs) all = sum_by-cons f x xs ∙ (λ i. All-head (λ y. f y ≡ g y) x xs all i + sum_same f g xs (All-tail (λ y. f y ≡ g y) x xs all) i) ∙ sym (sum_by-cons g x xs)

sum-map : {X Y : Type 0} (f : Y → ℕ) (g : X → Y) (xs : List X) → sum_by f (map g xs) ≡ sum_by (λ x. f (g x)) xs
sum-map f g [] = refl
sum-map f g (x ∷ xs) = sum_by-cons f (g x) (map g xs) ∙ ap (λ n. f (g x) + n) (sum-map f g xs) ∙ sym (sum_by-cons (λ y. f (g y)) x xs)

-- wires one behind the other have as many words as lanes
pub all_lanes : (shape : List ℕ) (v : Environment) (wires : List Wire) → ((wire : Wire) → IsMade shape wire → HasLanes v wire (lanes_of shape wire)) → AreMade shape wires → length (all_words v wires) ≡ total_lanes shape wires
all_lanes shape v wires fits made =
    length-flat_map (words v) wires ∙ sum_same (λ wire. length (words v wire)) (λ wire. lanes_of shape wire) wires (λ k d h. (fits (get_or wires k d) (made k d h)).count)

-- a wire of each table
pub parts_made : (shape : List ℕ) (part : Joint → Wire) (tables : List Joint) → All (λ t. IsWide shape t.rows (part t)) tables → AreMade shape (map part tables)
parts_made shape part tables all = All-map (IsMade shape) part tables (λ k d h. (all k d h).made)

pub parts_lanes : (shape : List ℕ) (part : Joint → Wire) (tables : List Joint) → All (λ t. IsWide shape t.rows (part t)) tables → total_lanes shape (map part tables) ≡ joint_count tables
parts_lanes shape part tables all = sum-map (λ wire. lanes_of shape wire) part tables ∙ sum_same (λ t. lanes_of shape (part t)) (λ t. t.rows) tables (λ k d h. (all k d h).wide)

pub valid_wide : (shape : List ℕ) (tables : List Joint) → AreJoint shape tables → All (λ t. IsWide shape t.rows t.valid) tables
valid_wide shape tables all k d h = (all k d h).valid

pub column_wide : (shape : List ℕ) (tables : List Joint) (column : ℕ) → AreJoint shape tables → All (λ t. column < length t.columns.items) tables → All (λ t. IsWide shape t.rows (column_wire column t)) tables
column_wide shape tables column all within k d h = (all k d h).columns column ((get_or tables k d).valid) (within k d h)

-- the bits of each table are bits one behind the other
later_word : (xs ys : List ℕ) → AreBits xs → AreBits ys → AreBits (xs ++ ys)
later_word xs ys first rest = record {
  each = λ k. ⊎_elim
      (λ (h : k < length xs). rw (get_or_append_left xs ys 0 k h) (first.each k))
      (λ (h : length xs ≤ k).
      let place : length xs + (k - length xs) ≡ k = omega arith in
      subst (λ (n : ℕ). get_or (xs ++ ys) n 0 ≤ 1) place (rw (get_or-append-add xs ys (k - length xs) 0) (rest.each (k - length xs))))
      (cases_lt k (length xs));
}

pub all_bits : (v : Environment) (tables : List Joint) → AllBits v tables → AreBits (all_words v (map (λ t. t.valid) tables))
all_bits v [] all = record { each = λ k. omega arith }
all_bits v (t ∷ tables) all =
    later_word (valid_words v t) (all_words v (map (λ u. u.valid) tables)) (All-head (λ u. AreBits (valid_words v u)) t tables all) (all_bits v tables (All-tail (λ u. AreBits (valid_words v u)) t tables all))

-- a joint table as a padded one
abbrev pub table_of : Environment → Joint → Table
table_of v t = record { columns = column_words v t; valid = valid_words v t }

valid_is : (v : Environment) (tables : List Joint) → all_words v (map (λ t. t.valid) tables) ≡ flat_map (λ table. table.valid) (map (table_of v) tables)
valid_is v [] = refl
valid_is v (t ∷ tables) = ap (λ l. valid_words v t ++ l) (valid_is v tables)

column_is : (v : Environment) (tables : List Joint) (k : ℕ) → All (λ t. k < length t.columns.items) tables → all_words v (map (column_wire k) tables) ≡ appended_column (map (table_of v) tables) k
column_is v [] k all = refl
column_is v (t ∷ tables) k all =
    let here : words v (column_wire k t) ≡ column_at (column_words v t) k = sym (get_or-map (words v) t.columns.items k t.valid [] (All-head (λ u. k < length u.columns.items) t tables all)) in
    λ i. here i ++ column_is v tables k (All-tail (λ u. k < length u.columns.items) t tables all) i

rows_are : (v : Environment) (tables : List Joint) → flat_map table_rows (map (table_of v) tables) ≡ flat_map (joint_rows v) tables
rows_are v [] = refl
rows_are v (t ∷ tables) = ap (λ l. joint_rows v t ++ l) (rows_are v tables)

-- the columns and the valid words that were made are those of the tables one behind the other
pub appended_rows : RowsOfAppended → (v : Environment) (tables : List Joint) (width : ℕ) (columns : List (List ℕ)) (valid : List ℕ) → All (λ t. length t.columns.items ≡ width) tables
    → All (λ t. All (λ column. length column ≡ length (valid_words v t)) (column_words v t)) tables
    → columns ≡ map (λ k. all_words v (map (column_wire k) tables)) (range_with_len 0 width) → valid ≡ all_words v (map (λ t. t.valid) tables)
    → rows_in columns valid ≡ flat_map (joint_rows v) tables
appended_rows law v tables width columns valid wide long columns_are valid_are =
    let numbers = range_with_len 0 width in
    let padded = map (table_of v) tables in
    let same : map (λ k. all_words v (map (column_wire k) tables)) numbers ≡ map (appended_column padded) numbers =
    map_agree (λ k. all_words v (map (column_wire k) tables)) (appended_column padded) numbers
    (λ k d h. column_is v tables (get_or numbers k d) (λ j e w. let below : get_or numbers k d < width = range_below width k d h in let is : length (get_or tables j e).columns.items ≡ width = wide j e w in omega arith)) in
    (λ i. rows_in ((columns_are ∙ same) i) ((valid_are ∙ valid_is v tables) i))
    ∙ law width padded (All-map (IsTable width) (table_of v) tables (λ k d h. record { wide = length-map (get_or tables k d).columns.items (words v) ∙ wide k d h; lengths = long k d h }))
    ∙ rows_are v tables

-- ---- the places of what is appended

pub places_few : (places : List ℕ) (n : ℕ) → places ≡ range_with_len 0 n → length places ≡ n
places_few places n is = ap length is ∙ length-range_with_len 0 n

pub places_within : (places : List ℕ) (n : ℕ) → places ≡ range_with_len 0 n → (k : ℕ) → k < length places → get_or places k 0 < n
places_within places n is k h =
    let inside : k < n = omega (arith, places_few places n is) in
    let here : get_or places k 0 ≡ 0 + k = ap (λ l. get_or l k 0) is ∙ get_or-range_with_len 0 n k 0 inside in
    omega (arith, here)

pub picked_is : (places : List ℕ) (n : ℕ) (xs : List ℕ) → places ≡ range_with_len 0 n → length xs ≡ n → picked places xs ≡ xs
picked_is places n xs is same = ap (λ ps. picked ps xs) is ∙ picked_all n xs (sym same)

-- joint tables of a state stay such
pub joint_on : {S : Type 0} (grown : S → S → Type 0) (possible : S → Environment → Type 0) (shape : S → List ℕ) (old new : S) (tables : List Joint)
    → Grows grown possible shape old new → AreJoint (shape old) tables → AreJoint (shape new) tables
joint_on grown possible shape old new tables grows all k d h =
    let t = get_or tables k d in
    let is = all k d h in
    record {
      valid = wide_on grown possible shape old new t.valid t.rows grows is.valid;
      columns = λ j e w. wide_on grown possible shape old new (get_or t.columns.items j e) t.rows grows (is.columns j e w);
    }
