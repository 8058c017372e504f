-- Rows that are cut from cells: their number, the one at a place, their lengths, and one more.
use Rattle.std.proofs.Common.{◌≡◌, ℕ, zero, suc, ◌+◌, ◌*◌, ◌^◌, ◌<◌, ◌≤◌, List, [], ◌∷◌, ◌++◌, Some, take, drop, length, refl, sym, ap, ◌∙◌, arith, length-drop}
use Rattle.std.proofs.Math.Nat.{zero-mul, suc-mul, mul-le-mul_right}
use Rattle.std.proofs.lemmas.List.{take-append-le, drop-append-le, drop-drop, length-take-le, take_all}
use Rattle.std.proofs.lemmas.List.Elements.{All-nil, All-cons, All-take, All-drop}
use Rattle.std.specs.Prelude.{All, slice_get}
use Rattle.tables.specs.Table.{rows_cut}

pub length-rows_cut : (width count : ℕ) (cells : List ℕ) → length (rows_cut width count cells) ≡ count
unfolding rows_cut
length-rows_cut width zero cells = refl
length-rows_cut width (suc count) cells = grind (arith, length-rows_cut width count (drop width cells))

-- what is left behind the first row are cells of one row fewer
rest_filled : (width count : ℕ) (cells : List ℕ) → length cells ≡ suc count * width → (width ≤ length cells) × (length (drop width cells) ≡ count * width)
rest_filled width count cells filled =
    let cut = length-drop width cells in
    (grind arith, grind arith)

pub slice_get-rows_cut : (width count : ℕ) (cells : List ℕ) (i : ℕ) → i < count
    → slice_get (rows_cut width count cells) i ≡ Some (take width (drop (i * width) cells))
unfolding rows_cut
slice_get-rows_cut width zero cells i below = absurd (omega arith)
slice_get-rows_cut width (suc count) cells zero below = ap (λ n. Some (take width (drop n cells))) (sym (zero-mul width))
slice_get-rows_cut width (suc count) cells (suc i) below =
    slice_get-rows_cut width count (drop width cells) i (omega arith)
    ∙ ap (λ rest. Some (take width rest)) (drop-drop (i * width) width cells ∙ ap (λ n. drop n cells) (omega (arith, suc-mul i width)))

-- a list of no element
empty_list : (cells : List ℕ) → length cells ≡ 0 → cells ≡ []
empty_list [] none = refl
empty_list (x ∷ xs) none = absurd (omega arith)

pub rows_cut-push : (width count : ℕ) (cells row : List ℕ) → length cells ≡ count * width → length row ≡ width
    → rows_cut width (suc count) (cells ++ row) ≡ rows_cut width count cells ++ row ∷ []
unfolding rows_cut
rows_cut-push width zero cells row filled wide =
    rw (empty_list cells (filled ∙ zero-mul width)) (ap (λ r. r ∷ []) (take_all width row (omega arith)))
rows_cut-push width (suc count) cells row filled wide =
    let rest = rest_filled width count cells filled in
    let first = take-append-le width cells row rest.0 in
    let behind = drop-append-le width cells row rest.0 in
    let further = rows_cut-push width count (drop width cells) row rest.1 wide in
    ap (λ r. r ∷ rows_cut width (suc count) (drop width (cells ++ row))) first
    ∙ ap (λ more. take width cells ∷ rows_cut width (suc count) more) behind
    ∙ ap (λ rows. take width cells ∷ rows) further

-- a row of the table lies within its cells
pub row_within : (i count width cells : ℕ) → i < count → cells ≡ count * width → i * width + width ≤ cells
row_within i count width cells below filled =
    let h : suc i * width ≤ count * width = mul-le-mul_right width (omega arith) in
    omega (arith, h, suc-mul i width)

pub All-rows_cut : (width count : ℕ) (cells : List ℕ) → length cells ≡ count * width → All (λ row. length row ≡ width) (rows_cut width count cells)
unfolding rows_cut
All-rows_cut width zero cells filled = All-nil (λ row. length row ≡ width)
All-rows_cut width (suc count) cells filled =
    let rest = rest_filled width count cells filled in
    All-cons (λ row. length row ≡ width) _ _ (length-take-le width cells rest.0) (All-rows_cut width count (drop width cells) rest.1)

-- and of words, where the cells are
pub words-rows_cut : (width count : ℕ) (cells : List ℕ) → All (λ word. word < 2 ^ 64) cells → All (λ row. All (λ word. word < 2 ^ 64) row) (rows_cut width count cells)
unfolding rows_cut
words-rows_cut width zero cells words = All-nil (λ row. All (λ word. word < 2 ^ 64) row)
words-rows_cut width (suc count) cells words =
    All-cons (λ row. All (λ word. word < 2 ^ 64) row) _ _ (All-take (λ word. word < 2 ^ 64) width cells words)
    (words-rows_cut width count (drop width cells) (All-drop (λ word. word < 2 ^ 64) width cells words))
