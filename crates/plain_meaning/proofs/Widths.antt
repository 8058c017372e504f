-- Rows of one width, and the tables that they come from.
use Rattle.std.proofs.Common.{◌≡◌, ℕ, ◌+◌, ◌<◌, zero-add, List, [], ◌∷◌, ◌++◌, Option, Some, None, map, length, get_or, sym, ◌∙◌, ap, subst}
use Rattle.std.specs.List.{All, flat_map}
use Rattle.std.proofs.lemmas.List.{get_or-map, length-map}
use Rattle.std.proofs.lemmas.List.Elements.{All-append, All-head, All-map, All-nil, All-tail, All-take}
use Rattle.tables.specs.Content.{Content}
use Rattle.plain_operators.specs.Limits.{first_of}
use Rattle.plain_operators.specs.Sizes.{AllWide, OperatorsKeepWidths}
use Rattle.plain_meaning.specs.Fits.{width_at, widths_of}
use Rattle.plain_operators.specs.declared.aggregate.Aggregate.{Aggregate}
use Rattle.plain_operators.specs.Operators.{rows_of_items, whole_table_rows}
use Rattle.plain_operators.specs.OnSources.{group_of_rows}
use Rattle.plain_meaning.specs.Meaning.{rows_of}

-- what is asked of rows by their width
pub fits_rows : {X : Type 0} (P : ℕ → Type 0) (f : X → List ℕ) (xs : List X) (rows : List (List ℕ)) (w : ℕ) → map f xs ≡ rows → AllWide w rows → P w → All (λ x. P (length (f x))) xs
fits_rows P f xs rows w e wide h k d below =
    let inside : k < length rows = subst (λ n. k < n) (sym (length-map xs f) ∙ ap length e) below in
    let at : get_or rows k (f d) ≡ f (get_or xs k d) = ap (λ l. get_or l k (f d)) (sym e) ∙ get_or-map f xs k d (f d) below in
    let long : length (get_or rows k (f d)) ≡ w = wide k (f d) inside in
    subst P (sym long ∙ ap length at) h

pub wide_rows : {X : Type 0} (f : X → List ℕ) (xs : List X) (rows : List (List ℕ)) (w v : ℕ) → map f xs ≡ rows → AllWide w rows → w ≡ v → All (λ x. length (f x) ≡ v) xs
wide_rows f xs rows w v e wide same = fits_rows (λ n. n ≡ v) f xs rows w e wide same

-- a table of these, by its number
pub source_is : (tables : List Content) (s : ℕ) (t : Content) → s < length tables → get_or tables s t ≡ t → (t.rows ≡ rows_of (map (λ t. t.rows) tables) s) × (length t.columns ≡ width_at (widths_of tables) s)
source_is tables s t below e = (
  ap (λ t. t.rows) (sym e) ∙ sym (get_or-map (λ t. t.rows) tables s t [] below),
  ap (λ t. length t.columns) (sym e) ∙ sym (get_or-map (λ t. length t.columns) tables s t 0 below),
)

pub group_of_rows-AllWide : OperatorsKeepWidths → (keys : List ℕ) (aggregates : List Aggregate) (rows : List (List ℕ)) → AllWide (length keys + length aggregates) (group_of_rows keys aggregates rows)
group_of_rows-AllWide widths [] aggregates rows = subst (λ n. AllWide n (whole_table_rows aggregates rows)) (sym (zero-add (length aggregates))) (widths.whole aggregates rows)
group_of_rows-AllWide widths (key ∷ keys) aggregates rows = widths.grouped (key ∷ keys) aggregates rows

pub rows_of_items-AllWide : (items : List (List ℕ → ℕ)) (rows : List (List ℕ)) → AllWide (length items) (rows_of_items items rows)
rows_of_items-AllWide items rows = All-map (λ row. length row ≡ length items) (λ row. map (λ item. item row) items) rows (λ k d below. length-map items (λ item. item (get_or rows k d)))

-- what holds of each element holds of the first ones
pub All-first_of : {X : Type 0} (limit : Option ℕ) (P : X → Type 0) (xs : List X) → All P xs → All P (first_of limit xs)
All-first_of None P xs all = all
All-first_of (Some limit) P xs all = All-take P limit xs all

-- and what holds of each piece holds of the pieces one behind the other
pub All-flat_map : {X Y : Type 0} (P : Y → Type 0) (f : X → List Y) (xs : List X) → All (λ x. All P (f x)) xs → All P (flat_map f xs)
All-flat_map P f [] all = All-nil P
All-flat_map P f (x ∷ xs) all = All-append P (f x) (flat_map f xs) (All-head (λ z. All P (f z)) x xs all) (All-flat_map P f xs (All-tail (λ z. All P (f z)) x xs all))
