-- Words of padded tables stay below 2 ^ 64, and their lists have the lengths of their shapes. Lemmas with their proofs.
use Rattle.std.proofs.Common.{◌≡◌, ℕ, zero, suc, ◌+◌, ◌^◌, ◌<◌, Bool, true, false, cond, ltb, List, [], ◌∷◌, ◌++◌, length, map, get_or, take, refl, sym, ◌∙◌, subst, arith, true≢false}
use Rattle.std.specs.Prelude.{IsTrue, ◌&&◌, ◌==◌}
use Rattle.std.specs.List.{AllByRecursion, list_all, range_with_len}
use Rattle.std.specs.Ordering.{is_lt}
use Rattle.std.specs.declared.cmp.Ordering.{Ordering}
use Rattle.std.proofs.lemmas.Bool.{eqb-true}
use Rattle.std.proofs.lemmas.List.{length-map}
use Rattle.std.proofs.lemmas.List.FromFn.{length-range_with_len}
use Rattle.bags.specs.Sorted.{insert_by, sorted_by}
use Rattle.lanes.specs.Word.{AreWords}
use Rattle.tapes.specs.Align.{row_at}
use Rattle.tapes.specs.RowLaws.{row_across}
use Rattle.padded.specs.Table.{pad, padded_column, padded_columns, padded_valid, rows_in, live}
use Rattle.step_lists.specs.Shapes.{HasLength, HasShape, HaveShapes}
use Rattle.step_lists.specs.declared.step.Shape.{Shape}
use Rattle.step_lists.specs.declared.step.Shape.TheVariants as shapes
use Rattle.clear_tasks.specs.TableShapes.{is_table, is_words_of}

-- ---- lists in which each item has something

all_mapped : {A B : Type 0} (P : B → Type 0) (f : A → B) (xs : List A) → ((x : A) → P (f x)) → AllByRecursion P (map f xs)
all_mapped P f [] h = tt
all_mapped P f (x ∷ xs) h = (h x, all_mapped P f xs h)

all_behind : {A : Type 0} (P : A → Type 0) (xs : List A) (y : A) → AllByRecursion P xs → P y → AllByRecursion P (xs ++ y ∷ [])
all_behind P [] y h k = (k, tt)
all_behind P (x ∷ xs) y h k = (h.0, all_behind P xs y h.1 k)

pub all_taken : {A : Type 0} (P : A → Type 0) (n : ℕ) (xs : List A) → AllByRecursion P xs → AllByRecursion P (take n xs)
all_taken P zero xs h = tt
all_taken P (suc n) [] h = tt
all_taken P (suc n) (x ∷ xs) h = (h.0, all_taken P n xs h.1)

pub all_weaker : {A : Type 0} (P Q : A → Type 0) (xs : List A) → ((x : A) → P x → Q x) → AllByRecursion P xs → AllByRecursion Q xs
all_weaker P Q [] w h = tt
all_weaker P Q (x ∷ xs) w h = (w x h.0, all_weaker P Q xs w h.1)

all_at : {A : Type 0} (P : A → Type 0) (xs : List A) (k : ℕ) (d : A) → P d → AllByRecursion P xs → P (get_or xs k d)
all_at P [] k d e h = e
all_at P (x ∷ xs) zero d e h = h.0
all_at P (x ∷ xs) (suc k) d e h = all_at P xs k d e h.1

inserted : {A : Type 0} (P : A → Type 0) (cmp : A → A → Ordering) (x : A) (xs : List A) → P x → AllByRecursion P xs → AllByRecursion P (insert_by cmp x xs)
inserted P cmp x [] e h = (e, tt)
inserted P cmp x (y ∷ ys) e h = by (is_lt (cmp y x)) (inserted P cmp x ys e h.1)
  where
    by : (b : Bool) → AllByRecursion P (insert_by cmp x ys) → AllByRecursion P (cond b (y ∷ insert_by cmp x ys) (x ∷ y ∷ ys))
    by true rest = (h.0, rest)
    by false rest = (e, h)

pub all_sorted : {A : Type 0} (P : A → Type 0) (cmp : A → A → Ordering) (xs : List A) → AllByRecursion P xs → AllByRecursion P (sorted_by cmp xs)
all_sorted P cmp [] h = tt
all_sorted P cmp (x ∷ xs) h = inserted P cmp x (sorted_by cmp xs) h.0 (all_sorted P cmp xs h.1)

pub all_inside : {A : Type 0} (P : A → Type 0) (xs : List A) (k : ℕ) (d : A) → k < length xs → AllByRecursion P xs → P (get_or xs k d)
all_inside P [] k d i h = absurd (omega arith)
all_inside P (x ∷ xs) zero d i h = h.0
all_inside P (x ∷ xs) (suc k) d i h = all_inside P xs k d (omega arith) h.1

-- ---- words

no_words : AreWords []
no_words = record { below = λ k. omega arith }

mapped_below : {A : Type 0} (f : A → ℕ) (xs : List A) (k : ℕ) → ((x : A) → f x < 2 ^ 64) → get_or (map f xs) k 0 < 2 ^ 64
mapped_below f [] k h = omega arith
mapped_below f (x ∷ xs) zero h = h x
mapped_below f (x ∷ xs) (suc k) h = mapped_below f xs k h

across_below : (columns : List (List ℕ)) (place k : ℕ) → AllByRecursion AreWords columns → get_or (row_across columns place) k 0 < 2 ^ 64
across_below [] place k h = omega arith
across_below (c ∷ cs) place zero h = h.0.below place
across_below (c ∷ cs) place (suc k) h = across_below cs place k h.1

pub rows_words : (columns : List (List ℕ)) (valid : List ℕ) → AllByRecursion AreWords columns → AllByRecursion AreWords (rows_in columns valid)
rows_words columns valid h = all_mapped AreWords (row_across columns) (live valid) (λ place. record { below = λ k. across_below columns place k h })

-- ---- the padded table of rows

column_fits : (count : ℕ) (rows : List (List ℕ)) (column : ℕ) → AllByRecursion AreWords rows → HasLength count (padded_column count rows column)
column_fits count rows column h = record {
  long = length-map (range_with_len 0 count) (λ place. get_or (row_at rows place) column 0) ∙ length-range_with_len 0 count;
  below = record {
    below = λ k. mapped_below (λ place. get_or (row_at rows place) column 0) (range_with_len 0 count) k (λ place. (all_at AreWords rows place [] no_words h).below column);
  };
}

flag_below : (b : Bool) → cond b 1 0 < 2 ^ 64
flag_below true = omega arith
flag_below false = omega arith

valid_fits : (count : ℕ) (rows : List (List ℕ)) → HasLength count (padded_valid count rows)
valid_fits count rows = record {
  long = length-map (range_with_len 0 count) (λ place. cond (ltb place (length rows)) 1 0) ∙ length-range_with_len 0 count;
  below = record { below = λ k. mapped_below (λ place. cond (ltb place (length rows)) 1 0) (range_with_len 0 count) k (λ place. flag_below (ltb place (length rows))) };
}

pub pad_fits : (width count : ℕ) (rows : List (List ℕ)) → AllByRecursion AreWords rows → AllByRecursion (HasLength count) (pad width count rows)
pad_fits width count rows h =
    all_behind (HasLength count) (padded_columns width count rows) (padded_valid count rows)
    (all_mapped (HasLength count) (padded_column count rows) (range_with_len 0 width) (λ column. column_fits count rows column h)) (valid_fits count rows)

-- ---- lists of the shapes of tables

pub both : (a b : Bool) → IsTrue (a && b) → IsTrue a × IsTrue b
both true b h = (refl, h)
both false b h = absurd (true≢false (sym h))

pub shapes_long : (ss : List Shape) (xs : List (List ℕ)) → HaveShapes ss xs → length xs ≡ length ss
shapes_long [] [] h = refl
shapes_long [] (x ∷ xs) h = absurd h
shapes_long (s ∷ ss) [] h = absurd h
shapes_long (s ∷ ss) (x ∷ xs) h = let e = shapes_long ss xs h.1 in omega (arith, e)

pub taken_shapes : (n : ℕ) (ss : List Shape) (xs : List (List ℕ)) → IsTrue (list_all (is_words_of n) ss) → HaveShapes ss xs → AllByRecursion (HasLength n) xs
taken_shapes n [] [] a h = tt
taken_shapes n [] (x ∷ xs) a h = absurd h
taken_shapes n (s ∷ ss) [] a h = absurd h
taken_shapes n (s ∷ ss) (x ∷ xs) a h =
    let p = both (is_words_of n s) (list_all (is_words_of n) ss) a in
    (one s p.0 h.0, taken_shapes n ss xs p.1 h.1)
  where
    one : (s : Shape) → IsTrue (is_words_of n s) → HasShape s x → HasLength n x
    one (shapes.Words k) i f = subst (λ m. HasLength m x) (eqb-true k n i) f
    one (shapes.OrderOf k) i f = absurd (true≢false (sym i))

pub given_shapes : (n : ℕ) (ss : List Shape) (xs : List (List ℕ)) → IsTrue (list_all (is_words_of n) ss) → length xs ≡ length ss → AllByRecursion (HasLength n) xs → HaveShapes ss xs
given_shapes n [] [] a e h = tt
given_shapes n [] (x ∷ xs) a e h = absurd (omega (arith, e))
given_shapes n (s ∷ ss) [] a e h = absurd (omega (arith, e))
given_shapes n (s ∷ ss) (x ∷ xs) a e h =
    let p = both (is_words_of n s) (list_all (is_words_of n) ss) a in
    (one s p.0 h.0, given_shapes n ss xs p.1 (omega (arith, e)) h.1)
  where
    one : (s : Shape) → IsTrue (is_words_of n s) → HasLength n x → HasShape s x
    one (shapes.Words k) i f = subst (λ m. HasLength m x) (sym (eqb-true k n i)) f
    one (shapes.OrderOf k) i f = absurd (true≢false (sym i))

-- a table's shapes: as many as its columns and one
pub record TableFits (columns n : ℕ) (xs : List (List ℕ)) : Type 0 where
  pub long : length xs ≡ columns + 1
  pub all : AllByRecursion (HasLength n) xs

pub table_fits : (columns n : ℕ) (ss : List Shape) (xs : List (List ℕ)) → IsTrue (is_table columns n ss) → HaveShapes ss xs → TableFits columns n xs
table_fits columns n ss xs a h =
    let p = both (length ss == columns + 1) (list_all (is_words_of n) ss) a in
    record { long = shapes_long ss xs h ∙ eqb-true (length ss) (columns + 1) p.0; all = taken_shapes n ss xs p.1 h }

pub table_given : (columns n : ℕ) (ss : List Shape) (xs : List (List ℕ)) → IsTrue (is_table columns n ss) → TableFits columns n xs → HaveShapes ss xs
table_given columns n ss xs a h =
    let p = both (length ss == columns + 1) (list_all (is_words_of n) ss) a in
    given_shapes n ss xs p.1 (h.long ∙ sym (eqb-true (length ss) (columns + 1) p.0)) h.all
