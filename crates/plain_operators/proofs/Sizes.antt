-- How wide, how many and how large the rows of an operator are.
use Rattle.std.proofs.Common.{◌≡◌, ℕ, ◌+◌, ◌-◌, ◌*◌, ◌^◌, ◌<◌, ◌≤◌, min, max, not, List, [], ◌∷◌, ◌++◌, map, length, ◌∙◌, arith, inl, inr}
use Rattle.std.specs.List.{All, filter, fold}
use Rattle.std.proofs.lemmas.List.{length-append, length-map}
use Rattle.std.proofs.lemmas.List.Elements.{All-nil, All-append, All-cons, All-filter, All-get_or, All-head, All-map, All-tail, All-weaker}
use Rattle.std.proofs.lemmas.List.{get_or_past}
use Rattle.std.proofs.lemmas.Bool.{cases_lt}
use Rattle.bags.specs.Bag.{row_eq}
use Rattle.plain_operators.specs.Columns.{cut, others, other_columns, word_at}
use Rattle.plain_operators.specs.declared.aggregate.Aggregate.{Aggregate}
use Rattle.plain_operators.specs.declared.aggregate.Aggregate.TheVariants.{Sum, Count, Least, Greatest}
use Rattle.plain_operators.specs.Operators.{aggregated, aggregates_of, distinct_rows, grouped_row, grouped_rows, have_equal_keys, joined_row, joined_rows, joined_rows_of, key_lists, left_keys, right_keys, rows_with, whole_table_rows}
use Rattle.plain_operators.specs.Sizes.{AllWide, IsOfWords, joined_width}
use Rattle.plain_operators.proofs.DistinctRows.{All-distinct_rows}
use Rattle.plain_operators.proofs.Lists.{All-each, All-flat_map, length-filter-le}

-- widths

pub length-cut : (columns row : List ℕ) → length (cut columns row) ≡ length columns
length-cut columns row = length-map columns (λ column. word_at column row)

pub length-joined_row : (keys : List (ℕ × ℕ)) (left right : List ℕ) → length (joined_row keys left right) ≡ joined_width keys (length left) (length right)
length-joined_row keys left right =
    let lk = left_keys keys in
    let rk = right_keys keys in
    let keyed = length-cut lk left ∙ length-map keys (λ (key : ℕ × ℕ). key.0) in
    let left_others = length-cut (other_columns lk (length left)) left in
    let right_others = length-cut (other_columns rk (length right)) right in
    length-append (cut lk left) (others lk left ++ others rk right) ∙ (λ i. keyed i + (length-append (others lk left) (others rk right) ∙ (λ j. left_others j + right_others j)) i)

pub joined_rows-AllWide : (keys : List (ℕ × ℕ)) (left right : ℕ) (lefts rights : List (List ℕ)) → AllWide left lefts → AllWide right rights → AllWide (joined_width keys left right) (joined_rows keys lefts rights)
joined_rows-AllWide keys left right lefts rights wide wide_too =
    let P : List ℕ → Type 0 = λ row. length row ≡ joined_width keys left right in
    let of_left : (row : List ℕ) → length row ≡ left → All P (joined_rows_of keys rights row) = λ row e.
    let kept = All-filter (have_equal_keys keys row) (λ other. length other ≡ right) rights wide_too in
    All-map P (joined_row keys row) (filter (have_equal_keys keys row) rights)
    (All-weaker (λ other. length other ≡ right) (λ other. P (joined_row keys row other)) (λ other f. length-joined_row keys row other ∙ (λ i. joined_width keys (e i) (f i))) (filter (have_equal_keys keys row) rights) kept) in
    All-flat_map P (joined_rows_of keys rights) lefts (All-weaker (λ row. length row ≡ left) (λ row. All P (joined_rows_of keys rights row)) of_left lefts wide)

pub grouped_rows-AllWide : (keys : List ℕ) (aggregates : List Aggregate) (rows : List (List ℕ)) → AllWide (length keys + length aggregates) (grouped_rows keys aggregates rows)
grouped_rows-AllWide keys aggregates rows =
    let P : List ℕ → Type 0 = λ row. length row ≡ length keys + length aggregates in
    let wide : All (λ key. length key ≡ length keys) (key_lists keys rows) = All-distinct_rows (λ key. length key ≡ length keys) (map (cut keys) rows) (All-map (λ key. length key ≡ length keys) (cut keys) rows (All-each (λ row. length (cut keys row) ≡ length keys) (length-cut keys) rows)) in
    let whole : (key : List ℕ) → length key ≡ length keys → P (grouped_row keys aggregates rows key) = λ key e.
    length-append key (aggregates_of aggregates (rows_with keys rows key)) ∙ (λ i. e i + length-map aggregates (λ aggregate. aggregated aggregate (rows_with keys rows key)) i) in
    All-map P (grouped_row keys aggregates rows) (key_lists keys rows) (All-weaker (λ key. length key ≡ length keys) (λ key. P (grouped_row keys aggregates rows key)) whole (key_lists keys rows) wide)

pub whole_table_rows-AllWide : (aggregates : List Aggregate) (rows : List (List ℕ)) → AllWide (length aggregates) (whole_table_rows aggregates rows)
whole_table_rows-AllWide aggregates [] = All-nil (λ row. length row ≡ length aggregates)
whole_table_rows-AllWide aggregates (row ∷ rows) =
    let P : List ℕ → Type 0 = λ words. length words ≡ length aggregates in
    All-cons P (aggregates_of aggregates (row ∷ rows)) [] (length-map aggregates (λ aggregate. aggregated aggregate (row ∷ rows))) (All-nil P)

-- words

pub cut-IsOfWords : (columns row : List ℕ) → IsOfWords row → IsOfWords (cut columns row)
cut-IsOfWords columns row words =
    let P : ℕ → Type 0 = λ word. word < 2 ^ 64 in
    let at : (column : ℕ) → P (word_at column row) = λ column. elim (cases_lt column (length row)) [ inl inside ↦ All-get_or P row column 0 inside words | inr past ↦ rw (get_or_past row column 0 past) (omega arith) ] in
    All-map P (λ column. word_at column row) columns (All-each (λ column. P (word_at column row)) at columns)

pub joined_rows-IsOfWords : (keys : List (ℕ × ℕ)) (lefts rights : List (List ℕ)) → All IsOfWords lefts → All IsOfWords rights → All IsOfWords (joined_rows keys lefts rights)
joined_rows-IsOfWords keys lefts rights words words_too =
    let W : ℕ → Type 0 = λ word. word < 2 ^ 64 in
    let lk = left_keys keys in
    let rk = right_keys keys in
    let row_words : (left right : List ℕ) → IsOfWords left → IsOfWords right → IsOfWords (joined_row keys left right) = λ left right h k.
    All-append W (cut lk left) (others lk left ++ others rk right) (cut-IsOfWords lk left h)
    (All-append W (others lk left) (others rk right) (cut-IsOfWords (other_columns lk (length left)) left h) (cut-IsOfWords (other_columns rk (length right)) right k)) in
    let of_left : (left : List ℕ) → IsOfWords left → All IsOfWords (joined_rows_of keys rights left) = λ left h.
    let p = have_equal_keys keys left in
    All-map IsOfWords (joined_row keys left) (filter p rights) (All-weaker IsOfWords (λ right. IsOfWords (joined_row keys left right)) (λ right k. row_words left right h k) (filter p rights) (All-filter p IsOfWords rights words_too)) in
    All-flat_map IsOfWords (joined_rows_of keys rights) lefts (All-weaker IsOfWords (λ left. All IsOfWords (joined_rows_of keys rights left)) of_left lefts words)

-- the words of a column of rows of words
column_words : (column : ℕ) (rows : List (List ℕ)) → All IsOfWords rows → IsOfWords (map (word_at column) rows)
column_words column rows words =
    let P : ℕ → Type 0 = λ word. word < 2 ^ 64 in
    let at : (row : List ℕ) → IsOfWords row → P (word_at column row) = λ row h. All-head P (word_at column row) [] (cut-IsOfWords (column ∷ []) row h) in
    All-map P (word_at column) rows (All-weaker IsOfWords (λ row. P (word_at column row)) at rows words)

least_below : (start : ℕ) (words : List ℕ) → fold min start words ≤ start
least_below start [] = omega arith
least_below start (w ∷ ws) = let rest = least_below (min start w) ws in omega arith

greatest_below : (start : ℕ) (words : List ℕ) → start < 2 ^ 64 → IsOfWords words → fold max start words < 2 ^ 64
greatest_below start [] small all = small
greatest_below start (w ∷ ws) small all =
    let here = All-head (λ word. word < 2 ^ 64) w ws all in
    greatest_below (max start w) ws (omega arith) (All-tail (λ word. word < 2 ^ 64) w ws all)

pub aggregated_word : (aggregate : Aggregate) (rows : List (List ℕ)) → length rows < 2 ^ 64 → All IsOfWords rows → aggregated aggregate rows < 2 ^ 64
aggregated_word (Sum column) rows few words = omega arith
aggregated_word Count rows few words = few
aggregated_word (Least column) rows few words = let below = least_below (2 ^ 64 - 1) (map (word_at column) rows) in omega arith
aggregated_word (Greatest column) rows few words = greatest_below 0 (map (word_at column) rows) (omega arith) (column_words column rows words)

pub aggregates_of-IsOfWords : (aggregates : List Aggregate) (rows : List (List ℕ)) → length rows < 2 ^ 64 → All IsOfWords rows → IsOfWords (aggregates_of aggregates rows)
aggregates_of-IsOfWords aggregates rows few words =
    All-map (λ word. word < 2 ^ 64) (λ aggregate. aggregated aggregate rows) aggregates (All-each (λ aggregate. aggregated aggregate rows < 2 ^ 64) (λ aggregate. aggregated_word aggregate rows few words) aggregates)

pub grouped_rows-IsOfWords : (keys : List ℕ) (aggregates : List Aggregate) (rows : List (List ℕ)) → length rows < 2 ^ 64 → All IsOfWords rows → All IsOfWords (grouped_rows keys aggregates rows)
grouped_rows-IsOfWords keys aggregates rows few words =
    let lists : All IsOfWords (key_lists keys rows) = All-distinct_rows IsOfWords (map (cut keys) rows) (All-map IsOfWords (cut keys) rows (All-weaker IsOfWords (λ row. IsOfWords (cut keys row)) (cut-IsOfWords keys) rows words)) in
    let row_words : (key : List ℕ) → IsOfWords key → IsOfWords (grouped_row keys aggregates rows key) = λ key h.
    let own = rows_with keys rows key in
    let p = λ (row : List ℕ). row_eq (cut keys row) key in
    let fewer = length-filter-le p rows in
    All-append (λ word. word < 2 ^ 64) key (aggregates_of aggregates own) h (aggregates_of-IsOfWords aggregates own (omega arith) (All-filter p IsOfWords rows words)) in
    All-map IsOfWords (grouped_row keys aggregates rows) (key_lists keys rows) (All-weaker IsOfWords (λ key. IsOfWords (grouped_row keys aggregates rows key)) row_words (key_lists keys rows) lists)

pub whole_table_rows-IsOfWords : (aggregates : List Aggregate) (rows : List (List ℕ)) → length rows < 2 ^ 64 → All IsOfWords rows → All IsOfWords (whole_table_rows aggregates rows)
whole_table_rows-IsOfWords aggregates [] few words = All-nil IsOfWords
whole_table_rows-IsOfWords aggregates (row ∷ rows) few words = All-cons IsOfWords (aggregates_of aggregates (row ∷ rows)) [] (aggregates_of-IsOfWords aggregates (row ∷ rows) few words) (All-nil IsOfWords)

-- numbers of rows

pub length-distinct_rows-le : (rows : List (List ℕ)) → length (distinct_rows rows) ≤ length rows
length-distinct_rows-le [] = omega arith
length-distinct_rows-le (row ∷ rows) =
    let rest = length-distinct_rows-le rows in
    let kept = length-filter-le (λ other. not (row_eq other row)) (distinct_rows rows) in
    omega arith

pub length-grouped_rows-le : (keys : List ℕ) (aggregates : List Aggregate) (rows : List (List ℕ)) → length (grouped_rows keys aggregates rows) ≤ length rows
length-grouped_rows-le keys aggregates rows =
    let lists = length-map (key_lists keys rows) (grouped_row keys aggregates rows) in
    let keyed = length-map rows (cut keys) in
    let once = length-distinct_rows-le (map (cut keys) rows) in
    omega arith

pub length-joined_rows-le : (keys : List (ℕ × ℕ)) (lefts rights : List (List ℕ)) → length (joined_rows keys lefts rights) ≤ length lefts * length rights
length-joined_rows-le keys [] rights = omega arith
length-joined_rows-le keys (left ∷ lefts) rights =
    let rest = length-joined_rows-le keys lefts rights in
    let here = length-map (filter (have_equal_keys keys left) rights) (joined_row keys left) in
    let kept = length-filter-le (have_equal_keys keys left) rights in
    let both = length-append (joined_rows_of keys rights left) (joined_rows keys lefts rights) in
    grind arith

pub length-whole_table_rows-le : (aggregates : List Aggregate) (rows : List (List ℕ)) → length (whole_table_rows aggregates rows) ≤ 1
length-whole_table_rows-le aggregates [] = omega arith
length-whole_table_rows-le aggregates (row ∷ rows) = omega arith
