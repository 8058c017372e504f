-- The order that aligns two lists of rows: what it is where they are the same bag, and what it does to columns.
use Rattle.std.proofs.Common.{◌≡◌, ℕ, zero, suc, ◌<◌, Bool, true, false, List, [], ◌∷◌, length, get_or, refl, sym, subst, ◌∙◌, ap, arith}
use Rattle.std.specs.List.{AllByRecursion}
use Rattle.std.specs.Cmp.Lexicographic.{bytes_decides}
use Rattle.std.proofs.lemmas.List.{ext_get_or}
use Rattle.std.proofs.lemmas.List.FromFn.{length-map-range_with_len, get_or-map-range_with_len}
use Rattle.bags.specs.Bag.{SameBag, row_eq}
use Rattle.tapes.specs.Order.{inverse_of}
use Rattle.tapes.specs.Align.{Aligns, row_at, occurrence, rows_applied}
use Rattle.tapes.specs.RowLaws.{row_across, rows_across, columns_applied}
use Rattle.step_lists.specs.Twin.{aligning, place_again}
use Rattle.twin.proofs.Facts.{Facts}
use Rattle.twin.proofs.Orders.{HasItems}

found_next : (row r : List ℕ) (j : ℕ) (rows : List (List ℕ)) → row_eq row r ≡ true → place_again row (suc j) (r ∷ rows) ≡ suc (place_again row j rows)
found_next row r j rows e = rw e refl

passed_over : (row r : List ℕ) (j : ℕ) (rows : List (List ℕ)) → row_eq row r ≡ false → place_again row j (r ∷ rows) ≡ suc (place_again row j rows)
passed_over row r zero rows e = rw e refl
passed_over row r (suc j) rows e = rw e refl

found_behind : (r : List ℕ) (rows : List (List ℕ)) (p : ℕ) (b : Bool) → row_eq (row_at rows p) r ≡ b → place_again (row_at rows p) (occurrence rows p) rows ≡ p
    → place_again (row_at rows p) (occurrence (r ∷ rows) (suc p)) (r ∷ rows) ≡ suc p
found_behind r rows p true e found =
    let count : occurrence (r ∷ rows) (suc p) ≡ suc (occurrence rows p) = rw e (omega arith) in
    ap (λ j. place_again (row_at rows p) j (r ∷ rows)) count ∙ (found_next (row_at rows p) r (occurrence rows p) rows e ∙ ap suc found)
found_behind r rows p false e found =
    let count : occurrence (r ∷ rows) (suc p) ≡ occurrence rows p = rw e (omega arith) in
    ap (λ j. place_again (row_at rows p) j (r ∷ rows)) count ∙ (passed_over (row_at rows p) r (occurrence rows p) rows e ∙ ap suc found)

-- the j-th occurrence of a row is found where it stands
place_found : (rows : List (List ℕ)) (p : ℕ) → p < length rows → place_again (row_at rows p) (occurrence rows p) rows ≡ p
place_found [] p h = absurd (omega arith)
place_found (r ∷ rows) zero h = let same : row_eq r r ≡ true = (bytes_decides r r).1 refl in rw same refl
place_found (r ∷ rows) (suc p) h = found_behind r rows p (row_eq (row_at rows p) r) refl (place_found rows p (omega arith))

pub aligning_long : (source target : List (List ℕ)) → length (aligning source target) ≡ length target
aligning_long source target = length-map-range_with_len _ 0 (length target)

aligning_at : (source target : List (List ℕ)) (k : ℕ) → k < length target
    → get_or (aligning source target) k 0 ≡ place_again (row_at target k) (occurrence target k) source
aligning_at source target k h = get_or-map-range_with_len _ 0 (length target) k k 0 h (omega arith)

pub aligning_is : (source target : List (List ℕ)) (d : List ℕ) → Aligns source target d → aligning source target ≡ d
aligning_is source target d a =
    ext_get_or 0 (aligning source target) d (aligning_long source target ∙ sym a.target_long)
    (λ k h.
    let within : k < length target = omega (arith, aligning_long source target) in
    let below : get_or d k 0 < length d = a.order.below k (omega (arith, a.target_long)) in
    aligning_at source target k within
    ∙ (ap (λ row. place_again row (occurrence target k) source) (a.row k within)
    ∙ (ap (λ j. place_again (row_at source (get_or d k 0)) j source) (a.same_occurrence k within)
    ∙ place_found source (get_or d k 0) (omega (arith, a.source_long)))))

pub aligning_aligns : Facts → (source target : List (List ℕ)) → SameBag source target → Aligns source target (aligning source target)
aligning_aligns facts source target same =
    let has = (facts.exist source target).0 same in
    subst (Aligns source target) (sym (aligning_is source target has.0 has.1)) has.1

-- the way back
pub aligning_back : Facts → (source target : List (List ℕ)) → SameBag source target → aligning target source ≡ inverse_of (aligning source target)
aligning_back facts source target same =
    facts.exact.back source target (aligning source target) (aligning target source) (aligning_aligns facts source target same)
    (aligning_aligns facts target source (facts.equivalence.back source target same))

-- ---- columns

pub record HasRows (n : ℕ) (column : List ℕ) : Type 0 where
  pub long : length column ≡ n

-- columns of n rows that are the same across are the same
columns_same : (n : ℕ) (xs ys : List (List ℕ)) → length xs ≡ length ys → AllByRecursion (HasRows n) xs → AllByRecursion (HasRows n) ys
    → ((k : ℕ) → k < n → row_across xs k ≡ row_across ys k) → xs ≡ ys
columns_same n [] [] e h i same = refl
columns_same n [] (y ∷ ys) e h i same = absurd (omega arith)
columns_same n (x ∷ xs) [] e h i same = absurd (omega arith)
columns_same n (x ∷ xs) (y ∷ ys) e h i same =
    let one : x ≡ y = ext_get_or 0 x y (h.0.long ∙ sym i.0.long) (λ k lt. let is = same k (omega (arith, h.0.long)) in cc) in
    let more : xs ≡ ys = columns_same n xs ys (omega arith) h.1 i.1 (λ k lt. let is = same k lt in cc) in
    cc

rows_at : (n : ℕ) (columns : List (List ℕ)) (k : ℕ) → k < n → row_at (rows_across n columns) k ≡ row_across columns k
rows_at n columns k h = get_or-map-range_with_len (row_across columns) 0 n k k [] h (omega arith)

pub same_rows : (n : ℕ) (xs ys : List (List ℕ)) → length xs ≡ length ys → AllByRecursion (HasRows n) xs → AllByRecursion (HasRows n) ys
    → rows_across n xs ≡ rows_across n ys → xs ≡ ys
same_rows n xs ys e h i same = columns_same n xs ys e h i (λ k lt. sym (rows_at n xs k lt) ∙ (ap (λ rows. row_at rows k) same ∙ rows_at n ys k lt))

pub rows_long : (n : ℕ) (columns : List (List ℕ)) → length (rows_across n columns) ≡ n
rows_long n columns = length-map-range_with_len (row_across columns) 0 n

columns_long : Facts → (n : ℕ) (d : List ℕ) (columns : List (List ℕ)) → length d ≡ n → AllByRecursion (HasRows n) (columns_applied d columns)
columns_long facts n d [] e = tt
columns_long facts n d (c ∷ cs) e = (record { long = facts.lengths.pick d c ∙ e }, columns_long facts n d cs e)

columns_count : (d : List ℕ) (columns : List (List ℕ)) → length (columns_applied d columns) ≡ length columns
columns_count d [] = refl
columns_count d (c ∷ cs) = ap suc (columns_count d cs)

-- where the rows are the same bag, the aligning order is one of n, and takes the columns of the one to those of the other
pub record Realigns (n : ℕ) (xs ys : List (List ℕ)) : Type 0 where
  pub order : HasItems n (aligning (rows_across n ys) (rows_across n xs))
  pub columns : columns_applied (aligning (rows_across n ys) (rows_across n xs)) ys ≡ xs
  pub back : aligning (rows_across n xs) (rows_across n ys) ≡ inverse_of (aligning (rows_across n ys) (rows_across n xs))

pub realigns : Facts → (n : ℕ) (xs ys : List (List ℕ)) → length xs ≡ length ys → AllByRecursion (HasRows n) xs
    → SameBag (rows_across n xs) (rows_across n ys) → Realigns n xs ys
realigns facts n xs ys e h same =
    let a = rows_across n xs in
    let b = rows_across n ys in
    let turned = facts.equivalence.back a b same in
    let d = aligning b a in
    let al = aligning_aligns facts b a turned in
    let long : length d ≡ n = aligning_long b a ∙ rows_long n xs in
    let across : rows_across n (columns_applied d ys) ≡ a =
    subst (λ k. rows_across k (columns_applied d ys) ≡ rows_applied d (rows_across k ys)) long (facts.columns.rows d ys al.order)
    ∙ facts.exact.gives b a d al in
    record {
      order = record { order = al.order; long = long };
      columns = same_rows n (columns_applied d ys) xs (columns_count d ys ∙ sym e) (columns_long facts n d ys long) h across;
      back = aligning_back facts b a turned;
    }
