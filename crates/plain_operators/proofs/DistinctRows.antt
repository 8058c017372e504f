-- Distinct rows: each that occurs stands once, so the same bag has the same distinct rows up to the bag; and distinct
-- rows of appended, filtered and distinct lists.
use Rattle.std.proofs.Common.{◌≡◌, ℕ, zero, suc, ◌+◌, ◌<◌, min, Bool, true, false, cond, not, ◌||◌, List, [], ◌∷◌, ◌++◌, length, refl, sym, ◌∙◌, ap, subst, arith, zero-add, ltb}
use Rattle.std.specs.Prelude.{All, ◌≢◌}
use Rattle.std.specs.List.{filter, flat_map, list_any}
use Rattle.std.specs.Cmp.Lexicographic.{nat_list_eq_equiv}
use Rattle.std.proofs.lemmas.Bool.{false_from_ne_true, lt-ltb}
use Rattle.std.proofs.lemmas.List.Elements.{All-cons, All-head, All-tail, All-filter, filter-append, filter_agree, filter_passes}
use Rattle.std.proofs.lemmas.List.Folds.{list_any-append}
use Rattle.bags.specs.Bag.{SameBag, count_of, row_eq}
use Rattle.plain_operators.specs.Operators.{distinct_rows}
use Rattle.plain_operators.proofs.BagFacts.{count_of-filter, row_decides, row_itself}
use Rattle.plain_operators.proofs.Lists.{filter_all, filter_none, filter_filter}

pub same_row : (x y : List ℕ) → row_eq x y ≡ true → x ≡ y
same_row x y = (row_decides x y).0

pub other_row : (x y : List ℕ) → x ≢ y → row_eq x y ≡ false
other_row x y apart = false_from_ne_true (row_eq x y) (λ e. apart (same_row x y e))

pub count_of-distinct_rows : (row : List ℕ) (rows : List (List ℕ)) → count_of row (distinct_rows rows) ≡ min 1 (count_of row rows)
count_of-distinct_rows row [] = refl
count_of-distinct_rows row (x ∷ xs) =
    let rest = count_of-distinct_rows row xs in
    let left = count_of-filter (λ other. not (row_eq other x)) row (distinct_rows xs) in
    rw left (by (row_eq row x) rest)
  where
    by : (b : Bool) → count_of row (distinct_rows xs) ≡ min 1 (count_of row xs) → cond b 1 0 + cond (not b) (count_of row (distinct_rows xs)) 0 ≡ min 1 (cond b 1 0 + count_of row xs)
    by true rest = omega arith
    by false rest = omega arith

pub SameBag-distinct_rows : {xs ys : List (List ℕ)} → SameBag xs ys → SameBag (distinct_rows xs) (distinct_rows ys)
SameBag-distinct_rows {xs} {ys} h = record { counts = λ row. count_of-distinct_rows row xs ∙ ap (min 1) (h.counts row) ∙ sym (count_of-distinct_rows row ys) }

pub All-distinct_rows : (P : List ℕ → Type 0) (rows : List (List ℕ)) → All P rows → All P (distinct_rows rows)
All-distinct_rows P [] all = all
All-distinct_rows P (x ∷ xs) all = All-cons P x _ (All-head P x xs all) (All-filter (λ other. not (row_eq other x)) P (distinct_rows xs) (All-distinct_rows P xs (All-tail P x xs all)))

-- a front that is one row again and again
pub distinct_front : (row : List ℕ) (front rest : List (List ℕ)) → All (λ x. x ≡ row) front → 0 < length front
    → distinct_rows (front ++ rest) ≡ row ∷ filter (λ other. not (row_eq other row)) (distinct_rows rest)
distinct_front row [] rest alike some = absurd (omega arith)
distinct_front row (x ∷ []) rest alike some =
    let is : x ≡ row = All-head (λ z. z ≡ row) x [] alike in
    ap (λ z. z ∷ filter (λ other. not (row_eq other z)) (distinct_rows rest)) is
distinct_front row (x ∷ y ∷ ys) rest alike some =
    let is : x ≡ row = All-head (λ z. z ≡ row) x (y ∷ ys) alike in
    let p = λ (other : List ℕ). not (row_eq other row) in
    let shorter = distinct_front row (y ∷ ys) rest (All-tail (λ z. z ≡ row) x (y ∷ ys) alike) (omega arith) in
    let left = filter p (distinct_rows rest) in
    let again : filter p left ≡ left = filter_all p left (filter_passes p (distinct_rows rest)) in
    let gone : filter p (row ∷ left) ≡ left = rw (row_itself row) again in
    ap (λ z. z ∷ filter (λ other. not (row_eq other z)) (distinct_rows ((y ∷ ys) ++ rest))) is ∙ ap (λ l. row ∷ filter p l) shorter ∙ ap (λ l. row ∷ l) gone

-- whether a row is among others
abbrev pub among : List (List ℕ) → List ℕ → Bool
among rows row = list_any (row_eq row) rows

de_morgan : (a b : Bool) → cond (not b) (not a) false ≡ not (a || b)
de_morgan true true = refl
de_morgan true false = refl
de_morgan false true = refl
de_morgan false false = refl

pub distinct-append : (xs ys : List (List ℕ)) → distinct_rows (xs ++ ys) ≡ distinct_rows xs ++ filter (λ row. not (among xs row)) (distinct_rows ys)
distinct-append [] ys = sym (filter_all (λ row. true) (distinct_rows ys) (λ k d below. refl))
distinct-append (x ∷ xs) ys =
    let p = λ (row : List ℕ). not (row_eq row x) in
    let rest = ap (filter p) (distinct-append xs ys) ∙ filter-append p (distinct_rows xs) (filter (λ row. not (among xs row)) (distinct_rows ys)) in
    let both = filter_filter p (λ row. not (among xs row)) (λ row. not (row_eq row x || among xs row)) (λ row. de_morgan (row_eq row x) (among xs row)) (distinct_rows ys) in
    ap (λ l. x ∷ l) (rest ∙ ap (λ l. filter p (distinct_rows xs) ++ l) both)

pub distinct-filter : (p : List ℕ → Bool) (rows : List (List ℕ)) → distinct_rows (filter p rows) ≡ filter p (distinct_rows rows)
distinct-filter p [] = refl
distinct-filter p (x ∷ xs) = by (p x) refl (distinct-filter p xs)
  where
    other : List ℕ → Bool
    other row = not (row_eq row x)

    exchanged : (b c : Bool) → cond b c false ≡ cond c b false
    exchanged true true = refl
    exchanged true false = refl
    exchanged false true = refl
    exchanged false false = refl

    fails : p x ≡ false → (row : List ℕ) → (b : Bool) → row_eq row x ≡ b → cond (not b) (p row) false ≡ p row
    fails e row true f = sym (ap p (same_row row x f) ∙ e)
    fails e row false f = refl

    by : (b : Bool) → p x ≡ b → distinct_rows (filter p xs) ≡ filter p (distinct_rows xs) → distinct_rows (cond b (x ∷ filter p xs) (filter p xs)) ≡ filter p (x ∷ filter other (distinct_rows xs))
    by true e rest =
        let left = filter_filter other p (λ row. cond (p row) (other row) false) (λ row. refl) (distinct_rows xs) in
        let right = filter_filter p other (λ row. cond (p row) (other row) false) (λ row. exchanged (other row) (p row)) (distinct_rows xs) in
        rw e (ap (λ l. x ∷ filter other l) rest ∙ ap (λ l. x ∷ l) (left ∙ sym right))
    by false e rest = rw e (rest ∙ sym (filter_filter p other p (λ row. fails e row (row_eq row x) refl) (distinct_rows xs)))

pub distinct_again : (rows : List (List ℕ)) → distinct_rows (distinct_rows rows) ≡ distinct_rows rows
distinct_again [] = refl
distinct_again (x ∷ xs) =
    let p = λ (row : List ℕ). not (row_eq row x) in
    let once = distinct-filter p (distinct_rows xs) ∙ ap (filter p) (distinct_again xs) in
    ap (λ l. x ∷ filter p l) once ∙ ap (λ l. x ∷ l) (filter_filter p p p (λ row. twice (p row)) (distinct_rows xs))
  where
    twice : (b : Bool) → cond b b false ≡ b
    twice true = refl
    twice false = refl

among_count : (rows : List (List ℕ)) (row : List ℕ) → among rows row ≡ ltb 0 (count_of row rows)
among_count [] row = refl
among_count (x ∷ xs) row = by (row_eq row x) (among_count xs row)
  where
    by : (b : Bool) → among xs row ≡ ltb 0 (count_of row xs) → (b || among xs row) ≡ ltb 0 (cond b 1 0 + count_of row xs)
    by true rest = sym (lt-ltb 0 (1 + count_of row xs) (omega arith))
    by false rest = rest ∙ ap (ltb 0) (sym (zero-add (count_of row xs)))

pub among_distinct : (rows : List (List ℕ)) (row : List ℕ) → among (distinct_rows rows) row ≡ among rows row
among_distinct rows row = among_count (distinct_rows rows) row ∙ ap (ltb 0) (count_of-distinct_rows row rows) ∙ at (count_of row rows) ∙ sym (among_count rows row)
  where
    at : (n : ℕ) → ltb 0 (min 1 n) ≡ ltb 0 n
    at zero = refl
    at (suc n) = lt-ltb 0 (min 1 (suc n)) (omega arith) ∙ sym (lt-ltb 0 (suc n) (omega arith))

distinct_front_again : (xs ys : List (List ℕ)) → distinct_rows (distinct_rows xs ++ ys) ≡ distinct_rows (xs ++ ys)
distinct_front_again xs ys =
    let same = filter_agree (λ row. not (among (distinct_rows xs) row)) (λ row. not (among xs row)) (λ row. ap not (among_distinct xs row)) (distinct_rows ys) in
    distinct-append (distinct_rows xs) ys ∙ (λ i. distinct_again xs i ++ same i) ∙ sym (distinct-append xs ys)

pub distinct_pieces : {X : Type 0} (f : X → List (List ℕ)) (xs : List X) → distinct_rows (flat_map (λ x. distinct_rows (f x)) xs) ≡ distinct_rows (flat_map f xs)
distinct_pieces f [] = refl
distinct_pieces f (x ∷ xs) =
    let rest = distinct_pieces f xs in
    let later = flat_map (λ z. distinct_rows (f z)) xs in
    distinct_front_again (f x) later ∙ distinct-append (f x) later ∙ ap (λ l. distinct_rows (f x) ++ filter (λ row. not (among (f x) row)) l) rest ∙ sym (distinct-append (f x) (flat_map f xs))

-- the one occurrence of a row among distinct rows
pub distinct_single : (key : List ℕ) (rows : List (List ℕ)) → filter (λ row. row_eq row key) (distinct_rows rows) ≡ cond (among rows key) (key ∷ []) []
distinct_single key [] = refl
distinct_single key (x ∷ xs) = by (row_eq x key) refl (distinct_single key xs)
  where
    is_key : List ℕ → Bool
    is_key row = row_eq row key

    other : List ℕ → Bool
    other row = not (row_eq row x)

    never : x ≡ key → (row : List ℕ) → (b : Bool) → row_eq row x ≡ b → cond (not b) (is_key row) false ≡ false
    never e row true f = refl
    never e row false f = subst (λ z. row_eq row z ≡ false) e f

    still : row_eq x key ≡ false → (row : List ℕ) → (b : Bool) → row_eq row x ≡ b → cond (not b) (is_key row) false ≡ is_key row
    still e row true f = sym (ap is_key (same_row row x f) ∙ e)
    still e row false f = refl

    by : (b : Bool) → row_eq x key ≡ b → filter is_key (distinct_rows xs) ≡ cond (among xs key) (key ∷ []) []
        → filter is_key (x ∷ filter other (distinct_rows xs)) ≡ cond (row_eq key x || among xs key) (key ∷ []) []
    by true e rest =
        let is : x ≡ key = same_row x key e in
        let none = filter_filter is_key other (λ row. false) (λ row. never is row (row_eq row x) refl) (distinct_rows xs) in
        let gone : filter (λ (row : List ℕ). false) (distinct_rows xs) ≡ [] = filter_none (λ row. false) (distinct_rows xs) (λ k d below. refl) in
        rw (e, nat_list_eq_equiv.symm key x, e) (λ i. is i ∷ (none ∙ gone) i)
    by false e rest =
        let kept = filter_filter is_key other is_key (λ row. still e row (row_eq row x) refl) (distinct_rows xs) in
        rw (e, nat_list_eq_equiv.symm key x, e) (kept ∙ rest)

-- one more row
pub distinct_more : (rows : List (List ℕ)) (row : List ℕ) → distinct_rows (rows ++ row ∷ []) ≡ distinct_rows rows ++ cond (not (among rows row)) (row ∷ []) []
distinct_more rows row = distinct-append rows (row ∷ [])

among_more : (rows : List (List ℕ)) (row other : List ℕ) → among (rows ++ row ∷ []) other ≡ cond (row_eq row other) true (among rows other)
among_more rows row other = list_any-append (row_eq other) rows (row ∷ []) ∙ (λ i. among rows other || (nat_list_eq_equiv.symm other row i || false)) ∙ by (among rows other) (row_eq row other)
  where
    by : (a b : Bool) → (a || (b || false)) ≡ cond b true a
    by true true = refl
    by true false = refl
    by false true = refl
    by false false = refl

-- a step of a walk over rows that keeps each new one
pub record WalksDistinct (seen : List ℕ → Bool) (kept : List (List ℕ)) (rows : List (List ℕ)) : Type 0 where
  pub all : (row : List ℕ) → seen row ≡ among rows row
  pub once : kept ≡ distinct_rows rows

pub walks_more : (old new : List ℕ → Bool) (kept rows : List (List ℕ)) (row : List ℕ) (added : Bool) → WalksDistinct old kept rows → added ≡ not (old row)
    → ((other : List ℕ) → new other ≡ cond (row_eq row other) true (old other)) → WalksDistinct new (kept ++ cond added (row ∷ []) []) (rows ++ row ∷ [])
walks_more old new kept rows row added walked is updated = record {
  all = λ other. updated other ∙ ap (cond (row_eq row other) true) (walked.all other) ∙ sym (among_more rows row other);
  once = (λ i. walked.once i ++ cond ((is ∙ ap not (walked.all row)) i) (row ∷ []) []) ∙ sym (distinct_more rows row);
}
