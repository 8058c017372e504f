-- How many columns a join has.
use Rattle.std.proofs.Common.{◌≡◌, ℕ, ◌+◌, Bool, true, false, cond, not, ◌||◌, List, [], ◌∷◌, ◌++◌, Some, length, map, take, get_or, suc, refl, sym, ap, ◌∙◌, subst, arith}
use Rattle.std.specs.Prelude.{◌≢◌, All, AllPairs, count_by, slice_get}
use Rattle.std.specs.List.{AllByRecursion}
use Rattle.std.specs.Str.{bytes_eq}
use Rattle.std.proofs.Math.Seq.{take-append_seam}
use Rattle.std.proofs.lemmas.List.{length-map}
use Rattle.std.proofs.lemmas.List.Folds.{list_any_none}
use Rattle.std.proofs.lemmas.List.Sums.{length-filter, sum_by-cons}
use Rattle.std.proofs.lemmas.Slice.Eq.{bytes_eq-Decides}
use Rattle.words.specs.declared.column.Column.{Column}
use Rattle.query_graph.specs.Columns.{key_column, other_columns}
use Rattle.query_graph.specs.Names.{column_number, is_among, is_column}
use Rattle.query_graph.proofs.Places.{column_at_number}

count_cons : {X : Type 0} (p : X → Bool) (x : X) (xs : List X) → count_by p (x ∷ xs) ≡ cond (p x) 1 0 + count_by p xs
count_cons p x xs = sum_by-cons (λ y. cond (p y) 1 0) x xs

not_step : (b : Bool) (m n k : ℕ) → m + n ≡ k → cond (not b) 1 0 + m + (cond b 1 0 + n) ≡ suc k
not_step true m n k rest = omega (arith, rest)
not_step false m n k rest = omega (arith, rest)

-- those that don't pass and those that do
counts : {X : Type 0} (p : X → Bool) (xs : List X) → count_by (λ x. not (p x)) xs + count_by p xs ≡ length xs
counts p [] = refl
counts p (x ∷ xs) =
    rw (count_cons (λ x. not (p x)) x xs) (rw (count_cons p x xs) (not_step (p x) (count_by (λ x. not (p x)) xs) (count_by p xs) (length xs) (counts p xs)))

either_step : (b c : Bool) (m n k : ℕ) → (b ≡ true → c ≡ false) → k ≡ m + n → cond (b || c) 1 0 + k ≡ cond b 1 0 + m + (cond c 1 0 + n)
either_step true true m n k apart rest = absurd (let wrong : true ≡ false = apart refl in cc)
either_step true false m n k apart rest = omega (arith, rest)
either_step false true m n k apart rest = omega (arith, rest)
either_step false false m n k apart rest = omega (arith, rest)

-- tests of which at most one passes
count_either : {X : Type 0} (p q : X → Bool) → ((x : X) → p x ≡ true → q x ≡ false) → (xs : List X) → count_by (λ x. p x || q x) xs ≡ count_by p xs + count_by q xs
count_either p q apart [] = refl
count_either p q apart (x ∷ xs) =
    rw (count_cons (λ x. p x || q x) x xs) (rw (count_cons p x xs) (rw (count_cons q x xs)
    (either_step (p x) (q x) (count_by p xs) (count_by q xs) (count_by (λ x. p x || q x) xs) (apart x) (count_either p q apart xs))))

none_step : (b : Bool) (m : ℕ) → b ≡ false → m ≡ 0 → cond b 1 0 + m ≡ 0
none_step true m fails rest = absurd cc
none_step false m fails rest = omega (arith, rest)

count_none : {X : Type 0} (p : X → Bool) (xs : List X) → AllByRecursion (λ x. p x ≡ false) xs → count_by p xs ≡ 0
count_none p [] all = refl
count_none p (x ∷ xs) all = rw (count_cons p x xs) (none_step (p x) (count_by p xs) all.0 (count_none p xs all.1))

bool_false : (b : Bool) → (b ≡ true → ⊥) → b ≡ false
bool_false true never = absurd (never refl)
bool_false false never = refl

pub unequal : (a b : List ℕ) → a ≢ b → bytes_eq a b ≡ false
unequal a b differ = bool_false (bytes_eq a b) (λ yes. differ ((bytes_eq-Decides a b).0 yes))

pub rest_differ : {A : Type 0} (R : A → A → Type 0) (x : A) (xs : List A) → AllPairs R (x ∷ xs) → AllPairs R xs
rest_differ R x xs pairs = λ i j d below within. pairs (suc i) (suc j) d (omega (arith, below)) (omega (arith, within))

pub first_differs : {A : Type 0} (R : A → A → Type 0) (x : A) (xs : List A) → AllPairs R (x ∷ xs) → All (R x) xs
first_differs R x xs pairs = λ k d within. pairs 0 (suc k) d (omega arith) (omega (arith, within))

all_other : (k : List ℕ) (c : Column) (columns : List Column) → k ≡ c.name → All (λ (d : Column). c.name ≢ d.name) columns
    → AllByRecursion (λ (d : Column). bytes_eq k d.name ≡ false) columns
all_other k c [] is others = tt
all_other k c (d ∷ columns) is others = (
  unequal k d.name (λ same. others 0 d (omega arith) (sym is ∙ same)),
  all_other k c columns is (λ i e within. others (suc i) e (omega (arith, within))),
)

one_step : (k : List ℕ) (c : Column) (columns : List Column) (b : Bool) → bytes_eq k c.name ≡ b → AllPairs (λ (x y : Column). x.name ≢ y.name) (c ∷ columns)
    → is_column (c ∷ columns) k ≡ true → (is_column columns k ≡ true → count_by (λ (d : Column). bytes_eq k d.name) columns ≡ 1)
    → cond b 1 0 + count_by (λ (d : Column). bytes_eq k d.name) columns ≡ 1
one_step k c columns true is pairs known rest =
    let same : k ≡ c.name = (bytes_eq-Decides k c.name).0 is in
    let none = count_none (λ (d : Column). bytes_eq k d.name) columns (all_other k c columns same (first_differs (λ (x y : Column). x.name ≢ y.name) c columns pairs)) in
    omega (arith, none)
one_step k c columns false is pairs known rest =
    let other : bytes_eq c.name k ≡ false
    = unequal c.name k (λ same. let yes : bytes_eq k c.name ≡ true = (bytes_eq-Decides k c.name).1 (sym same) in absurd cc) in
    let one = rest (ap (λ b. b || is_column columns k) (sym other) ∙ known) in
    omega (arith, one)

-- of different columns one has a known name
count_one : (columns : List Column) (k : List ℕ) → AllPairs (λ (x y : Column). x.name ≢ y.name) columns → is_column columns k ≡ true
    → count_by (λ (d : Column). bytes_eq k d.name) columns ≡ 1
count_one [] k pairs known = absurd cc
count_one (c ∷ columns) k pairs known =
    rw (count_cons (λ (d : Column). bytes_eq k d.name) c columns)
    (one_step k c columns (bytes_eq k c.name) refl pairs known (count_one columns k (rest_differ (λ (x y : Column). x.name ≢ y.name) c columns pairs)))

not_among : (k : List ℕ) (keys : List (List ℕ)) → All (λ (other : List ℕ). k ≢ other) keys → is_among keys k ≡ false
not_among k keys others =
    list_any_none (λ (other : List ℕ). bytes_eq other k) keys (λ i d within. unequal (get_or keys i d) k (λ same. others i d within (sym same)))

all_false : (columns : List Column) → AllByRecursion (λ (c : Column). false ≡ false) columns
all_false [] = tt
all_false (c ∷ columns) = (refl, all_false columns)

suc_of : (n : ℕ) → 1 + n ≡ suc n
suc_of n = omega arith

-- and as many have a name among different known ones as these are
pub count_keys : (columns : List Column) (keys : List (List ℕ)) → AllPairs (λ (x y : Column). x.name ≢ y.name) columns → AllPairs (λ (a b : List ℕ). a ≢ b) keys
    → AllByRecursion (λ (k : List ℕ). is_column columns k ≡ true) keys → count_by (λ (c : Column). is_among keys c.name) columns ≡ length keys
count_keys columns [] pairs different known = count_none (λ (c : Column). false) columns (all_false columns)
count_keys columns (k ∷ keys) pairs different known =
    let none = not_among k keys (first_differs (λ (a b : List ℕ). a ≢ b) k keys different) in
    let apart : (c : Column) → bytes_eq k c.name ≡ true → is_among keys c.name ≡ false
    = λ c yes. subst (λ name. is_among keys name ≡ false) ((bytes_eq-Decides k c.name).0 yes) none in
    count_either (λ (c : Column). bytes_eq k c.name) (λ (c : Column). is_among keys c.name) apart columns
    ∙ (ap (λ n. n + count_by (λ (c : Column). is_among keys c.name) columns) (count_one columns k pairs known.0)
    ∙ (ap (λ n. 1 + n) (count_keys columns keys pairs (rest_differ (λ (a b : List ℕ). a ≢ b) k keys different) known.1) ∙ suc_of (length keys)))

-- the columns that aren't keys
pub count_others : (columns : List Column) (keys : List (List ℕ)) → AllPairs (λ (x y : Column). x.name ≢ y.name) columns → AllPairs (λ (a b : List ℕ). a ≢ b) keys
    → AllByRecursion (λ (k : List ℕ). is_column columns k ≡ true) keys → length (other_columns keys columns) + length keys ≡ length columns
count_others columns keys pairs different known =
    let kept = length-filter (λ (c : Column). not (is_among keys c.name)) columns in
    let all = counts (λ (c : Column). is_among keys c.name) columns in
    let among = count_keys columns keys pairs different known in
    omega (arith, kept, all, among)

pub cons_same : {A : Type 0} {x y : A} {xs ys : List A} → x ≡ y → xs ≡ ys → x ∷ xs ≡ y ∷ ys
cons_same first rest = λ i. first i ∷ rest i

each_key : (source : List Column) (keys : List (List ℕ)) → AllByRecursion (λ (k : List ℕ). is_column source k ≡ true) keys
    → map Some (map (key_column source) keys) ≡ map (slice_get source) (map (column_number source) keys)
each_key source [] known = refl
each_key source (k ∷ keys) known = cons_same (sym (column_at_number source k known.0)) (each_key source keys known.1)

-- the columns of keys that stand first are those with the keys' numbers
pub key_columns : (source rest : List Column) (keys : List (List ℕ)) → AllByRecursion (λ (k : List ℕ). is_column source k ≡ true) keys
    → map Some (take (length keys) (map (key_column source) keys ++ rest)) ≡ map (slice_get source) (map (column_number source) keys)
key_columns source rest keys known =
    ap (λ n. map Some (take n (map (key_column source) keys ++ rest))) (sym (length-map keys (key_column source)))
    ∙ (ap (map Some) (take-append_seam (map (key_column source) keys) rest) ∙ each_key source keys known)
