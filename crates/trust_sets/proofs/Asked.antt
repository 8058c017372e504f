-- The columns with which a statement asks that a party be trusted are those of which a node's fault speaks.
use Rattle.std.proofs.Common.{◌≡◌, ℕ, zero, suc, ◌<◌, ◌⊎◌, inl, inr, Bool, true, false, ◌||◌, List, [], ◌∷◌, Option, Some, None, map, length, get_or, refl, sym, ap, ◌∙◌, subst, arith}
use Rattle.std.specs.Prelude.{◌==◌, slice_get, All, IsSomeAnd}
use Rattle.std.specs.List.{Contains, list_any}
use Rattle.std.specs.Option.{is_none, option_map_or, option_or}
use Rattle.std.proofs.lemmas.Bool.{false≢true}
use Rattle.std.proofs.lemmas.Bool.Decides.{nat_tests}
use Rattle.std.proofs.lemmas.List.{get_or-map, length-map}
use Rattle.words.specs.declared.column.Column.{Column}
use Rattle.query_text.specs.Grammar.{IsNotBoth}
use Rattle.query_graph.specs.declared.node.Node.{Node}
use Rattle.query_graph.specs.declared.operator.Operator.{Operator}
use Rattle.query_graph.specs.declared.operator.Operator.TheVariants as operators
use Rattle.query_graph.specs.IsGraph.{FitsSources}
use Rattle.query_graph.specs.Observers.{clear_at_of, via_of}
use Rattle.plain_operators.specs.Operators.{left_keys, right_keys}
use Rattle.plain_operators.specs.Columns.{is_key}
use Rattle.trust_sets.specs.Faults.{columns_at, is_key_of_side, is_needed, named_by}
use Rattle.trust_sets.specs.Rules.{Asks, keys_at}

-- ---- keys

equal_yes : (a b : ℕ) → (a == b) ≡ true → a ≡ b
equal_yes a b holds = grind (arith, nat_tests)

equal_is : (a b : ℕ) → a ≡ b → (a == b) ≡ true
equal_is a b same = grind (arith, nat_tests)

or_right : (a b : Bool) → b ≡ true → (a || b) ≡ true
or_right true b holds = refl
or_right false b holds = holds

module _ {A : Type 0} (number : A → ℕ) (column : ℕ) where
  later : (x : A) (xs : List A) → Contains (map number xs) column → Contains (map number (x ∷ xs)) column
  later x xs found = (suc found.0, omega (arith, found.1), found.2)

  found_step : (x : A) (xs : List A) (here : Bool) → (number x == column) ≡ here → (here || list_any (λ y. number y == column) xs) ≡ true
      → (list_any (λ y. number y == column) xs ≡ true → Contains (map number xs) column) → Contains (map number (x ∷ xs)) column
  found_step x xs true is any rest = (0, omega arith, equal_yes (number x) column is)
  found_step x xs false is any rest = later x xs (rest any)

  pub found_among : (xs : List A) → list_any (λ x. number x == column) xs ≡ true → Contains (map number xs) column
  found_among [] any = absurd cc
  found_among (x ∷ xs) any = found_step x xs (number x == column) refl any (found_among xs)

  among_at : (xs : List A) (k : ℕ) → k < length (map number xs) → get_or (map number xs) k column ≡ column → list_any (λ x. number x == column) xs ≡ true
  among_at [] k within is = absurd (omega (arith, within))
  among_at (x ∷ xs) zero within is = ap (λ b. b || list_any (λ y. number y == column) xs) (equal_is (number x) column is)
  among_at (x ∷ xs) (suc k) within is = or_right (number x == column) _ (among_at xs k (omega (arith, within)) is)

  pub among_found : (xs : List A) → Contains (map number xs) column → list_any (λ x. number x == column) xs ≡ true
  among_found xs found = among_at xs found.0 found.1 found.2

map_itself : (xs : List ℕ) → map (λ n. n) xs ≡ xs
map_itself [] = refl
map_itself (x ∷ xs) = ap (λ ys. x ∷ ys) (map_itself xs)

key_found : (keys : List ℕ) (column : ℕ) → is_key keys column ≡ true → Contains keys column
key_found keys column is = subst (λ ks. Contains ks column) (map_itself keys) (found_among (λ n. n) column keys is)

found_key : (keys : List ℕ) (column : ℕ) → Contains keys column → is_key keys column ≡ true
found_key keys column found = among_found (λ n. n) column keys (subst (λ ks. Contains ks column) (sym (map_itself keys)) found)

-- the second source of a statement is a join's right one
is_right : ℕ → Bool
is_right place = place == 1

none_is : (o : Option ℕ) (party : ℕ) → is_none o ≡ false → option_or o None ≡ Some party → o ≡ Some party
none_is None party some is = absurd cc
none_is (Some p) party some is = is

-- ---- what is needed is asked for

-- what a statement asks of a source with so many columns
abbrev pub Asked : Operator → ℕ → ℕ → ℕ → ℕ → Type 0
Asked shape party place column width = ((via_of shape ≡ Some party) × Contains (keys_at shape place) column) ⊎ ((clear_at_of shape ≡ Some party) × (column < width))

-- of a join on one side
join_asked : (via clear : Option ℕ) (keys : List ℕ) (party column width : ℕ) (among : Bool) → option_or via clear ≡ Some party → (is_none via || among) ≡ true → (among ≡ true → Contains keys column)
    → column < width → ((via ≡ Some party) × Contains keys column) ⊎ ((clear ≡ Some party) × (column < width))
join_asked None clear keys party column width among named needed found within = inr (named, within)
join_asked (Some p) clear keys party column width among named needed found within = inl (named, found needed)

pub asked_of : (shape : Operator) (party place column width : ℕ) → place < 2 → named_by shape ≡ Some party → is_needed shape (place == 1) column ≡ true → column < width → Asked shape party place column width
asked_of (operators.Relation r) party place column width side named needed within = absurd cc
asked_of (operators.Filter f) party place column width side named needed within = inr (named, within)
asked_of (operators.Select s) party place column width side named needed within = inr (named, within)
asked_of (operators.Concat c) party place column width side named needed within = absurd cc
asked_of (operators.Join j) party zero column width side named needed within =
    join_asked j.via j.clear_at (left_keys j.keys) party column width (is_key_of_side false j.keys column) named needed (found_among (λ (key : ℕ × ℕ). key.0) column j.keys) within
asked_of (operators.Join j) party (suc zero) column width side named needed within =
    join_asked j.via j.clear_at (right_keys j.keys) party column width (is_key_of_side true j.keys column) named needed (found_among (λ (key : ℕ × ℕ). key.1) column j.keys) within
asked_of (operators.Join j) party (suc (suc place)) column width side named needed within = absurd (omega (arith, side))
asked_of (operators.Group g) party place column width side named needed within =
    join_asked g.via g.clear_at g.keys party column width (is_key g.keys column) named needed (key_found g.keys column) within
asked_of (operators.Distinct d) party place column width side named needed within = inr (named, within)

-- ---- what is asked for is needed

-- a statement that names a party, and a column that this party is to know
pub record Needs (shape : Operator) (party place column width : ℕ) : Type 0 where
  pub named : named_by shape ≡ Some party
  pub needed : is_needed shape (place == 1) column ≡ true
  pub within : column < width

via_named : (via clear : Option ℕ) (party : ℕ) → via ≡ Some party → option_or via clear ≡ Some party
via_named None clear party is = absurd cc
via_named (Some p) clear party is = is

clear_named : (via clear : Option ℕ) (party : ℕ) → IsNotBoth via clear → clear ≡ Some party → (option_or via clear ≡ Some party) × (is_none via ≡ true)
clear_named None clear party apart is = (is, refl)
clear_named (Some p) None party apart is = absurd cc
clear_named (Some p) (Some q) party apart is = absurd apart

or_left : (a b : Bool) → a ≡ true → (a || b) ≡ true
or_left true b holds = refl
or_left false b holds = absurd (false≢true holds)

module _ (via clear : Option ℕ) (keys : List ℕ) (party column width : ℕ) (among : Bool) (apart : IsNotBoth via clear) (within : Contains keys column → column < width) (found : Contains keys column → among ≡ true) where
  join_needs : ((via ≡ Some party) × Contains keys column) ⊎ ((clear ≡ Some party) × (column < width))
      → (option_or via clear ≡ Some party) × ((is_none via || among) ≡ true) × (column < width)
  join_needs (inl asked) = (via_named via clear party asked.0, or_right (is_none via) among (found asked.1), within asked.1)
  join_needs (inr asked) = let both = clear_named via clear party apart asked.0 in (both.0, or_left (is_none via) among both.1, asked.1)

-- the columns of the source at a place, where the statement fits its sources
some_columns : (o : Option Node) (P : List Column → ℕ → Type 0) → IsSomeAnd o (λ (n : Node). P n.columns n.rows) → (n : Node) × (o ≡ Some n) × P n.columns n.rows
some_columns None P some = absurd some
some_columns (Some n) P some = (n, refl, some)

columns_are : (nodes : List Node) (s : ℕ) (n : Node) → slice_get nodes s ≡ Some n → columns_at nodes s ≡ n.columns
columns_are nodes s n at = ap (λ o. option_map_or (λ (n : Node). n.columns) o []) at

key_within : (keys : List ℕ) (width column : ℕ) → All (λ k. k < width) keys → Contains keys column → column < width
key_within keys width column all found = subst (λ c. c < width) found.2 (all found.0 column found.1)

all_map : {A : Type 0} (number : A → ℕ) (width : ℕ) (xs : List A) → ((i : ℕ) (d : A) → i < length xs → number (get_or xs i d) < width) → (k column : ℕ) → k < length (map number xs)
    → get_or (map number xs) k column ≡ column → column < width
all_map number width [] all k column inside is = absurd (omega (arith, inside))
all_map number width (x ∷ xs) all k column inside is =
    let short : k < length (x ∷ xs) = rw (sym (length-map (x ∷ xs) number)) inside in
    subst (λ c. c < width) (sym (get_or-map number (x ∷ xs) k x column short) ∙ is) (all k x short)

one_source : (s place source : ℕ) → slice_get (s ∷ []) place ≡ Some source → (place ≡ 0) × (s ≡ source)
one_source s zero source is = (refl, cc)
one_source s (suc place) source is = absurd cc

pub needs_of : (nodes : List Node) (i : ℕ) (n : Node) (shape : Operator) (party place source column : ℕ) → FitsSources nodes i n shape → Asks nodes shape party place source column
    → Needs shape party place column (length (columns_at nodes source))
needs_of nodes i n (operators.Relation r) party place source column fits asks = absurd (let none = asks.is_source in cc)
needs_of nodes i n (operators.Filter f) party place source column fits asks = clear_only asks.asked
  where
    clear_only : Asked (operators.Filter f) party place column (length (columns_at nodes source)) → Needs (operators.Filter f) party place column (length (columns_at nodes source))
    clear_only (inl asked) = absurd (let none = asked.0 in cc)
    clear_only (inr asked) = record { named = asked.0; needed = refl; within = asked.1 }
needs_of nodes i n (operators.Select s) party place source column fits asks = clear_only asks.asked
  where
    clear_only : Asked (operators.Select s) party place column (length (columns_at nodes source)) → Needs (operators.Select s) party place column (length (columns_at nodes source))
    clear_only (inl asked) = absurd (let none = asked.0 in cc)
    clear_only (inr asked) = record { named = asked.0; needed = refl; within = asked.1 }
needs_of nodes i n (operators.Concat c) party place source column fits asks = none_asked asks.asked
  where
    none_asked : Asked (operators.Concat c) party place column (length (columns_at nodes source)) → Needs (operators.Concat c) party place column (length (columns_at nodes source))
    none_asked (inl asked) = absurd (let none = asked.0 in cc)
    none_asked (inr asked) = absurd (let none = asked.0 in cc)
needs_of nodes i n (operators.Join j) party zero source column fits asks =
    let left = some_columns (slice_get nodes j.left) _ fits.fits in
    let right = some_columns (slice_get nodes j.right) _ left.2.fits in
    let same : j.left ≡ source = let is = asks.is_source in cc in
    let columns = columns_are nodes source left.0 (subst (λ s. slice_get nodes s ≡ Some left.0) same left.1) in
    let needs = join_needs j.via j.clear_at (left_keys j.keys) party column (length (columns_at nodes source)) (is_key_of_side false j.keys column) right.2.one_place
    (λ found. all_map (λ (key : ℕ × ℕ). key.0) (length (columns_at nodes source)) j.keys (λ k d inside. rw columns (right.2.keys k d inside).on_left) found.0 column found.1 found.2)
    (among_found (λ (key : ℕ × ℕ). key.0) column j.keys) asks.asked in
    record { named = needs.0; needed = needs.1; within = needs.2 }
needs_of nodes i n (operators.Join j) party (suc zero) source column fits asks =
    let left = some_columns (slice_get nodes j.left) _ fits.fits in
    let right = some_columns (slice_get nodes j.right) _ left.2.fits in
    let same : j.right ≡ source = let is = asks.is_source in cc in
    let columns = columns_are nodes source right.0 (subst (λ s. slice_get nodes s ≡ Some right.0) same right.1) in
    let needs = join_needs j.via j.clear_at (right_keys j.keys) party column (length (columns_at nodes source)) (is_key_of_side true j.keys column) right.2.one_place
    (λ found. all_map (λ (key : ℕ × ℕ). key.1) (length (columns_at nodes source)) j.keys (λ k d inside. rw columns (right.2.keys k d inside).on_right) found.0 column found.1 found.2)
    (among_found (λ (key : ℕ × ℕ). key.1) column j.keys) asks.asked in
    record { named = needs.0; needed = needs.1; within = needs.2 }
needs_of nodes i n (operators.Join j) party (suc (suc place)) source column fits asks = absurd (let none = asks.is_source in cc)
needs_of nodes i n (operators.Group g) party place source column fits asks =
    let own = some_columns (slice_get nodes g.source) _ fits.fits in
    let same = (one_source g.source place source asks.is_source).1 in
    let columns = columns_are nodes source own.0 (subst (λ s. slice_get nodes s ≡ Some own.0) same own.1) in
    let needs = join_needs g.via g.clear_at g.keys party column (length (columns_at nodes source)) (is_key g.keys column) own.2.one_place
    (λ found. rw columns (key_within g.keys (length own.0.columns) column own.2.keys found)) (found_key g.keys column) asks.asked in
    record { named = needs.0; needed = needs.1; within = needs.2 }
needs_of nodes i n (operators.Distinct d) party place source column fits asks = clear_only asks.asked
  where
    clear_only : Asked (operators.Distinct d) party place column (length (columns_at nodes source)) → Needs (operators.Distinct d) party place column (length (columns_at nodes source))
    clear_only (inl asked) = absurd (let none = asked.0 in cc)
    clear_only (inr asked) = record { named = asked.0; needed = refl; within = asked.1 }
