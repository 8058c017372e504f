-- Where names stand: a name that is known has a number, and so stands there what it names.
use Rattle.std.proofs.Common.{◌≡◌, ℕ, ◌+◌, ◌<◌, Bool, true, false, cond, not, ◌||◌, List, [], ◌∷◌, Some, length, suc, refl, ap, ◌∙◌, subst, arith}
use Rattle.std.specs.Prelude.{IsSomeAnd, slice_get}
use Rattle.std.specs.List.{AllByRecursion, list_any, prefix_len}
use Rattle.std.specs.Str.{bytes_eq}
use Rattle.std.proofs.lemmas.Slice.Eq.{bytes_eq-Decides}
use Rattle.words.specs.declared.column.Column.{Column}
use Rattle.words.specs.declared.column.Kind.{Kind}
use Rattle.query_graph.specs.declared.node.Node.{Node}
use Rattle.query_graph.specs.Columns.{column, key_column}
use Rattle.query_graph.specs.IsGraph.{kind_at, rows_at}
use Rattle.query_graph.specs.Names.{column_kind, column_number, is_column, is_node, node_columns, node_number, node_rows}

one_more : (k : ℕ) → suc k ≡ 1 + k
one_more k = omega arith

within_step : (b r : Bool) (k n : ℕ) → (b || r) ≡ true → (r ≡ true → k < n) → cond (not b) (1 + k) 0 < suc n
within_step true r k n known rest = omega arith
within_step false r k n known rest = let within : k < n = rest known in omega (arith, within)

-- where one passes, the first that does has a place
pub place_within : {X : Type 0} (p : X → Bool) (xs : List X) → list_any p xs ≡ true → prefix_len (λ x. not (p x)) xs < length xs
place_within p [] known = absurd cc
place_within p (x ∷ xs) known =
    within_step (p x) (list_any p xs) (prefix_len (λ x. not (p x)) xs) (length xs) known (place_within p xs)

pub column_within : (columns : List Column) (name : List ℕ) → is_column columns name ≡ true → column_number columns name < length columns
column_within columns name known = place_within (λ (c : Column). bytes_eq c.name name) columns known

pub node_within : (nodes : List Node) (name : List ℕ) → is_node nodes name ≡ true → node_number nodes name < length nodes
node_within nodes name known = place_within (λ (n : Node). bytes_eq n.name name) nodes known

kind_step : (b : Bool) (c : Column) (columns : List Column) (kind : Kind) (k : ℕ) → kind ≡ kind_at columns k
    → cond b c.kind kind ≡ kind_at (c ∷ columns) (cond (not b) (1 + k) 0)
kind_step true c columns kind k rest = refl
kind_step false c columns kind k rest = rest ∙ ap (kind_at (c ∷ columns)) (one_more k)

-- the kind of a name is that of the column with its number
pub kind_at_number : (columns : List Column) (name : List ℕ) → column_kind columns name ≡ kind_at columns (column_number columns name)
kind_at_number [] name = refl
kind_at_number (c ∷ columns) name =
    kind_step (bytes_eq c.name name) c columns (column_kind columns name) (column_number columns name) (kind_at_number columns name)

column_step : (c : Column) (columns : List Column) (name : List ℕ) (b r : Bool) (kind : Kind) (k : ℕ) → (b ≡ true → c.name ≡ name) → (b || r) ≡ true
    → (r ≡ true → slice_get columns k ≡ Some (column name kind)) → slice_get (c ∷ columns) (cond (not b) (1 + k) 0) ≡ Some (column name (cond b c.kind kind))
column_step c columns name true r kind k same known rest = ap (λ n. Some (column n c.kind)) (same refl)
column_step c columns name false r kind k same known rest =
    subst (λ j. slice_get (c ∷ columns) j ≡ Some (column name kind)) (one_more k) (rest known)

-- a column that is known stands at its number
pub column_at_number : (columns : List Column) (name : List ℕ) → is_column columns name ≡ true
    → slice_get columns (column_number columns name) ≡ Some (key_column columns name)
column_at_number [] name known = absurd cc
column_at_number (c ∷ columns) name known =
    column_step c columns name (bytes_eq c.name name) (is_column columns name) (column_kind columns name) (column_number columns name)
    (bytes_eq-Decides c.name name).0 known (column_at_number columns name)

node_step : (P : List Column → ℕ → Type 0) (n : Node) (nodes : List Node) (b r : Bool) (columns : List Column) (rows k : ℕ) → (b || r) ≡ true
    → P (cond b n.columns columns) (cond b n.rows rows) → (r ≡ true → P columns rows → IsSomeAnd (slice_get nodes k) (λ (m : Node). P m.columns m.rows))
    → IsSomeAnd (slice_get (n ∷ nodes) (cond (not b) (1 + k) 0)) (λ (m : Node). P m.columns m.rows)
node_step P n nodes true r columns rows k known holds rest = holds
node_step P n nodes false r columns rows k known holds rest =
    subst (λ j. IsSomeAnd (slice_get (n ∷ nodes) j) (λ (m : Node). P m.columns m.rows)) (one_more k) (rest known holds)

-- what is true of the columns and rows of a name is true of the node with its number
pub node_at_number : (P : List Column → ℕ → Type 0) (nodes : List Node) (name : List ℕ) → is_node nodes name ≡ true
    → P (node_columns nodes name) (node_rows nodes name) → IsSomeAnd (slice_get nodes (node_number nodes name)) (λ (n : Node). P n.columns n.rows)
node_at_number P [] name known holds = absurd cc
node_at_number P (n ∷ nodes) name known holds =
    node_step P n nodes (bytes_eq n.name name) (is_node nodes name) (node_columns nodes name) (node_rows nodes name) (node_number nodes name) known holds
    (node_at_number P nodes name)

of_step : (P : List Column → ℕ → Type 0) (n : Node) (b r : Bool) (columns : List Column) (rows : ℕ) → (b || r) ≡ true → P n.columns n.rows
    → (r ≡ true → P columns rows) → P (cond b n.columns columns) (cond b n.rows rows)
of_step P n true r columns rows known holds rest = holds
of_step P n false r columns rows known holds rest = rest known

-- what is true of every node is true of the columns and rows of a known name
pub of_known_node : (P : List Column → ℕ → Type 0) (nodes : List Node) (name : List ℕ) → is_node nodes name ≡ true
    → AllByRecursion (λ (n : Node). P n.columns n.rows) nodes → P (node_columns nodes name) (node_rows nodes name)
of_known_node P [] name known all = absurd cc
of_known_node P (n ∷ nodes) name known all =
    of_step P n (bytes_eq n.name name) (is_node nodes name) (node_columns nodes name) (node_rows nodes name) known all.0
    (λ r. of_known_node P nodes name r all.1)

rows_step : (b : Bool) (n : Node) (nodes : List Node) (rows k : ℕ) → rows ≡ rows_at nodes k → cond b n.rows rows ≡ rows_at (n ∷ nodes) (cond (not b) (1 + k) 0)
rows_step true n nodes rows k rest = refl
rows_step false n nodes rows k rest = rest ∙ ap (rows_at (n ∷ nodes)) (one_more k)

-- the rows of a name are those of the node with its number
pub rows_at_number : (nodes : List Node) (name : List ℕ) → node_rows nodes name ≡ rows_at nodes (node_number nodes name)
rows_at_number [] name = refl
rows_at_number (n ∷ nodes) name =
    rows_step (bytes_eq n.name name) n nodes (node_rows nodes name) (node_number nodes name) (rows_at_number nodes name)
