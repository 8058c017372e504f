-- The sizes of a graph with one node more.
use Rattle.std.proofs.Common.{◌≡◌, ℕ, ◌+◌, ◌*◌, ◌≤◌, Bool, true, false, cond, ◌&&◌, List, [], ◌∷◌, ◌++◌, length, refl, ap, ◌∙◌, arith}
use mir.Syntax.{w64}
use mir.Val.{Fits}
use Rattle.std.specs.Prelude.{nat_le, sum_by}
use Rattle.std.specs.Str.{bytes_eq}
use Rattle.std.proofs.lemmas.Bool.Decides.{nat_tests}
use Rattle.std.proofs.lemmas.List.Sums.{sum_by-append}
use Rattle.words.specs.declared.column.Column.{Column}
use Rattle.query_text.specs.declared.statement.Body.{Body}
use Rattle.query_graph.specs.declared.node.Node.{Node}
use Rattle.query_graph.specs.Columns.{columns_of}
use Rattle.query_graph.specs.Names.{node_columns}
use Rattle.query_graph.specs.Sizes.{AreNarrow, cell_limit, cells, cells_of, column_limit, constants_fit, counts_fit, declared_rows, row_limit, sizes_fit}

-- one of two lists that are short
short : (b : Bool) (xs ys : List Column) → length xs ≤ column_limit → length ys ≤ column_limit → length (cond b xs ys) ≤ column_limit
short true xs ys x y = x
short false xs ys x y = y

-- the same of the second where the choice is the same
second : (b : Bool) (xs ys zs : List Column) → length (cond b xs ys) ≤ column_limit → (length ys ≤ column_limit → length zs ≤ column_limit) → length (cond b xs zs) ≤ column_limit
second true xs ys zs h more = h
second false xs ys zs h more = more h

-- the columns of a node behind others, where those of each name are few
narrow_by : (nodes : List Node) (n : Node) (name : List ℕ) → length n.columns ≤ column_limit → length (node_columns nodes name) ≤ column_limit
    → length (node_columns (nodes ++ n ∷ []) name) ≤ column_limit
narrow_by [] n name few narrow = short (bytes_eq n.name name) n.columns [] few narrow
narrow_by (m ∷ nodes) n name few narrow =
    second (bytes_eq m.name name) m.columns (node_columns nodes name) (node_columns (nodes ++ n ∷ []) name) narrow (narrow_by nodes n name few)

pub narrow-append : (nodes : List Node) (n : Node) → AreNarrow nodes → length n.columns ≤ column_limit → AreNarrow (nodes ++ n ∷ [])
narrow-append nodes n narrow few = λ name. narrow_by nodes n name few (narrow name)

-- the cells of nodes with one more
pub cells_of-append : (nodes : List Node) (n : Node) → cells_of (nodes ++ n ∷ []) ≡ cells_of nodes + cells n.rows (length n.columns)
cells_of-append nodes n =
    let one : sum_by (λ (m : Node). cells m.rows (length m.columns)) (n ∷ []) ≡ cells n.rows (length n.columns) = omega arith in
    sum_by-append (λ (m : Node). cells m.rows (length m.columns)) nodes (n ∷ []) ∙ ap (λ c. cells_of nodes + c) one

and_both : (a b : Bool) → (a && b) ≡ true → (a ≡ true) × (b ≡ true)
and_both true b h = (refl, h)
and_both false b h = absurd cc

pub le_of : (m n : ℕ) → nat_le m n ≡ true → m ≤ n
le_of m n h = grind (arith, nat_tests)

-- sizes that fit are within the limits
pub sizes_within : (nodes : List Node) (body : Body) → sizes_fit nodes body ≡ true
    → (length (columns_of nodes body) ≤ column_limit) × (cells_of nodes + cells (declared_rows nodes body) (length (columns_of nodes body)) ≤ cell_limit)
sizes_within nodes body fits =
    let node = (and_both (counts_fit body && constants_fit body) _ fits).1 in
    let both = and_both (nat_le (declared_rows nodes body) row_limit && nat_le (length (columns_of nodes body)) column_limit) _ node in
    let narrow = and_both (nat_le (declared_rows nodes body) row_limit) _ both.0 in
    (le_of _ _ narrow.1, le_of _ _ both.1)

-- the cells of a node whose size fits are a number of 64 bits, and so are all cells with it
pub cells_fit : (nodes : List Node) (body : Body) (before rows width : ℕ) → before ≡ cells_of nodes → sizes_fit nodes body ≡ true → rows ≡ declared_rows nodes body
    → width ≡ length (columns_of nodes body) → Fits w64 (rows * (width + 1)) × Fits w64 (before + rows * (width + 1))
cells_fit nodes body before rows width counted fits rows_is width_is =
    let few : before + rows * (width + 1) ≤ cell_limit = rw (counted, rows_is, width_is) (sizes_within nodes body fits).1 in
    (omega arith, omega arith)
