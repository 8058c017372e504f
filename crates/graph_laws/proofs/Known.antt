-- A known name is that of the column, or the node, with its number.
use Rattle.std.proofs.Common.{◌≡◌, ℕ, suc, ◌+◌, Bool, true, false, cond, not, ◌||◌, List, [], ◌∷◌, refl, subst, arith}
use Rattle.std.specs.Str.{bytes_eq}
use Rattle.std.proofs.lemmas.Slice.Eq.{bytes_eq-Decides}
use Rattle.words.specs.declared.column.Column.{Column}
use Rattle.words.specs.declared.column.Kind.{Kind}
use Rattle.query_graph.specs.declared.node.Node.{Node}
use Rattle.query_graph.specs.Names.{column_kind, column_number, is_column, is_node, node_columns, node_number}
use Rattle.graph_laws.specs.Parts.{IsColumnNamed, IsNodeNamed}

one_more : (k : ℕ) → suc k ≡ 1 + k
one_more k = omega arith

pub record KnownColumn (columns : List Column) (name : List ℕ) (number : ℕ) (kind : Kind) : Type 0 where
  pub column : Column
  pub is : IsColumnNamed columns name number column
  pub same : kind ≡ column.kind

column_step : (c : Column) (columns : List Column) (name : List ℕ) (b r : Bool) (k : ℕ) (kind : Kind) → (b ≡ true → c.name ≡ name) → (b || r) ≡ true
    → (r ≡ true → KnownColumn columns name k kind) → KnownColumn (c ∷ columns) name (cond (not b) (1 + k) 0) (cond b c.kind kind)
column_step c columns name true r k kind same known rest = record { column = c; is = record { stands = refl; named = same refl }; same = refl }
column_step c columns name false r k kind same known rest =
    let found = rest known in
    subst (λ j. KnownColumn (c ∷ columns) name j kind) (one_more k)
    (record { column = found.column; is = record { stands = found.is.stands; named = found.is.named }; same = found.same })

pub known_column : (columns : List Column) (name : List ℕ) → is_column columns name ≡ true → KnownColumn columns name (column_number columns name) (column_kind columns name)
known_column [] name known = absurd cc
known_column (c ∷ columns) name known =
    column_step c columns name (bytes_eq c.name name) (is_column columns name) (column_number columns name) (column_kind columns name)
    (bytes_eq-Decides c.name name).0 known (known_column columns name)

pub record KnownNode (nodes : List Node) (name : List ℕ) (number : ℕ) (columns : List Column) : Type 0 where
  pub node : Node
  pub is : IsNodeNamed nodes name number node
  pub same : columns ≡ node.columns

node_step : (n : Node) (nodes : List Node) (name : List ℕ) (b r : Bool) (k : ℕ) (columns : List Column) → (b ≡ true → n.name ≡ name) → (b || r) ≡ true
    → (r ≡ true → KnownNode nodes name k columns) → KnownNode (n ∷ nodes) name (cond (not b) (1 + k) 0) (cond b n.columns columns)
node_step n nodes name true r k columns same known rest = record { node = n; is = record { stands = refl; named = same refl }; same = refl }
node_step n nodes name false r k columns same known rest =
    let found = rest known in
    subst (λ j. KnownNode (n ∷ nodes) name j columns) (one_more k)
    (record { node = found.node; is = record { stands = found.is.stands; named = found.is.named }; same = found.same })

pub known_node : (nodes : List Node) (name : List ℕ) → is_node nodes name ≡ true → KnownNode nodes name (node_number nodes name) (node_columns nodes name)
known_node [] name known = absurd cc
known_node (n ∷ nodes) name known =
    node_step n nodes name (bytes_eq n.name name) (is_node nodes name) (node_number nodes name) (node_columns nodes name)
    (bytes_eq-Decides n.name name).0 known (known_node nodes name)
