-- Which sources and parts of a statement stand together.
use Rattle.std.specs.Prelude.{ℕ, Bool, true, ◌&&◌, ◌||◌, List, [], ◌∷◌, Option, is_none}
use Rattle.std.specs.Cmp.Lexicographic.{pointwise}
use Rattle.std.specs.List.{list_all}
use Rattle.std.specs.Str.{bytes_eq}
use Rattle.words.specs.declared.column.Column.{Column}
use Rattle.query_text.specs.declared.statement.Body.{Body}
use Rattle.query_text.specs.declared.statement.Body.TheVariants as bodies
use Rattle.query_graph.specs.declared.node.Node.{Node}
use Rattle.query_graph.specs.Kinds.{same_kind}
use Rattle.query_graph.specs.Names.{node_columns}
use Rattle.query_graph.specs.Columns.{first_columns}

-- the same name and the same kind
abbrev pub same_column : Column → Column → Bool
same_column a b = bytes_eq a.name b.name && same_kind a.kind b.kind

-- the same columns in the same order
abbrev pub same_columns : List Column → List Column → Bool
same_columns = pointwise same_column

-- a group without keys has no `via`, `at most` or `parts at most`
abbrev pub keyless_fits : List (List ℕ) → Option ℕ → Option ℕ → Option ℕ → Bool
keyless_fits [] via at_most parts = is_none via && is_none at_most && is_none parts
keyless_fits (key ∷ keys) via at_most parts = true

-- the sources of a concat have the same columns, and the parts of a group stand together
abbrev pub shape_fits : List Node → Body → Bool
shape_fits nodes (bodies.Relation r) = true
shape_fits nodes (bodies.Filter f) = true
shape_fits nodes (bodies.Select s) = true
shape_fits nodes (bodies.Concat c) = list_all (λ source. same_columns (node_columns nodes source) (first_columns nodes c.sources)) c.sources
shape_fits nodes (bodies.Join j) = true
shape_fits nodes (bodies.Group g) = keyless_fits g.keys g.via g.at_most g.parts_at_most && (is_none g.parts_at_most || is_none g.clear_at)
shape_fits nodes (bodies.Distinct d) = true
shape_fits nodes (bodies.Output o) = true
