-- The tables of a graph's first nodes, and where a part of a concat lies.
use Rattle.std.specs.Prelude.{◌≡◌, ℕ, ◌-◌, nat_lt, if◌then◌else◌, List, [], ◌∷◌, length, map, take}
use Rattle.query_graph.specs.declared.node.Node.{Node}
use Rattle.tables.specs.Content as table
use Rattle.rewrites.specs.declared.part.Part.{Part}
use Rattle.rewrites.specs.Parts.{parts_at}

-- tables with the columns of the first nodes
abbrev pub AreTablesOf : List Node → List table.Content → Type 0
AreTablesOf nodes tables = map (λ t. t.columns) tables ≡ map (λ n. n.columns) (take (length tables) nodes)

-- of these sources the one in which a part of all lies, and which of its parts it is
abbrev pub place_of_part : List (List Part) → List ℕ → ℕ → ℕ × ℕ
place_of_part parts [] part = (0, part)
place_of_part parts (s ∷ sources) part = if nat_lt part (length (parts_at parts s)) then (s, part) else place_of_part parts sources (part - length (parts_at parts s))
