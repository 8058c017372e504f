-- The one text that a query is written as: a statement a line, each ended by LF.
use Rattle.std.specs.Prelude.{ℕ, ◌+◌, List, [], ◌∷◌, ◌++◌}
use Rattle.std.specs.List.{flat_map}
use Rattle.query_tokens.specs.Print.{printed}
use Rattle.query_text.specs.declared.statement.Body.{Body}
use Rattle.query_text.specs.declared.statement.Statement.{Statement}
use Rattle.query_text.specs.Spelling.{spelling}
use Rattle.query_text.specs.Text.{on_line}

-- a statement's line, with its end
abbrev pub printed_line : Body → List ℕ
printed_line body = printed (spelling body) ++ 10 ∷ []

abbrev pub printed_query : List Statement → List ℕ
printed_query statements = flat_map (λ (s : Statement). printed_line s.body) statements

-- the same statements, on the lines from this number on
abbrev pub on_lines_from : ℕ → List Statement → List Statement
on_lines_from n [] = []
on_lines_from n (s ∷ statements) = on_line n s.body ∷ on_lines_from (n + 1) statements
