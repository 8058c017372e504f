-- Reading a text line by line.
use Rattle.std.specs.Prelude.{◌≡◌, ℕ, ◌+◌, nat_lt, nat_le, List, [], ◌∷◌, length, Option, Some, None, Result, Ok, Err, if◌then◌else◌}
use Rattle.query_tokens.specs.Token.{Token}
use Rattle.query_tokens.specs.Scan.{tokens_of}
use Rattle.query_tokens.specs.Lines.{lines_of}
use Rattle.query_text.specs.declared.query.ReadFault.{ReadFault}
use Rattle.query_text.specs.declared.query.ReadFault.TheVariants as faults
use Rattle.query_text.specs.declared.statement.Body.{Body}
use Rattle.query_text.specs.declared.statement.Statement.{Statement}
use Rattle.query_text.specs.Reading.{◌>>=◌}
use Rattle.query_text.specs.Forms.{statement_at}
use Rattle.query_text.specs.Text.{column_of, on_line, IsFaultAt}

-- a line and a column
abbrev pub Spot : Type 0
Spot = ℕ × ℕ

-- the statement of a line that has tokens
abbrev pub body_on : ℕ → List ℕ → Result Body (List Token) → Result (Option Statement) Spot
body_on n line (Ok body) = Ok (Some (on_line n body))
body_on n line (Err rest) = Err (n, column_of line rest)

abbrev pub tokens_on : ℕ → ℕ → List ℕ → List Token → Result (Option Statement) Spot
tokens_on n count line [] = Ok None
tokens_on n count line (t ∷ ts) = if nat_le 64 count then Err (n, column_of line (t ∷ ts)) else body_on n line (statement_at (t ∷ ts))

-- the statement of a line behind this many statements, or none where it has no token
abbrev pub line_on : ℕ → ℕ → List ℕ → Result (Option Statement) Spot
line_on n count line = tokens_on n count line (tokens_of line)

-- a statement, where there is one, before those that the lines behind it give
abbrev pub and_behind : (ℕ → Result (List Statement) Spot) → ℕ → Option Statement → Result (List Statement) Spot
and_behind behind count None = behind count
and_behind behind count (Some s) = behind (count + 1) >>= λ ss. Ok (s ∷ ss)

-- the statements of lines of which the first has this number, behind this many statements
unfoldable pub read_lines : ℕ → ℕ → List (List ℕ) → Result (List Statement) Spot
read_lines n count [] = Ok []
read_lines n count (line ∷ lines) = line_on n count line >>= and_behind (λ c. read_lines (n + 1) c lines) count

-- the statements of a text
abbrev pub read_text : List ℕ → Result (List Statement) Spot
read_text text = if nat_lt 65536 (length text) then Err (0, 0) else read_lines 1 0 (lines_of text)

-- the answer is what reading gives, unless memory ran out
abbrev pub GivesFault : {B : Type 0} → ReadFault → Result B Spot → Type 0
GivesFault (faults.Text line column) read = read ≡ Err (line, column)
GivesFault faults.Memory read = Unit {0}

abbrev pub GivesText : {A B : Type 0} → (A → B) → Result A ReadFault → Result B Spot → Type 0
GivesText view (Ok x) read = read ≡ Ok (view x)
GivesText view (Err e) read = GivesFault e read

-- the answer is this query, unless memory ran out
abbrev pub GivesQuery : {A : Type 0} → Result A ReadFault → A → Type 0
GivesQuery answer value = GivesText (λ a. a) answer (Ok value)

-- the answer is this place, unless memory ran out
abbrev pub GivesPlace : {A : Type 0} → Result A ReadFault → ℕ → ℕ → Type 0
GivesPlace answer line column = GivesText (λ a. a) answer (Err (line, column))

-- the text stops being a query at the place that a fault names; it names none where memory ran out
abbrev pub IsReason : List ℕ → ReadFault → Type 0
IsReason text (faults.Text line column) = IsFaultAt text line column
IsReason text faults.Memory = Unit {0}
