-- Which texts are a query, with which statements, and where another text stops being one.
use Rattle.std.specs.Prelude.{◌≡◌, ℕ, ◌+◌, ◌-◌, ◌<◌, ◌≤◌, List, [], ◌∷◌, ◌++◌, length, drop, ◌⊎◌}
use Rattle.query_tokens.specs.Token.{Token}
use Rattle.query_tokens.specs.Scan.{Place, places_of, tokens_of}
use Rattle.query_tokens.specs.Lines.{lines_of}
use Rattle.query_text.specs.declared.statement.Body.{Body}
use Rattle.query_text.specs.declared.statement.Statement.{Statement}
use Rattle.query_text.specs.Grammar.{IsStatement, IsFault}

-- the column of the first of these places, or the one behind the line's last byte
abbrev pub column_by : List ℕ → List Place → ℕ
column_by line [] = length line + 1
column_by line (p ∷ places) = p.1

-- the column at which this rest of a line's tokens begins
abbrev pub column_of : List ℕ → List Token → ℕ
column_of line rest = column_by line (drop (length (places_of line) - length rest) (places_of line))

abbrev pub on_line : ℕ → Body → Statement
on_line n body = record { line = n; body = body }

-- these lines, of which the first has this number, hold these statements: each line has no token or is one
abbrev pub AreLines : ℕ → List (List ℕ) → List Statement → Type 0
AreLines n [] statements = statements ≡ []
AreLines n (line ∷ lines) statements = (tokens_of line ≡ [] × AreLines (n + 1) lines statements)
    ⊎ ((body : Body) × (others : List Statement) × (statements ≡ on_line n body ∷ others) × IsStatement (tokens_of line) body × AreLines (n + 1) lines others)

-- the text is a query with these statements: at most 65536 bytes, and at most 64 statements
pub record IsQuery (text : List ℕ) (statements : List Statement) : Type 0 where
  pub size : length text ≤ 65536
  pub lines : AreLines 1 (lines_of text) statements
  pub few : length statements ≤ 64

-- a line behind this many statements is faulty at this column: it is the 65th, or no statement from there on
abbrev pub IsFaultOfLine : ℕ → List ℕ → ℕ → Type 0
IsFaultOfLine count line column = ((tokens_of line ≡ []) → ⊥)
    × (((count ≡ 64) × (column ≡ column_of line (tokens_of line))) ⊎ ((count < 64) × (rest : List Token) × IsFault (tokens_of line) rest × (column ≡ column_of line rest)))

-- in lines of which the first has this number, behind this many statements, the first fault is here
pub record IsFirstFault (n count : ℕ) (lines : List (List ℕ)) (line column : ℕ) : Type 0 where
  pub before : List (List ℕ)
  pub faulty : List ℕ
  pub behind : List (List ℕ)
  pub cut : lines ≡ before ++ faulty ∷ behind
  pub statements : List Statement
  pub good : AreLines n before statements
  pub few : count + length statements ≤ 64
  pub number : line ≡ n + length before
  pub fault : IsFaultOfLine (count + length statements) faulty column

-- the text stops being a query here; a text that is too long at line 0 and column 0
abbrev pub IsFaultAt : List ℕ → ℕ → ℕ → Type 0
IsFaultAt text line column = ((65536 < length text) × (line ≡ 0) × (column ≡ 0)) ⊎ ((length text ≤ 65536) × IsFirstFault 1 0 (lines_of text) line column)
