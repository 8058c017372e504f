-- What holds of every text.
use Rattle.std.specs.Prelude.{◌≡◌, ℕ, List, ◌⊎◌}
use Rattle.query_text.specs.declared.statement.Statement.{Statement}
use Rattle.query_text.specs.Grammar.{AreStatements}
use Rattle.query_text.specs.Text.{IsQuery, IsFaultAt}

-- a text is a query or stops being one somewhere, and never both; the statements are unique, and so is the place
abbrev pub HasOneReading : Type 0
HasOneReading = (text : List ℕ) →
    (((q : List Statement) × IsQuery text q) ⊎ ((line : ℕ) × (column : ℕ) × IsFaultAt text line column))
    × ((p q : List Statement) → IsQuery text p → IsQuery text q → p ≡ q)
    × ((q : List Statement) (line column : ℕ) → IsQuery text q → IsFaultAt text line column → ⊥)
    × ((line column line' column' : ℕ) → IsFaultAt text line column → IsFaultAt text line' column' → (line ≡ line') × (column ≡ column'))

-- the statements of a text are those of a query: at most 64, each can be written, and their lines rise
abbrev pub TextsGiveStatements : Type 0
TextsGiveStatements = (text : List ℕ) (q : List Statement) → IsQuery text q → AreStatements q
