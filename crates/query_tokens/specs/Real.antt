-- The tokens that a line is cut into are tokens that a text can have.
use Rattle.std.specs.Prelude.{ℕ, List}
use Rattle.std.specs.List.{AllByRecursion}
use Rattle.query_tokens.specs.Token.{Token, IsToken, IsKnown}
use Rattle.query_tokens.specs.Scan.{tokens_of}

-- Each token of a line is one that a text can have, unless it is bad.
abbrev pub TokensAreReal : Type 0
TokensAreReal = (line : List ℕ) → AllByRecursion (λ (t : Token). IsKnown t → IsToken t) (tokens_of line)
