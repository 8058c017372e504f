-- How the tokens of a line are written: one space between two tokens, but none behind ( and none before ) and ,
use Rattle.std.specs.Prelude.{◌≡◌, ℕ, Bool, not, ◌||◌, List, [], ◌∷◌, ◌++◌, if◌then◌else◌}
use Rattle.std.specs.List.{AllByRecursion}
use Rattle.std.specs.Fmt.{decimal}
use Rattle.query_tokens.specs.declared.sign.Sign.TheVariants as sign_of
use Rattle.query_tokens.specs.Words.{word_of, sign_text}
use Rattle.query_tokens.specs.Token.{Token, name, number, quoted, keyword, sign, bad, is_sign, IsToken}
use Rattle.query_tokens.specs.Scan.{tokens_of}
use Rattle.query_tokens.specs.Lines.{lines_of}

-- a token's bytes; a number is in decimal, without leading zeros
abbrev pub text_of : Token → List ℕ
text_of (name bytes) = bytes
text_of (number n) = decimal n
text_of (quoted bytes) = 34 ∷ (bytes ++ 34 ∷ [])
text_of (keyword k) = word_of k
text_of (sign s) = sign_text s
text_of bad = []

-- a space stands between these two tokens
abbrev pub has_space : Token → Token → Bool
has_space t u = not (is_sign sign_of.LeftParen t || (is_sign sign_of.RightParen u || is_sign sign_of.Comma u))

abbrev pub space_between : Token → Token → List ℕ
space_between t u = if has_space t u then 32 ∷ [] else []

-- tokens behind this one
abbrev pub printed_behind : Token → List Token → List ℕ
printed_behind t [] = []
printed_behind t (u ∷ ts) = space_between t u ++ (text_of u ++ printed_behind u ts)

-- the tokens of a line, as they are written
abbrev pub printed : List Token → List ℕ
printed [] = []
printed (t ∷ ts) = text_of t ++ printed_behind t ts

-- Real tokens are read back from what is written, which is one line of any text.
abbrev pub ReadsBack : Type 0
ReadsBack = (tokens : List Token) → AllByRecursion IsToken tokens →
    (tokens_of (printed tokens) ≡ tokens)
    × ((rest : List ℕ) → lines_of (printed tokens ++ 10 ∷ rest) ≡ printed tokens ∷ lines_of rest)
