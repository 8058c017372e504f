-- A token is the longest front of the bytes that is a token's text, whatever its limits.
use Rattle.std.specs.Prelude.{◌≡◌, ℕ, ◌<◌, ◌≤◌, List, [], ◌∷◌, ◌++◌, length, take, IsTrue, ◌⊎◌}
use Rattle.std.specs.List.{list_all}
use Rattle.std.specs.Char.{is_ascii_digit}
use Rattle.query_tokens.specs.declared.sign.Sign.{Sign}
use Rattle.query_tokens.specs.Words.{sign_text}
use Rattle.query_tokens.specs.Token.{is_word, is_quotable}
use Rattle.query_tokens.specs.Scan.{front}

-- one digit or more
abbrev pub AreDigits : List ℕ → Type 0
AreDigits text = (0 < length text) × IsTrue (list_all is_ascii_digit text)

-- a text between quotes
abbrev pub IsQuoted : List ℕ → Type 0
IsQuoted text = (inner : List ℕ) × IsTrue (list_all is_quotable inner) × (text ≡ 34 ∷ (inner ++ 34 ∷ []))

-- a sign's text
abbrev pub IsSignText : List ℕ → Type 0
IsSignText text = (s : Sign) × (text ≡ sign_text s)

-- a word, digits, a quoted text or a sign
abbrev pub IsTokenText : List ℕ → Type 0
IsTokenText text = IsTrue (is_word text) ⊎ (AreDigits text ⊎ (IsQuoted text ⊎ IsSignText text))

-- No front of the bytes that is a token's text is longer than the token that is read, and what is read is such a text.
abbrev pub ReadsLongest : Type 0
ReadsLongest = (bytes : List ℕ) →
    ((text rest : List ℕ) → IsTokenText text → bytes ≡ text ++ rest → length text ≤ (front bytes).1)
    × (0 < (front bytes).1 → IsTokenText (take (front bytes).1 bytes))
