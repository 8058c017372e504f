-- The tokens of a line, and which of them are real.
use Rattle.std.specs.Prelude.{◌≡◌, ℕ, ◌<◌, ◌≤◌, ◌^◌, Bool, not, ◌&&◌, ◌||◌, ◌==◌, List, [], ◌∷◌, length, Option, Some, None, IsTrue}
use Rattle.std.specs.List.{list_all}
use Rattle.std.specs.Char.{is_ascii_alphabetic, is_ascii_digit}
use Rattle.std.specs.Int.{is_in_range}
use Rattle.query_tokens.specs.declared.keyword.Keyword.{Keyword}
use Rattle.query_tokens.specs.declared.sign.Sign.{Sign}
use Rattle.query_tokens.specs.Words.{word_of, same_keyword, same_sign}

-- a token; bad stands for bytes that are none, and is the last of its line
pub data Token : Type 0 where
  name : List ℕ → Token
  number : ℕ → Token
  quoted : List ℕ → Token
  keyword : Keyword → Token
  sign : Sign → Token
  bad : Token

-- a letter or _
abbrev pub starts_word : ℕ → Bool
starts_word b = is_ascii_alphabetic b || b == 95

-- a letter, a digit or _
abbrev pub is_word_byte : ℕ → Bool
is_word_byte b = starts_word b || is_ascii_digit b

-- a letter or _, then letters, digits and _
abbrev pub is_word : List ℕ → Bool
is_word [] = Bool.false
is_word (b ∷ bytes) = starts_word b && list_all is_word_byte bytes

-- what stands between quotes: from 0x20 to 0x7E, but no quote
abbrev pub is_quotable : ℕ → Bool
is_quotable b = is_in_range 32 126 b && not (b == 34)

-- a name: a word of at most 32 bytes that is no keyword
pub record IsName (bytes : List ℕ) : Type 0 where
  pub word : IsTrue (is_word bytes)
  pub short : length bytes ≤ 32
  pub free : (k : Keyword) → bytes ≡ word_of k → ⊥

-- a token that a text can have
abbrev pub IsToken : Token → Type 0
IsToken (name bytes) = IsName bytes
IsToken (number n) = n < 2 ^ 64
IsToken (quoted bytes) = IsTrue (list_all is_quotable bytes)
IsToken (keyword k) = Unit {0}
IsToken (sign s) = Unit {0}
IsToken bad = ⊥

-- a token that isn't bad
abbrev pub IsKnown : Token → Type 0
IsKnown bad = ⊥
IsKnown _ = Unit {0}

abbrev pub is_bad : Token → Bool
is_bad bad = Bool.true
is_bad _ = Bool.false

-- this keyword
abbrev pub is_keyword : Keyword → Token → Bool
is_keyword k (keyword j) = same_keyword j k
is_keyword k _ = Bool.false

-- this sign
abbrev pub is_sign : Sign → Token → Bool
is_sign s (sign u) = same_sign u s
is_sign s _ = Bool.false

-- a name's bytes
abbrev pub name_of : Token → Option (List ℕ)
name_of (name bytes) = Some bytes
name_of _ = None

-- a number's value
abbrev pub number_of : Token → Option ℕ
number_of (number n) = Some n
number_of _ = None

-- a quoted text's bytes
abbrev pub quoted_of : Token → Option (List ℕ)
quoted_of (quoted bytes) = Some bytes
quoted_of _ = None
