-- How the bytes of a line are cut into tokens.
use Rattle.std.specs.Prelude.{ℕ, zero, suc, ◌+◌, ◌-◌, ◌*◌, ◌^◌, Bool, ◌&&◌, ◌||◌, ◌==◌, nat_lt, nat_le, List, [], ◌∷◌, length, take, drop, map, Option, Some, None, find, slice_index, if◌then◌else◌}
use Rattle.std.specs.List.{prefix_len, starts_with}
use Rattle.std.specs.Cmp.Lexicographic.{pointwise}
use Rattle.std.specs.Char.{is_ascii_digit}
use Rattle.query_tokens.specs.declared.keyword.Keyword.{Keyword}
use Rattle.query_tokens.specs.declared.keyword.Keyword.TheVariants as word
use Rattle.query_tokens.specs.declared.sign.Sign.{Sign}
use Rattle.query_tokens.specs.declared.sign.Sign.TheVariants as sign_of
use Rattle.query_tokens.specs.Words.{word_of, sign_text}
use Rattle.query_tokens.specs.Token.{Token, name, number, quoted, keyword, sign, bad, starts_word, is_word_byte, is_quotable}

abbrev pub all_keywords : List Keyword
all_keywords = word.Relation ∷ word.Of ∷ word.Rows ∷ word.Trust ∷ word.Release ∷ word.Filter ∷ word.Where ∷ word.And ∷ word.Select ∷ word.Concat ∷ word.Join ∷ word.On ∷ word.Group ∷ word.By ∷ word.Sum ∷ word.Count ∷ word.Least ∷ word.Greatest ∷ word.Distinct ∷ word.Output ∷ word.To ∷ word.At ∷ word.Most ∷ word.Parts ∷ word.Via ∷ word.Clear ∷ word.Num ∷ word.Text ∷ word.True ∷ word.False ∷ word.Open ∷ []

-- signs of two bytes stand before those of one
abbrev pub all_signs : List Sign
all_signs = sign_of.Equal ∷ sign_of.NotEqual ∷ sign_of.LessEqual ∷ sign_of.GreaterEqual ∷ sign_of.LeftParen ∷ sign_of.RightParen ∷ sign_of.Comma ∷ sign_of.Assign ∷ sign_of.Less ∷ sign_of.Greater ∷ sign_of.Plus ∷ sign_of.Minus ∷ sign_of.Star ∷ sign_of.Ampersand ∷ sign_of.Bar ∷ []

-- the keyword that is written so
abbrev pub keyword_of : List ℕ → Option Keyword
keyword_of bytes = find (λ k. pointwise ◌==◌ (word_of k) bytes) all_keywords

-- the longest sign that the bytes begin with
abbrev pub sign_at : List ℕ → Option Sign
sign_at bytes = find (λ s. starts_with ◌==◌ bytes (sign_text s)) all_signs

-- the number that digits write behind those of n
abbrev pub value_after : ℕ → List ℕ → ℕ
value_after n [] = n
value_after n (d ∷ digits) = value_after (n * 10 + (d - 48)) digits

-- a token, and how many bytes it has
abbrev pub Front : Type 0
Front = Token × ℕ

abbrev pub named : List ℕ → Option Keyword → Token
named bytes (Some k) = keyword k
named bytes None = if nat_le (length bytes) 32 then name bytes else bad

-- a keyword, or a name of at most 32 bytes
abbrev pub word_token : List ℕ → Token
word_token bytes = named bytes (keyword_of bytes)

-- a number below 2^64
abbrev pub number_token : List ℕ → Token
number_token digits = if nat_lt (value_after 0 digits) (2 ^ 64) then number (value_after 0 digits) else bad

-- behind a quote, the text up to the next quote
abbrev pub quoted_front : List ℕ → Front
quoted_front bytes = let n = prefix_len is_quotable bytes in if nat_lt n (length bytes) && slice_index bytes n == 34 then (quoted (take n bytes), n + 2) else (bad, 0)

abbrev pub signed : Option Sign → Front
signed (Some s) = (sign s, length (sign_text s))
signed None = (bad, 0)

-- the token at the front of the bytes, and how many bytes it has
abbrev pub front : List ℕ → Front
front bytes = if starts_word (slice_index bytes 0) then (word_token (take (prefix_len is_word_byte bytes) bytes), prefix_len is_word_byte bytes)
    else (if is_ascii_digit (slice_index bytes 0) then (number_token (take (prefix_len is_ascii_digit bytes) bytes), prefix_len is_ascii_digit bytes)
    else (if slice_index bytes 0 == 34 then quoted_front (drop 1 bytes) else signed (sign_at bytes)))

-- a token and its column, from 1
abbrev pub Place : Type 0
Place = Token × ℕ

-- a token and those behind it; nothing is behind a bad one
abbrev pub placed : Token → ℕ → List Place → List Place
placed bad column places = (bad, column) ∷ []
placed t column places = (t, column) ∷ places

abbrev pub is_blank : ℕ → Bool
is_blank b = b == 32 || b == 9

-- the tokens from this column on, the first bytes being skipped; # begins a comment
unfoldable pub scan : ℕ → ℕ → List ℕ → List Place
scan column skipped [] = []
scan column (suc skipped) (b ∷ bytes) = scan (column + 1) skipped bytes
scan column zero (b ∷ bytes) = if is_blank b then scan (column + 1) 0 bytes
    else (if b == 35 then [] else placed (front (b ∷ bytes)).0 column (scan (column + 1) ((front (b ∷ bytes)).1 - 1) bytes))

-- the tokens of a line, with their columns
abbrev pub places_of : List ℕ → List Place
places_of line = scan 1 0 line

-- the tokens of a line
abbrev pub tokens_of : List ℕ → List Token
tokens_of line = map (λ (p : Place). p.0) (places_of line)
