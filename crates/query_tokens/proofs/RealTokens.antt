-- The tokens of a line are real ones, up to a bad one.
use Rattle.std.proofs.Common.{◌≡◌, ℕ, zero, suc, ◌+◌, ◌-◌, ◌^◌, Bool, true, false, cond, ◌&&◌, ◌||◌, ltb, leb, List, [], ◌∷◌, length, take, map, Option, Some, None, refl, sym, ap, ◌∙◌, arith}
use Rattle.std.specs.Prelude.{slice_index, ◌==◌}
use Rattle.std.specs.List.{prefix_len, AllByRecursion}
use Rattle.std.specs.Char.{is_ascii_digit}
use Rattle.std.proofs.lemmas.Bool.{ltb-true, leb-true}
use Rattle.query_tokens.specs.declared.keyword.Keyword.{Keyword}
use Rattle.query_tokens.specs.declared.keyword.Keyword.TheVariants as word
use Rattle.query_tokens.specs.declared.sign.Sign.{Sign}
use Rattle.query_tokens.specs.Words.{word_of}
use Rattle.query_tokens.specs.Token.{Token, name, number, quoted, bad, IsToken, IsKnown, starts_word, is_word_byte, is_word, is_quotable}
use Rattle.query_tokens.specs.Scan.{Front, Place, keyword_of, named, word_token, number_token, quoted_front, signed, sign_at, front, placed, is_blank, scan, tokens_of, value_after}
use Rattle.query_tokens.proofs.Digits.{list_all-front}

-- each keyword is found by its word
pub keyword_of-word : (k : Keyword) → keyword_of (word_of k) ≡ Some k
keyword_of-word word.Relation = refl
keyword_of-word _ = refl

abbrev IsReal : Token → Type 0
IsReal t = IsKnown t → IsToken t

named_real : (bytes : List ℕ) (o : Option Keyword) → keyword_of bytes ≡ o → is_word bytes ≡ true → IsReal (named bytes o)
named_real bytes (Some k) e w = λ h. tt
named_real bytes None e w = go (leb (length bytes) 32) refl
  where
    go : (b : Bool) → leb (length bytes) 32 ≡ b → IsReal (cond b (name bytes) bad)
    go false h = λ k. k
    go true h = λ u. record { word = w; short = leb-true (length bytes) 32 h; free = λ k same. let f = sym e ∙ ap keyword_of same ∙ keyword_of-word k in cc }

-- a run of word bytes from the first of a word on is a word
pub word_run : (b : ℕ) (bytes : List ℕ) → starts_word b ≡ true → is_word (take (prefix_len is_word_byte (b ∷ bytes)) (b ∷ bytes)) ≡ true
word_run b bytes h =
    let w : is_word_byte b ≡ true = ap (λ t. t || is_ascii_digit b) h in
    let k : 1 + prefix_len is_word_byte bytes ≡ suc (prefix_len is_word_byte bytes) = omega arith in
    rw (w, k, h, list_all-front is_word_byte bytes) refl

number_real : (digits : List ℕ) → IsReal (number_token digits)
number_real digits = go (ltb (value_after 0 digits) (2 ^ 64)) refl
  where
    go : (b : Bool) → ltb (value_after 0 digits) (2 ^ 64) ≡ b → IsReal (cond b (number (value_after 0 digits)) bad)
    go false h = λ k. k
    go true h = λ u. ltb-true (value_after 0 digits) (2 ^ 64) h

quoted_real : (bytes : List ℕ) → IsReal (quoted_front bytes).0
quoted_real bytes = go (ltb (prefix_len is_quotable bytes) (length bytes) && (slice_index bytes (prefix_len is_quotable bytes) == 34))
  where
    go : (b : Bool) → IsReal (cond {A = Front} b (quoted (take (prefix_len is_quotable bytes) bytes), prefix_len is_quotable bytes + 2) (bad, 0)).0
    go false = λ k. k
    go true = λ u. list_all-front is_quotable bytes

signed_real : (o : Option Sign) → IsReal (signed o).0
signed_real None = λ k. k
signed_real (Some s) = λ u. tt

front_real : (b : ℕ) (bytes : List ℕ) → IsReal (front (b ∷ bytes)).0
front_real b bytes = go (starts_word b) (is_ascii_digit b) (b == 34) refl
  where
    word_front : Front
    word_front = (word_token (take (prefix_len is_word_byte (b ∷ bytes)) (b ∷ bytes)), prefix_len is_word_byte (b ∷ bytes))

    digit_front : Front
    digit_front = (number_token (take (prefix_len is_ascii_digit (b ∷ bytes)) (b ∷ bytes)), prefix_len is_ascii_digit (b ∷ bytes))

    go : (x y z : Bool) → starts_word b ≡ x → IsReal (cond {A = Front} x word_front (cond y digit_front (cond z (quoted_front bytes) (signed (sign_at (b ∷ bytes)))))).0
    go true y z e = named_real (take (prefix_len is_word_byte (b ∷ bytes)) (b ∷ bytes)) (keyword_of (take (prefix_len is_word_byte (b ∷ bytes)) (b ∷ bytes))) refl (word_run b bytes e)
    go false true z e = number_real (take (prefix_len is_ascii_digit (b ∷ bytes)) (b ∷ bytes))
    go false false true e = quoted_real bytes
    go false false false e = signed_real (sign_at (b ∷ bytes))

abbrev only_tokens : List Place → List Token
only_tokens places = map (λ (p : Place). p.0) places

placed_real : (t : Token) (column : ℕ) (places : List Place) → IsReal t → AllByRecursion IsReal (only_tokens places) → AllByRecursion IsReal (only_tokens (placed t column places))
placed_real bad column places h r = (h, tt)
placed_real (name n) column places h r = (h, r)
placed_real _ column places h r = (h, r)

scan_real : (column skipped : ℕ) (bytes : List ℕ) → AllByRecursion IsReal (only_tokens (scan column skipped bytes))
unfolding scan
scan_real column skipped [] = tt
scan_real column (suc skipped) (b ∷ bytes) = scan_real (column + 1) skipped bytes
scan_real column zero (b ∷ bytes) = go (is_blank b) (b == 35) (scan_real (column + 1) 0 bytes) (scan_real (column + 1) ((front (b ∷ bytes)).1 - 1) bytes)
  where
    go : (x y : Bool) → AllByRecursion IsReal (only_tokens (scan (column + 1) 0 bytes)) → AllByRecursion IsReal (only_tokens (scan (column + 1) ((front (b ∷ bytes)).1 - 1) bytes))
        → AllByRecursion IsReal (only_tokens (cond x (scan (column + 1) 0 bytes) (cond y [] (placed (front (b ∷ bytes)).0 column (scan (column + 1) ((front (b ∷ bytes)).1 - 1) bytes)))))
    go true y p q = p
    go false true p q = tt
    go false false p q = placed_real (front (b ∷ bytes)).0 column (scan (column + 1) ((front (b ∷ bytes)).1 - 1) bytes) (front_real b bytes) q

-- each token of a line is a real one, or bad
pub tokens_of-real : (line : List ℕ) → AllByRecursion (λ t. IsKnown t → IsToken t) (tokens_of line)
tokens_of-real line = scan_real 1 0 line
