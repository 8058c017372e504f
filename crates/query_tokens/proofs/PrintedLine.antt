-- What is written of real tokens has no line end.
use Rattle.std.proofs.Common.{◌≡◌, ℕ, Bool, true, false, cond, ◌&&◌, leb, eqb, List, [], ◌∷◌, ◌++◌, refl, ◌∙◌, arith}
use Rattle.std.specs.List.{list_all, AllByRecursion}
use Rattle.std.specs.Char.{is_ascii_digit}
use Rattle.std.specs.Fmt.{decimal}
use Rattle.std.proofs.lemmas.List.Folds.{list_all-append}
use Rattle.std.proofs.lemmas.Bool.{leb-true, leb-false, le-leb, lt-leb, ne_eqb}
use Rattle.query_tokens.specs.declared.keyword.Keyword.{Keyword}
use Rattle.query_tokens.specs.declared.keyword.Keyword.TheVariants as word
use Rattle.query_tokens.specs.declared.sign.Sign.{Sign}
use Rattle.query_tokens.specs.declared.sign.Sign.TheVariants as sign_of
use Rattle.query_tokens.specs.Words.{word_of, sign_text}
use Rattle.query_tokens.specs.Token.{Token, name, number, quoted, keyword, sign, bad, IsToken, is_word_byte, is_word, is_quotable}
use Rattle.query_tokens.specs.Lines.{lines_of}
use Rattle.query_tokens.specs.Print.{text_of, has_space, printed_behind, printed}
use Rattle.query_tokens.proofs.LongestFront.{both_true, word_all}
use Rattle.query_tokens.proofs.ReadBack.{decimal_writes}

-- a space or a byte above it
abbrev is_visible : ℕ → Bool
is_visible b = leb 32 b

all_visible : (p : ℕ → Bool) → ((b : ℕ) → p b ≡ true → is_visible b ≡ true) → (bytes : List ℕ) → list_all p bytes ≡ true → list_all is_visible bytes ≡ true
all_visible p each [] h = refl
all_visible p each (b ∷ bytes) h =
    let k = both_true (p b) (list_all p bytes) h in
    rw (each b k.0, all_visible p each bytes k.1) refl

both_visible : (xs ys : List ℕ) → list_all is_visible xs ≡ true → list_all is_visible ys ≡ true → list_all is_visible (xs ++ ys) ≡ true
both_visible xs ys h k = list_all-append is_visible xs ys ∙ rw (h, k) refl

word_byte : (b : ℕ) → is_word_byte b ≡ true → is_visible b ≡ true
word_byte b h = go (leb 32 b) refl
  where
    go : (x : Bool) → leb 32 b ≡ x → x ≡ true
    go true e = refl
    go false e =
        let low = leb-false 32 b e in
        let upper : leb 65 b ≡ false = lt-leb 65 b (omega arith) in
        let lower : leb 97 b ≡ false = lt-leb 97 b (omega arith) in
        let mark : eqb b 95 ≡ false = ne_eqb b 95 (λ e. omega arith) in
        let digit : leb 48 b ≡ false = lt-leb 48 b (omega arith) in
        let no : is_word_byte b ≡ false = rw (upper, lower, mark, digit) refl in
        absurd cc

digit_byte : (b : ℕ) → is_ascii_digit b ≡ true → is_visible b ≡ true
digit_byte b h = let low = leb-true 48 b (both_true (leb 48 b) (leb b 57) h).0 in le-leb 32 b (omega arith)

quotable_byte : (b : ℕ) → is_quotable b ≡ true → is_visible b ≡ true
quotable_byte b h = (both_true (leb 32 b) (leb b 126) (both_true (leb 32 b && leb b 126) _ h).0).0

word_visible : (bytes : List ℕ) → is_word bytes ≡ true → list_all is_visible bytes ≡ true
word_visible [] h = refl
word_visible (b ∷ bytes) h = all_visible is_word_byte word_byte (b ∷ bytes) (word_all b bytes h)

keyword_visible : (k : Keyword) → list_all is_visible (word_of k) ≡ true
keyword_visible word.Relation = refl
keyword_visible _ = refl

sign_visible : (s : Sign) → list_all is_visible (sign_text s) ≡ true
sign_visible sign_of.LeftParen = refl
sign_visible _ = refl

text_visible : (t : Token) → IsToken t → list_all is_visible (text_of t) ≡ true
text_visible (name bytes) is = word_visible bytes is.word
text_visible (number n) is = all_visible is_ascii_digit digit_byte (decimal n) (decimal_writes n is).all
text_visible (quoted bytes) is = both_visible bytes (34 ∷ []) (all_visible is_quotable quotable_byte bytes is) refl
text_visible (keyword k) is = keyword_visible k
text_visible (sign s) is = sign_visible s
text_visible bad is = absurd is

behind_visible : (t : Token) (ts : List Token) → AllByRecursion IsToken ts → list_all is_visible (printed_behind t ts) ≡ true
behind_visible t [] h = refl
behind_visible t (u ∷ ts) h = go (has_space t u) (both_visible (text_of u) (printed_behind u ts) (text_visible u h.0) (behind_visible u ts h.1))
  where
    go : (b : Bool) → list_all is_visible (text_of u ++ printed_behind u ts) ≡ true → list_all is_visible (cond b (32 ∷ []) [] ++ (text_of u ++ printed_behind u ts)) ≡ true
    go true h = h
    go false h = h

printed_visible : (ts : List Token) → AllByRecursion IsToken ts → list_all is_visible (printed ts) ≡ true
printed_visible [] h = refl
printed_visible (t ∷ ts) h = both_visible (text_of t) (printed_behind t ts) (text_visible t h.0) (behind_visible t ts h.1)

-- no line ends within bytes that are visible
cut_visible : (line rest : List ℕ) → list_all is_visible line ≡ true → lines_of (line ++ 10 ∷ rest) ≡ line ∷ lines_of rest
cut_visible [] rest h = refl
cut_visible (b ∷ line) rest h =
    let k = both_true (is_visible b) (list_all is_visible line) h in
    let low = leb-true 32 b k.0 in
    let feed : eqb b 10 ≡ false = ne_eqb b 10 (λ e. omega arith) in
    let back : eqb b 13 ≡ false = ne_eqb b 13 (λ e. omega arith) in
    rw (feed, back, cut_visible line rest k.1) refl

pub lines_of-printed : (ts : List Token) (rest : List ℕ) → AllByRecursion IsToken ts → lines_of (printed ts ++ 10 ∷ rest) ≡ printed ts ∷ lines_of rest
lines_of-printed ts rest h = cut_visible (printed ts) rest (printed_visible ts h)
