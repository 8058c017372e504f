-- What is written of real tokens is read back.
use Rattle.std.proofs.Common.{◌≡◌, ℕ, suc, ◌+◌, ◌-◌, ◌*◌, ◌/◌, ◌%◌, ◌^◌, ◌<◌, ◌≤◌, Bool, true, false, cond, ◌||◌, ltb, leb, eqb, List, [], ◌∷◌, ◌++◌, length, take, map, Option, Some, None, refl, sym, ap, subst, ◌∙◌, ◌⊎◌, inl, inr, append_assoc, arith, length-append}
use Rattle.std.specs.Prelude.{not, ◌==◌}
use Rattle.std.specs.List.{prefix_len, list_all, AllByRecursion}
use Rattle.std.specs.Cmp.Lexicographic.{pointwise, bytes_decides}
use Rattle.std.specs.Char.{is_ascii_digit}
use Rattle.std.specs.Fmt.{decimal}
use Rattle.std.proofs.lemmas.Fmt.{decimal_by_steps}
use Rattle.std.proofs.lemmas.List.Folds.{list_all-append}
use Rattle.std.proofs.lemmas.Bool.{lt-ltb, le-leb, ne_eqb}
use Rattle.std.proofs.Math.Seq.{take-append_seam, drop-append_seam}
use Rattle.query_tokens.specs.declared.keyword.Keyword.{Keyword}
use Rattle.query_tokens.specs.declared.keyword.Keyword.TheVariants as word
use Rattle.query_tokens.specs.declared.sign.Sign.{Sign}
use Rattle.query_tokens.specs.declared.sign.Sign.TheVariants as sign_of
use Rattle.query_tokens.specs.Words.{word_of, sign_text}
use Rattle.query_tokens.specs.Token.{Token, name, number, quoted, keyword, sign, bad, IsToken, IsName, is_bad, is_sign, starts_word, is_word_byte, is_word, is_quotable}
use Rattle.query_tokens.specs.Scan.{Front, Place, all_keywords, keyword_of, named, word_token, number_token, value_after, quoted_front, front, placed, is_blank, scan, tokens_of}
use Rattle.query_tokens.specs.Print.{text_of, has_space, printed_behind, printed}
use Rattle.query_tokens.proofs.Tags.{same_sign_is, is_sign_only}
use Rattle.query_tokens.proofs.RealTokens.{keyword_of-word}
use Rattle.query_tokens.proofs.ScanSteps.{scan_skips, found_passes}
use Rattle.query_tokens.proofs.LongestFront.{both_true, word_all, digit_no_word, at_length}

-- a run of these bytes goes no further
abbrev pub Halts : (ℕ → Bool) → List ℕ → Type 0
Halts p [] = Unit {0}
Halts p (b ∷ rest) = p b ≡ false

run_halts : (p : ℕ → Bool) (text rest : List ℕ) → list_all p text ≡ true → Halts p rest → prefix_len p (text ++ rest) ≡ length text
run_halts p [] [] h e = refl
run_halts p [] (b ∷ rest) h e = rw e refl
run_halts p (c ∷ text) rest h e =
    let k = both_true (p c) (list_all p text) h in
    let n : prefix_len p (c ∷ (text ++ rest)) ≡ 1 + prefix_len p (text ++ rest) = rw (k.0) refl in
    omega (arith, n, run_halts p text rest k.1 e)

-- ---- words

-- a word and how many bytes it has
word_part : List ℕ → ℕ → Front
word_part bytes n = (word_token (take n bytes), n)

word_reads : (text rest : List ℕ) → is_word text ≡ true → Halts is_word_byte rest → front (text ++ rest) ≡ (word_token text, length text)
unfolding word_part
word_reads [] rest w e = absurd cc
word_reads (b ∷ text) rest w e =
    let k = both_true (starts_word b) (list_all is_word_byte text) w in
    let n : prefix_len is_word_byte (b ∷ (text ++ rest)) ≡ suc (length text) = run_halts is_word_byte (b ∷ text) rest (word_all b text w) e in
    let here : front (b ∷ (text ++ rest)) ≡ word_part (b ∷ (text ++ rest)) (prefix_len is_word_byte (b ∷ (text ++ rest))) = rw (k.0) refl in
    here ∙ ap (word_part (b ∷ (text ++ rest))) n ∙ ap (λ (l : List ℕ). (word_token l, suc (length text))) (take-append_seam (b ∷ text) rest)

name_is : (bytes : List ℕ) → IsName bytes → word_token bytes ≡ name bytes
name_is bytes is = go (keyword_of bytes) refl
  where
    go : (o : Option Keyword) → keyword_of bytes ≡ o → named bytes o ≡ name bytes
    go None e = let short : leb (length bytes) 32 ≡ true = le-leb (length bytes) 32 is.short in rw short refl
    go (Some k) e = absurd (is.free k (sym ((bytes_decides (word_of k) bytes).0 (found_passes (λ j. pointwise ◌==◌ (word_of j) bytes) all_keywords k e))))

keyword_is : (k : Keyword) → word_token (word_of k) ≡ keyword k
keyword_is k = ap (named (word_of k)) (keyword_of-word k)

keyword_word : (k : Keyword) → is_word (word_of k) ≡ true
keyword_word word.Relation = refl
keyword_word _ = refl

-- ---- numbers

value_after-append : (n : ℕ) (digits : List ℕ) (d : ℕ) → value_after n (digits ++ d ∷ []) ≡ value_after n digits * 10 + (d - 48)
value_after-append n [] d = refl
value_after-append n (c ∷ digits) d = value_after-append (n * 10 + (c - 48)) digits d

digit_is : (b : ℕ) → 48 ≤ b → b ≤ 57 → is_ascii_digit b ≡ true
digit_is b low high = rw (le-leb 48 b low, le-leb b 57 high) refl

-- these digits write this number
pub record Writes (n : ℕ) (digits : List ℕ) : Type 0 where
  pub all : list_all is_ascii_digit digits ≡ true
  pub some : 0 < length digits
  pub value : value_after 0 digits ≡ n

writes_digit : (n : ℕ) → n < 10 → Writes n ((48 + n) ∷ [])
writes_digit n h = record { all = rw (digit_is (48 + n) (omega arith) (omega arith)) refl; some = omega arith; value = omega arith }

writes_more : (n : ℕ) (digits : List ℕ) → 10 ≤ n → Writes (n / 10) digits → Writes n (digits ++ ((48 + n % 10) ∷ []))
writes_more n digits h w =
    let last : is_ascii_digit (48 + n % 10) ≡ true = digit_is (48 + n % 10) (omega arith) (omega arith) in
    record {
      all = list_all-append is_ascii_digit digits ((48 + n % 10) ∷ []) ∙ rw (w.all, last) refl;
      some = omega (arith, length-append digits ((48 + n % 10) ∷ []));
      value = omega (arith, value_after-append 0 digits (48 + n % 10), w.value);
    }

pub decimal_writes : (n : ℕ) → n < 2 ^ 64 → Writes n (decimal n)
decimal_writes n h = decimal_by_steps Writes writes_digit writes_more n h

number_is : (digits : List ℕ) (n : ℕ) → value_after 0 digits ≡ n → n < 2 ^ 64 → number_token digits ≡ number n
number_is digits n e h =
    let small : ltb n (2 ^ 64) ≡ true = lt-ltb n (2 ^ 64) h in
    ap (λ v. cond (ltb v (2 ^ 64)) (number v) bad) e ∙ rw small refl

digits_read : (text rest : List ℕ) → list_all is_ascii_digit text ≡ true → 0 < length text → Halts is_ascii_digit rest → front (text ++ rest) ≡ (number_token text, length text)
digits_read [] rest h some e = absurd (omega arith)
digits_read (b ∷ text) rest h some e =
    let k = both_true (is_ascii_digit b) (list_all is_ascii_digit text) h in
    let no_word : starts_word b ≡ false = digit_no_word b k.0 in
    let n : prefix_len is_ascii_digit (b ∷ (text ++ rest)) ≡ suc (length text) = run_halts is_ascii_digit (b ∷ text) rest h e in
    let here : front (b ∷ (text ++ rest)) ≡ (number_token (take (prefix_len is_ascii_digit (b ∷ (text ++ rest))) (b ∷ (text ++ rest))), prefix_len is_ascii_digit (b ∷ (text ++ rest))) = rw (no_word, k.0) refl in
    here ∙ ap (λ (m : ℕ). (number_token (take m (b ∷ (text ++ rest))), m)) n ∙ ap (λ (l : List ℕ). (number_token l, suc (length text))) (take-append_seam (b ∷ text) rest)

-- ---- quoted texts and signs

quoted_reads : (inner rest : List ℕ) → list_all is_quotable inner ≡ true → quoted_front (inner ++ 34 ∷ rest) ≡ (quoted inner, length inner + 2)
quoted_reads inner rest h =
    let n : prefix_len is_quotable (inner ++ 34 ∷ rest) ≡ length inner = run_halts is_quotable inner (34 ∷ rest) h refl in
    let long : ltb (length inner) (length (inner ++ 34 ∷ rest)) ≡ true = lt-ltb (length inner) (length (inner ++ 34 ∷ rest)) (omega (arith, length-append inner (34 ∷ rest))) in
    let text : take (length inner) (inner ++ 34 ∷ rest) ≡ inner = take-append_seam inner (34 ∷ rest) in
    rw (n, long, at_length inner 34 rest, text) refl

sign_reads : (s : Sign) (rest : List ℕ) → Halts (λ b. eqb 61 b) rest → front (sign_text s ++ rest) ≡ (sign s, length (sign_text s))
sign_reads sign_of.Assign [] e = refl
sign_reads sign_of.Assign (c ∷ rest) e = rw e refl
sign_reads sign_of.Less [] e = refl
sign_reads sign_of.Less (c ∷ rest) e = rw e refl
sign_reads sign_of.Greater [] e = refl
sign_reads sign_of.Greater (c ∷ rest) e = rw e refl
sign_reads _ rest e = refl

-- ---- one token

-- these bytes may stand behind this token
abbrev pub Follows : Token → List ℕ → Type 0
Follows t rest = (is_sign sign_of.LeftParen t ≡ true) ⊎ (Halts is_word_byte rest × Halts (λ b. eqb 61 b) rest)

no_digit : (rest : List ℕ) → Halts is_word_byte rest → Halts is_ascii_digit rest
no_digit [] h = tt
no_digit (b ∷ rest) h = go (starts_word b) (is_ascii_digit b) h
  where
    go : (x y : Bool) → (x || y) ≡ false → y ≡ false
    go x false h = refl
    go true true h = absurd cc
    go false true h = absurd cc

front_reads : (t : Token) (rest : List ℕ) → IsToken t → Follows t rest → front (text_of t ++ rest) ≡ (t, length (text_of t))
front_reads (name bytes) rest is (inl e) = absurd cc
front_reads (name bytes) rest is (inr h) = word_reads bytes rest is.word h.0 ∙ ap (λ t. (t, length bytes)) (name_is bytes is)
front_reads (number n) rest is (inl e) = absurd cc
front_reads (number n) rest is (inr h) =
    let w = decimal_writes n is in
    digits_read (decimal n) rest w.all w.some (no_digit rest h.0) ∙ ap (λ t. (t, length (decimal n))) (number_is (decimal n) n w.value is)
front_reads (quoted bytes) rest is (inl e) = absurd cc
front_reads (quoted bytes) rest is (inr h) =
    let size : length bytes + 2 ≡ length (34 ∷ (bytes ++ 34 ∷ [])) = omega (arith, length-append bytes (34 ∷ [])) in
    ap quoted_front (append_assoc bytes (34 ∷ []) rest) ∙ quoted_reads bytes rest is ∙ ap (λ (n : ℕ). (quoted bytes, n)) size
front_reads (keyword k) rest is (inl e) = absurd cc
front_reads (keyword k) rest is (inr h) = word_reads (word_of k) rest (keyword_word k) h.0 ∙ ap (λ t. (t, length (word_of k))) (keyword_is k)
front_reads (sign s) rest is (inl e) =
    let same : s ≡ sign_of.LeftParen = same_sign_is s sign_of.LeftParen e in
    subst (λ u. front (sign_text u ++ rest) ≡ (sign u, length (sign_text u))) (sym same) refl
front_reads (sign s) rest is (inr h) = sign_reads s rest h.1
front_reads bad rest is h = absurd is

-- a text that begins neither with a blank nor with a comment
abbrev pub Begins : List ℕ → Type 0
Begins [] = ⊥
Begins (b ∷ bytes) = (is_blank b ≡ false) × (eqb b 35 ≡ false)

differ : (p : ℕ → Bool) (b c : ℕ) → p b ≡ true → p c ≡ false → eqb b c ≡ false
differ p b c h e = ne_eqb b c (λ same. let f = sym h ∙ ap p same ∙ e in cc)

word_begins : (bytes : List ℕ) → is_word bytes ≡ true → Begins bytes
word_begins [] h = absurd cc
word_begins (b ∷ bytes) h =
    let k = both_true (starts_word b) (list_all is_word_byte bytes) h in
    (rw (differ starts_word b 32 k.0 refl, differ starts_word b 9 k.0 refl) refl, differ starts_word b 35 k.0 refl)

digits_begin : (bytes : List ℕ) → list_all is_ascii_digit bytes ≡ true → 0 < length bytes → Begins bytes
digits_begin [] h some = absurd (omega arith)
digits_begin (b ∷ bytes) h some =
    let k = both_true (is_ascii_digit b) (list_all is_ascii_digit bytes) h in
    (rw (differ is_ascii_digit b 32 k.0 refl, differ is_ascii_digit b 9 k.0 refl) refl, differ is_ascii_digit b 35 k.0 refl)

sign_begins : (s : Sign) → Begins (sign_text s)
sign_begins sign_of.LeftParen = (refl, refl)
sign_begins _ = (refl, refl)

text_begins : (t : Token) → IsToken t → Begins (text_of t)
text_begins (name bytes) is = word_begins bytes is.word
text_begins (number n) is = let w = decimal_writes n is in digits_begin (decimal n) w.all w.some
text_begins (quoted bytes) is = (refl, refl)
text_begins (keyword k) is = word_begins (word_of k) (keyword_word k)
text_begins (sign s) is = sign_begins s
text_begins bad is = absurd is

real_known : (t : Token) → IsToken t → is_bad t ≡ false
real_known bad is = absurd is
real_known (name bytes) is = refl
real_known _ is = refl

-- ---- all tokens of a line

only_tokens : List Place → List Token
only_tokens places = map (λ (p : Place). p.0) places

placed_real : (t : Token) (column : ℕ) (places : List Place) → is_bad t ≡ false → placed t column places ≡ (t, column) ∷ places
placed_real bad column places h = absurd cc
placed_real (name bytes) column places h = refl
placed_real _ column places h = refl

scan_reads : (column : ℕ) (text rest : List ℕ) (t : Token) → Begins text → is_bad t ≡ false → front (text ++ rest) ≡ (t, length text)
    → scan column 0 (text ++ rest) ≡ (t, column) ∷ scan (column + length text) 0 rest
unfolding scan
scan_reads column [] rest t begins known e = absurd begins
scan_reads column (b ∷ text) rest t begins known e =
    let here : scan column 0 (b ∷ (text ++ rest)) ≡ placed (front (b ∷ (text ++ rest))).0 column (scan (column + 1) ((front (b ∷ (text ++ rest))).1 - 1) (text ++ rest)) = rw (begins.0, begins.1) refl in
    let less : suc (length text) - 1 ≡ length text = omega arith in
    let read : placed (front (b ∷ (text ++ rest))).0 column (scan (column + 1) ((front (b ∷ (text ++ rest))).1 - 1) (text ++ rest)) ≡ placed t column (scan (column + 1) (length text) (text ++ rest)) =
    ap (λ (f : Front). placed f.0 column (scan (column + 1) (f.1 - 1) (text ++ rest))) e ∙ ap (λ (k : ℕ). placed t column (scan (column + 1) k (text ++ rest))) less in
    let over = scan_skips (column + 1) (length text) (text ++ rest) in
    let next : column + 1 + length text ≡ column + suc (length text) = omega arith in
    here ∙ read ∙ placed_real t column _ known ∙ ap (λ (l : List Place). (t, column) ∷ l)
    (over ∙ ap (λ (l : List ℕ). scan (column + 1 + length text) 0 l) (drop-append_seam text rest) ∙ ap (λ (k : ℕ). scan k 0 rest) next)

follows : (t : Token) (ts : List Token) → Follows t (printed_behind t ts)
follows t [] = inr (tt, tt)
follows t (u ∷ ts) = go (is_sign sign_of.LeftParen t) (is_sign sign_of.RightParen u) (is_sign sign_of.Comma u) refl refl refl
  where
    go : (x y z : Bool) → is_sign sign_of.LeftParen t ≡ x → is_sign sign_of.RightParen u ≡ y → is_sign sign_of.Comma u ≡ z
        → Follows t (cond (not (x || (y || z))) (32 ∷ []) [] ++ (text_of u ++ printed_behind u ts))
    go true y z e f g = inl e
    go false true z e f g = subst (λ v. Follows t (text_of v ++ printed_behind u ts)) (sym (is_sign_only sign_of.RightParen u f)) (inr (refl, refl))
    go false false true e f g = subst (λ v. Follows t (text_of v ++ printed_behind u ts)) (sym (is_sign_only sign_of.Comma u g)) (inr (refl, refl))
    go false false false e f g = inr (refl, refl)

token_reads : (column : ℕ) (t : Token) (ts : List Token) → IsToken t → ((k : ℕ) → only_tokens (scan k 0 (printed_behind t ts)) ≡ ts)
    → only_tokens (scan column 0 (text_of t ++ printed_behind t ts)) ≡ t ∷ ts
unfolding only_tokens
token_reads column t ts is behind =
    ap only_tokens (scan_reads column (text_of t) (printed_behind t ts) t (text_begins t is) (real_known t is) (front_reads t (printed_behind t ts) is (follows t ts)))
    ∙ ap (λ (l : List Token). t ∷ l) (behind (column + length (text_of t)))

behind_reads : (t : Token) (ts : List Token) → AllByRecursion IsToken ts → (column : ℕ) → only_tokens (scan column 0 (printed_behind t ts)) ≡ ts
unfolding scan only_tokens
behind_reads t [] h column = refl
behind_reads t (u ∷ ts) h column = go (has_space t u) (λ k. token_reads k u ts h.0 (behind_reads u ts h.1))
  where
    go : (b : Bool) → ((k : ℕ) → only_tokens (scan k 0 (text_of u ++ printed_behind u ts)) ≡ u ∷ ts)
        → only_tokens (scan column 0 (cond b (32 ∷ []) [] ++ (text_of u ++ printed_behind u ts))) ≡ u ∷ ts
    go true read = read (column + 1)
    go false read = read column

pub tokens_of-printed : (ts : List Token) → AllByRecursion IsToken ts → tokens_of (printed ts) ≡ ts
unfolding scan only_tokens
tokens_of-printed [] h = refl
tokens_of-printed (t ∷ ts) h = token_reads 1 t ts h.0 (behind_reads t ts h.1)
