-- The token that is read is the longest front that is a token's text.
use Rattle.std.proofs.Common.{◌≡◌, ℕ, suc, ◌+◌, ◌<◌, ◌≤◌, Bool, true, false, cond, ◌&&◌, ◌||◌, ltb, leb, eqb, List, [], ◌∷◌, ◌++◌, length, take, Option, Some, None, refl, sym, ap, ◌∙◌, inl, inr, append_assoc, arith, length-append}
use Rattle.std.specs.Prelude.{slice_index, ◌==◌}
use Rattle.std.specs.List.{prefix_len, list_all, starts_with}
use Rattle.std.specs.Cmp.Lexicographic.{bytes_decides}
use Rattle.std.specs.Char.{is_ascii_digit}
use Rattle.std.proofs.lemmas.List.{take_more, length-take}
use Rattle.std.proofs.lemmas.Bool.{ltb-true, lt-ltb, leb-true, lt-leb, eqb-true, ne_eqb}
use Rattle.std.proofs.lemmas.List.Sums.{prefix_len-le-length}
use Rattle.query_tokens.specs.declared.sign.Sign.{Sign}
use Rattle.query_tokens.specs.declared.sign.Sign.TheVariants as sign_of
use Rattle.query_tokens.specs.Words.{sign_text}
use Rattle.query_tokens.specs.Token.{quoted, bad, starts_word, is_word_byte, is_quotable}
use Rattle.query_tokens.specs.Scan.{Front, all_signs, word_token, number_token, quoted_front, signed, sign_at, front}
use Rattle.query_tokens.specs.Longest.{IsTokenText}
use Rattle.query_tokens.proofs.Digits.{list_all-front}
use Rattle.query_tokens.proofs.ScanSteps.{found_passes, sign_length}
use Rattle.query_tokens.proofs.RealTokens.{word_run}

pub both_true : (a b : Bool) → (a && b) ≡ true → (a ≡ true) × (b ≡ true)
both_true true b e = (refl, e)
both_true false b e = absurd cc

-- what passes as a whole is no longer than the run
run_covers : (p : ℕ → Bool) (text rest : List ℕ) → list_all p text ≡ true → length text ≤ prefix_len p (text ++ rest)
run_covers p [] rest h = omega arith
run_covers p (b ∷ text) rest h =
    let k = both_true (p b) (list_all p text) h in
    let n : prefix_len p (b ∷ (text ++ rest)) ≡ 1 + prefix_len p (text ++ rest) = rw (k.0) refl in
    omega (arith, n, run_covers p text rest k.1)

-- a run ends where the next byte doesn't pass
run_ends : (p : ℕ → Bool) (text : List ℕ) (b : ℕ) (rest : List ℕ) → list_all p text ≡ true → p b ≡ false → prefix_len p (text ++ b ∷ rest) ≡ length text
run_ends p [] b rest h e = rw e refl
run_ends p (c ∷ text) b rest h e =
    let k = both_true (p c) (list_all p text) h in
    let n : prefix_len p (c ∷ (text ++ b ∷ rest)) ≡ 1 + prefix_len p (text ++ b ∷ rest) = rw (k.0) refl in
    omega (arith, n, run_ends p text b rest k.1 e)

pub word_all : (b : ℕ) (text : List ℕ) → (starts_word b && list_all is_word_byte text) ≡ true → list_all is_word_byte (b ∷ text) ≡ true
word_all b text h =
    let k = both_true (starts_word b) (list_all is_word_byte text) h in
    let w : is_word_byte b ≡ true = ap (λ t. t || is_ascii_digit b) k.0 in
    rw (w, k.1) refl

-- a word's front
word_front : (b : ℕ) (bytes : List ℕ) → starts_word b ≡ true → (front (b ∷ bytes)).1 ≡ prefix_len is_word_byte (b ∷ bytes)
word_front b bytes h = rw h refl

-- a digit begins no word
pub digit_no_word : (b : ℕ) → is_ascii_digit b ≡ true → starts_word b ≡ false
digit_no_word b h =
    let k = both_true (leb 48 b) (leb b 57) h in
    let low = leb-true 48 b k.0 in
    let high = leb-true b 57 k.1 in
    let upper : leb 65 b ≡ false = lt-leb 65 b (omega arith) in
    let lower : leb 97 b ≡ false = lt-leb 97 b (omega arith) in
    let mark : eqb b 95 ≡ false = ne_eqb b 95 (λ e. omega arith) in
    rw (upper, lower, mark) refl

digit_front : (b : ℕ) (bytes : List ℕ) → is_ascii_digit b ≡ true → (front (b ∷ bytes)).1 ≡ prefix_len is_ascii_digit (b ∷ bytes)
digit_front b bytes h = rw (digit_no_word b h, h) refl

-- what stands between quotes, with a quote behind it
pub at_length : (inner : List ℕ) (b : ℕ) (rest : List ℕ) → slice_index (inner ++ b ∷ rest) (length inner) ≡ b
at_length [] b rest = refl
at_length (c ∷ inner) b rest = at_length inner b rest

quoted_length : (inner rest : List ℕ) → list_all is_quotable inner ≡ true → (quoted_front (inner ++ 34 ∷ rest)).1 ≡ length inner + 2
quoted_length inner rest h =
    let n : prefix_len is_quotable (inner ++ 34 ∷ rest) ≡ length inner = run_ends is_quotable inner 34 rest h refl in
    let long : ltb (length inner) (length (inner ++ 34 ∷ rest)) ≡ true = lt-ltb (length inner) (length (inner ++ 34 ∷ rest)) (omega (arith, length-append inner (34 ∷ rest))) in
    rw (n, long, at_length inner 34 rest) refl

two_or_one : (x : Bool) (s t : Sign) → 1 ≤ (signed (cond x (Some s) (Some t))).1
two_or_one true s t = sign_length s
two_or_one false s t = sign_length t

-- a sign is no longer than the sign that is read
sign_longest : (s : Sign) (rest : List ℕ) → length (sign_text s) ≤ (front (sign_text s ++ rest)).1
sign_longest sign_of.Equal rest = omega arith
sign_longest sign_of.NotEqual rest = omega arith
sign_longest sign_of.LessEqual rest = omega arith
sign_longest sign_of.GreaterEqual rest = omega arith
sign_longest sign_of.Assign [] = omega arith
sign_longest sign_of.Assign (c ∷ rest) = two_or_one (eqb 61 c && true) sign_of.Equal sign_of.Assign
sign_longest sign_of.Less [] = omega arith
sign_longest sign_of.Less (c ∷ rest) = two_or_one (eqb 61 c && true) sign_of.LessEqual sign_of.Less
sign_longest sign_of.Greater [] = omega arith
sign_longest sign_of.Greater (c ∷ rest) = two_or_one (eqb 61 c && true) sign_of.GreaterEqual sign_of.Greater
sign_longest _ rest = omega arith

pub longest : (bytes text rest : List ℕ) → IsTokenText text → bytes ≡ text ++ rest → length text ≤ (front bytes).1
longest bytes [] rest is e = omega arith
longest bytes (b ∷ text) rest (inl word) e =
    let k = both_true (starts_word b) (list_all is_word_byte text) word in
    let n : (front bytes).1 ≡ prefix_len is_word_byte (b ∷ (text ++ rest)) = ap (λ (l : List ℕ). (front l).1) e ∙ word_front b (text ++ rest) k.0 in
    omega (arith, n, run_covers is_word_byte (b ∷ text) rest (word_all b text word))
longest bytes (b ∷ text) rest (inr (inl digits)) e =
    let k = both_true (is_ascii_digit b) (list_all is_ascii_digit text) digits.1 in
    let n : (front bytes).1 ≡ prefix_len is_ascii_digit (b ∷ (text ++ rest)) = ap (λ (l : List ℕ). (front l).1) e ∙ digit_front b (text ++ rest) k.0 in
    omega (arith, n, run_covers is_ascii_digit (b ∷ text) rest digits.1)
longest bytes (b ∷ text) rest (inr (inr (inl q))) e =
    let cells : (b ∷ text) ++ rest ≡ 34 ∷ (q.0 ++ 34 ∷ rest) = ap (λ (l : List ℕ). l ++ rest) q.2 ∙ ap (λ (l : List ℕ). 34 ∷ l) (append_assoc q.0 (34 ∷ []) rest) in
    let n : (front bytes).1 ≡ length q.0 + 2 = ap (λ (l : List ℕ). (front l).1) (e ∙ cells) ∙ quoted_length q.0 rest q.1 in
    let size : length (b ∷ text) ≡ length q.0 + 2 = ap (λ (l : List ℕ). length l) q.2 ∙ omega (arith, length-append q.0 (34 ∷ [])) in
    omega (arith, n, size)
longest bytes (b ∷ text) rest (inr (inr (inr s))) e =
    let n : (front bytes).1 ≡ (front (sign_text s.0 ++ rest)).1 = ap (λ (l : List ℕ). (front l).1) (e ∙ ap (λ (l : List ℕ). l ++ rest) s.1) in
    let size : length (b ∷ text) ≡ length (sign_text s.0) = ap (λ (l : List ℕ). length l) s.1 in
    omega (arith, n, size, sign_longest s.0 rest)

-- ---- what is read is a token's text

signed_text : (bytes : List ℕ) (o : Option Sign) → sign_at bytes ≡ o → 0 < (signed o).1 → IsTokenText (take (signed o).1 bytes)
signed_text bytes None e h = absurd (omega arith)
signed_text bytes (Some s) e h =
    let passes = found_passes (λ t. starts_with ◌==◌ bytes (sign_text t)) all_signs s e in
    inr (inr (inr (s, sym ((bytes_decides (sign_text s) (take (length (sign_text s)) bytes)).0 passes))))

quoted_text : (bytes : List ℕ) → 0 < (quoted_front bytes).1 → IsTokenText (take (quoted_front bytes).1 (34 ∷ bytes))
quoted_text bytes h = go (ltb (prefix_len is_quotable bytes) (length bytes)) (slice_index bytes (prefix_len is_quotable bytes) == 34) refl refl h
  where
    n : ℕ
    n = prefix_len is_quotable bytes

    go : (x y : Bool) → ltb (prefix_len is_quotable bytes) (length bytes) ≡ x → (slice_index bytes (prefix_len is_quotable bytes) == 34) ≡ y
        → 0 < (cond {A = Front} (x && y) (quoted (take (prefix_len is_quotable bytes) bytes), prefix_len is_quotable bytes + 2) (bad, 0)).1
        → IsTokenText (take (cond {A = Front} (x && y) (quoted (take (prefix_len is_quotable bytes) bytes), prefix_len is_quotable bytes + 2) (bad, 0)).1 (34 ∷ bytes))
    go false y e f h = absurd (omega arith)
    go true false e f h = absurd (omega arith)
    go true true e f h =
        let lt = ltb-true (prefix_len is_quotable bytes) (length bytes) e in
        let last = eqb-true (slice_index bytes (prefix_len is_quotable bytes)) 34 f in
        let k : prefix_len is_quotable bytes + 2 ≡ suc (prefix_len is_quotable bytes + 1) = omega arith in
        let more = take_more bytes (prefix_len is_quotable bytes) 0 lt in
        inr (inr (inl (
          take (prefix_len is_quotable bytes) bytes,
          list_all-front is_quotable bytes,
          rw k (ap (λ (l : List ℕ). 34 ∷ l) (more ∙ ap (λ (b : ℕ). take (prefix_len is_quotable bytes) bytes ++ b ∷ []) last)),
        )))

pub reads_text : (bytes : List ℕ) → 0 < (front bytes).1 → IsTokenText (take (front bytes).1 bytes)
reads_text [] h = absurd (omega arith)
reads_text (b ∷ bytes) h = go (starts_word b) (is_ascii_digit b) (eqb b 34) refl refl refl h
  where
    word_part : Front
    word_part = (word_token (take (prefix_len is_word_byte (b ∷ bytes)) (b ∷ bytes)), prefix_len is_word_byte (b ∷ bytes))

    digit_part : Front
    digit_part = (number_token (take (prefix_len is_ascii_digit (b ∷ bytes)) (b ∷ bytes)), prefix_len is_ascii_digit (b ∷ bytes))

    go : (x y z : Bool) → starts_word b ≡ x → is_ascii_digit b ≡ y → eqb b 34 ≡ z
        → 0 < (cond {A = Front} x word_part (cond y digit_part (cond z (quoted_front bytes) (signed (sign_at (b ∷ bytes)))))).1
        → IsTokenText (take (cond {A = Front} x word_part (cond y digit_part (cond z (quoted_front bytes) (signed (sign_at (b ∷ bytes)))))).1 (b ∷ bytes))
    go true y z e f k h = inl (word_run b bytes e)
    go false true z e f k h =
        let le = prefix_len-le-length is_ascii_digit (b ∷ bytes) in
        inr (inl (omega (arith, le, length-take (prefix_len is_ascii_digit (b ∷ bytes)) (b ∷ bytes)), list_all-front is_ascii_digit (b ∷ bytes)))
    go false false true e f k h = rw (eqb-true b 34 k) (quoted_text bytes h)
    go false false false e f k h = signed_text (b ∷ bytes) (sign_at (b ∷ bytes)) refl h
