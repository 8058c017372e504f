-- One step of a scan: over a blank, to a comment, over a token, to a bad one.
use Rattle.std.proofs.Common.{◌≡◌, ℕ, zero, suc, ◌+◌, ◌-◌, ◌<◌, ◌≤◌, Bool, true, false, cond, eqb, ◌&&◌, ◌||◌, ltb, List, [], ◌∷◌, length, get_or, drop, take, Option, Some, None, refl, sym, ap, subst, ◌∙◌, arith, add-zero, drop-drop}
use Rattle.std.specs.List.{prefix_len, starts_with}
use Rattle.std.specs.Prelude.{slice_index, find, ◌==◌}
use Rattle.std.specs.Cmp.Lexicographic.{bytes_decides}
use Rattle.std.specs.Char.{is_ascii_digit}
use Rattle.std.proofs.lemmas.List.{at_drop_more, at_drop_all, take_all, length-drop, length-take}
use Rattle.std.proofs.lemmas.List.Sums.{prefix_len-le-length}
use Rattle.std.proofs.lemmas.Bool.{ltb-true, ne_eqb}
use Rattle.query_tokens.specs.declared.sign.Sign.{Sign}
use Rattle.query_tokens.specs.declared.sign.Sign.TheVariants as sign_of
use Rattle.query_tokens.specs.Words.{sign_text}
use Rattle.query_tokens.specs.Token.{Token, quoted, bad, is_bad, starts_word, is_word_byte, is_quotable}
use Rattle.query_tokens.specs.Scan.{Front, Place, placed, is_blank, scan, front, quoted_front, signed, all_signs, sign_at, word_token, number_token}

-- the tokens from a byte of a line on
pub scan_from : List ℕ → ℕ → List Place
scan_from line i = scan (i + 1) 0 (drop i line)

pub scan_skips : (column skipped : ℕ) (bytes : List ℕ) → scan column skipped bytes ≡ scan (column + skipped) 0 (drop skipped bytes)
unfolding scan
scan_skips column zero bytes = ap (λ c. scan c 0 bytes) (sym (add-zero column))
scan_skips column (suc skipped) [] = refl
scan_skips column (suc skipped) (b ∷ bytes) =
    let c : column + 1 + skipped ≡ column + suc skipped = omega arith in
    scan_skips (column + 1) skipped bytes ∙ ap (λ k. scan k 0 (drop skipped bytes)) c

pub scan_start : (line : List ℕ) → scan_from line 0 ≡ scan 1 0 line
unfolding scan_from
scan_start line = refl

pub found_passes : {X : Type 0} (p : X → Bool) (xs : List X) (x : X) → find p xs ≡ Some x → p x ≡ true
found_passes p [] x e = absurd cc
found_passes {X} p (y ∷ xs) x e = go (p y) refl e (λ h. found_passes p xs x h)
  where
    go : (b : Bool) → p y ≡ b → cond b (Some y) (find p xs) ≡ Some x → (find p xs ≡ Some x → p x ≡ true) → p x ≡ true
    go true h e ih = let s : y ≡ x = cc in ap p (sym s) ∙ h
    go false h e ih = ih e

pub sign_length : (s : Sign) → 1 ≤ length (sign_text s)
sign_length sign_of.LeftParen = omega arith
sign_length _ = omega arith

-- a token that isn't bad has a byte, and no more than there are
pub record IsWithin (f : Front) (bytes : List ℕ) : Type 0 where
  pub some : 1 ≤ f.1
  pub all : f.1 ≤ length bytes

run_within : (p : ℕ → Bool) (b : ℕ) (bytes : List ℕ) (t : Token) → p b ≡ true → IsWithin (t, prefix_len p (b ∷ bytes)) (b ∷ bytes)
run_within p b bytes t h =
    let le = prefix_len-le-length p (b ∷ bytes) in
    let n : prefix_len p (b ∷ bytes) ≡ 1 + prefix_len p bytes = rw h refl in
    record { some = omega (arith, n); all = le }

quoted_within : (b : ℕ) (bytes : List ℕ) → is_bad (quoted_front bytes).0 ≡ false → IsWithin (quoted_front bytes) (b ∷ bytes)
quoted_within b bytes h = go (ltb (prefix_len is_quotable bytes) (length bytes)) (eqb (slice_index bytes (prefix_len is_quotable bytes)) 34) refl h
  where
    go : (x y : Bool) → ltb (prefix_len is_quotable bytes) (length bytes) ≡ x → is_bad (cond {A = Front} (x && y) (quoted (take (prefix_len is_quotable bytes) bytes), prefix_len is_quotable bytes + 2) (bad, 0)).0 ≡ false
        → IsWithin (cond {A = Front} (x && y) (quoted (take (prefix_len is_quotable bytes) bytes), prefix_len is_quotable bytes + 2) (bad, 0)) (b ∷ bytes)
    go true true e h = let lt = ltb-true (prefix_len is_quotable bytes) (length bytes) e in record { some = omega arith; all = omega (arith, lt) }
    go true false e h = absurd cc
    go false y e h = absurd cc

-- bytes that begin with a text are no fewer
text_fits : (bytes text : List ℕ) → starts_with ◌==◌ bytes text ≡ true → length text ≤ length bytes
text_fits bytes text h =
    let same = (bytes_decides text (take (length text) bytes)).0 h in
    let long : length text ≡ length (take (length text) bytes) = ap (λ (l : List ℕ). length l) same in
    omega (arith, long, length-take (length text) bytes)

sign_within : (all : List Sign) (bytes : List ℕ) → is_bad (signed (find (λ s. starts_with ◌==◌ bytes (sign_text s)) all)).0 ≡ false → IsWithin (signed (find (λ s. starts_with ◌==◌ bytes (sign_text s)) all)) bytes
sign_within all bytes h = go (find (λ s. starts_with ◌==◌ bytes (sign_text s)) all) refl h
  where
    go : (o : Option Sign) → find (λ s. starts_with ◌==◌ bytes (sign_text s)) all ≡ o → is_bad (signed o).0 ≡ false → IsWithin (signed o) bytes
    go None e h = absurd cc
    go (Some s) e h = record { some = sign_length s; all = text_fits bytes (sign_text s) (found_passes (λ s. starts_with ◌==◌ bytes (sign_text s)) all s e) }

-- a token at the front is within the bytes, or bad
pub front_within : (bytes : List ℕ) → 0 < length bytes → is_bad (front bytes).0 ≡ false → IsWithin (front bytes) bytes
front_within [] some h = absurd (omega arith)
front_within (b ∷ bytes) some h = go (starts_word b) (is_ascii_digit b) (eqb b 34) refl refl h
  where
    word_front : Front
    word_front = (word_token (take (prefix_len is_word_byte (b ∷ bytes)) (b ∷ bytes)), prefix_len is_word_byte (b ∷ bytes))

    digit_front : Front
    digit_front = (number_token (take (prefix_len is_ascii_digit (b ∷ bytes)) (b ∷ bytes)), prefix_len is_ascii_digit (b ∷ bytes))

    go : (x y z : Bool) → starts_word b ≡ x → is_ascii_digit b ≡ y
        → is_bad (cond {A = Front} x word_front (cond y digit_front (cond z (quoted_front bytes) (signed (sign_at (b ∷ bytes)))))).0 ≡ false
        → IsWithin (cond {A = Front} x word_front (cond y digit_front (cond z (quoted_front bytes) (signed (sign_at (b ∷ bytes)))))) (b ∷ bytes)
    go true y z e f h = run_within is_word_byte b bytes word_front.0 (ap (λ t. t || is_ascii_digit b) e)
    go false true z e f h = run_within is_ascii_digit b bytes digit_front.0 f
    go false false true e f h = quoted_within b bytes h
    go false false false e f h = sign_within all_signs (b ∷ bytes) h

-- ---- steps

pub scan_ends : (line : List ℕ) (i : ℕ) → length line ≤ i → scan_from line i ≡ []
unfolding scan_from scan
scan_ends line i h = at_drop_all (λ l. scan (i + 1) 0 l) line i h

pub scan_comment : (line : List ℕ) (i : ℕ) → i < length line → get_or line i 0 ≡ 35 → scan_from line i ≡ []
unfolding scan_from scan
scan_comment line i h e = at_drop_more (λ l. scan (i + 1) 0 l) line i 0 h ∙ rw e refl

pub scan_blank : (line : List ℕ) (i : ℕ) → i < length line → is_blank (get_or line i 0) ≡ true → scan_from line i ≡ scan_from line (i + 1)
unfolding scan_from scan
scan_blank line i h e = at_drop_more (λ l. scan (i + 1) 0 l) line i 0 h ∙ rw e refl

-- what is neither a blank nor a comment
token_step : (line : List ℕ) (i : ℕ) → i < length line → is_blank (get_or line i 0) ≡ false → (get_or line i 0 ≡ 35 → ⊥)
    → scan_from line i ≡ placed (front (drop i line)).0 (i + 1) (scan (i + 1 + 1) ((front (drop i line)).1 - 1) (drop (i + 1) line))
unfolding scan_from scan
token_step line i h e n =
    let f : eqb (get_or line i 0) 35 ≡ false = ne_eqb (get_or line i 0) 35 n in
    let cells : get_or line i 0 ∷ drop (i + 1) line ≡ drop i line = sym (at_drop_more (λ (l : List ℕ). l) line i 0 h) in
    at_drop_more (λ l. scan (i + 1) 0 l) line i 0 h ∙ rw (e, f) (ap (λ (l : List ℕ). placed (front l).0 (i + 1) (scan (i + 1 + 1) ((front l).1 - 1) (drop (i + 1) line))) cells)

pub scan_bad : (line : List ℕ) (i : ℕ) → i < length line → is_blank (get_or line i 0) ≡ false → (get_or line i 0 ≡ 35 → ⊥) → is_bad (front (drop i line)).0 ≡ true
    → scan_from line i ≡ ((front (drop i line)).0, i + 1) ∷ []
scan_bad line i h e n b = token_step line i h e n ∙ go (front (drop i line)).0 b
  where
    rest : List Place
    rest = scan (i + 1 + 1) ((front (drop i line)).1 - 1) (drop (i + 1) line)

    go : (t : Token) → is_bad t ≡ true → placed t (i + 1) rest ≡ (t, i + 1) ∷ []
    go bad b = refl
    go _ b = absurd cc

pub scan_token : (line : List ℕ) (i : ℕ) → i < length line → is_blank (get_or line i 0) ≡ false → (get_or line i 0 ≡ 35 → ⊥) → is_bad (front (drop i line)).0 ≡ false
    → scan_from line i ≡ ((front (drop i line)).0, i + 1) ∷ scan_from line (i + (front (drop i line)).1)
unfolding scan_from
scan_token line i h e n b =
    let some : 0 < length (drop i line) = omega (arith, length-drop i line) in
    let within = front_within (drop i line) some b in
    let len = (front (drop i line)).1 in
    let skipped = scan_skips (i + 1 + 1) (len - 1) (drop (i + 1) line) in
    let column : i + 1 + 1 + (len - 1) ≡ i + len + 1 = omega (arith, within.some) in
    let cells : drop (len - 1) (drop (i + 1) line) ≡ drop (i + len) line = drop-drop (len - 1) (i + 1) line ∙ ap (λ k. drop k line) (omega (arith, within.some)) in
    let rest : scan (i + 1 + 1) (len - 1) (drop (i + 1) line) ≡ scan (i + len + 1) 0 (drop (i + len) line) = skipped ∙ ap (λ k. scan k 0 (drop (len - 1) (drop (i + 1) line))) column ∙ ap (λ (l : List ℕ). scan (i + len + 1) 0 l) cells in
    token_step line i h e n ∙ go (front (drop i line)).0 b ∙ ap (λ (l : List Place). ((front (drop i line)).0, i + 1) ∷ l) rest
  where
    behind : List Place
    behind = scan (i + 1 + 1) ((front (drop i line)).1 - 1) (drop (i + 1) line)

    go : (t : Token) → is_bad t ≡ false → placed t (i + 1) behind ≡ (t, i + 1) ∷ behind
    go bad b = absurd cc
    go _ b = refl

-- ---- the same of what a call of front gave

-- the bytes of a line from i on, as a slice of it
abbrev pub behind : List ℕ → ℕ → List ℕ
behind line i = take (length line - i) (drop i line)

front_is : (line : List ℕ) (i : ℕ) (f : Front) → f ≡ front (behind line i) → f ≡ front (drop i line)
front_is line i f e = e ∙ ap front (take_all (length line - i) (drop i line) (omega (arith, length-drop i line)))

pub token_within : (line : List ℕ) (i : ℕ) (f : Front) → i < length line → f ≡ front (behind line i) → is_bad f.0 ≡ false → (1 ≤ f.1) × (i + f.1 ≤ length line)
token_within line i f h e b =
    let s : front (drop i line) ≡ f = sym (front_is line i f e) in
    let w = front_within (drop i line) (omega (arith, length-drop i line)) (rw s b) in
    let some : 1 ≤ f.1 = subst (λ (g : Front). 1 ≤ g.1) s w.some in
    let all : f.1 ≤ length (drop i line) = subst (λ (g : Front). g.1 ≤ length (drop i line)) s w.all in
    (some, omega (arith, all, length-drop i line))

pub bad_step : (line : List ℕ) (i : ℕ) (f : Front) → i < length line → is_blank (get_or line i 0) ≡ false → (get_or line i 0 ≡ 35 → ⊥) → f ≡ front (behind line i) → is_bad f.0 ≡ true
    → scan_from line i ≡ (f.0, i + 1) ∷ []
bad_step line i f h e n k b =
    let s : front (drop i line) ≡ f = sym (front_is line i f k) in
    scan_bad line i h e n (rw s b) ∙ ap (λ (g : Front). (g.0, i + 1) ∷ []) s

pub good_step : (line : List ℕ) (i : ℕ) (f : Front) → i < length line → is_blank (get_or line i 0) ≡ false → (get_or line i 0 ≡ 35 → ⊥) → f ≡ front (behind line i) → is_bad f.0 ≡ false
    → scan_from line i ≡ (f.0, i + 1) ∷ scan_from line (i + f.1)
good_step line i f h e n k b =
    let s : front (drop i line) ≡ f = sym (front_is line i f k) in
    scan_token line i h e n (rw s b) ∙ ap (λ (g : Front). (g.0, i + 1) ∷ scan_from line (i + g.1)) s
