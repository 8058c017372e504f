-- A text is cut at its first LF.
use Rattle.std.proofs.Common.{◌≡◌, ℕ, zero, suc, ◌+◌, ◌<◌, ◌≤◌, Bool, true, false, cond, ◌&&◌, List, [], ◌∷◌, length, get_or, drop, take, refl, sym, ap, ◌∙◌, arith}
use Rattle.std.specs.Prelude.{not, ◌==◌}
use Rattle.std.specs.List.{prefix_len}
use Rattle.std.proofs.lemmas.Bool.{ne_eqb}
use Rattle.query_tokens.specs.Lines.{lengthen, at_line_feed, is_nil, without_return, lines_of}

-- how many bytes stand before the first LF
abbrev pub run : List ℕ → ℕ
run text = prefix_len (λ b. not (b == 10)) text

-- LF is next where no byte stands before it
feed_is_nil : (bytes : List ℕ) → run bytes < length bytes → at_line_feed bytes ≡ is_nil (take (run bytes) bytes)
feed_is_nil [] h = absurd (omega arith)
feed_is_nil (b ∷ bytes) h = go (b == 10) refl
  where
    go : (x : Bool) → b == 10 ≡ x → x ≡ is_nil (take (cond (not x) (1 + run bytes) 0) (b ∷ bytes))
    go true e = refl
    go false e = let k : 1 + run bytes ≡ suc (run bytes) = omega arith in rw k refl

no_feed : (bytes : List ℕ) → length bytes ≤ run bytes → at_line_feed bytes ≡ false
no_feed [] h = refl
no_feed (b ∷ bytes) h = go (b == 10) refl h
  where
    go : (x : Bool) → b == 10 ≡ x → suc (length bytes) ≤ cond (not x) (1 + run bytes) 0 → x ≡ false
    go true e h = absurd (omega arith)
    go false e h = refl

and_false : (x : Bool) → (x && false) ≡ false
and_false true = refl
and_false false = refl

is_nil_true : (l : List ℕ) → is_nil l ≡ true → l ≡ []
is_nil_true [] e = refl
is_nil_true (b ∷ l) e = absurd cc

-- a byte before the first line
behind : (b : ℕ) (line : List ℕ) (lines : List (List ℕ)) (bytes : List ℕ) (feed : Bool) → (b == 13 && feed) ≡ (b == 13 && is_nil line) → feed ≡ is_nil line → lines_of bytes ≡ without_return line ∷ lines
    → cond (b == 13 && feed) (lines_of bytes) (lengthen b (lines_of bytes)) ≡ cond (b == 13 && is_nil line) [] (b ∷ without_return line) ∷ lines
behind b line lines bytes feed same f h = go (b == 13) feed f
  where
    go : (x y : Bool) → y ≡ is_nil line → cond (x && y) (lines_of bytes) (lengthen b (lines_of bytes)) ≡ cond (x && is_nil line) [] (b ∷ without_return line) ∷ lines
    go true true e = rw (← e) (h ∙ ap (λ (l : List ℕ). without_return l ∷ lines) (is_nil_true line (sym e)))
    go true false e = rw (← e, h) refl
    go false y e = rw h refl

pub lines_of-cut : (text : List ℕ) → run text < length text → lines_of text ≡ without_return (take (run text) text) ∷ lines_of (drop (run text + 1) text)
lines_of-cut [] h = absurd (omega arith)
lines_of-cut (b ∷ bytes) h = go (b == 10) refl h (λ l. lines_of-cut bytes l)
  where
    go : (x : Bool) → b == 10 ≡ x → cond (not x) (1 + run bytes) 0 < suc (length bytes) → (run bytes < length bytes → lines_of bytes ≡ without_return (take (run bytes) bytes) ∷ lines_of (drop (run bytes + 1) bytes))
        → cond x ([] ∷ lines_of bytes) (cond (b == 13 && at_line_feed bytes) (lines_of bytes) (lengthen b (lines_of bytes)))
        ≡ without_return (take (cond (not x) (1 + run bytes) 0) (b ∷ bytes)) ∷ lines_of (drop (cond (not x) (1 + run bytes) 0 + 1) (b ∷ bytes))
    go true e h ih = refl
    go false e h ih =
        let less : run bytes < length bytes = omega arith in
        let same : (b == 13 && at_line_feed bytes) ≡ (b == 13 && is_nil (take (run bytes) bytes)) = ap (λ x. b == 13 && x) (feed_is_nil bytes less) in
        let k : 1 + run bytes ≡ suc (run bytes) = omega arith in
        let k' : suc (run bytes) + 1 ≡ suc (run bytes + 1) = omega arith in
        rw (k, k') (behind b (take (run bytes) bytes) (lines_of (drop (run bytes + 1) bytes)) bytes (at_line_feed bytes) same (feed_is_nil bytes less) (ih less))

pub lines_of-last : (text : List ℕ) → length text ≤ run text → lines_of text ≡ text ∷ []
lines_of-last [] h = refl
lines_of-last (b ∷ bytes) h = go (b == 10) refl h (λ l. lines_of-last bytes l)
  where
    go : (x : Bool) → b == 10 ≡ x → suc (length bytes) ≤ cond (not x) (1 + run bytes) 0 → (length bytes ≤ run bytes → lines_of bytes ≡ bytes ∷ [])
        → cond x ([] ∷ lines_of bytes) (cond (b == 13 && at_line_feed bytes) (lines_of bytes) (lengthen b (lines_of bytes))) ≡ (b ∷ bytes) ∷ []
    go true e h ih = absurd (omega arith)
    go false e h ih =
        let less : length bytes ≤ run bytes = omega arith in
        let none : at_line_feed bytes ≡ false = no_feed bytes less in
        let f : (b == 13 && at_line_feed bytes) ≡ false = ap (λ x. b == 13 && x) none ∙ and_false (b == 13) in
        rw (f, ih less) refl

pub without_return-cut : (line : List ℕ) (n : ℕ) → length line ≡ suc n → get_or line n 0 ≡ 13 → take n line ≡ without_return line
without_return-cut [] n h e = absurd (omega arith)
without_return-cut (b ∷ []) zero h e = rw e refl
without_return-cut (b ∷ []) (suc n) h e = absurd (omega arith)
without_return-cut (b ∷ c ∷ line) zero h e = absurd (omega arith)
without_return-cut (b ∷ c ∷ line) (suc n) h e = rw (and_false (b == 13)) (ap (λ (l : List ℕ). b ∷ l) (without_return-cut (c ∷ line) n (omega arith) e))

pub without_return-same : (line : List ℕ) (n : ℕ) → length line ≡ suc n → (get_or line n 0 ≡ 13 → ⊥) → line ≡ without_return line
without_return-same [] n h e = absurd (omega arith)
without_return-same (b ∷ []) zero h e = rw (ne_eqb b 13 e) refl
without_return-same (b ∷ []) (suc n) h e = absurd (omega arith)
without_return-same (b ∷ c ∷ line) zero h e = absurd (omega arith)
without_return-same (b ∷ c ∷ line) (suc n) h e = rw (and_false (b == 13)) (ap (λ (l : List ℕ). b ∷ l) (without_return-same (c ∷ line) n (omega arith) e))
