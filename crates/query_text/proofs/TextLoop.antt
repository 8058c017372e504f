-- Reading lines one after the other, as the loop does.
use Rattle.std.proofs.Common.{◌≡◌, ℕ, ◌+◌, ◌<◌, List, [], ◌∷◌, ◌++◌, length, Option, Some, None, Result, Ok, Err, refl, sym, ap, subst, ◌∙◌, append_assoc, arith, length-append}
use Rattle.std.proofs.lemmas.List.{append-nil}
use Rattle.std.specs.Prelude.{MatchOption}
use Rattle.std.specs.Borrow.{Bor}
use Rattle.std.specs.Option.{option_to_list}
use Rattle.query_tokens.specs.Lines.{lines_of}
use Rattle.query_text.specs.declared.statement.Statement.{Statement}
use Rattle.query_text.specs.declared.query.ReadFault.{ReadFault}
use Rattle.query_text.specs.declared.query.ReadFault.TheVariants as faults
use Rattle.query_text.specs.Reading.{◌>>=◌}
use Rattle.query_text.specs.ReadText.{Spot, line_on, read_lines, GivesFault}

-- what was read before, and what is still read
abbrev pub before : List Statement → Result (List Statement) Spot → Result (List Statement) Spot
before front read = read >>= λ ss. Ok (front ++ ss)

regroup : (front : List Statement) (s : Statement) (read : Result (List Statement) Spot) → before front (read >>= λ ss. Ok (s ∷ ss)) ≡ before (front ++ s ∷ []) read
regroup front s (Ok ss) = ap (λ (l : List Statement). Ok l) (sym (append_assoc front (s ∷ []) ss))
regroup front s (Err d) = refl

-- over a line that gave this, where further lines are behind it
pub line_over : (front : List Statement) (n : ℕ) (line : List ℕ) (lines : List (List ℕ)) (o : Option Statement) (front' : List Statement) (total : Result (List Statement) Spot)
    → line_on n (length front) line ≡ Ok o → front' ≡ front ++ option_to_list o → before front (read_lines n (length front) (line ∷ lines)) ≡ total → before front' (read_lines (n + 1) (length front') lines) ≡ total
unfolding read_lines
line_over front n line lines None front' total e f so_far =
    let same : front' ≡ front = f ∙ append-nil front in
    rw same (sym (rw e refl) ∙ so_far)
line_over front n line lines (Some s) front' total e f so_far =
    let size : length front' ≡ length front + 1 = ap (λ (l : List Statement). length l) f ∙ length-append front (s ∷ []) in
    let one : before front (read_lines n (length front) (line ∷ lines)) ≡ before front (read_lines (n + 1) (length front + 1) lines >>= λ ss. Ok (s ∷ ss)) = rw e refl in
    rw (size, f) (sym (regroup front s (read_lines (n + 1) (length front + 1) lines)) ∙ sym one ∙ so_far)

pub line_stop : (e : ReadFault) (front : List Statement) (n : ℕ) (line : List ℕ) (lines : List (List ℕ)) (total : Result (List Statement) Spot) → GivesFault e (line_on n (length front) line)
    → before front (read_lines n (length front) (line ∷ lines)) ≡ total → GivesFault e total
unfolding read_lines
line_stop faults.Memory front n line lines total h so_far = tt
line_stop (faults.Text l c) front n line lines total h so_far = sym so_far ∙ rw h refl

-- no further line
pub last_line : (front : List Statement) (n : ℕ) (total : Result (List Statement) Spot) → before front (read_lines n (length front) []) ≡ total → total ≡ Ok front
unfolding read_lines
last_line front n total so_far = sym so_far ∙ ap (λ (l : List Statement). Ok l) (append-nil front)

-- the first line and the lines behind it
pub no_lines : (text line : List ℕ) (o : Option (Bor (List ℕ))) → o ≡ None → MatchOption o (lines_of text ≡ line ∷ []) (λ r. lines_of text ≡ line ∷ lines_of r.now) → lines_of text ≡ line ∷ []
no_lines text line None e h = h
no_lines text line (Some r) e h = absurd cc

pub more_lines : (text line : List ℕ) (o : Option (Bor (List ℕ))) (rest : Bor (List ℕ)) → o ≡ Some rest → MatchOption o (lines_of text ≡ line ∷ []) (λ r. lines_of text ≡ line ∷ lines_of r.now) → lines_of text ≡ line ∷ lines_of rest.now
more_lines text line None rest e h = absurd cc
more_lines text line (Some r) rest e h = let s : r ≡ rest = cc in subst (λ (b : Bor (List ℕ)). lines_of text ≡ line ∷ lines_of b.now) s h

pub fewer_bytes : (text line : List ℕ) (o : Option (Bor (List ℕ))) (rest : Bor (List ℕ)) → o ≡ Some rest → MatchOption o (line ≡ text) (λ r. length r.now + length line < length text) → length rest.now < length text
fewer_bytes text line None rest e h = absurd cc
fewer_bytes text line (Some r) rest e h = let s : r ≡ rest = cc in let k = subst (λ (b : Bor (List ℕ)). length b.now + length line < length text) s h in omega (arith, k)

-- some lines stand for the text that is left
pub some_lines : (text line : List ℕ) (o : Option (Bor (List ℕ))) → MatchOption o (lines_of text ≡ line ∷ []) (λ r. lines_of text ≡ line ∷ lines_of r.now) → (lines : List (List ℕ)) × (lines_of text ≡ line ∷ lines)
some_lines text line None h = ([], h)
some_lines text line (Some r) h = (lines_of r.now, h)
