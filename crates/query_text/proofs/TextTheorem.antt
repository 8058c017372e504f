-- The reader of a text is the grammar of a text: its statements, no others, and the place of the fault.
use Rattle.std.proofs.Common.{◌≡◌, ℕ, suc, ◌+◌, ◌<◌, ◌≤◌, Bool, true, false, cond, leb, List, [], ◌∷◌, ◌++◌, length, Option, Some, None, Result, Ok, Err, refl, sym, ap, subst, ◌∙◌, ◌⊎◌, inl, inr, arith}
use Rattle.std.proofs.lemmas.Bool.{leb-true, leb-false, le-leb, lt-leb}
use Rattle.query_tokens.specs.Token.{Token}
use Rattle.query_tokens.specs.Scan.{tokens_of}
use Rattle.query_tokens.specs.Real.{TokensAreReal}
use Rattle.query_text.specs.declared.statement.Body.{Body}
use Rattle.query_text.specs.declared.statement.Statement.{Statement}
use Rattle.query_text.specs.Forms.{statement_at}
use Rattle.query_text.specs.declared.statement.Body.TheVariants as bodies
use Rattle.query_text.specs.Spelling.{spelling}
use Rattle.query_text.specs.Grammar.{Fits, IsStatement, IsFault, AreStatements}
use Rattle.std.specs.List.{AllByRecursion}
use Rattle.std.proofs.lemmas.List.Elements.{All-from_recursion}
use Rattle.std.proofs.lemmas.List.Kept.{AllPairs-cons}
use Rattle.std.specs.Prelude.{AllPairs}
use Rattle.query_text.specs.Text.{column_of, on_line, AreLines, IsFaultOfLine, IsFirstFault}
use Rattle.query_text.specs.ReadText.{Spot, body_on, tokens_on, line_on, and_behind, read_lines}
use Rattle.query_text.proofs.ReaderLaw.{bind_ok, bind_err, ok_is, err_is, ok_no_err}
use Rattle.query_text.proofs.LineTheorem.{statement_found, statement_again, statement_fault, fault_statement}

-- ---- one line

-- a line gave nothing, or a statement
LineGives : ℕ → ℕ → List ℕ → Option Statement → Type 0
LineGives n count line None = tokens_of line ≡ []
LineGives n count line (Some s) = (count < 64) × (body : Body) × (s ≡ on_line n body) × IsStatement (tokens_of line) body

line_found : TokensAreReal → (n count : ℕ) (line : List ℕ) (o : Option Statement) → line_on n count line ≡ Ok o → LineGives n count line o
unfolding LineGives
line_found real n count line o e = go (tokens_of line) refl e
  where
    body : (t : Token) (ts : List Token) → tokens_of line ≡ t ∷ ts → count < 64 → (r : Result Body (List Token)) → statement_at (t ∷ ts) ≡ r → body_on n line r ≡ Ok o → LineGives n count line o
    body t ts k lt (Err rest) h e = absurd (ok_no_err _ _ (sym e))
    body t ts k lt (Ok b) h e =
        let found : IsStatement (tokens_of line) b = statement_found (tokens_of line) b (real line) (ap statement_at k ∙ h) in
        let is : Some (on_line n b) ≡ o = ok_is _ _ e in
        subst (λ (p : Option Statement). LineGives n count line p) is (lt, b, refl, found)

    go : (ts : List Token) → tokens_of line ≡ ts → tokens_on n count line ts ≡ Ok o → LineGives n count line o
    go [] k e = let is : None ≡ o = ok_is _ _ e in subst (λ (p : Option Statement). LineGives n count line p) is k
    go (t ∷ ts) k e = limit (leb 64 count) refl e
      where
        limit : (b : Bool) → leb 64 count ≡ b → cond b (Err (n, column_of line (t ∷ ts))) (body_on n line (statement_at (t ∷ ts))) ≡ Ok o → LineGives n count line o
        limit true h e = absurd (ok_no_err _ _ (sym e))
        limit false h e = let lt = leb-false 64 count h in body t ts k (omega arith) (statement_at (t ∷ ts)) refl e

line_none : (n count : ℕ) (line : List ℕ) → tokens_of line ≡ [] → line_on n count line ≡ Ok None
line_none n count line e = ap (tokens_on n count line) e

line_some : (n count : ℕ) (line : List ℕ) (body : Body) → count < 64 → (tokens_of line ≡ [] → ⊥) → IsStatement (tokens_of line) body → line_on n count line ≡ Ok (Some (on_line n body))
line_some n count line body lt filled s = go (tokens_of line) filled (statement_again (tokens_of line) body s)
  where
    go : (ts : List Token) → (ts ≡ [] → ⊥) → statement_at ts ≡ Ok body → tokens_on n count line ts ≡ Ok (Some (on_line n body))
    go [] f e = absurd (f refl)
    go (t ∷ ts) f e = let h : leb 64 count ≡ false = lt-leb 64 count lt in rw (h, e) refl

line_fault : TokensAreReal → (n count : ℕ) (line : List ℕ) (spot : Spot) → count ≤ 64 → line_on n count line ≡ Err spot → (spot.0 ≡ n) × IsFaultOfLine count line spot.1
line_fault real n count line spot le e = go (tokens_of line) refl e
  where
    Faulty : Spot → Type 0
    Faulty s = (s.0 ≡ n) × IsFaultOfLine count line s.1

    body : (t : Token) (ts : List Token) → tokens_of line ≡ t ∷ ts → count < 64 → (r : Result Body (List Token)) → statement_at (t ∷ ts) ≡ r → body_on n line r ≡ Err spot → Faulty spot
    body t ts k lt (Ok b) h e = absurd (ok_no_err _ _ e)
    body t ts k lt (Err rest) h e =
        let fault : IsFault (tokens_of line) rest = statement_fault (tokens_of line) rest (real line) (ap statement_at k ∙ h) in
        let is : (n, column_of line rest) ≡ spot = err_is _ _ e in
        subst Faulty is (refl, ((λ none. let f = sym none ∙ k in cc), inr (lt, rest, fault, refl)))

    go : (ts : List Token) → tokens_of line ≡ ts → tokens_on n count line ts ≡ Err spot → Faulty spot
    go [] k e = absurd (ok_no_err _ _ e)
    go (t ∷ ts) k e = limit (leb 64 count) refl e
      where
        limit : (b : Bool) → leb 64 count ≡ b → cond b (Err (n, column_of line (t ∷ ts))) (body_on n line (statement_at (t ∷ ts))) ≡ Err spot → Faulty spot
        limit false h e = let lt = leb-false 64 count h in body t ts k (omega arith) (statement_at (t ∷ ts)) refl e
        limit true h e =
            let more = leb-true 64 count h in
            let is : (n, column_of line (t ∷ ts)) ≡ spot = err_is _ _ e in
            subst Faulty is (refl, ((λ none. let f = sym none ∙ k in cc), inl (omega arith, ap (column_of line) (sym k))))

line_stops : TokensAreReal → (n count : ℕ) (line : List ℕ) (column : ℕ) → IsFaultOfLine count line column → line_on n count line ≡ Err (n, column)
line_stops real n count line column f = go (tokens_of line) refl f.0 f.1
  where
    go : (ts : List Token) → tokens_of line ≡ ts → (tokens_of line ≡ [] → ⊥)
        → ((count ≡ 64) × (column ≡ column_of line (tokens_of line))) ⊎ ((count < 64) × (rest : List Token) × IsFault (tokens_of line) rest × (column ≡ column_of line rest))
        → tokens_on n count line ts ≡ Err (n, column)
    go [] k filled h = absurd (filled k)
    go (t ∷ ts) k filled (inl h) =
        let full : leb 64 count ≡ true = le-leb 64 count (omega (arith, h.0)) in
        let same : column ≡ column_of line (t ∷ ts) = h.1 ∙ ap (column_of line) k in
        rw (full, same) refl
    go (t ∷ ts) k filled (inr h) =
        let room : leb 64 count ≡ false = lt-leb 64 count h.0 in
        let stop : statement_at (t ∷ ts) ≡ Err h.1 = ap statement_at (sym k) ∙ fault_statement (tokens_of line) h.1 (real line) h.2 in
        rw (room, stop, h.3) refl

-- ---- all lines

spelled_filled : (b : Body) → spelling b ≡ [] → ⊥
spelled_filled (bodies.Relation r) e = cc
spelled_filled _ e = cc

filled : (line : List ℕ) (b : Body) → IsStatement (tokens_of line) b → tokens_of line ≡ [] → ⊥
filled line b s e = spelled_filled b (sym s.spelled ∙ e)

pub lines_found : TokensAreReal → (lines : List (List ℕ)) (n count : ℕ) (statements : List Statement) → count ≤ 64 → read_lines n count lines ≡ Ok statements → AreLines n lines statements × (count + length statements ≤ 64)
unfolding read_lines LineGives
lines_found real [] n count statements le e =
    let is : [] ≡ statements = ok_is _ _ e in
    (sym is, subst (λ (l : List Statement). count + length l ≤ 64) is (omega arith))
lines_found real (line ∷ lines) n count statements le e =
    let o = bind_ok (line_on n count line) (and_behind (λ c. read_lines (n + 1) c lines) count) statements e in
    go o.0 (line_found real n count line o.0 o.1) o.2 (λ c l h. lines_found real lines (n + 1) c l h)
  where
    go : (o : Option Statement) → LineGives n count line o → and_behind (λ c. read_lines (n + 1) c lines) count o ≡ Ok statements
        → ((c : ℕ) (l : List Statement) → c ≤ 64 → read_lines (n + 1) c lines ≡ Ok l → AreLines (n + 1) lines l × (c + length l ≤ 64))
        → AreLines n (line ∷ lines) statements × (count + length statements ≤ 64)
    go None g h ih = let r = ih count statements le h in (inl (g, r.0), r.1)
    go (Some s) g h ih =
        let b = bind_ok (read_lines (n + 1) (count + 1) lines) (λ ss. Ok (s ∷ ss)) statements h in
        let r = ih (count + 1) b.0 (omega (arith, g.0)) b.1 in
        let is : s ∷ b.0 ≡ statements = ok_is _ _ b.2 in
        let same : statements ≡ on_line n g.1 ∷ b.0 = sym is ∙ ap (λ (x : Statement). x ∷ b.0) g.2 in
        (inr (g.1, b.0, same, g.3, r.0), subst (λ (l : List Statement). count + length l ≤ 64) is (omega (arith, r.1)))

pub lines_again : (lines : List (List ℕ)) (n count : ℕ) (statements : List Statement) → count + length statements ≤ 64 → AreLines n lines statements → read_lines n count lines ≡ Ok statements
unfolding read_lines
lines_again [] n count statements few are = ap (λ (l : List Statement). Ok l) (sym are)
lines_again (line ∷ lines) n count statements few (inl h) = rw (line_none n count line h.0) (lines_again lines (n + 1) count statements few h.1)
lines_again (line ∷ lines) n count statements few (inr h) =
    let size : length statements ≡ suc (length h.1) = ap (λ (l : List Statement). length l) h.2 in
    let here = line_some n count line h.0 (omega arith) (filled line h.0 h.3) h.3 in
    let behind = lines_again lines (n + 1) (count + 1) h.1 (omega arith) h.4 in
    rw (here, behind) (ap (λ (l : List Statement). Ok l) (sym h.2))

first_here : (n count : ℕ) (line : List ℕ) (lines : List (List ℕ)) (spot : Spot) → count ≤ 64 → (spot.0 ≡ n) × IsFaultOfLine count line spot.1 → IsFirstFault n count (line ∷ lines) spot.0 spot.1
first_here n count line lines spot le f =
    let same : count ≡ count + 0 = omega arith in
    record {
      before = [];
      faulty = line;
      behind = lines;
      cut = refl;
      statements = [];
      good = refl;
      few = omega arith;
      number = omega (arith, f.0);
      fault = subst (λ (c : ℕ). IsFaultOfLine c line spot.1) same f.1;
    }

first_behind : (n count : ℕ) (line : List ℕ) (lines : List (List ℕ)) (l c : ℕ) → tokens_of line ≡ [] → IsFirstFault (n + 1) count lines l c → IsFirstFault n count (line ∷ lines) l c
first_behind n count line lines l c none f =
    record {
      before = line ∷ f.before;
      faulty = f.faulty;
      behind = f.behind;
      cut = ap (λ (x : List (List ℕ)). line ∷ x) f.cut;
      statements = f.statements;
      good = inl (none, f.good);
      few = f.few;
      number = omega (arith, f.number);
      fault = f.fault;
    }

first_later : (n count : ℕ) (line : List ℕ) (lines : List (List ℕ)) (l c : ℕ) (body : Body) → IsStatement (tokens_of line) body → IsFirstFault (n + 1) (count + 1) lines l c → IsFirstFault n count (line ∷ lines) l c
first_later n count line lines l c body s f =
    let same : count + 1 + length f.statements ≡ count + suc (length f.statements) = omega arith in
    record {
      before = line ∷ f.before;
      faulty = f.faulty;
      behind = f.behind;
      cut = ap (λ (x : List (List ℕ)). line ∷ x) f.cut;
      statements = on_line n body ∷ f.statements;
      good = inr (body, f.statements, refl, s, f.good);
      few = omega (arith, f.few);
      number = omega (arith, f.number);
      fault = subst (λ (k : ℕ). IsFaultOfLine k f.faulty c) same f.fault;
    }

pub lines_fault : TokensAreReal → (lines : List (List ℕ)) (n count : ℕ) (spot : Spot) → count ≤ 64 → read_lines n count lines ≡ Err spot → IsFirstFault n count lines spot.0 spot.1
unfolding read_lines LineGives
lines_fault real [] n count spot le e = absurd (ok_no_err _ _ e)
lines_fault real (line ∷ lines) n count spot le e =
    elim (bind_err (line_on n count line) (and_behind (λ c. read_lines (n + 1) c lines) count) spot e) [
      | inl d ↦ first_here n count line lines spot le (line_fault real n count line spot le d)
      | inr o ↦ go o.0 (line_found real n count line o.0 o.1) o.2 (λ c h. lines_fault real lines (n + 1) c spot h)
    ]
  where
    go : (o : Option Statement) → LineGives n count line o → and_behind (λ c. read_lines (n + 1) c lines) count o ≡ Err spot
        → ((c : ℕ) → c ≤ 64 → read_lines (n + 1) c lines ≡ Err spot → IsFirstFault (n + 1) c lines spot.0 spot.1) → IsFirstFault n count (line ∷ lines) spot.0 spot.1
    go None g h ih = first_behind n count line lines spot.0 spot.1 g (ih count le h)
    go (Some s) g h ih =
        elim (bind_err (read_lines (n + 1) (count + 1) lines) (λ ss. Ok (s ∷ ss)) spot h) [
          | inr b ↦ absurd (ok_no_err _ _ b.2)
          | inl d ↦ first_later n count line lines spot.0 spot.1 g.1 g.3 (ih (count + 1) (omega (arith, g.0)) d)
        ]

fault_read : TokensAreReal → (before : List (List ℕ)) (n count : ℕ) (faulty : List ℕ) (behind : List (List ℕ)) (statements : List Statement) (column : ℕ) → AreLines n before statements → count + length statements ≤ 64
    → IsFaultOfLine (count + length statements) faulty column → read_lines n count (before ++ faulty ∷ behind) ≡ Err (n + length before, column)
unfolding read_lines
fault_read real [] n count faulty behind statements column are few f =
    let same : count + length statements ≡ count = omega (arith, ap (λ (l : List Statement). length l) are) in
    let here = line_stops real n count faulty column (subst (λ (k : ℕ). IsFaultOfLine k faulty column) same f) in
    let number : n ≡ n + 0 = omega arith in
    rw here (ap (λ (k : ℕ). Err (k, column)) number)
fault_read real (line ∷ before) n count faulty behind statements column (inl h) few f =
    let number : n + 1 + length before ≡ n + suc (length before) = omega arith in
    rw (line_none n count line h.0) (fault_read real before (n + 1) count faulty behind statements column h.1 few f ∙ ap (λ (k : ℕ). Err (k, column)) number)
fault_read real (line ∷ before) n count faulty behind statements column (inr h) few f =
    let size : length statements ≡ suc (length h.1) = ap (λ (l : List Statement). length l) h.2 in
    let here = line_some n count line h.0 (omega arith) (filled line h.0 h.3) h.3 in
    let same : count + length statements ≡ count + 1 + length h.1 = omega arith in
    let rest = fault_read real before (n + 1) (count + 1) faulty behind h.1 column h.4 (omega arith) (subst (λ (k : ℕ). IsFaultOfLine k faulty column) same f) in
    let number : n + 1 + length before ≡ n + suc (length before) = omega arith in
    rw (here, rest) (ap (λ (k : ℕ). Err (k, column)) number)

pub fault_lines : TokensAreReal → (lines : List (List ℕ)) (n count line column : ℕ) → IsFirstFault n count lines line column → read_lines n count lines ≡ Err (line, column)
fault_lines real lines n count line column f =
    ap (read_lines n count) f.cut ∙ fault_read real f.before n count f.faulty f.behind f.statements column f.good f.few f.fault ∙ ap (λ (k : ℕ). Err (k, column)) (sym f.number)

-- ---- statements that were read fit

lines_fit : (lines : List (List ℕ)) (n : ℕ) (statements : List Statement) → AreLines n lines statements → AllByRecursion (λ (s : Statement). Fits s.body) statements
lines_fit [] n statements are = subst (λ (l : List Statement). AllByRecursion (λ (s : Statement). Fits s.body) l) (sym are) tt
lines_fit (line ∷ lines) n statements (inl h) = lines_fit lines (n + 1) statements h.1
lines_fit (line ∷ lines) n statements (inr h) =
    subst (λ (l : List Statement). AllByRecursion (λ (s : Statement). Fits s.body) l) (sym h.2) (h.3.fits, lines_fit lines (n + 1) h.1 h.4)

-- their lines rise, from the number of the first line on
record RiseFrom (n : ℕ) (statements : List Statement) : Type 0 where
  pub from : AllByRecursion (λ (s : Statement). n ≤ s.line) statements
  pub rise : AllPairs (λ (a b : Statement). a.line < b.line) statements

from_next : (n : ℕ) (statements : List Statement) → AllByRecursion (λ (s : Statement). n + 1 ≤ s.line) statements → AllByRecursion (λ (s : Statement). n ≤ s.line) statements
from_next n [] from = tt
from_next n (s ∷ statements) from = (omega (arith, from.0), from_next n statements from.1)

behind_line : (n : ℕ) (statements : List Statement) → AllByRecursion (λ (s : Statement). n + 1 ≤ s.line) statements → AllByRecursion (λ (s : Statement). n < s.line) statements
behind_line n [] from = tt
behind_line n (s ∷ statements) from = (omega (arith, from.0), behind_line n statements from.1)

rise_behind : (n : ℕ) (body : Body) (statements : List Statement) → RiseFrom (n + 1) statements → RiseFrom n (on_line n body ∷ statements)
rise_behind n body statements behind =
    record {
      from = (omega arith, from_next n statements behind.from);
      rise = AllPairs-cons (λ (a b : Statement). a.line < b.line) (on_line n body) statements
          (All-from_recursion (λ (s : Statement). n < s.line) statements (behind_line n statements behind.from)) behind.rise;
    }

lines_rise : (lines : List (List ℕ)) (n : ℕ) (statements : List Statement) → AreLines n lines statements → RiseFrom n statements
lines_rise [] n statements are = subst (RiseFrom n) (sym are) (record { from = tt; rise = λ i j d below within. absurd (omega (arith, within)) })
lines_rise (line ∷ lines) n statements (inl h) =
    let behind = lines_rise lines (n + 1) statements h.1 in
    record { from = from_next n statements behind.from; rise = behind.rise }
lines_rise (line ∷ lines) n statements (inr h) = subst (RiseFrom n) (sym h.2) (rise_behind n h.0 h.1 (lines_rise lines (n + 1) h.1 h.4))

-- the lines of a query's statements rise
pub query_rises : (lines : List (List ℕ)) (statements : List Statement) → AreLines 1 lines statements → AllPairs (λ (a b : Statement). a.line < b.line) statements
query_rises lines statements are = (lines_rise lines 1 statements are).rise

-- statements on lines are those of a query, where they are few
pub lines_are : (lines : List (List ℕ)) (statements : List Statement) → AreLines 1 lines statements → length statements ≤ 64 → AreStatements statements
lines_are lines statements are few = record {
  fit = All-from_recursion (λ (s : Statement). Fits s.body) statements (lines_fit lines 1 statements are);
  few = few;
  rise = query_rises lines statements are;
}

pub read_fit : TokensAreReal → (lines : List (List ℕ)) (statements : List Statement) → read_lines 1 0 lines ≡ Ok statements → AreStatements statements
read_fit real lines statements e =
    let f = lines_found real lines 1 0 statements (omega arith) e in
    lines_are lines statements f.0 (omega (arith, f.1))
