-- A text is read exactly where it is a query, and its fault is the one place.
use Rattle.std.proofs.Common.{◌≡◌, ℕ, Bool, true, false, cond, ltb, List, length, Result, Ok, Err, refl, sym, ap, subst, ◌∙◌, ◌⊎◌, inl, inr, arith}
use Rattle.std.specs.Prelude.{IfOk, IfErr}
use Rattle.std.proofs.lemmas.Bool.{ltb-true, ltb-false, lt-ltb, le-ltb}
use Rattle.query_tokens.specs.Lines.{lines_of}
use Rattle.query_tokens.specs.Real.{TokensAreReal}
use Rattle.query_text.specs.declared.statement.Statement.{Statement}
use Rattle.query_text.specs.declared.query.ReadFault.{ReadFault}
use Rattle.query_text.specs.declared.query.ReadFault.TheVariants as faults
use Rattle.query_text.specs.Laws.{TextsGiveStatements}
use Rattle.query_text.specs.Text.{IsQuery, IsFaultAt}
use Rattle.query_text.specs.ReadText.{Spot, read_lines, read_text, GivesText, IsReason}
use Rattle.query_text.proofs.ReaderLaw.{ok_is, err_is, ok_no_err}
use Rattle.query_text.proofs.TextTheorem.{lines_are, lines_found, lines_again, lines_fault, fault_lines}

text_found : TokensAreReal → (text : List ℕ) (q : List Statement) → read_text text ≡ Ok q → IsQuery text q
text_found real text q e = go (ltb 65536 (length text)) refl e
  where
    go : (b : Bool) → ltb 65536 (length text) ≡ b → cond b (Err (0, 0)) (read_lines 1 0 (lines_of text)) ≡ Ok q → IsQuery text q
    go true h e = absurd (ok_no_err _ _ (sym e))
    go false h e =
        let f = lines_found real (lines_of text) 1 0 q (omega arith) e in
        record { size = ltb-false 65536 (length text) h; lines = f.0; few = omega (arith, f.1) }

text_again : (text : List ℕ) (q : List Statement) → IsQuery text q → read_text text ≡ Ok q
text_again text q is =
    let fits : ltb 65536 (length text) ≡ false = le-ltb 65536 (length text) is.size in
    rw fits (lines_again (lines_of text) 1 0 q (omega (arith, is.few)) is.lines)

text_fault : TokensAreReal → (text : List ℕ) (spot : Spot) → read_text text ≡ Err spot → IsFaultAt text spot.0 spot.1
text_fault real text spot e = go (ltb 65536 (length text)) refl e
  where
    go : (b : Bool) → ltb 65536 (length text) ≡ b → cond b (Err (0, 0)) (read_lines 1 0 (lines_of text)) ≡ Err spot → IsFaultAt text spot.0 spot.1
    go true h e =
        let is : (0, 0) ≡ spot = err_is _ _ e in
        subst (λ (s : Spot). IsFaultAt text s.0 s.1) is (inl (ltb-true 65536 (length text) h, refl, refl))
    go false h e = inr (ltb-false 65536 (length text) h, lines_fault real (lines_of text) 1 0 spot (omega arith) e)

fault_text : TokensAreReal → (text : List ℕ) (line column : ℕ) → IsFaultAt text line column → read_text text ≡ Err (line, column)
fault_text real text line column (inl h) =
    let long : ltb 65536 (length text) ≡ true = lt-ltb 65536 (length text) h.0 in
    rw (long, h.1, h.2) refl
fault_text real text line column (inr h) =
    let fits : ltb 65536 (length text) ≡ false = le-ltb 65536 (length text) h.0 in
    rw fits (fault_lines real (lines_of text) 1 0 line column h.1)

abbrev Answer : Type 0
Answer = Result (List Statement) ReadFault

pub answer_found : TokensAreReal → (text : List ℕ) (r : Answer) → GivesText (λ q. q) r (read_text text) → IfOk r (λ q. IsQuery text q)
answer_found real text (Ok q) h = text_found real text q h
answer_found real text (Err e) h = tt

pub answer_only : (text : List ℕ) (r : Answer) → GivesText (λ q. q) r (read_text text) → (q : List Statement) → IsQuery text q → GivesText (λ q. q) r (Ok q)
answer_only text r h q is = subst (λ (x : Result (List Statement) Spot). GivesText (λ q. q) r x) (text_again text q is) h

pub answer_fault : TokensAreReal → (text : List ℕ) (r : Answer) → GivesText (λ q. q) r (read_text text) → IfErr r (IsReason text)
answer_fault real text (Ok q) h = tt
answer_fault real text (Err (faults.Text line column)) h = text_fault real text (line, column) h
answer_fault real text (Err faults.Memory) h = tt

pub answer_place : TokensAreReal → (text : List ℕ) (r : Answer) → GivesText (λ q. q) r (read_text text) → (line column : ℕ) → IsFaultAt text line column → GivesText (λ q. q) r (Err (line, column))
answer_place real text r h line column f = subst (λ (x : Result (List Statement) Spot). GivesText (λ q. q) r x) (fault_text real text line column f) h

-- ---- one reading

pub one_query : (text : List ℕ) (p q : List Statement) → IsQuery text p → IsQuery text q → p ≡ q
one_query text p q is is' = ok_is p q (sym (text_again text p is) ∙ text_again text q is')

pub no_query : TokensAreReal → (text : List ℕ) (q : List Statement) (line column : ℕ) → IsQuery text q → IsFaultAt text line column → ⊥
no_query real text q line column is f = ok_no_err q (line, column) (sym (text_again text q is) ∙ fault_text real text line column f)

spot_is : (s t : Spot) → s ≡ t → (s.0 ≡ t.0) × (s.1 ≡ t.1)
spot_is s t e = (ap (λ (x : Spot). x.0) e, ap (λ (x : Spot). x.1) e)

pub one_place : TokensAreReal → (text : List ℕ) (l c l' c' : ℕ) → IsFaultAt text l c → IsFaultAt text l' c' → (l ≡ l') × (c ≡ c')
one_place real text l c l' c' f g =
    let same : (l, c) ≡ (l', c') = err_is _ _ (sym (fault_text real text l c f) ∙ fault_text real text l' c' g) in
    spot_is (l, c) (l', c') same

pub query_or_fault : TokensAreReal → (text : List ℕ) → ((q : List Statement) × IsQuery text q) ⊎ ((l : ℕ) × (c : ℕ) × IsFaultAt text l c)
query_or_fault real text = go (read_text text) refl
  where
    go : (r : Result (List Statement) Spot) → read_text text ≡ r → ((q : List Statement) × IsQuery text q) ⊎ ((l : ℕ) × (c : ℕ) × IsFaultAt text l c)
    go (Ok q) e = inl (q, text_found real text q e)
    go (Err s) e = inr (s.0, s.1, text_fault real text s e)

-- ---- statements

pub texts_give_statements : TextsGiveStatements
texts_give_statements text q is = lines_are (lines_of text) q is.lines is.few
