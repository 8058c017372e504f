-- The text that a query is written as is a query with the same statements.
use Rattle.std.proofs.Common.{◌≡◌, ℕ, suc, ◌+◌, ◌≤◌, List, [], ◌∷◌, length, refl, sym, ap, subst, ◌∙◌, inl, inr, append_assoc, arith}
use Rattle.std.specs.List.{AllByRecursion}
use Rattle.std.proofs.lemmas.List.Elements.{recursion_from_All}
use Rattle.query_tokens.specs.Lines.{lines_of}
use Rattle.query_tokens.specs.Print.{printed, ReadsBack}
use Rattle.query_text.specs.declared.statement.Statement.{Statement}
use Rattle.query_text.specs.Spelling.{spelling}
use Rattle.query_text.specs.Grammar.{Fits, AreStatements}
use Rattle.query_text.specs.Text.{AreLines, IsQuery}
use Rattle.query_text.specs.Printing.{printed_query, on_lines_from}

first_line : ReadsBack → (s : Statement) (statements : List Statement) → Fits s.body → lines_of (printed_query (s ∷ statements)) ≡ printed (spelling s.body) ∷ lines_of (printed_query statements)
first_line back s statements fit =
    ap lines_of (append_assoc (printed (spelling s.body)) (10 ∷ []) (printed_query statements)) ∙ (back (spelling s.body) fit.real).1 (printed_query statements)

are_lines : ReadsBack → (n : ℕ) (statements : List Statement) → AllByRecursion (λ (s : Statement). Fits s.body) statements → AreLines n (lines_of (printed_query statements)) (on_lines_from n statements)
are_lines back n [] fit = inl ((back [] tt).0, refl)
are_lines back n (s ∷ statements) fit =
    subst (λ (lines : List (List ℕ)). AreLines n lines (on_lines_from n (s ∷ statements))) (sym (first_line back s statements fit.0))
    (inr (s.body, on_lines_from (n + 1) statements, refl, record { fits = fit.0; spelled = (back (spelling s.body) fit.0.real).0 }, are_lines back (n + 1) statements fit.1))

length-on_lines_from : (n : ℕ) (statements : List Statement) → length (on_lines_from n statements) ≡ length statements
length-on_lines_from n [] = refl
length-on_lines_from n (s ∷ statements) = ap suc (length-on_lines_from (n + 1) statements)

pub printed_again : ReadsBack → (text : List ℕ) (statements : List Statement) → AreStatements statements → text ≡ printed_query statements → length text ≤ 65536 → IsQuery text (on_lines_from 1 statements)
printed_again back text statements are e size =
    record {
      size = size;
      lines = subst (λ (t : List ℕ). AreLines 1 (lines_of t) (on_lines_from 1 statements)) (sym e) (are_lines back 1 statements (recursion_from_All (λ (s : Statement). Fits s.body) statements are.fit));
      few = omega (arith, length-on_lines_from 1 statements, are.few);
    }
