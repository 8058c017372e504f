-- The laws of single tokens: names, numbers, kinds, comparisons, operators and operands.
use Rattle.std.proofs.Common.{◌≡◌, ℕ, List, [], ◌∷◌, Some, refl, ap, lit<}
use Rattle.query_tokens.specs.Token.{Token, name, number, quoted, keyword, sign, IsToken, IsKnown, name_of, number_of}
use Rattle.query_tokens.specs.declared.keyword.Keyword.TheVariants as word
use Rattle.query_tokens.specs.declared.sign.Sign.TheVariants as sign_of
use Rattle.query_text.specs.declared.operand.KindText.{KindText}
use Rattle.query_text.specs.declared.operand.KindText.TheVariants as kinds
use Rattle.query_text.specs.declared.operand.Cmp.{Cmp}
use Rattle.query_text.specs.declared.operand.Cmp.TheVariants as comparisons
use Rattle.query_text.specs.declared.operand.Op.{Op}
use Rattle.query_text.specs.declared.operand.Op.TheVariants as operators
use Rattle.query_text.specs.declared.operand.OperandText.{OperandText}
use Rattle.query_text.specs.declared.operand.OperandText.TheVariants as operands
use Rattle.query_text.specs.Forms.{kind_of, comparison_of, operator_of, operand_of, name_at, number_at, kind_at, comparison_at, operator_at, operand_at}
use Rattle.query_text.specs.Spelling.{kind_token, comparison, operator, operand}
use Rattle.query_text.proofs.ReaderLaw.{single, Stands}
use Rattle.query_text.proofs.TokenTests.{letter_name}
use Rattle.query_text.proofs.Lawful.{Law, any, one_law}

-- a token is that of the value that it stands for
token_is : {A : Type 0} (token : A → Token) (x a : A) → Some x ≡ Some a → (token x ≡ token a) × Unit {0}
token_is token x a e = let h : x ≡ a = cc in (ap token h, tt)

name_reads : (t : Token) (n : List ℕ) → name_of t ≡ Some n → (t ≡ name n) × Unit {0}
name_reads (name x) n e = token_is name x n e
name_reads _ n e = absurd cc

number_reads : (t : Token) (n : ℕ) → number_of t ≡ Some n → (t ≡ number n) × Unit {0}
number_reads (number x) n e = token_is number x n e
number_reads _ n e = absurd cc

kind_reads : (t : Token) (k : KindText) → kind_of t ≡ Some k → (t ≡ kind_token k) × Unit {0}
kind_reads (keyword word.Num) k e = token_is kind_token kinds.Num k e
kind_reads (keyword word.Text) k e = token_is kind_token kinds.Text k e
kind_reads _ k e = absurd cc

kind_writes : (k : KindText) → kind_of (kind_token k) ≡ Some k
kind_writes kinds.Num = refl
kind_writes kinds.Text = refl

kind_known : (k : KindText) → IsKnown (kind_token k)
kind_known kinds.Num = tt
kind_known kinds.Text = tt

comparison_reads : (t : Token) (c : Cmp) → comparison_of t ≡ Some c → (t ≡ comparison c) × Unit {0}
comparison_reads (sign sign_of.Equal) c e = token_is comparison comparisons.Eq c e
comparison_reads (sign sign_of.NotEqual) c e = token_is comparison comparisons.Ne c e
comparison_reads (sign sign_of.Less) c e = token_is comparison comparisons.Lt c e
comparison_reads (sign sign_of.LessEqual) c e = token_is comparison comparisons.Le c e
comparison_reads (sign sign_of.Greater) c e = token_is comparison comparisons.Gt c e
comparison_reads (sign sign_of.GreaterEqual) c e = token_is comparison comparisons.Ge c e
comparison_reads _ c e = absurd cc

comparison_writes : (c : Cmp) → comparison_of (comparison c) ≡ Some c
comparison_writes comparisons.Eq = refl
comparison_writes _ = refl

comparison_known : (c : Cmp) → IsKnown (comparison c)
comparison_known comparisons.Eq = tt
comparison_known _ = tt

operator_reads : (t : Token) (o : Op) → operator_of t ≡ Some o → (t ≡ operator o) × Unit {0}
operator_reads (sign sign_of.Equal) o e = token_is operator (operators.Compare comparisons.Eq) o e
operator_reads (sign sign_of.NotEqual) o e = token_is operator (operators.Compare comparisons.Ne) o e
operator_reads (sign sign_of.Less) o e = token_is operator (operators.Compare comparisons.Lt) o e
operator_reads (sign sign_of.LessEqual) o e = token_is operator (operators.Compare comparisons.Le) o e
operator_reads (sign sign_of.Greater) o e = token_is operator (operators.Compare comparisons.Gt) o e
operator_reads (sign sign_of.GreaterEqual) o e = token_is operator (operators.Compare comparisons.Ge) o e
operator_reads (sign sign_of.Plus) o e = token_is operator operators.Add o e
operator_reads (sign sign_of.Minus) o e = token_is operator operators.Sub o e
operator_reads (sign sign_of.Star) o e = token_is operator operators.Mul o e
operator_reads (sign sign_of.Ampersand) o e = token_is operator operators.And o e
operator_reads (sign sign_of.Bar) o e = token_is operator operators.Or o e
operator_reads _ o e = absurd cc

pub operator_writes : (o : Op) → operator_of (operator o) ≡ Some o
operator_writes (operators.Compare comparisons.Eq) = refl
operator_writes (operators.Compare _) = refl
operator_writes operators.Add = refl
operator_writes _ = refl

operator_known : (o : Op) → IsKnown (operator o)
operator_known (operators.Compare c) = comparison_known c
operator_known _ = tt

operand_reads : (t : Token) (x : OperandText) → operand_of t ≡ Some x → (t ≡ operand x) × Unit {0}
operand_reads (name n) x e = token_is operand (operands.Name n) x e
operand_reads (number n) x e = token_is operand (operands.Number n) x e
operand_reads (quoted text) x e = token_is operand (operands.Quoted text) x e
operand_reads (keyword word.True) x e = token_is operand operands.True x e
operand_reads (keyword word.False) x e = token_is operand operands.False x e
operand_reads _ x e = absurd cc

operand_writes : (x : OperandText) → operand_of (operand x) ≡ Some x
operand_writes (operands.Name n) = refl
operand_writes _ = refl

operand_known : (x : OperandText) → IsKnown (operand x)
operand_known (operands.Name n) = tt
operand_known _ = tt

pub name_stands : Stands IsToken IsKnown name_of name any
name_stands = record { reads = name_reads; writes = λ n fit. refl; example = 97 ∷ []; fit = tt; real = letter_name; known = λ n fit. tt }

pub number_stands : Stands IsToken IsKnown number_of number any
number_stands = record { reads = number_reads; writes = λ n fit. refl; example = 0; fit = tt; real = lit< tt; known = λ n fit. tt }

pub kind_stands : Stands IsToken IsKnown kind_of kind_token any
kind_stands = record { reads = kind_reads; writes = λ k fit. kind_writes k; example = kinds.Num; fit = tt; real = tt; known = λ k fit. kind_known k }

pub comparison_stands : Stands IsToken IsKnown comparison_of comparison any
comparison_stands = record { reads = comparison_reads; writes = λ c fit. comparison_writes c; example = comparisons.Eq; fit = tt; real = tt; known = λ c fit. comparison_known c }

pub operator_stands : Stands IsToken IsKnown operator_of operator any
operator_stands = record { reads = operator_reads; writes = λ o fit. operator_writes o; example = operators.Add; fit = tt; real = tt; known = λ o fit. operator_known o }

pub operand_stands : Stands IsToken IsKnown operand_of operand any
operand_stands = record { reads = operand_reads; writes = λ x fit. operand_writes x; example = operands.True; fit = tt; real = tt; known = λ x fit. operand_known x }

abbrev pub name_law : Law name_at (single name) any
name_law = one_law name_of name any name_stands

abbrev pub number_law : Law number_at (single number) any
number_law = one_law number_of number any number_stands

abbrev pub kind_law : Law kind_at (single kind_token) any
kind_law = one_law kind_of kind_token any kind_stands

abbrev pub comparison_law : Law comparison_at (single comparison) any
comparison_law = one_law comparison_of comparison any comparison_stands

abbrev pub operator_law : Law operator_at (single operator) any
operator_law = one_law operator_of operator any operator_stands

abbrev pub operand_law : Law operand_at (single operand) any
operand_law = one_law operand_of operand any operand_stands
