-- The tokens of each test and each item of a statement are real.
use Rattle.std.proofs.Common.{List, [], ◌∷◌, ◌++◌}
use Rattle.std.specs.List.{AllByRecursion}
use Rattle.query_tokens.specs.Token.{Token, IsToken}
use Rattle.query_tokens.specs.declared.keyword.Keyword.TheVariants as word
use Rattle.query_tokens.specs.declared.sign.Sign.TheVariants as sign
use Rattle.query_text.specs.Grammar.{Fits}
use Rattle.query_text.specs.Spelling.{at_most, clear_at, item, led, optional, separated, test}
use Rattle.query_text.specs.declared.parts.ItemText.{ItemText}
use Rattle.query_text.specs.declared.parts.TestText.{TestText}
use Rattle.query_text.specs.declared.statement.Body.TheVariants as bodies
use Rattle.query_text.specs.declared.statement.FilterText.{FilterText}
use Rattle.query_text.specs.declared.statement.SelectText.{SelectText}

abbrev pub AreReal : List Token → Type 0
AreReal tokens = AllByRecursion IsToken tokens

pub real_front : (front back : List Token) → AreReal (front ++ back) → AreReal front
real_front [] back real = tt
real_front (t ∷ front) back real = (real.0, real_front front back real.1)

pub real_back : (front back : List Token) → AreReal (front ++ back) → AreReal back
real_back [] back real = real
real_back (t ∷ front) back real = real_back front back real.1

real_led : {A : Type 0} (separator : Token) (spell : A → List Token) (xs : List A) → AreReal (led separator spell xs) → AllByRecursion (λ x. AreReal (spell x)) xs
real_led separator spell [] real = tt
real_led separator spell (x ∷ xs) real =
    (real_front (spell x) (led separator spell xs) real.1, real_led separator spell xs (real_back (spell x) (led separator spell xs) real.1))

pub real_separated : {A : Type 0} (separator : Token) (spell : A → List Token) (xs : List A) → AreReal (separated separator spell xs) → AllByRecursion (λ x. AreReal (spell x)) xs
real_separated separator spell [] real = tt
real_separated separator spell (x ∷ xs) real =
    (real_front (spell x) (led separator spell xs) real, real_led separator spell xs (real_back (spell x) (led separator spell xs) real))

pub real_tests : (f : FilterText) → Fits (bodies.Filter f) → AllByRecursion (λ (t : TestText). AreReal (test t)) f.tests
real_tests f fits =
    let tests = separated (Token.keyword word.And) test f.tests in
    real_separated (Token.keyword word.And) test f.tests
    (real_front tests (optional at_most f.at_most ++ optional clear_at f.clear_at) fits.real.1.1.1.1.1)

pub real_items : (s : SelectText) → Fits (bodies.Select s) → AllByRecursion (λ (i : ItemText). AreReal (item i)) s.items
real_items s fits =
    let items = separated (Token.sign sign.Comma) item s.items in
    let listed = items ++ Token.sign sign.RightParen ∷ [] in
    real_separated (Token.sign sign.Comma) item s.items
    (real_front items (Token.sign sign.RightParen ∷ []) (real_front listed (optional clear_at s.clear_at) fits.real.1.1.1.1.1))
