-- The quoted texts of a statement: each is one that a text can hold, so that a short one has a word.
use Rattle.std.proofs.Common.{◌≡◌, ℕ, Bool, true, false, List, [], ◌∷◌, ◌++◌, length, nat_lt, nat_le, if◌then◌else◌, Ok, Err, Result, refl, arith}
use Rattle.std.specs.Prelude.{IsTrue}
use Rattle.std.specs.List.{AllByRecursion, list_all}
use Rattle.std.specs.Result.{result_unwrap_or}
use Rattle.std.proofs.lemmas.Bool.Decides.{nat_tests}
use Rattle.std.proofs.lemmas.Grind.{common_steps}
use Rattle.words.specs.Texts.{is_text_byte, packed, text_of}
use Rattle.words.specs.declared.num.ValueFault.{ValueFault}
use Rattle.words.specs.declared.num.ValueFault.TheVariants.{TextByte, TextLong}
use Rattle.query_tokens.specs.Token.{IsToken, Token, is_quotable}
use Rattle.query_tokens.specs.declared.keyword.Keyword.TheVariants as word
use Rattle.query_tokens.specs.declared.sign.Sign.TheVariants as sign
use Rattle.query_text.specs.Grammar.{Fits}
use Rattle.query_text.specs.Spelling.{at_most, clear_at, item, led, optional, separated, test}
use Rattle.query_text.specs.declared.parts.ItemText.{ItemText}
use Rattle.query_text.specs.declared.parts.TestText.{TestText}
use Rattle.query_text.specs.declared.statement.Body.TheVariants as bodies
use Rattle.query_text.specs.declared.statement.FilterText.{FilterText}
use Rattle.query_text.specs.declared.statement.SelectText.{SelectText}
use Rattle.query_graph.specs.Operators.{text_word}
use Rattle.graph_laws.proofs.Faults.{both_true}

abbrev pub AreTokens : List Token → Type 0
AreTokens tokens = AllByRecursion IsToken tokens

tokens_front : (front back : List Token) → AreTokens (front ++ back) → AreTokens front
tokens_front [] back are = tt
tokens_front (t ∷ front) back are = (are.0, tokens_front front back are.1)

tokens_back : (front back : List Token) → AreTokens (front ++ back) → AreTokens back
tokens_back [] back are = are
tokens_back (t ∷ front) back are = tokens_back front back are.1

tokens_led : {A : Type 0} (separator : Token) (spell : A → List Token) (xs : List A) → AreTokens (led separator spell xs) → AllByRecursion (λ x. AreTokens (spell x)) xs
tokens_led separator spell [] are = tt
tokens_led separator spell (x ∷ xs) are =
    (tokens_front (spell x) (led separator spell xs) are.1, tokens_led separator spell xs (tokens_back (spell x) (led separator spell xs) are.1))

tokens_separated : {A : Type 0} (separator : Token) (spell : A → List Token) (xs : List A) → AreTokens (separated separator spell xs) → AllByRecursion (λ x. AreTokens (spell x)) xs
tokens_separated separator spell [] are = tt
tokens_separated separator spell (x ∷ xs) are =
    (tokens_front (spell x) (led separator spell xs) are, tokens_led separator spell xs (tokens_back (spell x) (led separator spell xs) are))

pub tokens_of_tests : (f : FilterText) → Fits (bodies.Filter f) → AllByRecursion (λ (t : TestText). AreTokens (test t)) f.tests
tokens_of_tests f fits =
    let tests = separated (Token.keyword word.And) test f.tests in
    tokens_separated (Token.keyword word.And) test f.tests
    (tokens_front tests (optional at_most f.at_most ++ optional clear_at f.clear_at) fits.real.1.1.1.1.1)

pub tokens_of_items : (s : SelectText) → Fits (bodies.Select s) → AllByRecursion (λ (i : ItemText). AreTokens (item i)) s.items
tokens_of_items s fits =
    let items = separated (Token.sign sign.Comma) item s.items in
    let listed = items ++ Token.sign sign.RightParen ∷ [] in
    tokens_separated (Token.sign sign.Comma) item s.items
    (tokens_front items (Token.sign sign.RightParen ∷ []) (tokens_front listed (optional clear_at s.clear_at) fits.real.1.1.1.1.1))

-- what stands between quotes stands in a text
text_byte : (byte : ℕ) → is_quotable byte ≡ true → is_text_byte byte ≡ true
text_byte byte quotable = grind (arith, nat_tests, common_steps)

text_bytes : (text : List ℕ) → list_all is_quotable text ≡ true → list_all is_text_byte text ≡ true
text_bytes [] quotable = refl
text_bytes (byte ∷ text) quotable =
    let both = both_true (is_quotable byte) (list_all is_quotable text) quotable in
    rw (text_byte byte both.0) (text_bytes text both.1)

word_step : (long right : Bool) (word : ℕ) → long ≡ false → right ≡ true → (let r : Result ℕ ValueFault = if long then Err TextLong else if right then Ok word else Err TextByte in r ≡ Ok (result_unwrap_or r 0))
word_step true right word short are = absurd cc
word_step false true word short are = refl
word_step false false word short are = absurd cc

pub text_has_word : (text : List ℕ) → IsTrue (list_all is_quotable text) → nat_le (length text) 8 ≡ true → text_of text ≡ Ok (text_word text)
text_has_word text quotable short =
    word_step (nat_lt 8 (length text)) (list_all is_text_byte text) (packed text) (grind (arith, nat_tests)) (text_bytes text quotable)
