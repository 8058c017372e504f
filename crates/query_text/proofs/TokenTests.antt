-- What a test for a keyword or a sign passes, and a name.
use Rattle.std.proofs.Common.{◌≡◌, true, List, [], ◌∷◌, get_or, refl, sym, ap, ◌∙◌, lit≤}
use Rattle.std.proofs.lemmas.Bool.{eqb-true}
use Rattle.query_tokens.specs.declared.keyword.Keyword.{Keyword}
use Rattle.query_tokens.specs.declared.keyword.Keyword.TheVariants as word
use Rattle.query_tokens.specs.declared.sign.Sign.{Sign}
use Rattle.query_tokens.specs.declared.sign.Sign.TheVariants as sign_of
use Rattle.query_tokens.specs.Words.{word_of, keyword_number, sign_number}
use Rattle.query_tokens.specs.Scan.{all_keywords}
use Rattle.query_tokens.specs.Token.{Token, keyword, sign, IsName, is_keyword, is_sign}

-- a keyword stands at its number
keyword_at : (k : Keyword) → get_or all_keywords (keyword_number k) word.Relation ≡ k
keyword_at word.Relation = refl
keyword_at _ = refl

pub keyword_alone : (k : Keyword) (t : Token) → is_keyword k t ≡ true → t ≡ keyword k
keyword_alone k (keyword j) e =
    ap keyword (sym (keyword_at j) ∙ ap (λ n. get_or all_keywords n word.Relation) (eqb-true (keyword_number j) (keyword_number k) e) ∙ keyword_at k)
keyword_alone k _ e = absurd cc

-- the signs in the order of their numbers
abbrev signs : List Sign
signs = sign_of.LeftParen ∷ sign_of.RightParen ∷ sign_of.Comma ∷ sign_of.Assign ∷ sign_of.Equal ∷ sign_of.NotEqual ∷ sign_of.Less ∷ sign_of.LessEqual ∷ sign_of.Greater ∷ sign_of.GreaterEqual ∷ sign_of.Plus ∷ sign_of.Minus ∷ sign_of.Star ∷ sign_of.Ampersand ∷ sign_of.Bar ∷ []

sign_at : (s : Sign) → get_or signs (sign_number s) sign_of.LeftParen ≡ s
sign_at sign_of.LeftParen = refl
sign_at _ = refl

pub sign_alone : (s : Sign) (t : Token) → is_sign s t ≡ true → t ≡ sign s
sign_alone s (sign u) e =
    ap sign (sym (sign_at u) ∙ ap (λ n. get_or signs n sign_of.LeftParen) (eqb-true (sign_number u) (sign_number s) e) ∙ sign_at s)
sign_alone s _ e = absurd cc

no_keyword : (k : Keyword) → 97 ∷ [] ≡ word_of k → ⊥
no_keyword word.Relation e = cc
no_keyword _ e = cc

-- a letter is a name
pub letter_name : IsName (97 ∷ [])
letter_name = record { word = refl; short = lit≤ tt; free = no_keyword }
