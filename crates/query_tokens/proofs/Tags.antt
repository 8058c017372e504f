-- Two keywords of one number are one keyword, and so are two signs; a name that is one letter is a name.
use Rattle.std.proofs.Common.{◌≡◌, true, [], ◌∷◌, refl, ap, lit≤}
use denote.Enum.Bare.{same_true}
use denote.Enum.Declared.{tag_of}
use Rattle.query_tokens.specs.contracts.keyword.Keyword.{the_type}
use Rattle.query_tokens.specs.contracts.sign.Sign.{the_type as sign_type}
use Rattle.query_tokens.specs.declared.keyword.Keyword.{Keyword}
use Rattle.query_tokens.specs.declared.keyword.Keyword.TheVariants as word
use Rattle.query_tokens.specs.declared.sign.Sign.{Sign}
use Rattle.query_tokens.specs.declared.sign.Sign.TheVariants as sign_of
use Rattle.query_tokens.specs.Words.{word_of, keyword_number, sign_number, same_keyword, same_sign}
use Rattle.query_tokens.specs.Token.{Token, keyword, sign, IsName, is_keyword, is_sign}

pub keyword_tag : (k : Keyword) → tag_of the_type k ≡ keyword_number k
keyword_tag word.Relation = refl
keyword_tag _ = refl

pub sign_tag : (s : Sign) → tag_of sign_type s ≡ sign_number s
sign_tag sign_of.LeftParen = refl
sign_tag _ = refl

pub same_keyword_is : (j k : Keyword) → same_keyword j k ≡ true → j ≡ k
same_keyword_is j k e = same_true the_type tt j k (rw (keyword_tag j, keyword_tag k) e)

pub same_sign_is : (s u : Sign) → same_sign s u ≡ true → s ≡ u
same_sign_is s u e = same_true sign_type tt s u (rw (sign_tag s, sign_tag u) e)

pub is_keyword_only : (k : Keyword) (t : Token) → is_keyword k t ≡ true → t ≡ keyword k
is_keyword_only k (keyword j) e = ap keyword (same_keyword_is j k e)
is_keyword_only k _ e = absurd cc

pub is_sign_only : (s : Sign) (t : Token) → is_sign s t ≡ true → t ≡ sign s
is_sign_only s (sign u) e = ap sign (same_sign_is u s e)
is_sign_only s _ e = absurd cc

no_letter : (k : Keyword) → 97 ∷ [] ≡ word_of k → ⊥
no_letter word.Relation e = cc
no_letter _ e = cc

-- the name a
pub IsName-letter : IsName (97 ∷ [])
IsName-letter = record { word = refl; short = lit≤ tt; free = no_letter }
