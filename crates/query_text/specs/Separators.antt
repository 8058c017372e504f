-- What stands between the parts of a list.
use Rattle.std.specs.Prelude.{Bool}
use Rattle.query_tokens.specs.Token.{Token, keyword, sign, is_keyword, is_sign}
use Rattle.query_tokens.specs.declared.keyword.Keyword.TheVariants as word
use Rattle.query_tokens.specs.declared.sign.Sign.TheVariants as sign_of
use Rattle.query_text.specs.declared.lists.Separator.{Separator}
use Rattle.query_text.specs.declared.lists.Separator.TheVariants.{Comma, And}

abbrev pub separates : Separator → Token → Bool
separates Comma = is_sign sign_of.Comma
separates And = is_keyword word.And

abbrev pub separator_token : Separator → Token
separator_token Comma = sign sign_of.Comma
separator_token And = keyword word.And
