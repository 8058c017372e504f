-- What a borrowed token is, without where it lies in memory.
use Rattle.query_tokens.specs.declared.token.Lexeme.{Lexeme}
use Rattle.query_tokens.specs.declared.token.Lexeme.TheVariants.{Name, Number, Quoted, Keyword, Sign, Bad}
use Rattle.query_tokens.specs.Token.{Token, name, number, quoted, keyword, sign, bad}

abbrev pub token_of : Lexeme → Token
token_of (Name bytes) = name bytes.now
token_of (Number n) = number n
token_of (Quoted bytes) = quoted bytes.now
token_of (Keyword k) = keyword k
token_of (Sign s) = sign s
token_of Bad = bad
