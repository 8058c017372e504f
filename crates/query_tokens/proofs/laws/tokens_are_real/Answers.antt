use Rattle.query_tokens.proofs.RealTokens.{tokens_of-real}
use Rattle.query_tokens.proofs.laws.tokens_are_real.Goals as goal

pub returns : goal.returns
returns c line = tokens_of-real line
