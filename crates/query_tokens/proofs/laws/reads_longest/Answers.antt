use Rattle.query_tokens.proofs.LongestFront.{longest, reads_text}
use Rattle.query_tokens.proofs.laws.reads_longest.Goals as goal

pub returns : goal.returns
returns c bytes = (longest bytes, reads_text bytes)
