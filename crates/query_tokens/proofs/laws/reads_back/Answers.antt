use Rattle.query_tokens.proofs.ReadBack.{tokens_of-printed}
use Rattle.query_tokens.proofs.PrintedLine.{lines_of-printed}
use Rattle.query_tokens.proofs.laws.reads_back.Goals as goal

pub returns : goal.returns
returns c tokens real = (tokens_of-printed tokens real, λ rest. lines_of-printed tokens rest real)
