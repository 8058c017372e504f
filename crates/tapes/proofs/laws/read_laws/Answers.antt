use Rattle.tapes.proofs.Readable.{bytes_have_answer}
use Rattle.tapes.proofs.laws.read_laws.Goals as goal

pub returns : goal.returns
returns c = bytes_have_answer
