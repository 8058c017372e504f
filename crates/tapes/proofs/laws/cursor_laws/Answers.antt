use Rattle.tapes.proofs.BulkWords.{words_in_bulk}
use Rattle.tapes.proofs.laws.cursor_laws.Goals as goal

pub returns : goal.returns
returns c = words_in_bulk
