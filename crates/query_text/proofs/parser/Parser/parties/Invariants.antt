use Rattle.std.proofs.Common.{◌≡◌, length}
use Rattle.query_text.specs.Forms.{rising, parties_at}
use Rattle.query_text.proofs.Loops.{with_front}
use Rattle.query_text.proofs.parser.Parser.parties.Given as goal

abbrev pub invariant-loop-party : goal.invariant-loop-party
invariant-loop-party l = with_front l.parties.items (rising l.last l.self) ≡ parties_at l.fn.self

abbrev pub decreases-loop-party : goal.decreases-loop-party
decreases-loop-party l = length l.self
