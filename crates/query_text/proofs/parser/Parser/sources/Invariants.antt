use Rattle.std.proofs.Common.{◌≡◌, ◌-◌}
use Rattle.query_text.specs.Reading.{times}
use Rattle.query_text.specs.Forms.{is_name, name_at, concat_at}
use Rattle.query_text.proofs.Loops.{with_front}
use Rattle.query_text.proofs.parser.Parser.sources.Given as goal

abbrev pub invariant-loop-source : goal.invariant-loop-source
invariant-loop-source l = with_front l.sources.items (times (6 - l._source) is_name name_at l.self) ≡ concat_at l.fn.self
