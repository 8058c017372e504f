use Rattle.std.proofs.Common.{◌≡◌, ◌-◌}
use Rattle.query_text.specs.Reading.{after, times, several}
use Rattle.query_text.specs.Separators.{separates}
use Rattle.query_text.proofs.Loops.{with_front}
use Rattle.query_text.proofs.parser.Parser.several.Given as goal

abbrev pub invariant-loop-part : goal.invariant-loop-part
invariant-loop-part g l =
    with_front l.parts.items (times (l._part-end - l._part) (separates l.separator) (after (separates l.separator) g.P.Part.read) l.self) ≡ several (separates l.separator) g.P.Part.read l.fn.self
