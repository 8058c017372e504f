use Rattle.std.proofs.Common.{◌≡◌, ◌+◌, ◌≤◌, length}
use Rattle.query_tokens.specs.Lines.{lines_of}
use Rattle.query_text.specs.ReadText.{read_lines}
use Rattle.query_text.proofs.TextLoop.{before}
use Rattle.query_text.proofs.read.read_lines.Given as goal

abbrev pub invariant-lines : goal.invariant-lines
invariant-lines l =
    record {
      so_far : before l.statements.items (read_lines l.number (length l.statements.items) (lines_of l.rest)) ≡ read_lines 1 0 (lines_of l.fn.text);
      positive : 1 ≤ l.number;
      room : l.number + length l.rest ≤ 65537;
    }

abbrev pub decreases-lines : goal.decreases-lines
decreases-lines l = length l.rest
