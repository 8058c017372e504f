use Rattle.std.proofs.Common.{◌≡◌, ◌++◌, ◌≤◌, ◌-◌, length}
use Rattle.query_tokens.specs.Scan.{places_of}
use Rattle.query_tokens.proofs.ScanSteps.{scan_from}
use Rattle.query_tokens.proofs.scan.scan_line.Given as goal

abbrev pub invariant-loop-at : goal.invariant-loop-at
invariant-loop-at l = (l.tokens.items ++ scan_from l.line l.at ≡ l.fn.tokens.items ++ places_of l.line) × (l.at ≤ length l.line)

abbrev pub decreases-loop-at : goal.decreases-loop-at
decreases-loop-at l = length l.line - l.at
