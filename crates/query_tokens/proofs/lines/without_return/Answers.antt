use Rattle.std.proofs.Common.{◌-◌, length, refl, arith}
use Rattle.std.proofs.lemmas.List.{nil_from_length}
use Rattle.query_tokens.proofs.LineCuts.{without_return-cut, without_return-same}
use Rattle.query_tokens.proofs.lines.without_return.Goals as goal
use Rattle.query_tokens.proofs.lines.without_return.Goals.{else-line-gt0-via-then-line-gt0+else-line-eq13, else-line-gt0-via-else-line-gt0}

pub returns-then-line-eq13-clause-value : goal.returns-then-line-eq13-clause-value
returns-then-line-eq13-clause-value c =
    let line = c.args.line.now in
    without_return-cut line (length line - 1) (omega arith) c.if-line-eq13.true

pub returns-else-line-gt0-clause-value : goal.returns-else-line-gt0-clause-value
returns-else-line-gt0-clause-value c =
    let line = c.args.line.now in
    elim c.else-line-gt0.branch [
      | else-line-gt0-via-then-line-gt0+else-line-eq13 w ↦ without_return-same line (length line - 1) (omega arith) w.if-line-eq13.false
      | else-line-gt0-via-else-line-gt0 w ↦ rw (nil_from_length line (omega arith)) refl
    ]
