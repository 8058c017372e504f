use Rattle.std.proofs.Common.{map, take, Some}
use Rattle.tables.specs.Answer.{HasText, rows_text}
use Rattle.tables.proofs.answer.write_rows.Given as goal

abbrev pub invariant-loop-row : goal.invariant-loop-row
invariant-loop-row l = HasText (λ v. Some v.items) l.writer (rows_text l.columns (map (λ row. row.now) (take l.row-index l.rows)))
