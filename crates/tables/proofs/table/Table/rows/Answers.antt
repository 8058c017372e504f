use Rattle.std.proofs.Common.{sym}
use Rattle.tables.proofs.Cut.{length-rows_cut, All-rows_cut, words-rows_cut}
use Rattle.tables.proofs.table.Table.rows.Goals as goal

pub returns-clause-count : goal.returns-clause-count
returns-clause-count c = rw (← c.self.view_is) (sym (length-rows_cut _ _ _))

pub returns-clause-rectangular : goal.returns-clause-rectangular
returns-clause-rectangular c = rw (← c.self.view_is) (All-rows_cut _ _ _ c.self.invariant.full)

pub returns-clause-words : goal.returns-clause-words
returns-clause-words c = rw (← c.self.view_is) (words-rows_cut _ _ _ c.self.invariant.words)
