use Rattle.tables.proofs.Cut.{All-rows_cut}
use Rattle.tables.proofs.table.Table.columns.Goals as goal

pub returns-clause-rectangular : goal.returns-clause-rectangular
returns-clause-rectangular c = rw (← c.self.view_is) (All-rows_cut _ _ _ c.self.invariant.full)
