use Rattle.std.proofs.Common.{refl}
use Rattle.tables.specs.Table.{rows_cut}
use Rattle.tables.proofs.table.Table.new.Goals as goal

pub returns : goal.returns
unfolding rows_cut
returns c = refl
