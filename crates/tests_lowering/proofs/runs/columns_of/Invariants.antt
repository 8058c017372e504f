use Rattle.tables.specs.File.{HasNoFlag}
use Rattle.tests_lowering.proofs.runs.columns_of.Given as goal

abbrev pub invariant-loop-column : goal.invariant-loop-column
invariant-loop-column l = HasNoFlag l.copy.items
