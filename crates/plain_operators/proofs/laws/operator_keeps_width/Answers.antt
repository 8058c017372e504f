use Rattle.plain_operators.proofs.OnSources.{operator_keeps_width}
use Rattle.plain_operators.proofs.laws.operator_keeps_width.Goals as goal

pub returns : goal.returns
returns c = operator_keeps_width c.operators_keep_widths.ensures
