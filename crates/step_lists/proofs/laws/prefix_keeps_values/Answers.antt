use Rattle.step_lists.specs.Prefixes.{possible_prefix, register_prefix, grows_prefix}
use Rattle.step_lists.proofs.laws.prefix_keeps_values.Goals as goal

pub returns-clause-possible : goal.returns-clause-possible
returns-clause-possible g c = possible_prefix g.T.Task.answer

pub returns-clause-registers : goal.returns-clause-registers
returns-clause-registers g c = register_prefix g.T.Task.answer

pub returns-clause-slots : goal.returns-clause-slots
returns-clause-slots g c = λ a b slots ds s. (grows_prefix g.T.Task.answer a b slots ds s).slots
