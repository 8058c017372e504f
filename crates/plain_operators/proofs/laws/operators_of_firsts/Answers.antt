use Rattle.plain_operators.proofs.Firsts.{distinct_of_firsts, group_of_firsts}
use Rattle.plain_operators.proofs.laws.operators_of_firsts.Goals as goal

pub returns-clause-distinct : goal.returns-clause-distinct
returns-clause-distinct c = distinct_of_firsts

pub returns-clause-group : goal.returns-clause-group
returns-clause-group c = group_of_firsts
