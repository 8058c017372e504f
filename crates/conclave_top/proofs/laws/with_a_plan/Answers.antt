use Rattle.conclave_top.proofs.PlanLaws as plans
use Rattle.conclave_top.proofs.laws.with_a_plan.Goals as goal

pub returns : goal.returns
returns c = plans.with_a_plan c.made_laws.ensures.only c.differences_are_one.ensures
