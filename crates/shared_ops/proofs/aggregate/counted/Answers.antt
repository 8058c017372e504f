use Rattle.std.proofs.Common.{arith}
use Rattle.circuits.specs.declared.folds.Fold.TheVariants.{Sum}
use Rattle.shared_ops.proofs.GroupCosts.{fold_cost}
use Rattle.shared_ops.proofs.aggregate.counted.Goals as goal

pub returns-in_err-new-clause-cost : goal.returns-in_err-new-clause-cost
returns-in_err-new-clause-cost g c = omega (arith, c.in_err-new.ensures.cost, fold_cost Sum c.args.blocks.now.width c.args.blocks.now.rows)

pub returns-clause-cost : goal.returns-clause-cost
returns-clause-cost g c = omega (arith, c.in_ok-new.ensures.cost, fold_cost Sum c.args.blocks.now.width c.args.blocks.now.rows)
