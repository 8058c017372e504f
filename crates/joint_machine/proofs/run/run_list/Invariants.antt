use Rattle.std.proofs.Common.{drop}
use Rattle.step_lists.specs.Machine.{joint_of}
use Rattle.joint_machine.specs.Left.{draws_of, lefts}
use Rattle.joint_machine.proofs.Ahead.{IsAhead}
use Rattle.joint_machine.proofs.run.run_list.Given as goal

-- the run of the whole list is the run of the steps to come
abbrev pub invariant-loop-step : goal.invariant-loop-step
invariant-loop-step g l =
    IsAhead g.T.Task.accepts g.T.Task.answer (joint_of g.T.Task.answer l.list l.slots (draws_of l.tapes)) (drop l.step-index l.list.steps) l.machine (lefts l.readers)
