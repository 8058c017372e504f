use Rattle.std.proofs.Common.{◌≤◌, length, drop}
use Rattle.lanes.specs.declared.party.Party.{Party}
use Rattle.lanes.specs.Three.{at}
use Rattle.step_lists.specs.Layout.{starting}
use Rattle.step_lists.specs.Machine.{before_steps}
use Rattle.joint_machine.specs.Left.{draws_of}
use Rattle.twin.specs.Passing.{left_at}
use Rattle.twin.proofs.Ahead.{IsBehind}
use Rattle.twin.proofs.twin_tape.twin.Given as goal

-- the twin of the whole list is what was made and then the twin of the steps to come
abbrev pub invariant-loop-number : goal.invariant-loop-number
invariant-loop-number g l = record {
  behind :
      IsBehind g.T.Task.accepts g.T.Task.answer l.viewer (starting l.list.first) (before_steps l.slots) (before_steps l.other) l.list.steps (draws_of l.tapes) l.number
      (drop l.number l.list.steps) l.pass.worlds.one l.pass.worlds.other (left_at l.pass.places (draws_of l.tapes)) l.pass.made;
  within : (p : Party) → at p l.pass.places ≤ length (at p (draws_of l.tapes));
}
