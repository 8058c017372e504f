use Rattle.trio.proofs.Turned.{one_turn_more}
use Rattle.trio.proofs.trio.Trio.take_turns.Goals as goal

pub loop-party-preserved : goal.loop-party-preserved
loop-party-preserved g c =
    one_turn_more g.T.Task.answer c.args.turns.now c.loop-party.party-index c.args.self.now c.loop-party.self c.step.new.self c.loop-party-test.true c.loop-party.invariant c.in_ok-step.ensures.moved
