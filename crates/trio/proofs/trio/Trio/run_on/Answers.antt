use Rattle.std.proofs.Common.{suc}
use Rattle.std.proofs.lemmas.Result.{err_from_is_err_and}
use Rattle.trio.proofs.Turned.{one_round_more, part_of_rounds, round_lowers}
use Rattle.trio.proofs.trio.Trio.run_on.Goals as goal

pub loop-self-smaller : goal.loop-self-smaller
loop-self-smaller g c =
    round_lowers g.T.Task.accepts g.T.Task.answer c.runs_keep.ensures c.runs_go_on.ensures c.loop-self.self c.take_turns.new.self c.have_ended.ensures.run c.loop-self-test.ensures.ended
    c.in_ok-take_turns.ensures.done

pub loop-self-preserved : goal.loop-self-preserved
loop-self-preserved g c =
    let done = c.loop-self.invariant in
    (suc done.0, one_round_more g.T.Task.answer done.0 c.args.self.now c.loop-self.self c.take_turns.new.self done.1 c.in_ok-take_turns.ensures.done)

pub returns-in_err-take_turns-clause-part : goal.returns-in_err-take_turns-clause-part
returns-in_err-take_turns-clause-part g c =
    let done = c.loop-self.invariant in
    let part = part_of_rounds g.T.Task.answer done.0 c.args.self.now c.loop-self.self c.take_turns.new.self done.1 c.in_err-take_turns.ensures.begun in
    let p = err_from_is_err_and c.from_residual.result c.from_residual.ensures.1 in
    rw p.1 part
