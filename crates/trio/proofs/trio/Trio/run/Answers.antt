use Rattle.std.proofs.lemmas.Result.{err_from_is_err_and, on_err_weaker, on_ok_weaker}
use Rattle.trio.proofs.Turned.{ends_jointly, part_behind_turns, part_of_turns, whole_behind_turns}
use Rattle.trio.proofs.trio.Trio.run.Goals as goal

pub returns-in_err-take_turns-clause-part : goal.returns-in_err-take_turns-clause-part
returns-in_err-take_turns-clause-part g c =
    let p = err_from_is_err_and c.from_residual.result c.from_residual.ensures.1 in
    rw p.1 (part_of_turns g.T.Task.answer c.args.turns.now c.args.self.now c.take_turns.new.self c.in_err-take_turns.ensures.begun)

pub returns-clause-whole : goal.returns-clause-whole
returns-clause-whole g c =
    on_ok_weaker c.run_on.result (whole_behind_turns g.T.Task.answer c.args.turns.now c.args.self.now c.take_turns.new.self c.run_on.new.self c.in_ok-take_turns.ensures.done) c.run_on.ensures.whole

pub returns-clause-joint : goal.returns-clause-joint
returns-clause-joint g c =
    on_ok_weaker c.run_on.result
    (λ w. ends_jointly g.T.Task.accepts g.T.Task.answer c.every_order_ends.ensures c.runs_go_on.ensures c.args.turns.now c.args.self.now c.run_on.new.self
    (whole_behind_turns g.T.Task.answer c.args.turns.now c.args.self.now c.take_turns.new.self c.run_on.new.self c.in_ok-take_turns.ensures.done w))
    c.run_on.ensures.whole

pub returns-clause-part : goal.returns-clause-part
returns-clause-part g c =
    on_err_weaker c.run_on.result (part_behind_turns g.T.Task.answer c.args.turns.now c.args.self.now c.take_turns.new.self c.run_on.new.self c.in_ok-take_turns.ensures.done) c.run_on.ensures.part
