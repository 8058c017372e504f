use Rattle.joint_machine.specs.Left.{draws_of}
use Rattle.trio.specs.Held.{links_of}
use Rattle.trio.proofs.Standing.{made_run}
use Rattle.trio.proofs.trio.Trio.new.Goals as goal

pub invariant_of-result : goal.invariant_of-result
invariant_of-result g c =
    let fits = c.in_ok-check_run.ensures.fits in
    let made = c.in_ok-cores.ensures in
    record {
      list = c.args.list.now;
      slots = c.args.slots;
      tapes = draws_of c.args.tapes;
      is =
          made_run g.T.Task.accepts g.T.Task.answer c.runs_keep.ensures c.args.list.now c.args.slots (draws_of c.args.tapes) c.in_ok-cores.cores (links_of c.no_outboxes.result) made.well_formed
          (record { long = fits.0; below = made.below }) fits.1 made.cores c.no_outboxes.ensures;
    }

pub returns-clause-run : goal.returns-clause-run
returns-clause-run g c =
    let fits = c.in_ok-check_run.ensures.fits in
    let made = c.in_ok-cores.ensures in
    made_run g.T.Task.accepts g.T.Task.answer c.runs_keep.ensures c.args.list.now c.args.slots (draws_of c.args.tapes) c.in_ok-cores.cores (links_of c.no_outboxes.result) made.well_formed
    (record { long = fits.0; below = made.below }) fits.1 made.cores c.no_outboxes.ensures
