use Rattle.step_lists.proofs.Rooms.{const_fits}
use Rattle.step_lists.proofs.rules.fits_const.Goals as goal

pub returns : goal.returns
returns c = const_fits c.args.words.now c.type_inv.words
