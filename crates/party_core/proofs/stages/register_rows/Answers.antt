use Rattle.std.proofs.Common.{◌∙◌}
use Rattle.party_core.proofs.Placed.{register_kept}
use Rattle.party_core.proofs.stages.register_rows.Goals as goal

pub length-requires : goal.length-requires
length-requires g c = (register_kept g.T.Task.answer c.args.list.now c.args._place c.args.register c.prefix_keeps_layout.ensures c.requires).0

pub returns : goal.returns
returns g c = c.length.ensures ∙ (register_kept g.T.Task.answer c.args.list.now c.args._place c.args.register c.prefix_keeps_layout.ensures c.requires).1
