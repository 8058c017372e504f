use Rattle.conclave_top.specs.Outside.{ports_at}
use Rattle.conclave_top.proofs.audit.over_draws.Goals as goal

pub returns-in-Ok-Some : goal.returns-in-Ok-Some
returns-in-Ok-Some g c = c.disagreeing.ensures (ports_at g.F.Folder g.O.Sink c.args.files.now c.args.out.now)
