use Rattle.party_laws.proofs.RunParts.{parts_are_in_machine}
use Rattle.party_laws.proofs.laws.parts_are_in_machine.Goals as goal

pub returns : goal.returns
returns g c =
    parts_are_in_machine g.T.Task.accepts g.T.Task.answer c.item_laws.ensures.lengths c.order_laws.ensures.closed c.steps_fit.ensures
