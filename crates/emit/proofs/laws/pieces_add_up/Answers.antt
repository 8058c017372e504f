use Rattle.step_lists.specs.Open.{SlotWords}
use Rattle.emit.specs.AddsLaws.{adds_nothing, adds_same, adds_step, adds_then, adds_wider}
use Rattle.emit.proofs.laws.pieces_add_up.Goals as goal

pub returns : goal.returns
returns g c =
    let load = λ (slots : SlotWords). slots in
    record { none = adds_nothing g.T.Task.answer load; step = adds_step g.T.Task.answer load; joined = adds_then g.T.Task.answer load; wider = adds_wider g.T.Task.answer load; same = adds_same g.T.Task.answer load }
