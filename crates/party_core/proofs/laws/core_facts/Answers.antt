use Rattle.party_core.proofs.Moves.{moves_keep}
use Rattle.party_core.proofs.Readied.{cores_are_ready}
use Rattle.party_core.proofs.laws.core_facts.Goals as goal

pub returns-clause-moves : goal.returns-clause-moves
returns-clause-moves g c = moves_keep g.T.Task.accepts g.T.Task.answer

pub returns-clause-ready : goal.returns-clause-ready
returns-clause-ready g c =
    cores_are_ready g.T.Task.accepts g.T.Task.answer (record { lengths = c.item_laws.ensures.lengths; parts = c.item_laws.ensures.parts; stay = c.lane_laws.ensures.words_stay }) g.met.T.Task.shaped
