use Rattle.std.proofs.Common.{ap, ◌∙◌, length, map}
use Rattle.lanes.specs.declared.party.Party.TheVariants.{First, Second, Third}
use Rattle.trio.proofs.making.make_cores.Goals as goal

pub make_core-requires-clause-slots : goal.make_core-requires-clause-slots
make_core-requires-clause-slots g c = ap (λ slots. map length slots.first) c.apart-first.ensures ∙ c.requires.slots First

pub make_core-requires-2-clause-slots : goal.make_core-requires-2-clause-slots
make_core-requires-2-clause-slots g c = ap (λ slots. map length slots.second) c.apart-first.ensures ∙ c.requires.slots Second

pub make_core-requires-3-clause-slots : goal.make_core-requires-3-clause-slots
make_core-requires-3-clause-slots g c = ap (λ slots. map length slots.third) c.apart-first.ensures ∙ c.requires.slots Third
