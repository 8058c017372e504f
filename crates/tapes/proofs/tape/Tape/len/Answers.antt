use Rattle.std.proofs.Common.{length, ap, arith}
use Rattle.tapes.proofs.LaidLemmas.{length-draws_from}
use Rattle.tapes.proofs.tape.Tape.len.Goals as goal

pub returns-clause-value : goal.returns-clause-value
returns-clause-value c =
    let i = c.self.inside in
    omega (arith, length-draws_from 0 i.words.items i.orders.items, ap length c.self.view_is)

pub returns-clause-short : goal.returns-clause-short
returns-clause-short c =
    let i = c.self.inside in
    omega (arith, length-draws_from 0 i.words.items i.orders.items, ap length c.self.view_is, i.words.ok, i.orders.ok, i.words.small, i.orders.small)
