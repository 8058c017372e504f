use Rattle.std.proofs.Common.{drop, sym, ◌∙◌, ap}
use Rattle.tapes.specs.Reading.{Reading, leading_words}
use Rattle.tapes.proofs.ReadingLemmas.{ready_here}
use Rattle.tapes.proofs.cursor.Cursor.words_ready.Goals as goal

pub returns : goal.returns
returns c =
    let i = c.self.inside in
    c.words_ready.ensures ∙ sym (ready_here i.words.now i.orders.now i.place i.passed c.self.invariant)
    ∙ ap (λ (r : Reading). leading_words (drop r.place r.draws)) c.self.view_is
