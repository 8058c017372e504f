use Rattle.std.proofs.Common.{Some, take, sym, ◌∙◌, ap, arith}
use Rattle.tapes.specs.Reading.{words_at}
use Rattle.tapes.proofs.Standing.{after_words}
use Rattle.tapes.proofs.ReadingLemmas.{no_words_here, words_here, words_within}
use Rattle.tapes.proofs.cursor.Cursor.next_words.Goals as goal

pub returns-then-words_ready-count-clause-value : goal.returns-then-words_ready-count-clause-value
returns-then-words_ready-count-clause-value c =
    let i = c.self.inside in
    sym (no_words_here i.words.now i.orders.now i.place i.passed c.args.count c.self.invariant (omega (arith, c.words_ready.ensures)))
    ∙ ap (λ r. words_at r c.args.count) c.self.view_is

pub invariant_of-self : goal.invariant_of-self
invariant_of-self c =
    let i = c.self.inside in
    after_words i.words.now i.orders.now i.place i.passed c.args.count c.self.invariant (omega (arith, c.words_ready.ensures))

pub split_at-requires : goal.split_at-requires
split_at-requires c =
    let i = c.self.inside in
    omega (arith, words_within i.words.now i.orders.now i.place i.passed c.args.count c.self.invariant (omega (arith, c.words_ready.ensures)))

pub split_at-requires-2 : goal.split_at-requires-2
split_at-requires-2 c =
    let i = c.self.inside in
    omega (arith, c.split_at.ensures.back_len, words_within i.words.now i.orders.now i.place i.passed c.args.count c.self.invariant (omega (arith, c.words_ready.ensures)))

pub returns-clause-value : goal.returns-clause-value
returns-clause-value c =
    let i = c.self.inside in
    ap (λ ws. Some ws) (c.split_at-2.ensures.front ∙ ap (λ ws. take c.args.count ws) c.split_at.ensures.back)
    ∙ sym (words_here i.words.now i.orders.now i.place i.passed c.args.count c.self.invariant (omega (arith, c.words_ready.ensures)))
    ∙ ap (λ r. words_at r c.args.count) c.self.view_is
