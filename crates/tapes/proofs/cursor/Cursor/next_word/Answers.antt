use Rattle.std.proofs.Common.{sym, ◌∙◌, ap}
use Rattle.std.specs.Prelude.{is_some}
use Rattle.tapes.specs.Reading.{moved_past}
use Rattle.tapes.proofs.ReadingLemmas.{only_word, one_is_there, no_word_there}
use Rattle.tapes.proofs.cursor.Cursor.next_word.Goals as goal

pub returns-in-Some-clause-value : goal.returns-in-Some-clause-value
returns-in-Some-clause-value c = c.copied.ensures ∙ c.first.ensures.value ∙ only_word c.args.self.now c.in-Some.words.now c.in-Some.ensures.value

pub returns-in-Some-clause-moves : goal.returns-in-Some-clause-moves
returns-in-Some-clause-moves c =
    c.in-Some.ensures.moves
    ∙ ap (λ b. moved_past c.args.self.now b)
    (sym (ap is_some (c.copied.ensures ∙ c.first.ensures.value) ∙ one_is_there c.args.self.now c.in-Some.words.now c.in-Some.ensures.value))

pub returns-in-None-clause-value : goal.returns-in-None-clause-value
returns-in-None-clause-value c = no_word_there c.args.self.now c.in-None.ensures.value
