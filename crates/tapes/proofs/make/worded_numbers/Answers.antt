use Rattle.std.proofs.Common.{◌≡◌, ◌++◌, ◌∷◌, [], ap, sym, ◌∙◌}
use Rattle.tapes.specs.Made.{key_word, worded}
use Rattle.tapes.proofs.Making.{word_there, generator_moved, worded_more}
use Rattle.tapes.proofs.make.worded_numbers.Goals as goal

pub loop-i-preserved : goal.loop-i-preserved
loop-i-preserved c =
    let word : c.next_word.result ≡ key_word c.args.key c.loop-i.i = c.next_word.ensures.value ∙ word_there c.loop-i.words c.args.key c.loop-i.i c.loop-i.invariant.1 in (
      c.in_ok-push.ensures.items ∙ ap (λ xs. xs ++ (c.next_word.result, c.loop-i.i) ∷ []) c.loop-i.invariant.0
          ∙ ap (λ w. worded (λ i. key_word c.args.key i) c.loop-i.i ++ (w, c.loop-i.i) ∷ []) word ∙ sym (worded_more (λ i. key_word c.args.key i) c.loop-i.i),
      generator_moved c.loop-i.words c.next_word.new.words c.args.key c.loop-i.i c.loop-i.invariant.1 c.next_word.ensures.moves,
    )
