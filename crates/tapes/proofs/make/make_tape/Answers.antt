use Rattle.std.proofs.Common.{◌≡◌, ◌++◌, List, length, get_or, take, replicate, sym, ◌∙◌, ap, subst, arith}
use Rattle.tapes.specs.declared.draw.Need.{Need}
use Rattle.tapes.specs.declared.draw.Need.TheVariants.{Word}
use Rattle.tapes.specs.declared.needs.Run.{Run}
use Rattle.tapes.specs.Made.{key_bytes}
use Rattle.tapes.specs.Runs.{needs_of}
use Rattle.tapes.proofs.RunLemmas.{need_more, runs_more}
use Rattle.tapes.proofs.Making.{MadeSoFar, word_there, made_one}
use Rattle.tapes.proofs.make.make_tape.Goals as goal

pub push_made-requires-clause-word : goal.push_made-requires-clause-word
push_made-requires-clause-word c =
    rw c.len-number.ensures.value
    (c.next_word-word.ensures.value ∙ word_there c.loop-draw.words (key_bytes c.args.seed c.args.tape 0) (length c.loop-draw.made) c.loop-draw.invariant.words)

pub loop-draw-preserved : goal.loop-draw-preserved
loop-draw-preserved c =
    subst (λ (needs : List Need). MadeSoFar c.args.seed c.args.tape needs c.push_made.new.made c.next_word-word.new.words) (need_more _ c.loop-draw._draw _)
    (made_one c.args.seed c.args.tape _ c.loop-draw.made c.push_made.new.made _ c.loop-draw.words c.next_word-word.new.words c.loop-draw.invariant
    (rw c.len-number.ensures.value at c.in_ok-push_made.ensures.pushed) c.next_word-word.ensures.moves)

pub loop-run-preserved : goal.loop-run-preserved
loop-run-preserved c =
    let runs = c.runs-run-items.result.now in
    let k = c.loop-run.run-index in
    let none : Run = record { need = Word; count = 0 } in
    let all : c.loop-draw._draw ≡ (get_or runs k none).count = omega arith in
    subst (λ (needs : List Need). MadeSoFar c.args.seed c.args.tape needs c.loop-draw.made c.loop-draw.words)
    (ap (λ n. needs_of (take k runs) ++ replicate n (get_or runs k none).need) all ∙ sym (runs_more runs k none c.loop-run-test.true))
    c.loop-draw.invariant
