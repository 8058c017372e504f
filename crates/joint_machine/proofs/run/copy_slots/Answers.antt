use Rattle.std.proofs.Common.{◌≡◌, length, get_or, subst, ◌∙◌, ap, ◌<◌}
use Rattle.lanes.specs.Word.{AreWords}
use Rattle.joint_machine.proofs.Copies.{copied_more, below_more}
use Rattle.joint_machine.proofs.run.copy_slots.Goals as goal

pub loop-words-preserved : goal.loop-words-preserved
loop-words-preserved c =
    let rows = c.args.slots.now.items in
    let k = c.loop-words.words-index in
    let item = c.words-item.result in
    let e : c.deref-words-items.result.now ≡ rows = c.deref-words-items.ensures.value in
    let lt = subst (λ xs. k < length xs) e c.loop-words-test.true in
    let is = c.words-item.is ∙ ap (λ xs. get_or xs k item) e in
    record {
      same =
          copied_more rows c.loop-words.made.items c.push.new.self.items k item c.in_ok-copy_words.field-0 lt is
          (c.in_ok-copy_words.ensures.same ∙ c.deref.ensures.value) c.in_ok-push.ensures.items c.loop-words.invariant.same;
      below = below_more rows k item lt is (subst AreWords c.deref.ensures.value c.in_ok-copy_words.ensures.below) c.loop-words.invariant.below;
    }
