use Rattle.std.proofs.Common.{ap, ◌∙◌, rules, tests}
use Rattle.std.specs.List.{list_all}
use Rattle.std.proofs.lemmas.Iterator.{YieldsList-from_slice}
use Rattle.std.proofs.lemmas.Iterator.Search.{all_from_yields_List}
use Rattle.party_core.proofs.Standing.{marked, passed, all_stand}
use Rattle.party_core.proofs.orders.is_order.Goals as goal
use Rattle.party_core.proofs.orders.is_order.Goals.{then-word-words, else-word-words}

pub loop-word-preserved : goal.loop-word-preserved
loop-word-preserved c =
    let words = c.args.words.now in
    let i = c.loop-word.word-index in
    elim c.if-word-words.branch [
      | then-word-words w ↦ rw w.seen-is (marked words i c.loop-word.seen.items c.loop-word-test.true w.if-word-words.true c.loop-word.invariant)
      | else-word-words w ↦ rw w.seen-is (passed words i c.loop-word.seen.items c.loop-word-test.true w.if-word-words.false c.loop-word.invariant)
    ]

pub returns : goal.returns
returns c =
    let seen = c.deref.result.now in
    all_from_yields_List (λ b. b) _ _ c.all.result c.all.ensures.ran (YieldsList-from_slice seen cc) (λ x b q k. search (rules, tests))
    ∙ ap (list_all (λ b. b)) c.deref.ensures.value ∙ all_stand c.args.words.now c.loop-word.word-index c.loop-word.seen.items c.loop-word-test.false c.loop-word.invariant
