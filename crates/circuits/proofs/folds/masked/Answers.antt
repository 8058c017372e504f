use Rattle.std.proofs.Common.{ap, sym, ◌∙◌}
use Rattle.lanes.specs.Lanes.{lanewise}
use Rattle.wires.specs.Environment.{words}
use Rattle.circuits.specs.Folds.{masked_word}
use Rattle.circuits.proofs.FoldValues.{cleared_is, raised_is}
use Rattle.circuits.proofs.Restated.{restated}
use Rattle.circuits.proofs.folds.masked.Goals as goal

pub returns-in_ok-new-in-Sum-clause-ok : goal.returns-in_ok-new-in-Sum-clause-ok
returns-in_ok-new-in-Sum-clause-ok g c =
    let fits = g.met.W.Wires.fits in
    let before = c.cleared.ensures.grows.within in
    restated _ _ _ _ _ (λ v. lanewise (masked_word c.args.fold) (words v c.args.flag) (words v c.args.word)) c.in_ok-new-in-Sum.ensures.ok
    (λ v possible. cleared_is c.word_laws.ensures.flags (words v c.args.flag) (words v c.args.word) (fits c.args.wires.now v c.args.word (before v possible) c.requires.word).below
    ∙ ap (λ f. lanewise (masked_word f) (words v c.args.flag) (words v c.args.word)) (sym c.in-Sum.is))

pub returns-in_ok-new-in-Least-clause-ok : goal.returns-in_ok-new-in-Least-clause-ok
returns-in_ok-new-in-Least-clause-ok g c =
    let fits = g.met.W.Wires.fits in
    let before = c.raised.ensures.grows.within in
    restated _ _ _ _ _ (λ v. lanewise (masked_word c.args.fold) (words v c.args.flag) (words v c.args.word)) c.in_ok-new-in-Least.ensures.ok
    (λ v possible. raised_is c.word_laws.ensures.flags (words v c.args.flag) (words v c.args.word) (fits c.args.wires.now v c.args.word (before v possible) c.requires.word).below
    ∙ ap (λ f. lanewise (masked_word f) (words v c.args.flag) (words v c.args.word)) (sym c.in-Least.is))

pub returns-in_ok-new-in-Greatest-clause-ok : goal.returns-in_ok-new-in-Greatest-clause-ok
returns-in_ok-new-in-Greatest-clause-ok g c =
    let fits = g.met.W.Wires.fits in
    let before = c.cleared-in-Greatest.ensures.grows.within in
    restated _ _ _ _ _ (λ v. lanewise (masked_word c.args.fold) (words v c.args.flag) (words v c.args.word)) c.in_ok-new-in-Greatest.ensures.ok
    (λ v possible. cleared_is c.word_laws.ensures.flags (words v c.args.flag) (words v c.args.word) (fits c.args.wires.now v c.args.word (before v possible) c.requires.word).below
    ∙ ap (λ f. lanewise (masked_word f) (words v c.args.flag) (words v c.args.word)) (sym c.in-Greatest.is))

pub returns-in_ok-new-in-Any-clause-ok : goal.returns-in_ok-new-in-Any-clause-ok
returns-in_ok-new-in-Any-clause-ok g c =
    let fits = g.met.W.Wires.fits in
    let before = c.cleared-in-Any.ensures.grows.within in
    restated _ _ _ _ _ (λ v. lanewise (masked_word c.args.fold) (words v c.args.flag) (words v c.args.word)) c.in_ok-new-in-Any.ensures.ok
    (λ v possible. cleared_is c.word_laws.ensures.flags (words v c.args.flag) (words v c.args.word) (fits c.args.wires.now v c.args.word (before v possible) c.requires.word).below
    ∙ ap (λ f. lanewise (masked_word f) (words v c.args.flag) (words v c.args.word)) (sym c.in-Any.is))
