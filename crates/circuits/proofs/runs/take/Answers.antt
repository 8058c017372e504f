use Rattle.std.proofs.Common.{refl, sym, ap, ◌∙◌}
use Rattle.lanes.specs.Lanes.{lanewise}
use Rattle.wires.specs.Environment.{words}
use Rattle.circuits.specs.RunLoops.{taken_word}
use Rattle.circuits.proofs.RunLaws.{earlier_words}
use Rattle.circuits.proofs.runs.take.Goals as goal

pub returns-in-None-clause-ok : goal.returns-in-None-clause-ok
returns-in-None-clause-ok g c =
    let fits = g.met.W.Wires.fits in
    record {
      made = c.requires.earlier;
      lanes = refl;
      value = λ v possible.
          let first = (fits c.args.wires.now v c.args.earlier possible c.requires.earlier).count in
          let second = (fits c.args.wires.now v c.args.later possible c.requires.later).count in
          earlier_words (words v c.args.earlier) (words v c.args.later) (first ∙ c.requires.lanes ∙ sym second)
          ∙ ap (λ f. lanewise (taken_word f) (words v c.args.earlier) (words v c.args.later)) (sym c.in-None.is);
    }
