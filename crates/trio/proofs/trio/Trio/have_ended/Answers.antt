use Rattle.std.proofs.Common.{◌≡◌, sym, subst, ◌∙◌}
use Rattle.std.specs.Prelude.{◌&&◌, MatchBool}
use Rattle.lanes.specs.declared.party.Party.TheVariants.{First, Second, Third}
use Rattle.trio.specs.Held.{running}
use Rattle.trio.specs.Running.{HaveEnded}
use Rattle.trio.proofs.Ended.{has_ended, all_ended, and_true, and_false}
use Rattle.trio.proofs.trio.Trio.have_ended.Goals.{then-has_ended, else-has_ended}
use Rattle.trio.proofs.trio.Trio.have_ended.Goals as goal

pub returns-then-has_ended-2-clause-ended : goal.returns-then-has_ended-2-clause-ended
returns-then-has_ended-2-clause-ended g c =
    let answer = g.T.Task.answer in
    let r = running c.self.inside.cores c.self.inside.sent in
    let one = has_ended answer r First in
    let two = has_ended answer r Second in
    let both : c.if-has_ended.value ≡ one && two =
    elim c.if-has_ended.branch [
      | then-has_ended w ↦ and_true one two c.if-has_ended.value (sym c.has_ended.ensures ∙ w.if-has_ended.true) (w.value-is ∙ w.has_ended-then-has_ended.ensures)
      | else-has_ended w ↦ and_false one two c.if-has_ended.value (sym c.has_ended.ensures ∙ w.if-has_ended.false) (w.value-is ∙ c.has_ended.ensures)
    ] in
    subst (λ r. MatchBool c.has_ended-then-has_ended-2.result (HaveEnded answer r) (¬ HaveEnded answer r)) c.self.view_is
    (all_ended answer r c.has_ended-then-has_ended-2.result
    (and_true (one && two) (has_ended answer r Third) c.has_ended-then-has_ended-2.result (sym both ∙ c.if-has_ended-2.true) c.has_ended-then-has_ended-2.ensures))

pub returns-else-has_ended-2-clause-ended : goal.returns-else-has_ended-2-clause-ended
returns-else-has_ended-2-clause-ended g c =
    let answer = g.T.Task.answer in
    let r = running c.self.inside.cores c.self.inside.sent in
    let one = has_ended answer r First in
    let two = has_ended answer r Second in
    let both : c.if-has_ended.value ≡ one && two =
    elim c.if-has_ended.branch [
      | then-has_ended w ↦ and_true one two c.if-has_ended.value (sym c.has_ended.ensures ∙ w.if-has_ended.true) (w.value-is ∙ w.has_ended-then-has_ended.ensures)
      | else-has_ended w ↦ and_false one two c.if-has_ended.value (sym c.has_ended.ensures ∙ w.if-has_ended.false) (w.value-is ∙ c.has_ended.ensures)
    ] in
    subst (λ r. MatchBool c.if-has_ended.value (HaveEnded answer r) (¬ HaveEnded answer r)) c.self.view_is
    (all_ended answer r c.if-has_ended.value (and_false (one && two) (has_ended answer r Third) c.if-has_ended.value (sym both ∙ c.if-has_ended-2.false) both))
