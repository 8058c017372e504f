use Rattle.std.proofs.Common.{◌≡◌, ◌++◌, ◌∷◌, [], sym, subst, ◌∙◌, arith}
use Rattle.std.proofs.lemmas.Grind.{common_steps}
use Rattle.std.specs.Prelude.{IsTrue}
use Rattle.step_lists.specs.Layout.{grown, layout_of}
use Rattle.step_lists.specs.Rules.{is_fine}
use Rattle.step_lists.proofs.Moves.{kept_behind, grown_ok}
use Rattle.step_lists.proofs.step_list.StepList.add.Goals as goal

pub invariant_of-self-2 : goal.invariant_of-self-2
invariant_of-self-2 g c =
    let more : c.push.new.self.items ≡ c.self.inside.steps.items ++ c.args.step ∷ [] = grind (arith, common_steps) in
    kept_behind g.T.Task.accepts c.self.inside.steps.items c.self.inside.layout c.grow.new.self c.args.step c.push.new.self.items c.self.invariant
    (subst (λ list. IsTrue (is_fine g.T.Task.accepts (layout_of list) c.args.step)) (sym c.self.view_is) c.requires)
    (grown_ok c.grow.result c.self.inside.layout c.grow.new.self (grown c.self.inside.layout.now c.args.step) (sym c.is_err-else-is_err.ensures.value ∙ c.if-is_err-2.false) c.grow.ensures)
    more
