use Rattle.std.proofs.Common.{[], ◌∷◌, ◌++◌, sym, subst}
use Rattle.lanes.specs.declared.party.Party.TheVariants.{First, Second, Third}
use Rattle.tapes.specs.declared.draw.Need.TheVariants.{OrderOf}
use Rattle.step_lists.specs.Draws.{needs_steer}
use Rattle.joint_machine.specs.Left.{AreNext, IsNext, left, lefts}
use Rattle.joint_machine.proofs.Drawing.{words}
use Rattle.joint_machine.proofs.draws.draw_steer.Goals as goal

pub steer_draws-requires-clause-own : goal.steer_draws-requires-clause-own
steer_draws-requires-clause-own c =
    subst (λ w. IsNext ((words w ++ []) ++ []) (left c.args.tapes.now.first)) (sym c.in_ok-count.ensures)
    ((subst (λ p. AreNext (needs_steer p c.args.moved c.args.rows) (lefts c.args.tapes.now)) c.in-First.is c.requires) First)

pub steer_draws-requires-clause-following : goal.steer_draws-requires-clause-following
steer_draws-requires-clause-following c =
    subst (λ w. IsNext (OrderOf c.args.rows ∷ words w) (left c.args.tapes.now.second)) (sym c.in_ok-count.ensures)
    ((subst (λ p. AreNext (needs_steer p c.args.moved c.args.rows) (lefts c.args.tapes.now)) c.in-First.is c.requires) Second)

pub steer_draws-requires-clause-earlier : goal.steer_draws-requires-clause-earlier
steer_draws-requires-clause-earlier c =
    subst (λ w. IsNext (words w ++ (words w ++ [])) (left c.args.tapes.now.third)) (sym c.in_ok-count.ensures)
    ((subst (λ p. AreNext (needs_steer p c.args.moved c.args.rows) (lefts c.args.tapes.now)) c.in-First.is c.requires) Third)

pub steer_draws-requires-in-Second-clause-own : goal.steer_draws-requires-in-Second-clause-own
steer_draws-requires-in-Second-clause-own c =
    subst (λ w. IsNext ((words w ++ []) ++ []) (left c.args.tapes.now.second)) (sym c.in_ok-count.ensures)
    ((subst (λ p. AreNext (needs_steer p c.args.moved c.args.rows) (lefts c.args.tapes.now)) c.in-Second.is c.requires) Second)

pub steer_draws-requires-in-Second-clause-following : goal.steer_draws-requires-in-Second-clause-following
steer_draws-requires-in-Second-clause-following c =
    subst (λ w. IsNext (OrderOf c.args.rows ∷ words w) (left c.args.tapes.now.third)) (sym c.in_ok-count.ensures)
    ((subst (λ p. AreNext (needs_steer p c.args.moved c.args.rows) (lefts c.args.tapes.now)) c.in-Second.is c.requires) Third)

pub steer_draws-requires-in-Second-clause-earlier : goal.steer_draws-requires-in-Second-clause-earlier
steer_draws-requires-in-Second-clause-earlier c =
    subst (λ w. IsNext (words w ++ (words w ++ [])) (left c.args.tapes.now.first)) (sym c.in_ok-count.ensures)
    ((subst (λ p. AreNext (needs_steer p c.args.moved c.args.rows) (lefts c.args.tapes.now)) c.in-Second.is c.requires) First)

pub steer_draws-requires-in-Third-clause-own : goal.steer_draws-requires-in-Third-clause-own
steer_draws-requires-in-Third-clause-own c =
    subst (λ w. IsNext ((words w ++ []) ++ []) (left c.args.tapes.now.third)) (sym c.in_ok-count.ensures)
    ((subst (λ p. AreNext (needs_steer p c.args.moved c.args.rows) (lefts c.args.tapes.now)) c.in-Third.is c.requires) Third)

pub steer_draws-requires-in-Third-clause-following : goal.steer_draws-requires-in-Third-clause-following
steer_draws-requires-in-Third-clause-following c =
    subst (λ w. IsNext (OrderOf c.args.rows ∷ words w) (left c.args.tapes.now.first)) (sym c.in_ok-count.ensures)
    ((subst (λ p. AreNext (needs_steer p c.args.moved c.args.rows) (lefts c.args.tapes.now)) c.in-Third.is c.requires) First)

pub steer_draws-requires-in-Third-clause-earlier : goal.steer_draws-requires-in-Third-clause-earlier
steer_draws-requires-in-Third-clause-earlier c =
    subst (λ w. IsNext (words w ++ (words w ++ [])) (left c.args.tapes.now.second)) (sym c.in_ok-count.ensures)
    ((subst (λ p. AreNext (needs_steer p c.args.moved c.args.rows) (lefts c.args.tapes.now)) c.in-Third.is c.requires) Second)
