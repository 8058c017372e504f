use Rattle.std.proofs.Common.{subst}
use Rattle.lanes.specs.declared.party.Party.TheVariants.{First, Second, Third}
use Rattle.joint_machine.specs.Left.{AreNext, lefts, needs_share}
use Rattle.joint_machine.proofs.draws.draw_share.Goals as goal

pub share_draws-requires-clause-own : goal.share_draws-requires-clause-own
share_draws-requires-clause-own c = (subst (λ p. AreNext (needs_share p c.args.count) (lefts c.args.tapes.now)) c.in-First.is c.requires) First

pub share_draws-requires-clause-following : goal.share_draws-requires-clause-following
share_draws-requires-clause-following c = (subst (λ p. AreNext (needs_share p c.args.count) (lefts c.args.tapes.now)) c.in-First.is c.requires) Second

pub share_draws-requires-in-Second-clause-own : goal.share_draws-requires-in-Second-clause-own
share_draws-requires-in-Second-clause-own c = (subst (λ p. AreNext (needs_share p c.args.count) (lefts c.args.tapes.now)) c.in-Second.is c.requires) Second

pub share_draws-requires-in-Second-clause-following : goal.share_draws-requires-in-Second-clause-following
share_draws-requires-in-Second-clause-following c = (subst (λ p. AreNext (needs_share p c.args.count) (lefts c.args.tapes.now)) c.in-Second.is c.requires) Third

pub share_draws-requires-in-Third-clause-own : goal.share_draws-requires-in-Third-clause-own
share_draws-requires-in-Third-clause-own c = (subst (λ p. AreNext (needs_share p c.args.count) (lefts c.args.tapes.now)) c.in-Third.is c.requires) Third

pub share_draws-requires-in-Third-clause-following : goal.share_draws-requires-in-Third-clause-following
share_draws-requires-in-Third-clause-following c = (subst (λ p. AreNext (needs_share p c.args.count) (lefts c.args.tapes.now)) c.in-Third.is c.requires) First
