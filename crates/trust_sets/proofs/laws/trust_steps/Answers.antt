use Rattle.trust_sets.proofs.TrustLemma.{trust_steps}
use Rattle.trust_sets.proofs.laws.trust_steps.Goals as goal

pub returns : goal.returns
returns c =
    let steps = c.step_laws.ensures in
    trust_steps (record { append = steps.append; maps = steps.maps; cuts = steps.cuts; aggregates = steps.aggregates; whole = steps.whole; widths = steps.widths })
