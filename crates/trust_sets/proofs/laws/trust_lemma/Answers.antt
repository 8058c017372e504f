use Rattle.trust_sets.proofs.TrustLemma.{trust_lemma}
use Rattle.trust_sets.proofs.laws.trust_lemma.Goals as goal

pub returns : goal.returns
returns c =
    let steps = c.step_laws.ensures in
    trust_lemma
    (record {
      steps = record { append = steps.append; maps = steps.maps; cuts = steps.cuts; aggregates = steps.aggregates; whole = steps.whole; widths = steps.widths };
      fit = c.nodes_fit_earlier.ensures;
      mean = c.nodes_mean_operators.ensures;
      wide = c.nodes_are_wide.ensures;
    })
