use Rattle.rewrites.proofs.PartTrust.{parts_are_known}
use Rattle.rewrites.proofs.laws.parts_are_known.Goals as goal

pub returns : goal.returns
returns c =
    parts_are_known
    (record {
      written = c.nodes_are_written.ensures;
      known = c.nodes_know_from_earlier.ensures;
      steps = c.trust_steps.ensures;
      narrow = c.rows_narrow.ensures;
      lemma = c.trust_lemma.ensures;
    })
