use Rattle.rewrites.proofs.Opened.{up_is_undone}
use Rattle.rewrites.proofs.laws.up_is_undone.Goals as goal

pub returns : goal.returns
returns c =
    up_is_undone
    (record {
      written = c.nodes_are_written.ensures;
      mean = c.nodes_mean_operators.ensures;
      wide = c.nodes_are_wide.ensures;
      bags = c.bags_of_injective_map.ensures;
    })
