use Rattle.plain_operators.proofs.Cuts.{operators_of_cuts}
use Rattle.plain_operators.proofs.laws.operators_of_cuts.Goals as goal

pub returns : goal.returns
returns c = operators_of_cuts
    (record {
      keep = c.bags_keep_rows.ensures;
      append = c.bags_of_append.ensures;
      maps = c.bags_of_map.ensures;
      images = c.bags_of_tested_images.ensures;
      folds = c.fold_of_words.ensures;
    })
