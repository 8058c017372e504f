use Rattle.std.proofs.Common.{get_or, sym}
use Rattle.circuits.specs.Folds.{combined_word, neutral_word}
use Rattle.circuits.proofs.fold_laws.folds_from_neutral.Goals as goal

pub returns : goal.returns
returns c = λ kind xs words some.
    sym (c.fold_laws.ensures.from_first (combined_word kind) (neutral_word kind) xs some (c.folds_are_lawful.ensures.neutral kind (get_or xs 0 0) (words.below 0)))
