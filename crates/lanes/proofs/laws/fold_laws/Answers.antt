use Rattle.lanes.proofs.FoldLemmas.{fold_from_first, fold_of_appended, fold_of_zipped}
use Rattle.lanes.proofs.laws.fold_laws.Goals as goal

pub returns : goal.returns
returns c = record { from_first = fold_from_first; zipped = fold_of_zipped; appended = fold_of_appended }
