use Rattle.lanes.proofs.CarrySave.{carry_save, product_of_saved}
use Rattle.lanes.proofs.WordChoice.{choice_by_mask, equality_by_fold, spread_off, spread_on}
use Rattle.lanes.proofs.WordLemmas.{not_not}
use Rattle.lanes.proofs.WordSums.{difference_by_sum, less_by_carry, sum_of_carries}
use Rattle.lanes.proofs.laws.word_laws.Goals as goal

pub returns : goal.returns
returns c = record {
  carry_save = carry_save;
  bits = record { sum = sum_of_carries; less = less_by_carry; difference = difference_by_sum; product = product_of_saved; equality = equality_by_fold };
  flags = record { off = spread_off; on = spread_on; choice = choice_by_mask; twice = not_not };
}
