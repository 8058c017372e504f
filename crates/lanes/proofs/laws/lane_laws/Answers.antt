use Rattle.lanes.proofs.Items.{words_stay}
use Rattle.lanes.proofs.LaneLemmas.{xors_comm, xors_assoc, xors_twice, ands_xors, nots_xors, picked-xors, picked-picked}
use Rattle.lanes.proofs.SharedAnd.{parts}
use Rattle.lanes.proofs.laws.lane_laws.Goals as goal

pub returns : goal.returns
returns c = record {
  xor_commutes = xors_comm;
  xor_associates = xors_assoc;
  mask_comes_off = xors_twice;
  and_distributes = ands_xors;
  not_of_one_share = nots_xors;
  pick_of_xor = picked-xors;
  pick_of_pick = picked-picked;
  and_of_shares = λ s t. parts s.first s.second s.third t.first t.second t.third;
  words_stay = words_stay;
}
