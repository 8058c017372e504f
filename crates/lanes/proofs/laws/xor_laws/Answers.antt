use Rattle.lanes.proofs.LaneLemmas.{ands_assoc, ands_comm, drop-xors, nots_nots, picked-append, picked-of_append, take-xors, xors-append, xors_self, xors_zeros}
use Rattle.lanes.proofs.XorThrough.{xor_goes_through, xor_is_lanewise}
use Rattle.lanes.proofs.laws.xor_laws.Goals as goal

pub returns : goal.returns
returns c = record {
  goes_through = xor_goes_through;
  lanewise = xor_is_lanewise;
  zeros = record { zeros = xors_zeros; itself = xors_self };
  parts = record { appended = xors-append; first = take-xors; behind = drop-xors };
  ands_and_nots = record { commutes = ands_comm; associates = ands_assoc; twice = nots_nots };
  picks = record { appended = picked-of_append; within = picked-append };
}
