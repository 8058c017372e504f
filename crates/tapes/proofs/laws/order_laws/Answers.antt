use Rattle.std.proofs.Common.{◌<◌, length, get_or, refl, arith}
use Rattle.tapes.proofs.OrderLemmas.{IsOrder-identity, IsOrder-composed, IsOrder-inverse, identity_left, identity_right, composed_assoc, inverse_right, inverse_left, only_inverse, applied_twice, applied-map}
use Rattle.tapes.proofs.laws.order_laws.Goals as goal

pub returns : goal.returns
returns c = record {
  closed = record { identity = IsOrder-identity; composed = IsOrder-composed; inverse = IsOrder-inverse };
  identity = record { before = identity_left; after = λ o. identity_right o (length o) refl };
  associative = composed_assoc;
  inverse = record {
    after = inverse_right;
    before = inverse_left;
    only = λ o p ok e below is. only_inverse o p ok e (λ k h. let b : get_or p k 0 < length p = below k h in omega arith) is;
  };
  applied = applied_twice;
  goes_through = record { map = applied-map; xor = c.lane_laws.ensures.pick_of_xor };
}
