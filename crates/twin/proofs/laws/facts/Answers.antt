use Rattle.twin.proofs.laws.facts.Goals as goal

pub returns : goal.returns
returns c = record {
  commutes = c.lane_laws.ensures.xor_commutes;
  associates = c.lane_laws.ensures.xor_associates;
  comes_off = c.lane_laws.ensures.mask_comes_off;
  stay = c.lane_laws.ensures.words_stay;
  lengths = c.item_laws.ensures.lengths;
  items = c.item_laws.ensures.items;
  behind = c.item_laws.ensures.parts;
  zeros = c.xor_laws.ensures.zeros;
  parts = c.xor_laws.ensures.parts;
  absorb = c.shared_and_laws.ensures.absorb;
  apart = c.shared_and_laws.ensures.apart;
  round = c.shared_and_laws.ensures.round;
  equivalence = c.bags_are_equivalence.ensures;
  keep = c.bags_keep_rows.ensures;
  closed = c.order_laws.ensures.closed;
  identity = c.order_laws.ensures.identity;
  associative = c.order_laws.ensures.associative;
  inverse = c.order_laws.ensures.inverse;
  composed = c.order_laws.ensures.applied;
  applied = c.order_laws.ensures.goes_through;
  orders = c.row_laws.ensures.orders;
  columns = c.row_laws.ensures.columns;
  exact = c.align_laws.ensures.exact;
  exist = c.align_laws.ensures.exist;
  needs = c.need_laws.ensures.parts;
}
