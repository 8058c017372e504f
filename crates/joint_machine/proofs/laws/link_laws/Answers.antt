use Rattle.joint_machine.proofs.Facts.{Facts}
use Rattle.joint_machine.proofs.LinkWords.{links_have_words}
use Rattle.joint_machine.proofs.OwnLinks.{own_links_are_empty}
use Rattle.joint_machine.proofs.laws.link_laws.Goals as goal

pub returns : goal.returns
returns g c = record {
  words = links_have_words g.T.Task.accepts g.T.Task.answer facts g.met.T.Task.shaped;
  apart = own_links_are_empty g.T.Task.accepts g.T.Task.answer;
} where
  facts : Facts
  facts = record {
    commutes = c.lane_laws.ensures.xor_commutes;
    associates = c.lane_laws.ensures.xor_associates;
    comes_off = c.lane_laws.ensures.mask_comes_off;
    not_of_one = c.lane_laws.ensures.not_of_one_share;
    pick = c.lane_laws.ensures.pick_of_xor;
    stay = c.lane_laws.ensures.words_stay;
    lengths = c.item_laws.ensures.lengths;
    behind = c.item_laws.ensures.parts;
    through = c.xor_laws.ensures.goes_through;
    zeros = c.xor_laws.ensures.zeros;
    parts = c.xor_laws.ensures.parts;
    masked = c.shared_and_laws.ensures.masked;
    round = c.shared_and_laws.ensures.round;
    closed = c.order_laws.ensures.closed;
    identity = c.order_laws.ensures.identity;
    inverse = c.order_laws.ensures.inverse;
    composed = c.order_laws.ensures.applied;
  }
