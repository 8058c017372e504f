use Rattle.std.proofs.Common.{[], ◌++◌}
use Rattle.joint_machine.specs.Left.{left}
use Rattle.joint_machine.proofs.Drawing.{words, read_words, read_order, takes_as, plain_own, plain_earlier, one_end, two_end}
use Rattle.joint_machine.proofs.Masks.{takes_alone}
use Rattle.joint_machine.proofs.Taking.{takes_none, words_long, order_long}
use Rattle.joint_machine.proofs.draws.steer_draws.Goals as goal

pub returns-clause-one : goal.returns-clause-one
returns-clause-one c =
    let bulk = c.cursor_laws.ensures in
    let w = c.args.count in
    record {
      order = (order_long c.args.rows _ (left c.args.following.now) c.next_order-order.result.now c.requires.following.1 c.next_order-order.ensures.order).long;
      mask = words_long bulk w (left c.args.own.now) c.next_words-own.result.now c.next_words-own.ensures.words;
      other = words_long bulk w (left c.args.earlier.now) c.next_words-first_other.result.now c.next_words-first_other.ensures.words;
    }

pub returns-clause-mask : goal.returns-clause-mask
returns-clause-mask c =
    words_long c.cursor_laws.ensures c.args.count (left c.next_words-first_other.new.cursor) c.next_words-mask.result.now c.next_words-mask.ensures.words

pub returns-clause-other : goal.returns-clause-other
returns-clause-other c =
    words_long c.cursor_laws.ensures c.args.count (left c.next_order-order.new.cursor) c.next_words-other.result.now c.next_words-other.ensures.words

pub returns-clause-own : goal.returns-clause-own
returns-clause-own c =
    let n = c.args.count in
    let ds = left c.args.own.now in
    let rest = left c.next_words-own.new.cursor in
    let ws = c.next_words-own.result.now in
    takes_as ((words n ++ []) ++ []) ds (ws ++ []) ws [] rest (λ r. words n ++ r) (plain_own n) (one_end ws)
    (read_words c.cursor_laws.ensures n [] ds rest ws [] [] rest c.next_words-own.ensures.words c.next_words-own.ensures.left (takes_none rest))

pub returns-clause-following : goal.returns-clause-following
returns-clause-following c =
    let w = c.args.count in
    let ds = left c.args.following.now in
    let ds1 = left c.next_order-order.new.cursor in
    let ds2 = left c.next_words-other.new.cursor in
    read_order c.args.rows (words w) ds ds1 c.next_words-other.result.now c.next_order-order.result.now [] ds2 c.next_order-order.ensures.order c.next_order-order.ensures.left
    (takes_alone c.cursor_laws.ensures w ds1 c.next_words-other.result.now ds2 c.next_words-other.ensures.words c.next_words-other.ensures.left)

pub returns-clause-earlier : goal.returns-clause-earlier
returns-clause-earlier c =
    let bulk = c.cursor_laws.ensures in
    let w = c.args.count in
    let ds = left c.args.earlier.now in
    let ds1 = left c.next_words-first_other.new.cursor in
    let ds2 = left c.next_words-mask.new.cursor in
    let a = c.next_words-first_other.result.now in
    let b = c.next_words-mask.result.now in
    takes_as (words w ++ (words w ++ [])) ds (a ++ (b ++ [])) (a ++ b) [] ds2 (λ r. words w ++ (words w ++ r)) (plain_earlier w) (two_end a b)
    (read_words bulk w (words w ++ []) ds ds1 a (b ++ []) [] ds2 c.next_words-first_other.ensures.words c.next_words-first_other.ensures.left
    (read_words bulk w [] ds1 ds2 b [] [] ds2 c.next_words-mask.ensures.words c.next_words-mask.ensures.left (takes_none ds2)))
