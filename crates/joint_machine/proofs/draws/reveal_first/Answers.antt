use Rattle.std.proofs.Common.{[], ◌∷◌, ◌++◌}
use Rattle.tapes.specs.declared.draw.Need.TheVariants.{OrderOf}
use Rattle.joint_machine.specs.Left.{left}
use Rattle.joint_machine.proofs.Drawing.{words, read_words, read_order, takes_as, plain_first, two_end}
use Rattle.joint_machine.proofs.Taking.{takes_none, words_long, order_long}
use Rattle.joint_machine.proofs.draws.reveal_first.Goals as goal

pub returns-clause-order : goal.returns-clause-order
returns-clause-order c = (order_long c.args.rows _ (left c.args.tape.now) c.next_order-order.result.now c.requires.1 c.next_order-order.ensures.order).long

pub returns-clause-one : goal.returns-clause-one
returns-clause-one c = words_long c.cursor_laws.ensures c.args.count (left c.next_order-order.new.cursor) c.next_words-one.result.now c.next_words-one.ensures.words

pub returns-clause-two : goal.returns-clause-two
returns-clause-two c = words_long c.cursor_laws.ensures c.args.count (left c.next_words-one.new.cursor) c.next_words-two.result.now c.next_words-two.ensures.words

pub returns-clause-takes : goal.returns-clause-takes
returns-clause-takes c =
    let bulk = c.cursor_laws.ensures in
    let w = c.args.count in
    let n = c.args.rows in
    let ds = left c.args.tape.now in
    let ds1 = left c.next_order-order.new.cursor in
    let ds2 = left c.next_words-one.new.cursor in
    let ds3 = left c.next_words-two.new.cursor in
    let o = c.next_order-order.result.now in
    let a = c.next_words-one.result.now in
    let b = c.next_words-two.result.now in
    takes_as (OrderOf n ∷ ((words w ++ []) ++ words w)) ds (a ++ (b ++ [])) (a ++ b) o ds3 (λ r. OrderOf n ∷ (words w ++ (words w ++ r))) (plain_first w n) (two_end a b)
    (read_order n (words w ++ (words w ++ [])) ds ds1 (a ++ (b ++ [])) o [] ds3 c.next_order-order.ensures.order c.next_order-order.ensures.left
    (read_words bulk w (words w ++ []) ds1 ds2 a (b ++ []) [] ds3 c.next_words-one.ensures.words c.next_words-one.ensures.left
    (read_words bulk w [] ds2 ds3 b [] [] ds3 c.next_words-two.ensures.words c.next_words-two.ensures.left (takes_none ds3))))
