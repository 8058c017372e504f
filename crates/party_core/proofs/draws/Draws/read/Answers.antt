use Rattle.std.proofs.Common.{◌≡◌, ◌+◌, ◌<◌, length, sym, arith}
use Rattle.std.specs.Option.{option_copied}
use Rattle.party_core.proofs.ReadDraws.{word_read, order_read, all_read}
use Rattle.party_core.proofs.draws.Draws.read.Goals as goal
use Rattle.party_core.proofs.draws.Draws.read.Goals.{in-Some+in_ok-push-in-Some, in-None}

pub loop-preserved : goal.loop-preserved
loop-preserved c =
    let tape = c.args.tape.now in
    let place = c.args.place in
    let i = c.loop.counter in
    let inside : place + i < length tape = omega arith in
    elim c.match-next_word.branch [
      | in-Some+in_ok-push-in-Some w ↦
          record {
            within = omega arith;
            read =
                rw (w.cursor-is, w.words-is, w.order-is)
                (word_read tape place i w.in-Some.word c.loop.cursor c.next_word.new.self c.loop.words.items w.push.new.self.items (option_copied c.loop.order) inside
                (sym w.in-Some.ensures.value) w.in-Some.ensures.moves w.in_ok-push-in-Some.ensures.items c.loop.invariant.read);
          }
      | in-None w ↦
          record {
            within = omega arith;
            read =
                rw (w.cursor-is, w.words-is, w.order-is)
                (order_read tape place i c.loop.cursor c.next_word.new.self w.next_order.new.self c.loop.words.items c.loop.order w.next_order.result w.or-order.result inside
                (sym w.in-None.ensures.value) w.in-None.ensures.moves w.next_order.ensures.value w.next_order.ensures.moves w.or-order.ensures c.loop.invariant.read);
          }
    ]

pub invariant_of-result : goal.invariant_of-result
invariant_of-result c =
    let e : c.loop.counter ≡ c.args.count = omega arith in
    all_read c.args.tape.now c.args.place c.loop.counter c.args.count c.loop.cursor c.loop.words.items (option_copied c.loop.order) e c.loop.invariant.read
