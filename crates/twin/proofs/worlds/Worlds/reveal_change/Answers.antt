use Rattle.std.proofs.Common.{◌≡◌, length, sym, subst, ap, ◌∙◌}
use Rattle.std.specs.Prelude.{if◌then◌else◌}
use Rattle.lanes.specs.Party.{before}
use Rattle.lanes.specs.Three.{at}
use Rattle.step_lists.specs.Draws.{needs_reveal, order_in, taken}
use Rattle.step_lists.specs.Seen.{same_party}
use Rattle.step_lists.specs.Twin.{begin_both, open_rows, reveal_order, third_both, with_order}
use Rattle.joint_machine.specs.Left.{AreNext, lefts}
use Rattle.joint_machine.specs.Steps.{HoldPhases, drawn, rows_of_all}
use Rattle.twin.specs.Revealed.{OrdersOf}
use Rattle.twin.proofs.RevealsTurned.{new_order}
use Rattle.twin.proofs.Revealing.{drawn_long, reveal_is}
use Rattle.twin.proofs.worlds.Worlds.reveal_change.Goals as goal

pub draw_reveal-requires : goal.draw_reveal-requires
draw_reveal-requires c =
    subst (λ n. AreNext (needs_reveal (length c.args.moved.now) n) (lefts c.args.tapes.now)) (sym c.rows_in-rows.ensures) c.requires.draws

pub returns-clause-change : goal.returns-clause-change
returns-clause-change c =
    let v = c.args.viewer in
    let x = c.args.self.now.one in
    let y = c.args.self.now.other in
    let moved = c.args.moved.now in
    let shown = c.args.shown.now in
    let m = length moved in
    let n = rows_of_all x moved in
    let left = lefts c.args.tapes.now in
    let ds = taken (needs_reveal m n) left in
    let d = c.in_ok-draws.draws in
    let one = drawn d.one.order.now d.one.mask.now d.one.other.now in
    let two = drawn d.two.order.now d.two.mask.now d.two.other.now in
    let three = drawn d.three.order.now d.three.mask.now d.three.other.now in
    let is = c.in_ok-draws.ensures in
    let rows : length one.order ≡ n = is.one_long.order ∙ c.rows_in-rows.ensures in
    let rows2 : length two.order ≡ n = is.two_long.order ∙ c.rows_in-rows.ensures in
    let rows3 : length three.order ≡ n = is.three_long.order ∙ c.rows_in-rows.ensures in
    let holds : HoldPhases ds one two three = subst (λ k. HoldPhases (taken (needs_reveal m k) left) one two three) c.rows_in-rows.ensures is.holds in
    let orders : OrdersOf one.order two.order three.order ds = record { one = holds.order_one; two = holds.order_two; three = holds.order_three } in
    let order = c.in_ok-order.order in
    let long : length order ≡ length (order_in (at (before v) ds)) = c.in_ok-order.ensures.long ∙ (rows ∙ sym (drawn_long (before v) n one.order two.order three.order ds orders rows rows2 rows3)) in
    let first = c.in_ok-order.ensures.order ds orders
    ∙ ap (λ k. if same_party c.args.to v then reveal_order v k ds (open_rows x k moved shown) (open_rows y k moved shown) else order_in (at (before v) ds)) rows in
    let words = c.in_ok-words.ensures ds holds (new_order order (at (before v) ds) long) ∙ ap (λ k. (third_both v ds (with_order v order ds) k (begin_both x y moved ds)).changes) rows in
    reveal_is v c.args.to n moved shown x y ds order c.in_ok-words.words.items first words
