use Rattle.std.proofs.Common.{rules, IfErr, ◌≡◌, length, true, refl, sym, subst, ap, ◌∙◌}
use Rattle.std.specs.Prelude.{if◌then◌else◌}
use Rattle.std.proofs.lemmas.List.{length-map}
use Rattle.lanes.specs.declared.party.Party.{Party}
use Rattle.lanes.specs.Party.{before}
use Rattle.lanes.specs.Three.{at}
use Rattle.step_lists.specs.Draws.{order_in}
use Rattle.step_lists.specs.Seen.{same_party}
use Rattle.step_lists.specs.Shapes.{word_lists}
use Rattle.step_lists.specs.Twin.{earlier_orders, open_rows, reveal_order}
use Rattle.twin.specs.Compared.{IsRowsFault}
use Rattle.twin.proofs.OrdersAligned.{aligning_long}
use Rattle.twin.proofs.Revealing.{only_orders, orders_only, order_long, earlier_long, order_is}
use Rattle.twin.proofs.worlds.Worlds.reveal_order.Goals as goal

pub returns-then-not-is_same-clause-long : goal.returns-then-not-is_same-clause-long
returns-then-not-is_same-clause-long c =
    let d = c.args.draws.now in
    let n = length d.one.order.now in
    let p = d.one.order.now in
    let q = d.two.order.now in
    let r = d.three.order.now in
    ap length (c.in_ok-copy.ensures ∙ c.order_of-unseen.ensures (only_orders p q r) (orders_only p q r)) ∙ order_long c.before-2.result n p q r refl c.requires.two c.requires.three

pub shift-requires-clause-a : goal.shift-requires-clause-a
shift-requires-clause-a c =
    let d = c.args.draws.now in
    let n = length d.one.order.now in
    let p = d.one.order.now in
    let q = d.two.order.now in
    let r = d.three.order.now in
    let unseen : length c.order_of-unseen.result.now ≡ n =
    ap length (c.order_of-unseen.ensures (only_orders p q r) (orders_only p q r)) ∙ order_long c.before-2.result n p q r refl c.requires.two c.requires.three in
    ap length (c.in_ok-earlier.ensures (only_orders p q r) (orders_only p q r)) ∙ (earlier_long c.facts.ensures c.before-3.result n p q r refl c.requires.two ∙ sym unseen)

pub shift-requires-clause-d : goal.shift-requires-clause-d
shift-requires-clause-d c =
    let d = c.args.draws.now in
    let n = length d.one.order.now in
    let p = d.one.order.now in
    let q = d.two.order.now in
    let r = d.three.order.now in
    let rows = c.in_ok-rows.rows in
    let others = c.in_ok-others.others in
    let unseen : length c.order_of-unseen.result.now ≡ n =
    ap length (c.order_of-unseen.ensures (only_orders p q r) (orders_only p q r)) ∙ order_long c.before-2.result n p q r refl c.requires.two c.requires.three in
    ap length c.in_ok-aligned.ensures.order
    ∙ (aligning_long (word_lists others) (word_lists rows) ∙ (length-map rows.items (λ row. row.items) ∙ (c.in_ok-rows.ensures.count ∙ (c.len-count.ensures ∙ sym unseen))))

pub returns-clause-long : goal.returns-clause-long
returns-clause-long c =
    let d = c.args.draws.now in
    let n = length d.one.order.now in
    let p = d.one.order.now in
    let q = d.two.order.now in
    let r = d.three.order.now in
    let unseen : length c.order_of-unseen.result.now ≡ n =
    ap length (c.order_of-unseen.ensures (only_orders p q r) (orders_only p q r)) ∙ order_long c.before-2.result n p q r refl c.requires.two c.requires.three in
    ap length c.in_ok-shift.ensures ∙ (c.facts.ensures.lengths.pick c.order_of-unseen.result.now _ ∙ unseen)

pub returns-clause-order : goal.returns-clause-order
returns-clause-order c ds holds =
    let d = c.args.draws.now in
    let v = c.args.viewer in
    let n = length d.one.order.now in
    let count = c.len-count.result in
    let moved = c.args.moved.now in
    let shown = c.args.shown.now in
    let rows = c.in_ok-rows.rows in
    let others = c.in_ok-others.others in
    let e1 : word_lists rows ≡ open_rows c.args.self.now.one n moved shown = c.in_ok-rows.ensures.rows ∙ ap (λ k. open_rows c.args.self.now.one k moved shown) c.len-count.ensures in
    let e2 : word_lists others ≡ open_rows c.args.self.now.other n moved shown = c.in_ok-others.ensures.rows ∙ ap (λ k. open_rows c.args.self.now.other k moved shown) c.len-count.ensures in
    let unseen : c.order_of-unseen.result.now ≡ order_in (at (before v) ds) = c.order_of-unseen.ensures ds holds ∙ ap (λ (j : Party). order_in (at j ds)) c.before-2.ensures in
    let earlier : c.in_ok-earlier.earlier ≡ earlier_orders (before v) n ds = c.in_ok-earlier.ensures ds holds ∙ ap (λ (j : Party). earlier_orders j n ds) c.before-3.ensures in
    let is = c.in_ok-shift.ensures ∙ order_is c.facts.ensures v n ds (word_lists rows) (word_lists others) c.order_of-unseen.result.now c.in_ok-earlier.earlier c.in_ok-aligned.aligned c.in_ok-aligned.ensures.same unseen earlier c.in_ok-aligned.ensures.order in
    let shown_to : same_party c.args.to v ≡ true = sym c.is_same.ensures ∙ c.if-not-is_same.false in
    is ∙ (ap (λ xs. reveal_order v n ds xs (word_lists others)) e1 ∙ (ap (reveal_order v n ds (open_rows c.args.self.now.one n moved shown)) e2
    ∙ sym (ap (λ b. if b then reveal_order v n ds (open_rows c.args.self.now.one n moved shown) (open_rows c.args.self.now.other n moved shown) else order_in (at (before v) ds)) shown_to)))

pub returns-in_err-aligned-clause-fault : goal.returns-in_err-aligned-clause-fault
returns-in_err-aligned-clause-fault c =
    let d = c.args.draws.now in
    let v = c.args.viewer in
    let n = length d.one.order.now in
    let moved = c.args.moved.now in
    let shown = c.args.shown.now in
    let rows = c.in_ok-rows.rows in
    let others = c.in_ok-others.others in
    let e1 : word_lists rows ≡ open_rows c.args.self.now.one n moved shown = c.in_ok-rows.ensures.rows ∙ ap (λ k. open_rows c.args.self.now.one k moved shown) c.len-count.ensures in
    let e2 : word_lists others ≡ open_rows c.args.self.now.other n moved shown = c.in_ok-others.ensures.rows ∙ ap (λ k. open_rows c.args.self.now.other k moved shown) c.len-count.ensures in
    let shown_to : true ≡ same_party c.args.to v = sym c.if-not-is_same.false ∙ c.is_same.ensures in
    let r = c.from_residual-in_err-aligned.result in
    let h : IfErr r (λ fault. IsRowsFault c.args.step true (word_lists rows) (word_lists others) fault) = search rules in
    subst (λ b. IfErr r (λ fault. IsRowsFault c.args.step b (open_rows c.args.self.now.one n moved shown) (open_rows c.args.self.now.other n moved shown) fault)) shown_to
    (subst (λ xs. IfErr r (λ fault. IsRowsFault c.args.step true (open_rows c.args.self.now.one n moved shown) xs fault)) e2
    (subst (λ xs. IfErr r (λ fault. IsRowsFault c.args.step true xs (word_lists others) fault)) e1 h))
