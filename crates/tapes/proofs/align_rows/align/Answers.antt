use Rattle.std.proofs.Common.{◌≡◌, length, sym, ◌∙◌, ap}
use Rattle.listed.specs.Lists.{owned}
use Rattle.tapes.specs.Align.{rows_applied}
use Rattle.tapes.proofs.OrderLemmas.{length-inverse}
use Rattle.tapes.proofs.Aligning.{aligned, length-rows_applied}
use Rattle.tapes.proofs.align_rows.align.Goals as goal

pub returns-then-not-have_equal_rows-clause-not_same_bag : goal.returns-then-not-have_equal_rows-clause-not_same_bag
returns-then-not-have_equal_rows-clause-not_same_bag c = λ _ same.
    let rows : rows_applied c.in_ok-first.first (owned c.args.source.now.items) ≡ rows_applied c.in_ok-second.second (owned c.args.target.now.items)
    = c.in_ok-first.ensures.in_order ∙ (c.sorted_tells_bags.ensures (owned c.args.source.now.items) (owned c.args.target.now.items)).0 same ∙ sym c.in_ok-second.ensures.in_order in
    let yes = c.have_equal_rows.ensures.1 (rw (c.places.ensures.value, c.places-2.ensures.value) rows) in cc

pub then-requires : goal.then-requires
then-requires c =
    let rows = rw (c.places.ensures.value, c.places-2.ensures.value) at (c.have_equal_rows.ensures.0 c.if-not-have_equal_rows.false) in
    rw c.in_ok-back.ensures
    (length-inverse c.in_ok-second.second ∙ sym (length-rows_applied c.in_ok-second.second (owned c.args.target.now.items)) ∙ ap length (sym rows)
    ∙ length-rows_applied c.in_ok-first.first (owned c.args.source.now.items))

pub returns-clause-aligned : goal.returns-clause-aligned
returns-clause-aligned c =
    let rows = rw (c.places.ensures.value, c.places-2.ensures.value) at (c.have_equal_rows.ensures.0 c.if-not-have_equal_rows.false) in
    rw (c.in_ok-order.ensures, c.in_ok-back.ensures)
    (aligned (owned c.args.source.now.items) (owned c.args.target.now.items) c.in_ok-first.first c.in_ok-second.second c.in_ok-first.ensures
    c.in_ok-second.ensures rows)

pub returns-clause-same_bag : goal.returns-clause-same_bag
returns-clause-same_bag c =
    let rows = rw (c.places.ensures.value, c.places-2.ensures.value) at (c.have_equal_rows.ensures.0 c.if-not-have_equal_rows.false) in
    (c.sorted_tells_bags.ensures (owned c.args.source.now.items) (owned c.args.target.now.items)).1 (sym c.in_ok-first.ensures.in_order ∙ rows ∙ c.in_ok-second.ensures.in_order)
