use Rattle.std.proofs.Common.{ℕ, List, Result, Ok, Err, subst}
use Rattle.std.specs.Prelude.{OnOk}
use Rattle.tapes.specs.declared.draw.Draw.TheVariants.{Order}
use Rattle.tapes.specs.Made.{key_word, IsSortedByWords}
use Rattle.tapes.proofs.make.push_made.Goals as goal

on_ok : {A E P Q : Type 0} (r : Result A E) → (P → Q) → OnOk r P → OnOk r Q
on_ok (Ok x) f h = f h
on_ok (Err e) f h = tt

pub returns-in_ok-order-in-OrderOf : goal.returns-in_ok-order-in-OrderOf
returns-in_ok-order-in-OrderOf c = record {
  pushed =
      on_ok c.push_order.result
      (λ e. record {
        draw = Order c.in_ok-order-in-OrderOf.order;
        pushed = e;
        holds =
            rw c.in-OrderOf.is (
              subst (λ (key : List ℕ). IsSortedByWords (λ i. key_word key i) c.in-OrderOf.count c.in_ok-order-in-OrderOf.order) c.key.ensures
                  c.in_ok-order-in-OrderOf.ensures.sorted,
              (c.in_ok-order-in-OrderOf.ensures.short, c.in_ok-order-in-OrderOf.ensures.sorted.long),
            );
      })
      c.push_order.ensures.pushed;
}
