use Rattle.std.proofs.Common.{◌≡◌, ◌*◌, ◌++◌, length, map, true, sym, subst, ap, ◌∙◌, refl}
use Rattle.std.proofs.lemmas.List.{length-map}
use Rattle.lanes.specs.Party.{next}
use Rattle.step_lists.specs.Seen.{same_party}
use Rattle.joint_machine.specs.Ready.{HaveRows}
use Rattle.joint_machine.specs.Seen.{lists}
use Rattle.joint_machine.specs.Steps.{IsTurned}
use Rattle.twin.specs.Turning.{taken_up}
use Rattle.twin.proofs.Turned.{change_long, sent_long, are_turned}
use Rattle.twin.proofs.both.turn_both.Goals as goal

pub difference-requires-clause-there : goal.difference-requires-clause-there
difference-requires-clause-there c =
    let facts = c.facts.ensures in
    let j = c.args.j in
    let p = c.args.draw.now.order.now in
    let n = length p in
    let m = length c.args.both.now.one.items in
    let xs = map lists c.deref.result.now in
    let ys = map lists c.deref-2.result.now in
    let hx : length xs ≡ m = ap (λ v. length (map lists v)) c.deref.ensures.value ∙ c.requires.wide.one_many in
    let hy : length ys ≡ m = ap (λ v. length (map lists v)) c.deref-2.ensures.value ∙ c.requires.wide.other_many in
    let a = c.args.draw.now.mask.now in
    let b = c.args.draw.now.other.now in
    let one = sent_long facts j p n m xs a b _ _ _ c.in_ok-one.ensures.turned refl hx c.requires.draw.mask c.requires.draw.other in
    let tried = sent_long facts j c.args.order.now n m ys a b _ _ _ c.in_ok-tried.ensures.turned c.requires.order hy c.requires.draw.mask c.requires.draw.other in
    one.there_long ∙ sym tried.there_long

pub difference-requires-clause-back : goal.difference-requires-clause-back
difference-requires-clause-back c =
    let facts = c.facts.ensures in
    let j = c.args.j in
    let p = c.args.draw.now.order.now in
    let n = length p in
    let m = length c.args.both.now.one.items in
    let xs = map lists c.deref.result.now in
    let ys = map lists c.deref-2.result.now in
    let hx : length xs ≡ m = ap (λ v. length (map lists v)) c.deref.ensures.value ∙ c.requires.wide.one_many in
    let hy : length ys ≡ m = ap (λ v. length (map lists v)) c.deref-2.ensures.value ∙ c.requires.wide.other_many in
    let a = c.args.draw.now.mask.now in
    let b = c.args.draw.now.other.now in
    let one = sent_long facts j p n m xs a b _ _ _ c.in_ok-one.ensures.turned refl hx c.requires.draw.mask c.requires.draw.other in
    let tried = sent_long facts j c.args.order.now n m ys a b _ _ _ c.in_ok-tried.ensures.turned c.requires.order hy c.requires.draw.mask c.requires.draw.other in
    one.back_long ∙ sym tried.back_long

pub mask_anew-requires : goal.mask_anew-requires
mask_anew-requires c unseen =
    let facts = c.facts.ensures in
    let j = c.args.j in
    let p = c.args.draw.now.order.now in
    let n = length p in
    let m = length c.args.both.now.one.items in
    let xs = map lists c.deref.result.now in
    let ys = map lists c.deref-2.result.now in
    let hx : length xs ≡ m = ap (λ v. length (map lists v)) c.deref.ensures.value ∙ c.requires.wide.one_many in
    let hy : length ys ≡ m = ap (λ v. length (map lists v)) c.deref-2.ensures.value ∙ c.requires.wide.other_many in
    let a = c.args.draw.now.mask.now in
    let b = c.args.draw.now.other.now in
    let one = sent_long facts j p n m xs a b _ _ _ c.in_ok-one.ensures.turned refl hx c.requires.draw.mask c.requires.draw.other in
    let tried = sent_long facts j c.args.order.now n m ys a b _ _ _ c.in_ok-tried.ensures.turned c.requires.order hy c.requires.draw.mask c.requires.draw.other in
    let long = change_long facts c.args.viewer j (m * n) _ _ _ _ one.there_long tried.there_long one.back_long tried.back_long in
    c.requires.draw.mask ∙ sym (ap length (c.deref-3.ensures.value ∙ c.in_ok-changed.ensures) ∙ long.0 (sym c.is_same.ensures ∙ unseen))

pub mask_anew-requires-2 : goal.mask_anew-requires-2
mask_anew-requires-2 c unseen =
    let facts = c.facts.ensures in
    let j = c.args.j in
    let p = c.args.draw.now.order.now in
    let n = length p in
    let m = length c.args.both.now.one.items in
    let xs = map lists c.deref.result.now in
    let ys = map lists c.deref-2.result.now in
    let hx : length xs ≡ m = ap (λ v. length (map lists v)) c.deref.ensures.value ∙ c.requires.wide.one_many in
    let hy : length ys ≡ m = ap (λ v. length (map lists v)) c.deref-2.ensures.value ∙ c.requires.wide.other_many in
    let a = c.args.draw.now.mask.now in
    let b = c.args.draw.now.other.now in
    let one = sent_long facts j p n m xs a b _ _ _ c.in_ok-one.ensures.turned refl hx c.requires.draw.mask c.requires.draw.other in
    let tried = sent_long facts j c.args.order.now n m ys a b _ _ _ c.in_ok-tried.ensures.turned c.requires.order hy c.requires.draw.mask c.requires.draw.other in
    let long = change_long facts c.args.viewer j (m * n) _ _ _ _ one.there_long tried.there_long one.back_long tried.back_long in
    let same : same_party j (next c.args.viewer) ≡ true = ap (same_party j) (sym c.next.ensures) ∙ (sym c.is_same-2.ensures ∙ unseen) in
    c.requires.draw.other ∙ sym (ap length (c.deref-4.ensures.value ∙ c.in_ok-changed.ensures) ∙ long.1 same)

pub returns-clause-turned : goal.returns-clause-turned
returns-clause-turned c =
    let facts = c.facts.ensures in
    let v = c.args.viewer in
    let j = c.args.j in
    let p = c.args.draw.now.order.now in
    let q = c.args.order.now in
    let n = length p in
    let m = length c.args.both.now.one.items in
    let xs = map lists c.args.both.now.one.items in
    let ys = map lists c.args.both.now.other.items in
    let a = c.args.draw.now.mask.now in
    let b = c.args.draw.now.other.now in
    let d = c.in_ok-changed.changed.items in
    let o = c.in_ok-one.one in
    let t = c.in_ok-tried.tried in
    let u = c.in_ok-other.other in
    let one = subst (λ vs. IsTurned j p (map lists vs) a b (map lists o.shares.items) o.there.items o.back.items) c.deref.ensures.value c.in_ok-one.ensures.turned in
    let tried = subst (λ vs. IsTurned j q (map lists vs) a b (map lists t.shares.items) t.there.items t.back.items) c.deref-2.ensures.value c.in_ok-tried.ensures.turned in
    let other = subst (λ vs. IsTurned j q (map lists vs) c.deref-6.result.now c.deref-7.result.now (map lists u.shares.items) u.there.items u.back.items) c.deref-5.ensures.value c.in_ok-other.ensures.turned in
    let mask : c.deref-6.result.now ≡ taken_up (same_party j v) a d =
    c.deref-6.ensures.value ∙ (c.in_ok-mask.ensures.made ∙ (ap (λ b. taken_up b a c.deref-3.result.now) c.is_same.ensures ∙ ap (taken_up (same_party j v) a) c.deref-3.ensures.value)) in
    let back : c.deref-7.result.now ≡ taken_up (same_party j (next v)) b d =
    c.deref-7.ensures.value ∙ (c.in_ok-back.ensures.made ∙ (ap (λ x. taken_up x b c.deref-4.result.now) (c.is_same-2.ensures ∙ ap (same_party j) c.next.ensures)
    ∙ ap (taken_up (same_party j (next v)) b) c.deref-4.ensures.value)) in
    let after : c.extend_from_slice.new.self.items ≡ c.args.both.now.changes.items ++ d =
    c.in_ok-extend_from_slice.ensures.items
    ∙ (ap (λ x. x ++ c.deref-9.result.now) (c.in_ok-changes.ensures.items ∙ c.deref-8.ensures.value) ∙ ap (λ x. c.args.both.now.changes.items ++ x) c.deref-9.ensures.value) in
    are_turned facts v j p q n m a b xs ys c.args.both.now.changes.items (map lists o.shares.items) (map lists t.shares.items) (map lists u.shares.items)
    o.there.items o.back.items t.there.items t.back.items d c.deref-6.result.now c.deref-7.result.now u.there.items u.back.items c.extend_from_slice.new.self.items
    refl c.requires.order c.requires.wide.one_many c.requires.wide.other_many c.requires.draw.mask c.requires.draw.other
    one tried c.in_ok-changed.ensures mask back other after

pub returns-clause-wide : goal.returns-clause-wide
returns-clause-wide c = record {
  one = c.in_ok-one.ensures.rows;
  other = subst (λ n. HaveRows n (map lists c.in_ok-other.other.shares.items)) c.requires.order c.in_ok-other.ensures.rows;
  one_many = length-map c.in_ok-one.one.shares.items lists ∙ (c.in_ok-one.ensures.count ∙ ap length c.deref.ensures.value);
  other_many =
      length-map c.in_ok-other.other.shares.items lists
      ∙ (c.in_ok-other.ensures.count ∙ (ap length c.deref-5.ensures.value ∙ (sym (length-map c.args.both.now.other.items lists) ∙ c.requires.wide.other_many)));
}
