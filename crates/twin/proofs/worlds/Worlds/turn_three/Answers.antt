use Rattle.std.proofs.Common.{◌≡◌, [], length, map, refl, sym, ap, ◌∙◌}
use Rattle.std.specs.Prelude.{if◌then◌else◌}
use Rattle.std.proofs.lemmas.List.{length-map}
use Rattle.lanes.specs.declared.party.Party.TheVariants.{First, Second, Third}
use Rattle.step_lists.specs.Machine.{shares}
use Rattle.step_lists.specs.Seen.{same_party}
use Rattle.joint_machine.specs.Seen.{lists}
use Rattle.joint_machine.specs.Steps.{drawn}
use Rattle.twin.proofs.Follow.{three_follow, turned_by, turned_from}
use Rattle.twin.proofs.worlds.Worlds.turn_three.Goals as goal

pub returns : goal.returns
returns c ds holds e =
    let facts = c.facts.ensures in
    let v = c.args.viewer in
    let order = c.args.order.now in
    let one = drawn c.args.draws.now.one.order.now c.args.draws.now.one.mask.now c.args.draws.now.one.other.now in
    let two = drawn c.args.draws.now.two.order.now c.args.draws.now.two.mask.now c.args.draws.now.two.other.now in
    let three = drawn c.args.draws.now.three.order.now c.args.draws.now.three.mask.now c.args.draws.now.three.other.now in
    let n = length one.order in
    let m = length c.args.moved.now in
    let xs = map (shares c.args.self.now.one) c.args.moved.now in
    let ys = map (shares c.args.self.now.other) c.args.moved.now in
    let s = c.in_ok-start.start in
    let f = c.in_ok-first.first in
    let g = c.in_ok-second.second in
    let h = c.in_ok-third.third in
    let q1 = c.second_order-one.ensures ∙ ap (λ b. if same_party First b then order else one.order) c.before-unseen.ensures in
    let q2 = c.second_order-two.ensures ∙ ap (λ b. if same_party Second b then order else two.order) c.before-unseen.ensures in
    let q3 = c.second_order-three.ensures ∙ ap (λ b. if same_party Third b then order else three.order) c.before-unseen.ensures in
    let many : length s.one.items ≡ m = sym (length-map s.one.items lists) ∙ (ap length c.in_ok-start.ensures.one ∙ length-map c.args.moved.now (shares c.args.self.now.one)) in
    let many1 : length f.one.items ≡ m = sym (length-map f.one.items lists) ∙ (c.in_ok-first.ensures.wide.one_many ∙ many) in
    three_follow facts v n m order one two three c.args.self.now.one c.args.self.now.other c.args.moved.now h.changes.items ds c.requires.order c.requires.draws holds e (record {
      xs1 = map lists f.one.items;
      ys1 = map lists f.other.items;
      cs1 = f.changes.items;
      xs2 = map lists g.one.items;
      ys2 = map lists g.other.items;
      cs2 = g.changes.items;
      xs3 = map lists h.one.items;
      ys3 = map lists h.other.items;
      first =
          turned_by v First one.order c.second_order-one.result.now _ n n one.mask one.other xs ys [] (map lists f.one.items) (map lists f.other.items) f.changes.items q1 refl
          (turned_from v First one.order c.second_order-one.result.now n one.mask one.other (map lists s.one.items) xs (map lists s.other.items) ys s.changes.items [] (map lists f.one.items) (map lists f.other.items) f.changes.items
          c.in_ok-start.ensures.one c.in_ok-start.ensures.other c.in_ok-start.ensures.changes c.in_ok-first.ensures.turned);
      second =
          turned_by v Second two.order c.second_order-two.result.now _ (length two.order) n two.mask two.other (map lists f.one.items) (map lists f.other.items) f.changes.items (map lists g.one.items) (map lists g.other.items) g.changes.items
          q2 c.requires.draws.second.order c.in_ok-second.ensures.turned;
      third =
          turned_by v Third three.order c.second_order-three.result.now _ (length three.order) n three.mask three.other (map lists g.one.items) (map lists g.other.items) g.changes.items (map lists h.one.items) (map lists h.other.items) h.changes.items
          q3 c.requires.draws.third.order c.in_ok-third.ensures.turned;
      xs_many = length-map c.args.moved.now (shares c.args.self.now.one);
      ys_many = length-map c.args.moved.now (shares c.args.self.now.other);
      xs1_many = c.in_ok-first.ensures.wide.one_many ∙ many;
      ys1_many = c.in_ok-first.ensures.wide.other_many ∙ many;
      xs2_many = c.in_ok-second.ensures.wide.one_many ∙ many1;
      ys2_many = c.in_ok-second.ensures.wide.other_many ∙ many1;
    })
