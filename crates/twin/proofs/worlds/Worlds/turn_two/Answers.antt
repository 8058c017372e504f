use Rattle.std.proofs.Common.{◌≡◌, ◌*◌, [], length, map, refl, sym, subst, ap, ◌∙◌}
use Rattle.std.proofs.lemmas.List.{length-map}
use Rattle.lanes.specs.declared.party.Party.{Party}
use Rattle.tapes.specs.Order.{composed, inverse_of}
use Rattle.step_lists.specs.Machine.{shares}
use Rattle.joint_machine.specs.Seen.{lists}
use Rattle.joint_machine.specs.Steps.{drawn}
use Rattle.twin.specs.Turning.{AreTurned}
use Rattle.twin.proofs.Follow.{two_follow, turned_by, turned_from, turned_as}
use Rattle.twin.proofs.worlds.Worlds.turn_two.Goals as goal

pub turn_both-requires-2-clause-draw : goal.turn_both-requires-2-clause-draw
turn_both-requires-2-clause-draw c =
    let n = length c.args.draws.now.one.order.now in
    let m = length c.args.moved.now in
    let s = c.in_ok-start.start in
    let f = c.in_ok-first.first in
    let many : length s.one.items ≡ m = sym (length-map s.one.items lists) ∙ (ap length c.in_ok-start.ensures.one ∙ length-map c.args.moved.now (shares c.args.self.now.one)) in
    let many1 : length f.one.items ≡ m = sym (length-map f.one.items lists) ∙ (c.in_ok-first.ensures.wide.one_many ∙ many) in
    let long : length c.in_ok-behind.behind ≡ n =
    ap length c.in_ok-behind.ensures ∙ (c.facts.ensures.lengths.pick c.args.g.now (inverse_of c.args.draws.now.one.order.now) ∙ c.requires.g) in
    let words = ap (λ k. k * n) (sym many1) ∙ ap (λ k. length f.one.items * k) (sym long) in
    record { order = refl; mask = c.requires.draws.mask_long ∙ words; other = c.requires.draws.other_long ∙ words }

pub returns : goal.returns
returns c ds holds =
    let facts = c.facts.ensures in
    let v = c.args.viewer in
    let by = c.args.by in
    let t = c.args.draws.now.one.order.now in
    let u = c.args.order.now in
    let gg = c.args.g.now in
    let hh = c.args.h.now in
    let one = drawn t c.args.draws.now.one.mask.now c.args.draws.now.one.other.now in
    let mask = c.args.draws.now.mask.now in
    let other = c.args.draws.now.other.now in
    let n = length t in
    let m = length c.args.moved.now in
    let xs = map (shares c.args.self.now.one) c.args.moved.now in
    let ys = map (shares c.args.self.now.other) c.args.moved.now in
    let s = c.in_ok-start.start in
    let f = c.in_ok-first.first in
    let g = c.in_ok-second.second in
    let p2 = c.in_ok-behind.behind in
    let q2 = c.in_ok-other_behind.other_behind in
    let many : length s.one.items ≡ m = sym (length-map s.one.items lists) ∙ (ap length c.in_ok-start.ensures.one ∙ length-map c.args.moved.now (shares c.args.self.now.one)) in
    let long : length p2 ≡ n = ap length c.in_ok-behind.ensures ∙ (facts.lengths.pick gg (inverse_of t) ∙ c.requires.g) in
    let first : AreTurned v c.next.result t u n one.mask one.other xs ys [] (map lists f.one.items) (map lists f.other.items) f.changes.items =
    turned_from v c.next.result t u n one.mask one.other (map lists s.one.items) xs (map lists s.other.items) ys s.changes.items [] (map lists f.one.items) (map lists f.other.items) f.changes.items
    c.in_ok-start.ensures.one c.in_ok-start.ensures.other c.in_ok-start.ensures.changes c.in_ok-first.ensures.turned in
    two_follow facts v by n m u gg hh one mask other c.args.self.now.one c.args.self.now.other c.args.moved.now g.changes.items ds c.requires.order c.requires.g c.requires.h c.requires.draws holds (record {
      xs1 = map lists f.one.items;
      ys1 = map lists f.other.items;
      cs1 = f.changes.items;
      xs2 = map lists g.one.items;
      ys2 = map lists g.other.items;
      first = subst (λ (j : Party). AreTurned v j t u n one.mask one.other xs ys [] (map lists f.one.items) (map lists f.other.items) f.changes.items) c.next.ensures first;
      second =
          turned_as v by p2 (composed (inverse_of t) gg) (composed (inverse_of u) hh) n mask other (map lists f.one.items) (map lists f.other.items) f.changes.items (map lists g.one.items) (map lists g.other.items) g.changes.items
          c.in_ok-behind.ensures
          (turned_by v by p2 q2 (composed (inverse_of u) hh) (length p2) n mask other (map lists f.one.items) (map lists f.other.items) f.changes.items (map lists g.one.items) (map lists g.other.items) g.changes.items
          c.in_ok-other_behind.ensures long c.in_ok-second.ensures.turned);
      xs_many = length-map c.args.moved.now (shares c.args.self.now.one);
      ys_many = length-map c.args.moved.now (shares c.args.self.now.other);
      xs1_many = c.in_ok-first.ensures.wide.one_many ∙ many;
      ys1_many = c.in_ok-first.ensures.wide.other_many ∙ many;
    })
