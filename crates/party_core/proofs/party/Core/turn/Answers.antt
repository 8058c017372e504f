use Rattle.std.proofs.Common.{◌+◌, ◌≤◌, length, sym, ap, subst, ◌∙◌, arith}
use Rattle.lanes.specs.Party.{next}
use Rattle.step_lists.specs.Part.{part_step}
use Rattle.party_core.specs.Calls.{more_posted, posted}
use Rattle.party_core.specs.CoreView.{layout_here, turned_on}
use Rattle.party_core.specs.Core.{turn_sends}
use Rattle.party_core.specs.Doing.{draws_by}
use Rattle.party_core.proofs.Portions.{next_places, room_own, room_following}
use Rattle.party_core.proofs.Turning.{now, asked, given, is_ready, takes_is, count_is, turn_sent, turn_stays, turn_passes, turn_ends, within}
use Rattle.party_core.proofs.party.Core.turn.Goals as goal

pub portion-requires-clause-own : goal.portion-requires-clause-own
portion-requires-clause-own g c =
    let i = c.self.inside in
    let accepts = g.T.Task.accepts in
    let answer = g.T.Task.answer in
    let s = c.index-step.result.now in
    let h = c.self.invariant in
    let y = asked accepts answer i.list.now i.party i.supply i.state i.places i.steps i.stages i.turned c.core_facts.ensures.ready h c.args.self.now c.self.view_is c.requires c.steps.result.now.items s c.steps.ensures.steps c.index-step.ensures in
    subst (λ n. i.places.own + draws_by i.party s n ≤ length i.supply.own) (sym c.step_rows-rows.ensures)
    (room_own accepts answer (now accepts answer i.list.now i.party i.supply i.state i.places i.steps i.stages i.turned) s i.places h.reached y.next h.places)

pub portion-requires-clause-following : goal.portion-requires-clause-following
portion-requires-clause-following g c =
    let i = c.self.inside in
    let accepts = g.T.Task.accepts in
    let answer = g.T.Task.answer in
    let s = c.index-step.result.now in
    let h = c.self.invariant in
    let y = asked accepts answer i.list.now i.party i.supply i.state i.places i.steps i.stages i.turned c.core_facts.ensures.ready h c.args.self.now c.self.view_is c.requires c.steps.result.now.items s c.steps.ensures.steps c.index-step.ensures in
    subst (λ n. i.places.following + draws_by (next i.party) s n ≤ length i.supply.following) (sym c.step_rows-rows.ensures)
    (room_following accepts answer (now accepts answer i.list.now i.party i.supply i.state i.places i.steps i.stages i.turned) s i.places h.reached y.next h.places)

pub sends-requires : goal.sends-requires
sends-requires g c =
    let i = c.self.inside in
    let accepts = g.T.Task.accepts in
    let answer = g.T.Task.answer in
    let s = c.index-step.result.now in
    let h = c.self.invariant in
    let y = asked accepts answer i.list.now i.party i.supply i.state i.places i.steps i.stages i.turned c.core_facts.ensures.ready h c.args.self.now c.self.view_is c.requires c.steps.result.now.items s c.steps.ensures.steps c.index-step.ensures in
    is_ready accepts answer i.list.now i.party i.supply i.state i.places i.steps i.stages i.turned s c.step_rows-rows.result c.in_ok-portion.portion y c.step_rows-rows.ensures c.in_ok-portion.ensures

pub invariant_of-self : goal.invariant_of-self
invariant_of-self g c =
    let i = c.self.inside in
    let accepts = g.T.Task.accepts in
    let answer = g.T.Task.answer in
    let s = c.index-step.result.now in
    let h = c.self.invariant in
    let y = asked accepts answer i.list.now i.party i.supply i.state i.places i.steps i.stages i.turned c.core_facts.ensures.ready h c.args.self.now c.self.view_is c.requires c.steps.result.now.items s c.steps.ensures.steps c.index-step.ensures in
    let none = takes_is accepts answer i.list.now i.party i.supply i.state i.places i.steps i.stages i.turned s c.step_rows-rows.result c.takes_at.result c.takes_none.result _ c.step_rows-rows.ensures c.takes_at.ensures c.takes_none.ensures c.if-not-takes_none.true in
    let new = turn_stays accepts answer i.list.now i.party i.supply i.state i.places i.steps i.stages i.turned s h y.want y.next none in
    new.held

pub returns-then-not-takes_none-clause-moved : goal.returns-then-not-takes_none-clause-moved
returns-then-not-takes_none-clause-moved g c =
    let i = c.self.inside in
    let accepts = g.T.Task.accepts in
    let answer = g.T.Task.answer in
    let s = c.index-step.result.now in
    let h = c.self.invariant in
    let y = asked accepts answer i.list.now i.party i.supply i.state i.places i.steps i.stages i.turned c.core_facts.ensures.ready h c.args.self.now c.self.view_is c.requires c.steps.result.now.items s c.steps.ensures.steps c.index-step.ensures in
    let none = takes_is accepts answer i.list.now i.party i.supply i.state i.places i.steps i.stages i.turned s c.step_rows-rows.result c.takes_at.result c.takes_none.result _ c.step_rows-rows.ensures c.takes_at.ensures c.takes_none.ensures c.if-not-takes_none.true in
    let new = turn_stays accepts answer i.list.now i.party i.supply i.state i.places i.steps i.stages i.turned s h y.want y.next none in
    new.is ∙ ap turned_on c.self.view_is

pub returns-then-not-takes_none-clause-sent : goal.returns-then-not-takes_none-clause-sent
returns-then-not-takes_none-clause-sent g c =
    let i = c.self.inside in
    let accepts = g.T.Task.accepts in
    let answer = g.T.Task.answer in
    let s = c.index-step.result.now in
    let h = c.self.invariant in
    let y = asked accepts answer i.list.now i.party i.supply i.state i.places i.steps i.stages i.turned c.core_facts.ensures.ready h c.args.self.now c.self.view_is c.requires c.steps.result.now.items s c.steps.ensures.steps c.index-step.ensures in
    turn_sent accepts answer i.list.now i.party i.supply i.state i.places i.steps i.stages i.turned s c.step_rows-rows.result c.in_ok-portion.portion (posted c.args.outbox.now) (posted c.in_ok-more.more) (posted c.post.new.self) h y c.step_rows-rows.ensures c.in_ok-portion.ensures
    c.in_ok-more.ensures c.in_ok-post.ensures.posted
    ∙ ap (λ x. more_posted x.party (turn_sends answer x) (posted c.args.outbox.now)) c.self.view_is

pub returns-then-not-takes_none-clause-reached : goal.returns-then-not-takes_none-clause-reached
returns-then-not-takes_none-clause-reached g c =
    let i = c.self.inside in
    let accepts = g.T.Task.accepts in
    let answer = g.T.Task.answer in
    let s = c.index-step.result.now in
    let h = c.self.invariant in
    let y = asked accepts answer i.list.now i.party i.supply i.state i.places i.steps i.stages i.turned c.core_facts.ensures.ready h c.args.self.now c.self.view_is c.requires c.steps.result.now.items s c.steps.ensures.steps c.index-step.ensures in
    let none = takes_is accepts answer i.list.now i.party i.supply i.state i.places i.steps i.stages i.turned s c.step_rows-rows.result c.takes_at.result c.takes_none.result _ c.step_rows-rows.ensures c.takes_at.ensures c.takes_none.ensures c.if-not-takes_none.true in
    let new = turn_stays accepts answer i.list.now i.party i.supply i.state i.places i.steps i.stages i.turned s h y.want y.next none in
    new.held.reached

pub invariant_of-self-then-self-stage_count : goal.invariant_of-self-then-self-stage_count
invariant_of-self-then-self-stage_count g c =
    let i = c.self.inside in
    let accepts = g.T.Task.accepts in
    let answer = g.T.Task.answer in
    let s = c.index-step.result.now in
    let h = c.self.invariant in
    let y = asked accepts answer i.list.now i.party i.supply i.state i.places i.steps i.stages i.turned c.core_facts.ensures.ready h c.args.self.now c.self.view_is c.requires c.steps.result.now.items s c.steps.ensures.steps c.index-step.ensures in
    let none = takes_is accepts answer i.list.now i.party i.supply i.state i.places i.steps i.stages i.turned s c.step_rows-rows.result c.takes_at.result c.takes_none.result _ c.step_rows-rows.ensures c.takes_at.ensures c.takes_none.ensures c.if-not-takes_none.false in
    let count = count_is accepts answer i.list.now i.party i.supply i.state i.places i.steps i.stages i.turned s c.stage_count.result c.stage_count.ensures in
    let lt = c.if-self-stage_count.true in
    let new = turn_passes accepts answer i.list.now i.party i.supply i.state i.places i.steps i.stages i.turned s (i.stages + 1) h y.want y.next none (omega arith) (omega (arith, lt, count)) in
    new.held

pub returns-then-self-stage_count-clause-moved : goal.returns-then-self-stage_count-clause-moved
returns-then-self-stage_count-clause-moved g c =
    let i = c.self.inside in
    let accepts = g.T.Task.accepts in
    let answer = g.T.Task.answer in
    let s = c.index-step.result.now in
    let h = c.self.invariant in
    let y = asked accepts answer i.list.now i.party i.supply i.state i.places i.steps i.stages i.turned c.core_facts.ensures.ready h c.args.self.now c.self.view_is c.requires c.steps.result.now.items s c.steps.ensures.steps c.index-step.ensures in
    let none = takes_is accepts answer i.list.now i.party i.supply i.state i.places i.steps i.stages i.turned s c.step_rows-rows.result c.takes_at.result c.takes_none.result _ c.step_rows-rows.ensures c.takes_at.ensures c.takes_none.ensures c.if-not-takes_none.false in
    let count = count_is accepts answer i.list.now i.party i.supply i.state i.places i.steps i.stages i.turned s c.stage_count.result c.stage_count.ensures in
    let lt = c.if-self-stage_count.true in
    let new = turn_passes accepts answer i.list.now i.party i.supply i.state i.places i.steps i.stages i.turned s (i.stages + 1) h y.want y.next none (omega arith) (omega (arith, lt, count)) in
    new.is ∙ ap turned_on c.self.view_is

pub returns-then-self-stage_count-clause-sent : goal.returns-then-self-stage_count-clause-sent
returns-then-self-stage_count-clause-sent g c =
    let i = c.self.inside in
    let accepts = g.T.Task.accepts in
    let answer = g.T.Task.answer in
    let s = c.index-step.result.now in
    let h = c.self.invariant in
    let y = asked accepts answer i.list.now i.party i.supply i.state i.places i.steps i.stages i.turned c.core_facts.ensures.ready h c.args.self.now c.self.view_is c.requires c.steps.result.now.items s c.steps.ensures.steps c.index-step.ensures in
    turn_sent accepts answer i.list.now i.party i.supply i.state i.places i.steps i.stages i.turned s c.step_rows-rows.result c.in_ok-portion.portion (posted c.args.outbox.now) (posted c.in_ok-more.more) (posted c.post.new.self) h y c.step_rows-rows.ensures c.in_ok-portion.ensures
    c.in_ok-more.ensures c.in_ok-post.ensures.posted
    ∙ ap (λ x. more_posted x.party (turn_sends answer x) (posted c.args.outbox.now)) c.self.view_is

pub returns-then-self-stage_count-clause-reached : goal.returns-then-self-stage_count-clause-reached
returns-then-self-stage_count-clause-reached g c =
    let i = c.self.inside in
    let accepts = g.T.Task.accepts in
    let answer = g.T.Task.answer in
    let s = c.index-step.result.now in
    let h = c.self.invariant in
    let y = asked accepts answer i.list.now i.party i.supply i.state i.places i.steps i.stages i.turned c.core_facts.ensures.ready h c.args.self.now c.self.view_is c.requires c.steps.result.now.items s c.steps.ensures.steps c.index-step.ensures in
    let none = takes_is accepts answer i.list.now i.party i.supply i.state i.places i.steps i.stages i.turned s c.step_rows-rows.result c.takes_at.result c.takes_none.result _ c.step_rows-rows.ensures c.takes_at.ensures c.takes_none.ensures c.if-not-takes_none.false in
    let count = count_is accepts answer i.list.now i.party i.supply i.state i.places i.steps i.stages i.turned s c.stage_count.result c.stage_count.ensures in
    let lt = c.if-self-stage_count.true in
    let new = turn_passes accepts answer i.list.now i.party i.supply i.state i.places i.steps i.stages i.turned s (i.stages + 1) h y.want y.next none (omega arith) (omega (arith, lt, count)) in
    new.held.reached

pub run_step-requires : goal.run_step-requires
run_step-requires g c =
    let i = c.self.inside in
    let accepts = g.T.Task.accepts in
    let answer = g.T.Task.answer in
    let s = c.index-step.result.now in
    let h = c.self.invariant in
    let y = asked accepts answer i.list.now i.party i.supply i.state i.places i.steps i.stages i.turned c.core_facts.ensures.ready h c.args.self.now c.self.view_is c.requires c.steps.result.now.items s c.steps.ensures.steps c.index-step.ensures in
    is_ready accepts answer i.list.now i.party i.supply i.state i.places i.steps i.stages i.turned s c.step_rows-rows.result c.in_ok-portion.portion y c.step_rows-rows.ensures c.in_ok-portion.ensures

pub places_behind-self-inside-requires-clause-own : goal.places_behind-self-inside-requires-clause-own
places_behind-self-inside-requires-clause-own g c =
    let i = c.self.inside in
    let accepts = g.T.Task.accepts in
    let answer = g.T.Task.answer in
    let s = c.index-step.result.now in
    let h = c.self.invariant in
    let y = asked accepts answer i.list.now i.party i.supply i.state i.places i.steps i.stages i.turned c.core_facts.ensures.ready h c.args.self.now c.self.view_is c.requires c.steps.result.now.items s c.steps.ensures.steps c.index-step.ensures in
    subst (λ n. i.places.own + draws_by i.party s n ≤ length i.supply.own) (sym c.step_rows-rows.ensures)
    (room_own accepts answer (now accepts answer i.list.now i.party i.supply i.state i.places i.steps i.stages i.turned) s i.places h.reached y.next h.places)

pub places_behind-self-inside-requires-clause-following : goal.places_behind-self-inside-requires-clause-following
places_behind-self-inside-requires-clause-following g c =
    let i = c.self.inside in
    let accepts = g.T.Task.accepts in
    let answer = g.T.Task.answer in
    let s = c.index-step.result.now in
    let h = c.self.invariant in
    let y = asked accepts answer i.list.now i.party i.supply i.state i.places i.steps i.stages i.turned c.core_facts.ensures.ready h c.args.self.now c.self.view_is c.requires c.steps.result.now.items s c.steps.ensures.steps c.index-step.ensures in
    subst (λ n. i.places.following + draws_by (next i.party) s n ≤ length i.supply.following) (sym c.step_rows-rows.ensures)
    (room_following accepts answer (now accepts answer i.list.now i.party i.supply i.state i.places i.steps i.stages i.turned) s i.places h.reached y.next h.places)

pub overflow_add-self-2 : goal.overflow_add-self-2
overflow_add-self-2 g c =
    let i = c.self.inside in
    let accepts = g.T.Task.accepts in
    let answer = g.T.Task.answer in
    let s = c.index-step.result.now in
    let h = c.self.invariant in
    let y = asked accepts answer i.list.now i.party i.supply i.state i.places i.steps i.stages i.turned c.core_facts.ensures.ready h c.args.self.now c.self.view_is c.requires c.steps.result.now.items s c.steps.ensures.steps c.index-step.ensures in
    let v = c.steps.result.now in
    let a = v.ok.0 in
    let b = v.ok.1 in
    let d = v.small in
    let e = ap length c.steps.ensures.steps in
    let w = within i.list.now.steps i.steps s y.next in
    omega (arith, a, b, d, e, w)

pub invariant_of-self-2 : goal.invariant_of-self-2
invariant_of-self-2 g c =
    let i = c.self.inside in
    let accepts = g.T.Task.accepts in
    let answer = g.T.Task.answer in
    let s = c.index-step.result.now in
    let h = c.self.invariant in
    let y = asked accepts answer i.list.now i.party i.supply i.state i.places i.steps i.stages i.turned c.core_facts.ensures.ready h c.args.self.now c.self.view_is c.requires c.steps.result.now.items s c.steps.ensures.steps c.index-step.ensures in
    let none = takes_is accepts answer i.list.now i.party i.supply i.state i.places i.steps i.stages i.turned s c.step_rows-rows.result c.takes_at.result c.takes_none.result _ c.step_rows-rows.ensures c.takes_at.ensures c.takes_none.ensures c.if-not-takes_none.false in
    let count = count_is accepts answer i.list.now i.party i.supply i.state i.places i.steps i.stages i.turned s c.stage_count.result c.stage_count.ensures in
    let le = c.if-self-stage_count.false in
    let part = given accepts answer i.list.now i.party i.supply i.state i.places i.steps i.stages i.turned s c.step_rows-rows.result c.in_ok-portion.portion y c.step_rows-rows.ensures c.in_ok-portion.ensures in
    let l = layout_here (now accepts answer i.list.now i.party i.supply i.state i.places i.steps i.stages i.turned) in
    let done = c.in_default.ensures.done l (sym c.step_rows-rows.ensures) ∙ ap (λ x. part_step answer i.party l i.state s x) part in
    let places = c.places_behind-self-inside.ensures ∙ ap (λ n. next_places i.supply i.places i.party s n) c.step_rows-rows.ensures in
    let new = turn_ends accepts answer i.list.now i.party i.supply i.state i.places i.steps i.stages i.turned s c.run_step.new.self c.places_behind-self-inside.result (i.steps + 1) h y.want y.next none (omega (arith, le, count)) done places (omega arith) in
    new.held

pub returns-clause-moved : goal.returns-clause-moved
returns-clause-moved g c =
    let i = c.self.inside in
    let accepts = g.T.Task.accepts in
    let answer = g.T.Task.answer in
    let s = c.index-step.result.now in
    let h = c.self.invariant in
    let y = asked accepts answer i.list.now i.party i.supply i.state i.places i.steps i.stages i.turned c.core_facts.ensures.ready h c.args.self.now c.self.view_is c.requires c.steps.result.now.items s c.steps.ensures.steps c.index-step.ensures in
    let none = takes_is accepts answer i.list.now i.party i.supply i.state i.places i.steps i.stages i.turned s c.step_rows-rows.result c.takes_at.result c.takes_none.result _ c.step_rows-rows.ensures c.takes_at.ensures c.takes_none.ensures c.if-not-takes_none.false in
    let count = count_is accepts answer i.list.now i.party i.supply i.state i.places i.steps i.stages i.turned s c.stage_count.result c.stage_count.ensures in
    let le = c.if-self-stage_count.false in
    let part = given accepts answer i.list.now i.party i.supply i.state i.places i.steps i.stages i.turned s c.step_rows-rows.result c.in_ok-portion.portion y c.step_rows-rows.ensures c.in_ok-portion.ensures in
    let l = layout_here (now accepts answer i.list.now i.party i.supply i.state i.places i.steps i.stages i.turned) in
    let done = c.in_default.ensures.done l (sym c.step_rows-rows.ensures) ∙ ap (λ x. part_step answer i.party l i.state s x) part in
    let places = c.places_behind-self-inside.ensures ∙ ap (λ n. next_places i.supply i.places i.party s n) c.step_rows-rows.ensures in
    let new = turn_ends accepts answer i.list.now i.party i.supply i.state i.places i.steps i.stages i.turned s c.run_step.new.self c.places_behind-self-inside.result (i.steps + 1) h y.want y.next none (omega (arith, le, count)) done places (omega arith) in
    new.is ∙ ap turned_on c.self.view_is

pub returns-clause-sent : goal.returns-clause-sent
returns-clause-sent g c =
    let i = c.self.inside in
    let accepts = g.T.Task.accepts in
    let answer = g.T.Task.answer in
    let s = c.index-step.result.now in
    let h = c.self.invariant in
    let y = asked accepts answer i.list.now i.party i.supply i.state i.places i.steps i.stages i.turned c.core_facts.ensures.ready h c.args.self.now c.self.view_is c.requires c.steps.result.now.items s c.steps.ensures.steps c.index-step.ensures in
    turn_sent accepts answer i.list.now i.party i.supply i.state i.places i.steps i.stages i.turned s c.step_rows-rows.result c.in_ok-portion.portion (posted c.args.outbox.now) (posted c.in_ok-more.more) (posted c.post.new.self) h y c.step_rows-rows.ensures c.in_ok-portion.ensures
    c.in_ok-more.ensures c.in_ok-post.ensures.posted
    ∙ ap (λ x. more_posted x.party (turn_sends answer x) (posted c.args.outbox.now)) c.self.view_is

pub returns-clause-reached : goal.returns-clause-reached
returns-clause-reached g c =
    let i = c.self.inside in
    let accepts = g.T.Task.accepts in
    let answer = g.T.Task.answer in
    let s = c.index-step.result.now in
    let h = c.self.invariant in
    let y = asked accepts answer i.list.now i.party i.supply i.state i.places i.steps i.stages i.turned c.core_facts.ensures.ready h c.args.self.now c.self.view_is c.requires c.steps.result.now.items s c.steps.ensures.steps c.index-step.ensures in
    let none = takes_is accepts answer i.list.now i.party i.supply i.state i.places i.steps i.stages i.turned s c.step_rows-rows.result c.takes_at.result c.takes_none.result _ c.step_rows-rows.ensures c.takes_at.ensures c.takes_none.ensures c.if-not-takes_none.false in
    let count = count_is accepts answer i.list.now i.party i.supply i.state i.places i.steps i.stages i.turned s c.stage_count.result c.stage_count.ensures in
    let le = c.if-self-stage_count.false in
    let part = given accepts answer i.list.now i.party i.supply i.state i.places i.steps i.stages i.turned s c.step_rows-rows.result c.in_ok-portion.portion y c.step_rows-rows.ensures c.in_ok-portion.ensures in
    let l = layout_here (now accepts answer i.list.now i.party i.supply i.state i.places i.steps i.stages i.turned) in
    let done = c.in_default.ensures.done l (sym c.step_rows-rows.ensures) ∙ ap (λ x. part_step answer i.party l i.state s x) part in
    let places = c.places_behind-self-inside.ensures ∙ ap (λ n. next_places i.supply i.places i.party s n) c.step_rows-rows.ensures in
    let new = turn_ends accepts answer i.list.now i.party i.supply i.state i.places i.steps i.stages i.turned s c.run_step.new.self c.places_behind-self-inside.result (i.steps + 1) h y.want y.next none (omega (arith, le, count)) done places (omega arith) in
    new.held.reached
