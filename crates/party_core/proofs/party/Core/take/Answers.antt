use Rattle.std.proofs.Common.{◌+◌, Bool, cond, length, sym, ap, subst, ◌∙◌, arith}
use Rattle.std.specs.Prelude.{suc}
use Rattle.std.proofs.lemmas.Bool.{lt-ltb, le-ltb}
use Rattle.step_lists.specs.Part.{Part, part_step}
use Rattle.party_core.specs.Calls.{IsTakeFault}
use Rattle.party_core.specs.CoreView.{layout_here}
use Rattle.party_core.specs.Doing.{portion_here}
use Rattle.party_core.specs.Stages.{stage_count}
use Rattle.party_core.proofs.Portions.{next_places}
use Rattle.party_core.proofs.Taken.{is_fed, fed_portion, fed_ready, fed_breaks, fed_own, fed_following, fed_passes, fed_ends, fed_back, cut_back}
use Rattle.party_core.proofs.Turning.{now, count_is, within}
use Rattle.party_core.proofs.party.Core.take.Goals as goal

pub take_stage-taken-requires-clause-own : goal.take_stage-taken-requires-clause-own
take_stage-taken-requires-clause-own g c =
    let i = c.self.inside in
    let accepts = g.T.Task.accepts in
    let answer = g.T.Task.answer in
    let s = c.index-step.result.now in
    let n = c.step_rows-rows.result in
    let rows = c.step_rows-rows.ensures in
    let q = c.party_taken-source.result in
    let old = c.args.self.now in
    let words = c.args.words.now in
    let fed = c.take.new.self in
    let h = c.self.invariant in
    let y = is_fed accepts answer i.list.now i.party i.supply i.state i.places i.steps i.stages i.turned c.core_facts.ensures.ready h old c.self.view_is words c.requires (record { below = λ k. omega (arith, c.type_inv.words k) }) c.steps.result.now.items s c.steps.ensures.steps c.index-step.ensures
    n rows c.takes_at.result c.takes_at.ensures q c.party_taken-source.ensures fed c.in_ok-take.ensures.took in
    fed_own accepts answer i.list.now i.party i.supply i.state i.places i.steps i.stages i.turned s q old words fed n h y rows

pub take_stage-taken-requires-clause-following : goal.take_stage-taken-requires-clause-following
take_stage-taken-requires-clause-following g c =
    let i = c.self.inside in
    let accepts = g.T.Task.accepts in
    let answer = g.T.Task.answer in
    let s = c.index-step.result.now in
    let n = c.step_rows-rows.result in
    let rows = c.step_rows-rows.ensures in
    let q = c.party_taken-source.result in
    let old = c.args.self.now in
    let words = c.args.words.now in
    let fed = c.take.new.self in
    let h = c.self.invariant in
    let y = is_fed accepts answer i.list.now i.party i.supply i.state i.places i.steps i.stages i.turned c.core_facts.ensures.ready h old c.self.view_is words c.requires (record { below = λ k. omega (arith, c.type_inv.words k) }) c.steps.result.now.items s c.steps.ensures.steps c.index-step.ensures
    n rows c.takes_at.result c.takes_at.ensures q c.party_taken-source.ensures fed c.in_ok-take.ensures.took in
    fed_following accepts answer i.list.now i.party i.supply i.state i.places i.steps i.stages i.turned s q old words fed n h y rows

pub take_stage-taken-requires-clause-ready : goal.take_stage-taken-requires-clause-ready
take_stage-taken-requires-clause-ready g c =
    let i = c.self.inside in
    let accepts = g.T.Task.accepts in
    let answer = g.T.Task.answer in
    let s = c.index-step.result.now in
    let n = c.step_rows-rows.result in
    let rows = c.step_rows-rows.ensures in
    let q = c.party_taken-source.result in
    let old = c.args.self.now in
    let words = c.args.words.now in
    let fed = c.take.new.self in
    let h = c.self.invariant in
    let y = is_fed accepts answer i.list.now i.party i.supply i.state i.places i.steps i.stages i.turned c.core_facts.ensures.ready h old c.self.view_is words c.requires (record { below = λ k. omega (arith, c.type_inv.words k) }) c.steps.result.now.items s c.steps.ensures.steps c.index-step.ensures
    n rows c.takes_at.result c.takes_at.ensures q c.party_taken-source.ensures fed c.in_ok-take.ensures.took in
    fed_ready accepts answer i.list.now i.party i.supply i.state i.places i.steps i.stages i.turned s q old words fed n y rows

pub invariant_of-self-in-Err : goal.invariant_of-self-in-Err
invariant_of-self-in-Err g c =
    let i = c.self.inside in
    let accepts = g.T.Task.accepts in
    let answer = g.T.Task.answer in
    let s = c.index-step.result.now in
    let n = c.step_rows-rows.result in
    let rows = c.step_rows-rows.ensures in
    let q = c.party_taken-source.result in
    let old = c.args.self.now in
    let words = c.args.words.now in
    let fed = c.take.new.self in
    let h = c.self.invariant in
    let y = is_fed accepts answer i.list.now i.party i.supply i.state i.places i.steps i.stages i.turned c.core_facts.ensures.ready h old c.self.view_is words c.requires (record { below = λ k. omega (arith, c.type_inv.words k) }) c.steps.result.now.items s c.steps.ensures.steps c.index-step.ensures
    n rows c.takes_at.result c.takes_at.ensures q c.party_taken-source.ensures fed c.in_ok-take.ensures.took in
    let count = c.len-count.ensures ∙ c.received.result.now.ok.0 ∙ ap length c.received.ensures in
    let back = c.cut.ensures ∙ cut_back i.supply fed q words c.len-count.result c.in_ok-take.ensures.took count in
    let new = fed_back accepts answer i.list.now i.party i.supply i.state i.places i.steps i.stages i.turned c.cut.new.self c.take_stage-taken.new.self h back c.in-Err.ensures.kept in
    new.held

pub returns-in-Err-clause-fault : goal.returns-in-Err-clause-fault
returns-in-Err-clause-fault g c =
    let i = c.self.inside in
    let accepts = g.T.Task.accepts in
    let answer = g.T.Task.answer in
    let s = c.index-step.result.now in
    let n = c.step_rows-rows.result in
    let rows = c.step_rows-rows.ensures in
    let q = c.party_taken-source.result in
    let old = c.args.self.now in
    let words = c.args.words.now in
    let fed = c.take.new.self in
    let h = c.self.invariant in
    let y = is_fed accepts answer i.list.now i.party i.supply i.state i.places i.steps i.stages i.turned c.core_facts.ensures.ready h old c.self.view_is words c.requires (record { below = λ k. omega (arith, c.type_inv.words k) }) c.steps.result.now.items s c.steps.ensures.steps c.index-step.ensures
    n rows c.takes_at.result c.takes_at.ensures q c.party_taken-source.ensures fed c.in_ok-take.ensures.took in
    let l = layout_here (now accepts answer i.list.now i.party i.supply i.state i.places i.steps i.stages i.turned) in
    let breaks = fed_breaks accepts answer i.list.now i.party i.supply i.state i.places i.steps i.stages i.turned s q old words fed n y rows in
    subst (λ b. IsTakeFault b c.in-Err.fault) breaks (c.in-Err.ensures.fault l (sym rows))

pub returns-in-Err-clause-reached : goal.returns-in-Err-clause-reached
returns-in-Err-clause-reached g c =
    let i = c.self.inside in
    let accepts = g.T.Task.accepts in
    let answer = g.T.Task.answer in
    let s = c.index-step.result.now in
    let n = c.step_rows-rows.result in
    let rows = c.step_rows-rows.ensures in
    let q = c.party_taken-source.result in
    let old = c.args.self.now in
    let words = c.args.words.now in
    let fed = c.take.new.self in
    let h = c.self.invariant in
    let y = is_fed accepts answer i.list.now i.party i.supply i.state i.places i.steps i.stages i.turned c.core_facts.ensures.ready h old c.self.view_is words c.requires (record { below = λ k. omega (arith, c.type_inv.words k) }) c.steps.result.now.items s c.steps.ensures.steps c.index-step.ensures
    n rows c.takes_at.result c.takes_at.ensures q c.party_taken-source.ensures fed c.in_ok-take.ensures.took in
    let count = c.len-count.ensures ∙ c.received.result.now.ok.0 ∙ ap length c.received.ensures in
    let back = c.cut.ensures ∙ cut_back i.supply fed q words c.len-count.result c.in_ok-take.ensures.took count in
    let new = fed_back accepts answer i.list.now i.party i.supply i.state i.places i.steps i.stages i.turned c.cut.new.self c.take_stage-taken.new.self h back c.in-Err.ensures.kept in
    new.held.reached

pub invariant_of-self-then-goes_on : goal.invariant_of-self-then-goes_on
invariant_of-self-then-goes_on g c =
    let i = c.self.inside in
    let accepts = g.T.Task.accepts in
    let answer = g.T.Task.answer in
    let s = c.index-step.result.now in
    let n = c.step_rows-rows.result in
    let rows = c.step_rows-rows.ensures in
    let q = c.party_taken-source.result in
    let old = c.args.self.now in
    let words = c.args.words.now in
    let fed = c.take.new.self in
    let h = c.self.invariant in
    let y = is_fed accepts answer i.list.now i.party i.supply i.state i.places i.steps i.stages i.turned c.core_facts.ensures.ready h old c.self.view_is words c.requires (record { below = λ k. omega (arith, c.type_inv.words k) }) c.steps.result.now.items s c.steps.ensures.steps c.index-step.ensures
    n rows c.takes_at.result c.takes_at.ensures q c.party_taken-source.ensures fed c.in_ok-take.ensures.took in
    let l = layout_here (now accepts answer i.list.now i.party i.supply i.state i.places i.steps i.stages i.turned) in
    let breaks = fed_breaks accepts answer i.list.now i.party i.supply i.state i.places i.steps i.stages i.turned s q old words fed n y rows in
    let good = sym breaks ∙ c.in_default.ensures.order l (sym rows) in
    let count = count_is accepts answer i.list.now i.party i.supply i.state i.places i.steps i.stages i.turned s c.stage_count.result c.stage_count.ensures in
    let step = part_step answer i.party l i.state s (portion_here fed i.places i.party s n) in
    let choose : Bool → Part = λ b. cond b i.state step in
    let lt = c.if-goes_on.true in
    let goes = lt-ltb (i.stages + 1) c.stage_count.result lt in
    let on = lt-ltb (suc i.stages) (stage_count i.party l s) (omega (arith, lt, count)) in
    let same = c.in_default.ensures.done l (sym rows) ∙ ap choose goes in
    let new = fed_passes accepts answer i.list.now i.party i.supply i.state i.places i.steps i.stages i.turned s q old words fed c.take_stage-taken.new.self (i.stages + 1) h y good same (omega arith) on in
    new.held

pub returns-then-goes_on-clause-took : goal.returns-then-goes_on-clause-took
returns-then-goes_on-clause-took g c =
    let i = c.self.inside in
    let accepts = g.T.Task.accepts in
    let answer = g.T.Task.answer in
    let s = c.index-step.result.now in
    let n = c.step_rows-rows.result in
    let rows = c.step_rows-rows.ensures in
    let q = c.party_taken-source.result in
    let old = c.args.self.now in
    let words = c.args.words.now in
    let fed = c.take.new.self in
    let h = c.self.invariant in
    let y = is_fed accepts answer i.list.now i.party i.supply i.state i.places i.steps i.stages i.turned c.core_facts.ensures.ready h old c.self.view_is words c.requires (record { below = λ k. omega (arith, c.type_inv.words k) }) c.steps.result.now.items s c.steps.ensures.steps c.index-step.ensures
    n rows c.takes_at.result c.takes_at.ensures q c.party_taken-source.ensures fed c.in_ok-take.ensures.took in
    let l = layout_here (now accepts answer i.list.now i.party i.supply i.state i.places i.steps i.stages i.turned) in
    let breaks = fed_breaks accepts answer i.list.now i.party i.supply i.state i.places i.steps i.stages i.turned s q old words fed n y rows in
    let good = sym breaks ∙ c.in_default.ensures.order l (sym rows) in
    let count = count_is accepts answer i.list.now i.party i.supply i.state i.places i.steps i.stages i.turned s c.stage_count.result c.stage_count.ensures in
    let step = part_step answer i.party l i.state s (portion_here fed i.places i.party s n) in
    let choose : Bool → Part = λ b. cond b i.state step in
    let lt = c.if-goes_on.true in
    let goes = lt-ltb (i.stages + 1) c.stage_count.result lt in
    let on = lt-ltb (suc i.stages) (stage_count i.party l s) (omega (arith, lt, count)) in
    let same = c.in_default.ensures.done l (sym rows) ∙ ap choose goes in
    let new = fed_passes accepts answer i.list.now i.party i.supply i.state i.places i.steps i.stages i.turned s q old words fed c.take_stage-taken.new.self (i.stages + 1) h y good same (omega arith) on in
    new.is

pub returns-then-goes_on-clause-order : goal.returns-then-goes_on-clause-order
returns-then-goes_on-clause-order g c =
    let i = c.self.inside in
    let accepts = g.T.Task.accepts in
    let answer = g.T.Task.answer in
    let s = c.index-step.result.now in
    let n = c.step_rows-rows.result in
    let rows = c.step_rows-rows.ensures in
    let q = c.party_taken-source.result in
    let old = c.args.self.now in
    let words = c.args.words.now in
    let fed = c.take.new.self in
    let h = c.self.invariant in
    let y = is_fed accepts answer i.list.now i.party i.supply i.state i.places i.steps i.stages i.turned c.core_facts.ensures.ready h old c.self.view_is words c.requires (record { below = λ k. omega (arith, c.type_inv.words k) }) c.steps.result.now.items s c.steps.ensures.steps c.index-step.ensures
    n rows c.takes_at.result c.takes_at.ensures q c.party_taken-source.ensures fed c.in_ok-take.ensures.took in
    let l = layout_here (now accepts answer i.list.now i.party i.supply i.state i.places i.steps i.stages i.turned) in
    let breaks = fed_breaks accepts answer i.list.now i.party i.supply i.state i.places i.steps i.stages i.turned s q old words fed n y rows in
    let good = sym breaks ∙ c.in_default.ensures.order l (sym rows) in
    good

pub returns-then-goes_on-clause-reached : goal.returns-then-goes_on-clause-reached
returns-then-goes_on-clause-reached g c =
    let i = c.self.inside in
    let accepts = g.T.Task.accepts in
    let answer = g.T.Task.answer in
    let s = c.index-step.result.now in
    let n = c.step_rows-rows.result in
    let rows = c.step_rows-rows.ensures in
    let q = c.party_taken-source.result in
    let old = c.args.self.now in
    let words = c.args.words.now in
    let fed = c.take.new.self in
    let h = c.self.invariant in
    let y = is_fed accepts answer i.list.now i.party i.supply i.state i.places i.steps i.stages i.turned c.core_facts.ensures.ready h old c.self.view_is words c.requires (record { below = λ k. omega (arith, c.type_inv.words k) }) c.steps.result.now.items s c.steps.ensures.steps c.index-step.ensures
    n rows c.takes_at.result c.takes_at.ensures q c.party_taken-source.ensures fed c.in_ok-take.ensures.took in
    let l = layout_here (now accepts answer i.list.now i.party i.supply i.state i.places i.steps i.stages i.turned) in
    let breaks = fed_breaks accepts answer i.list.now i.party i.supply i.state i.places i.steps i.stages i.turned s q old words fed n y rows in
    let good = sym breaks ∙ c.in_default.ensures.order l (sym rows) in
    let count = count_is accepts answer i.list.now i.party i.supply i.state i.places i.steps i.stages i.turned s c.stage_count.result c.stage_count.ensures in
    let step = part_step answer i.party l i.state s (portion_here fed i.places i.party s n) in
    let choose : Bool → Part = λ b. cond b i.state step in
    let lt = c.if-goes_on.true in
    let goes = lt-ltb (i.stages + 1) c.stage_count.result lt in
    let on = lt-ltb (suc i.stages) (stage_count i.party l s) (omega (arith, lt, count)) in
    let same = c.in_default.ensures.done l (sym rows) ∙ ap choose goes in
    let new = fed_passes accepts answer i.list.now i.party i.supply i.state i.places i.steps i.stages i.turned s q old words fed c.take_stage-taken.new.self (i.stages + 1) h y good same (omega arith) on in
    new.held.reached

pub places_behind-self-inside-requires-clause-own : goal.places_behind-self-inside-requires-clause-own
places_behind-self-inside-requires-clause-own g c =
    let i = c.self.inside in
    let accepts = g.T.Task.accepts in
    let answer = g.T.Task.answer in
    let s = c.index-step.result.now in
    let n = c.step_rows-rows.result in
    let rows = c.step_rows-rows.ensures in
    let q = c.party_taken-source.result in
    let old = c.args.self.now in
    let words = c.args.words.now in
    let fed = c.take.new.self in
    let h = c.self.invariant in
    let y = is_fed accepts answer i.list.now i.party i.supply i.state i.places i.steps i.stages i.turned c.core_facts.ensures.ready h old c.self.view_is words c.requires (record { below = λ k. omega (arith, c.type_inv.words k) }) c.steps.result.now.items s c.steps.ensures.steps c.index-step.ensures
    n rows c.takes_at.result c.takes_at.ensures q c.party_taken-source.ensures fed c.in_ok-take.ensures.took in
    fed_own accepts answer i.list.now i.party i.supply i.state i.places i.steps i.stages i.turned s q old words fed n h y rows

pub places_behind-self-inside-requires-clause-following : goal.places_behind-self-inside-requires-clause-following
places_behind-self-inside-requires-clause-following g c =
    let i = c.self.inside in
    let accepts = g.T.Task.accepts in
    let answer = g.T.Task.answer in
    let s = c.index-step.result.now in
    let n = c.step_rows-rows.result in
    let rows = c.step_rows-rows.ensures in
    let q = c.party_taken-source.result in
    let old = c.args.self.now in
    let words = c.args.words.now in
    let fed = c.take.new.self in
    let h = c.self.invariant in
    let y = is_fed accepts answer i.list.now i.party i.supply i.state i.places i.steps i.stages i.turned c.core_facts.ensures.ready h old c.self.view_is words c.requires (record { below = λ k. omega (arith, c.type_inv.words k) }) c.steps.result.now.items s c.steps.ensures.steps c.index-step.ensures
    n rows c.takes_at.result c.takes_at.ensures q c.party_taken-source.ensures fed c.in_ok-take.ensures.took in
    fed_following accepts answer i.list.now i.party i.supply i.state i.places i.steps i.stages i.turned s q old words fed n h y rows

pub overflow_add-self-2 : goal.overflow_add-self-2
overflow_add-self-2 g c =
    let i = c.self.inside in
    let accepts = g.T.Task.accepts in
    let answer = g.T.Task.answer in
    let s = c.index-step.result.now in
    let n = c.step_rows-rows.result in
    let rows = c.step_rows-rows.ensures in
    let q = c.party_taken-source.result in
    let old = c.args.self.now in
    let words = c.args.words.now in
    let fed = c.take.new.self in
    let h = c.self.invariant in
    let y = is_fed accepts answer i.list.now i.party i.supply i.state i.places i.steps i.stages i.turned c.core_facts.ensures.ready h old c.self.view_is words c.requires (record { below = λ k. omega (arith, c.type_inv.words k) }) c.steps.result.now.items s c.steps.ensures.steps c.index-step.ensures
    n rows c.takes_at.result c.takes_at.ensures q c.party_taken-source.ensures fed c.in_ok-take.ensures.took in
    let v = c.steps.result.now in
    let a = v.ok.0 in
    let b = v.ok.1 in
    let d = v.small in
    let e = ap length c.steps.ensures.steps in
    let w = within i.list.now.steps i.steps s y.next in
    omega (arith, a, b, d, e, w)

pub invariant_of-self-2 : goal.invariant_of-self-2
invariant_of-self-2 g c =
    let i = c.self.inside in
    let accepts = g.T.Task.accepts in
    let answer = g.T.Task.answer in
    let s = c.index-step.result.now in
    let n = c.step_rows-rows.result in
    let rows = c.step_rows-rows.ensures in
    let q = c.party_taken-source.result in
    let old = c.args.self.now in
    let words = c.args.words.now in
    let fed = c.take.new.self in
    let h = c.self.invariant in
    let y = is_fed accepts answer i.list.now i.party i.supply i.state i.places i.steps i.stages i.turned c.core_facts.ensures.ready h old c.self.view_is words c.requires (record { below = λ k. omega (arith, c.type_inv.words k) }) c.steps.result.now.items s c.steps.ensures.steps c.index-step.ensures
    n rows c.takes_at.result c.takes_at.ensures q c.party_taken-source.ensures fed c.in_ok-take.ensures.took in
    let l = layout_here (now accepts answer i.list.now i.party i.supply i.state i.places i.steps i.stages i.turned) in
    let breaks = fed_breaks accepts answer i.list.now i.party i.supply i.state i.places i.steps i.stages i.turned s q old words fed n y rows in
    let good = sym breaks ∙ c.in_default.ensures.order l (sym rows) in
    let count = count_is accepts answer i.list.now i.party i.supply i.state i.places i.steps i.stages i.turned s c.stage_count.result c.stage_count.ensures in
    let step = part_step answer i.party l i.state s (portion_here fed i.places i.party s n) in
    let choose : Bool → Part = λ b. cond b i.state step in
    let le = c.if-goes_on.false in
    let goes = le-ltb (i.stages + 1) c.stage_count.result le in
    let last = le-ltb (suc i.stages) (stage_count i.party l s) (omega (arith, le, count)) in
    let part = fed_portion accepts answer i.list.now i.party i.supply i.state i.places i.steps i.stages i.turned s q old words fed n y rows in
    let done = c.in_default.ensures.done l (sym rows) ∙ ap choose goes ∙ ap (λ x. part_step answer i.party l i.state s x) part in
    let places = c.places_behind-self-inside.ensures ∙ ap (λ n. next_places fed i.places i.party s n) rows in
    let new = fed_ends accepts answer i.list.now i.party i.supply i.state i.places i.steps i.stages i.turned s q old words fed c.take_stage-taken.new.self c.places_behind-self-inside.result (i.steps + 1) h y good last done places (omega arith) in
    new.held

pub returns-clause-took : goal.returns-clause-took
returns-clause-took g c =
    let i = c.self.inside in
    let accepts = g.T.Task.accepts in
    let answer = g.T.Task.answer in
    let s = c.index-step.result.now in
    let n = c.step_rows-rows.result in
    let rows = c.step_rows-rows.ensures in
    let q = c.party_taken-source.result in
    let old = c.args.self.now in
    let words = c.args.words.now in
    let fed = c.take.new.self in
    let h = c.self.invariant in
    let y = is_fed accepts answer i.list.now i.party i.supply i.state i.places i.steps i.stages i.turned c.core_facts.ensures.ready h old c.self.view_is words c.requires (record { below = λ k. omega (arith, c.type_inv.words k) }) c.steps.result.now.items s c.steps.ensures.steps c.index-step.ensures
    n rows c.takes_at.result c.takes_at.ensures q c.party_taken-source.ensures fed c.in_ok-take.ensures.took in
    let l = layout_here (now accepts answer i.list.now i.party i.supply i.state i.places i.steps i.stages i.turned) in
    let breaks = fed_breaks accepts answer i.list.now i.party i.supply i.state i.places i.steps i.stages i.turned s q old words fed n y rows in
    let good = sym breaks ∙ c.in_default.ensures.order l (sym rows) in
    let count = count_is accepts answer i.list.now i.party i.supply i.state i.places i.steps i.stages i.turned s c.stage_count.result c.stage_count.ensures in
    let step = part_step answer i.party l i.state s (portion_here fed i.places i.party s n) in
    let choose : Bool → Part = λ b. cond b i.state step in
    let le = c.if-goes_on.false in
    let goes = le-ltb (i.stages + 1) c.stage_count.result le in
    let last = le-ltb (suc i.stages) (stage_count i.party l s) (omega (arith, le, count)) in
    let part = fed_portion accepts answer i.list.now i.party i.supply i.state i.places i.steps i.stages i.turned s q old words fed n y rows in
    let done = c.in_default.ensures.done l (sym rows) ∙ ap choose goes ∙ ap (λ x. part_step answer i.party l i.state s x) part in
    let places = c.places_behind-self-inside.ensures ∙ ap (λ n. next_places fed i.places i.party s n) rows in
    let new = fed_ends accepts answer i.list.now i.party i.supply i.state i.places i.steps i.stages i.turned s q old words fed c.take_stage-taken.new.self c.places_behind-self-inside.result (i.steps + 1) h y good last done places (omega arith) in
    new.is

pub returns-clause-order : goal.returns-clause-order
returns-clause-order g c =
    let i = c.self.inside in
    let accepts = g.T.Task.accepts in
    let answer = g.T.Task.answer in
    let s = c.index-step.result.now in
    let n = c.step_rows-rows.result in
    let rows = c.step_rows-rows.ensures in
    let q = c.party_taken-source.result in
    let old = c.args.self.now in
    let words = c.args.words.now in
    let fed = c.take.new.self in
    let h = c.self.invariant in
    let y = is_fed accepts answer i.list.now i.party i.supply i.state i.places i.steps i.stages i.turned c.core_facts.ensures.ready h old c.self.view_is words c.requires (record { below = λ k. omega (arith, c.type_inv.words k) }) c.steps.result.now.items s c.steps.ensures.steps c.index-step.ensures
    n rows c.takes_at.result c.takes_at.ensures q c.party_taken-source.ensures fed c.in_ok-take.ensures.took in
    let l = layout_here (now accepts answer i.list.now i.party i.supply i.state i.places i.steps i.stages i.turned) in
    let breaks = fed_breaks accepts answer i.list.now i.party i.supply i.state i.places i.steps i.stages i.turned s q old words fed n y rows in
    let good = sym breaks ∙ c.in_default.ensures.order l (sym rows) in
    good

pub returns-clause-reached : goal.returns-clause-reached
returns-clause-reached g c =
    let i = c.self.inside in
    let accepts = g.T.Task.accepts in
    let answer = g.T.Task.answer in
    let s = c.index-step.result.now in
    let n = c.step_rows-rows.result in
    let rows = c.step_rows-rows.ensures in
    let q = c.party_taken-source.result in
    let old = c.args.self.now in
    let words = c.args.words.now in
    let fed = c.take.new.self in
    let h = c.self.invariant in
    let y = is_fed accepts answer i.list.now i.party i.supply i.state i.places i.steps i.stages i.turned c.core_facts.ensures.ready h old c.self.view_is words c.requires (record { below = λ k. omega (arith, c.type_inv.words k) }) c.steps.result.now.items s c.steps.ensures.steps c.index-step.ensures
    n rows c.takes_at.result c.takes_at.ensures q c.party_taken-source.ensures fed c.in_ok-take.ensures.took in
    let l = layout_here (now accepts answer i.list.now i.party i.supply i.state i.places i.steps i.stages i.turned) in
    let breaks = fed_breaks accepts answer i.list.now i.party i.supply i.state i.places i.steps i.stages i.turned s q old words fed n y rows in
    let good = sym breaks ∙ c.in_default.ensures.order l (sym rows) in
    let count = count_is accepts answer i.list.now i.party i.supply i.state i.places i.steps i.stages i.turned s c.stage_count.result c.stage_count.ensures in
    let step = part_step answer i.party l i.state s (portion_here fed i.places i.party s n) in
    let choose : Bool → Part = λ b. cond b i.state step in
    let le = c.if-goes_on.false in
    let goes = le-ltb (i.stages + 1) c.stage_count.result le in
    let last = le-ltb (suc i.stages) (stage_count i.party l s) (omega (arith, le, count)) in
    let part = fed_portion accepts answer i.list.now i.party i.supply i.state i.places i.steps i.stages i.turned s q old words fed n y rows in
    let done = c.in_default.ensures.done l (sym rows) ∙ ap choose goes ∙ ap (λ x. part_step answer i.party l i.state s x) part in
    let places = c.places_behind-self-inside.ensures ∙ ap (λ n. next_places fed i.places i.party s n) rows in
    let new = fed_ends accepts answer i.list.now i.party i.supply i.state i.places i.steps i.stages i.turned s q old words fed c.take_stage-taken.new.self c.places_behind-self-inside.result (i.steps + 1) h y good last done places (omega arith) in
    new.held.reached
