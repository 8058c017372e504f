use Rattle.std.proofs.Common.{◌≡◌, ◌≤◌, length, drop, ap, ◌∙◌, arith}
use Rattle.step_lists.specs.Part.{count_from, stage_takes}
use Rattle.party_core.specs.Holding.{layout_at, takes_by}
use Rattle.party_core.proofs.Counting.{takes_are}
use Rattle.party_core.proofs.Leaving.{nothing_behind}
use Rattle.party_core.proofs.Progressing.{count_none}
use Rattle.party_core.proofs.party.left_in.Goals as goal

pub returns-clause-left : goal.returns-clause-left
returns-clause-left g c =
    let v = c.args.party in
    let p = c.args.source in
    let s = c.args.step.now in
    let l = layout_at c.args.list.now c.args.place in
    let ts = takes_by v s c.step_rows-rows.result in
    let e : ts ≡ stage_takes v l s = ap (λ n. takes_by v s n) c.step_rows-rows.ensures ∙ takes_are v l s in
    let long : c.stage_count-stage-end.result ≡ length ts = c.stage_count-stage-end.ensures v c.step_rows-rows.result in
    let past : length ts ≤ c.loop-stage.stage = omega (arith, long) in
    let rest = ap (count_from p) (nothing_behind c.loop-stage.stage ts past) in
    let z = count_none p in
    let all = ap (λ ts. count_from p (drop c.args.done ts)) e in
    omega (arith, c.loop-stage.invariant.sum, c.loop-stage.invariant.fits, rest, z, all)
