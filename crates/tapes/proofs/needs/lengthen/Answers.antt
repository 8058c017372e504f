use Rattle.std.proofs.Common.{◌≡◌, ◌++◌, ◌-◌, replicate, sym, ◌∙◌, ap, arith, rules}
use Rattle.std.proofs.lemmas.List.{get_or_default}
use Rattle.tapes.specs.declared.needs.Run.{Run}
use Rattle.tapes.specs.Runs.{needs_of}
use Rattle.tapes.proofs.RunLemmas.{needs_of-push, lengthened, run_within}
use Rattle.tapes.proofs.needs.lengthen.Goals as goal

pub overflow_add-index_mut : goal.overflow_add-index_mut
overflow_add-index_mut c =
    omega (arith, run_within c.args.runs.now.items (c.len-whole.result - 1) c.index_mut.result.now (omega arith) c.index_mut.ensures.value)

pub returns-then-eq-clause-pushed : goal.returns-then-eq-clause-pushed
returns-then-eq-clause-pushed c =
    let runs = c.args.runs.now.items in
    let last = c.len-whole.result - 1 in
    let same : c.index.result.now.need ≡ c.args.need = search rules in
    let one : c.index_mut.result.now ≡ c.index.result.now
    = c.index_mut.ensures.value ∙ get_or_default runs last c.index_mut.result.now c.index.result.now (omega arith) ∙ sym c.index.ensures in
    lengthened runs last c.args.count c.index_mut.result.now (omega arith) c.index_mut.ensures.value
    ∙ ap (λ n. needs_of runs ++ replicate c.args.count n) (ap (λ (r : Run). r.need) one ∙ same)

pub returns-clause-pushed : goal.returns-clause-pushed
returns-clause-pushed c =
    rw c.in_ok-push.ensures.items (needs_of-push c.args.runs.now.items (record { need = c.args.need; count = c.args.count }))
