use Rattle.std.proofs.Common.{◌≡◌, ◌++◌, List, Some, length, get_or, take, replicate, slice_get, sym, ◌∙◌, ap, subst, arith}
use Rattle.std.proofs.lemmas.List.{take_all}
use Rattle.tapes.specs.declared.draw.Need.{Need}
use Rattle.tapes.specs.declared.draw.Need.TheVariants.{Word}
use Rattle.tapes.specs.declared.needs.Run.{Run}
use Rattle.tapes.specs.Runs.{needs_of}
use Rattle.tapes.proofs.RunLemmas.{need_more, runs_more, need_there}
use Rattle.tapes.proofs.Fitting.{FitsSoFar, fits_next, unfit_here, too_many, not_fit}
use Rattle.tapes.proofs.tape.Tape.first_unfit.Goals as goal

abbrev none : Run
none = record { need = Word; count = 0 }

pub returns-then-not-meets_next-clause-unfit : goal.returns-then-not-meets_next-clause-unfit
returns-then-not-meets_next-clause-unfit c =
    let runs = c.runs-run-items.result.now in
    let k = c.loop-run.run-index in
    let need = (get_or runs k none).need in
    let passed = needs_of (take k runs) ++ replicate c.loop-draw._draw need in
    let there : slice_get c.args.needs.now (length passed) ≡ Some need
    = ap (λ (ns : List Need). slice_get ns (length passed)) (sym c.runs-run-items.ensures)
    ∙ need_there runs k c.loop-draw._draw none c.loop-run-test.true c.loop-draw-test.true in
    rw c.place-place.ensures
    (unfit_here c.args.needs.now passed c.args.self.now c.loop-draw.cursor need c.loop-draw.invariant there
    (rw c.if-not-meets_next.true at c.meets_next.ensures))

pub returns-then-not-meets_next-clause-fits : goal.returns-then-not-meets_next-clause-fits
returns-then-not-meets_next-clause-fits c =
    (λ h. absurd (cc), λ f. absurd (not_fit c.args.needs.now c.args.self.now c.place-place.result (returns-then-not-meets_next-clause-unfit c) f))

pub returns-then-place-len-clause-unfit : goal.returns-then-place-len-clause-unfit
returns-then-place-len-clause-unfit c =
    let runs = c.runs-run-items.result.now in
    let k = c.loop-run.run-index in
    let all : FitsSoFar c.args.needs.now c.args.needs.now c.args.self.now c.loop-run.cursor
    = subst (λ (needs : List Need). FitsSoFar c.args.needs.now needs c.args.self.now c.loop-run.cursor)
    (ap needs_of (take_all k runs (omega arith)) ∙ c.runs-run-items.ensures) c.loop-run.invariant in
    rw c.place-then-place-len.ensures (too_many c.args.needs.now c.args.self.now c.loop-run.cursor all (omega (arith, c.place.ensures, c.len.ensures.value)))

pub returns-then-place-len-clause-fits : goal.returns-then-place-len-clause-fits
returns-then-place-len-clause-fits c =
    (λ h. absurd (cc), λ f. absurd (not_fit c.args.needs.now c.args.self.now _ (returns-then-place-len-clause-unfit c) f))

pub loop-draw-preserved : goal.loop-draw-preserved
loop-draw-preserved c =
    let runs = c.runs-run-items.result.now in
    let k = c.loop-run.run-index in
    let need = (get_or runs k none).need in
    let passed = needs_of (take k runs) ++ replicate c.loop-draw._draw need in
    let there : slice_get c.args.needs.now (length passed) ≡ Some need
    = ap (λ (ns : List Need). slice_get ns (length passed)) (sym c.runs-run-items.ensures)
    ∙ need_there runs k c.loop-draw._draw none c.loop-run-test.true c.loop-draw-test.true in
    let met = rw c.if-not-meets_next.false at c.meets_next.ensures in
    subst (λ (needs : List Need). FitsSoFar c.args.needs.now needs c.args.self.now c.meets_next.new.cursor)
    (need_more (needs_of (take k runs)) c.loop-draw._draw need)
    (fits_next c.args.needs.now passed c.args.self.now c.loop-draw.cursor c.meets_next.new.cursor need c.loop-draw.invariant there met.0 met.1)

pub loop-run-preserved : goal.loop-run-preserved
loop-run-preserved c =
    let runs = c.runs-run-items.result.now in
    let k = c.loop-run.run-index in
    let all : c.loop-draw._draw ≡ (get_or runs k none).count = omega arith in
    subst (λ (needs : List Need). FitsSoFar c.args.needs.now needs c.args.self.now c.loop-draw.cursor)
    (ap (λ n. needs_of (take k runs) ++ replicate n (get_or runs k none).need) all ∙ sym (runs_more runs k none c.loop-run-test.true))
    c.loop-draw.invariant
