use Rattle.std.proofs.Common.{◌≡◌, ◌++◌, List, length, get_or, take, drop, replicate, slice_get, sym, ◌∙◌, ap, subst, arith}
use Rattle.tapes.specs.declared.draw.Need.{Need}
use Rattle.tapes.specs.declared.draw.Need.TheVariants.{Word}
use Rattle.tapes.specs.declared.needs.Run.{Run}
use Rattle.tapes.specs.Runs.{needs_of}
use Rattle.tapes.proofs.RunLemmas.{need_more, runs_more, need_there}
use Rattle.tapes.proofs.Spelling.{ReadSoFar, read_one, no_order_here}
use Rattle.tapes.proofs.tape_bytes.read_draws.Goals as goal

abbrev none : Run
none = record { need = Word; count = 0 }

pub returns-then-rest-taken : goal.returns-then-rest-taken
returns-then-rest-taken c =
    let runs = c.runs-run-items.result.now in
    let k = c.loop-run.run-index in
    let there = need_there runs k c.loop-draw._draw none c.loop-run-test.true c.loop-draw-test.true in
    record {
      draws = c.loop-draw.tape;
      rest = c.loop-draw.rest.now;
      begins = c.loop-draw.invariant.begins;
      number = sym c.len-at.ensures.value;
      need = (get_or runs k none).need;
      needed =
          ap (λ n. slice_get c.args.needs.now n) (c.len-at.ensures.value ∙ c.loop-draw.invariant.count)
          ∙ ap (λ (ns : List Need). slice_get ns (length (needs_of (take k runs) ++ replicate c.loop-draw._draw (get_or runs k none).need))) (sym c.runs-run-items.ensures)
          ∙ there;
      short = omega (arith, c.width-taken.ensures);
    }

pub returns-then-not-branch : goal.returns-then-not-branch
returns-then-not-branch c =
    let runs = c.runs-run-items.result.now in
    let k = c.loop-run.run-index in
    let there = need_there runs k c.loop-draw._draw none c.loop-run-test.true c.loop-draw-test.true in
    no_order_here c.args.needs.now c.args.bytes.now c.loop-draw.tape c.loop-draw.rest.now (get_or runs k none).need c.len-at.result c.loop-draw.invariant.begins
    (sym c.len-at.ensures.value)
    (ap (λ n. slice_get c.args.needs.now n) (c.len-at.ensures.value ∙ c.loop-draw.invariant.count)
    ∙ ap (λ (ns : List Need). slice_get ns (length (needs_of (take k runs) ++ replicate c.loop-draw._draw (get_or runs k none).need))) (sym c.runs-run-items.ensures)
    ∙ there)
    (rw c.if-not-branch.true at c.in_ok-push_draw.ensures.ok).0

pub loop-draw-preserved : goal.loop-draw-preserved
loop-draw-preserved c =
    let runs = c.runs-run-items.result.now in
    let k = c.loop-run.run-index in
    let need = (get_or runs k none).need in
    let passed = needs_of (take k runs) ++ replicate c.loop-draw._draw need in
    let there = need_there runs k c.loop-draw._draw none c.loop-run-test.true c.loop-draw-test.true in
    subst (λ (needs : List Need). ReadSoFar c.args.needs.now needs c.args.bytes.now c.push_draw.new.tape c.after-rest.result.now)
    (need_more (needs_of (take k runs)) c.loop-draw._draw need)
    (read_one c.args.needs.now passed c.args.bytes.now c.loop-draw.tape c.push_draw.new.tape c.loop-draw.rest.now c.after-rest.result.now need
    c.loop-draw.invariant
    (ap (λ (ns : List Need). slice_get ns (length passed)) (sym c.runs-run-items.ensures) ∙ there)
    (rw c.if-not-branch.false at c.in_ok-push_draw.ensures.ok)
    (c.after-rest.ensures ∙ ap (λ n. drop n c.loop-draw.rest.now) c.width-taken.ensures))

pub loop-run-preserved : goal.loop-run-preserved
loop-run-preserved c =
    let runs = c.runs-run-items.result.now in
    let k = c.loop-run.run-index in
    let all : c.loop-draw._draw ≡ (get_or runs k none).count = omega arith in
    subst (λ (needs : List Need). ReadSoFar c.args.needs.now needs c.args.bytes.now c.loop-draw.tape c.loop-draw.rest.now)
    (ap (λ n. needs_of (take k runs) ++ replicate n (get_or runs k none).need) all ∙ sym (runs_more runs k none c.loop-run-test.true))
    c.loop-draw.invariant
