use Rattle.std.proofs.Common.{◌≡◌, ℕ, ◌*◌, ◌+◌, ◌-◌, drop, get_or, arith, sym, ◌∙◌}
use Rattle.std.proofs.lemmas.List.{at_drop_all}
use Rattle.query_tokens.specs.Scan.{value_after}
use Rattle.query_tokens.proofs.Digits.{value_after-le, value_after-step}
use Rattle.query_tokens.proofs.scan.value_of.Goals as goal

pub returns-in_err-value : goal.returns-in_err-value
returns-in_err-value c =
    let digits = c.args.digits.now in
    let i = c.loop-digit.digit-index in
    let next : ℕ = c.loop-digit.value * 10 + (get_or digits i 0 - 48) in
    let step = value_after-step c.loop-digit.value i digits c.loop-digit-test.true in
    let grown = value_after-le next (drop (i + 1) digits) in
    let whole : value_after next (drop (i + 1) digits) ≡ value_after 0 digits = sym step ∙ c.loop-digit.invariant.0 in
    rw c.from_residual.ensures (λ lt. c.in_err-value.ensures (omega (arith, grown, whole, lt)))

pub returns : goal.returns
returns c =
    let ended : value_after c.loop-digit.value (drop c.loop-digit.digit-index c.args.digits.now) ≡ c.loop-digit.value =
    at_drop_all (λ ds. value_after c.loop-digit.value ds) c.args.digits.now c.loop-digit.digit-index c.loop-digit-test.false in
    let whole : c.loop-digit.value ≡ value_after 0 c.args.digits.now = sym ended ∙ c.loop-digit.invariant.0 in
    (omega (arith, whole, c.loop-digit.invariant.1), whole)
