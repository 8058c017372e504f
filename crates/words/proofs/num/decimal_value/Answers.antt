use Rattle.std.proofs.Common.{◌≡◌, ℕ, ◌^◌, ◌<◌, ◌+◌, ◌*◌, List, length, take, get_or, arith}
use Rattle.std.specs.Char.{digit_value}
use Rattle.std.specs.Str.Parse.{digits_value}
use Rattle.std.proofs.lemmas.Int.Digits.{digits_value_more}
use Rattle.std.proofs.lemmas.Str.Parse.{digits_value-take-le}
use Rattle.std.proofs.lemmas.Grind.{common_steps}
use Rattle.words.proofs.num.decimal_value.Goals as goal

pub loop-digit-preserved : goal.loop-digit-preserved
loop-digit-preserved c =
    let more = digits_value_more 10 c.args.digits.now c.loop-digit.digit-index (omega arith) in
    grind (arith, common_steps, more, c.in_ok-value.ensures)

-- where a part's value is too large, so is the whole's
too_large : (digits : List ℕ) (i value : ℕ) → i < length digits → value ≡ digits_value 10 (take i digits)
    → (value * 10 + digit_value (get_or digits i 0) < 2 ^ 64 → ⊥) → digits_value 10 digits < 2 ^ 64 → ⊥
too_large digits i value inside is past below =
    let more = digits_value_more 10 digits i inside in
    let part = digits_value-take-le 10 digits (i + 1) (omega arith) in
    past (omega arith)

pub returns-in_err-value : goal.returns-in_err-value
returns-in_err-value c =
    rw c.from_residual.ensures (too_large _ _ _ c.loop-digit-test.true c.loop-digit.invariant.0 c.in_err-value.ensures)
