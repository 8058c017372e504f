use Rattle.std.proofs.Common.{◌≡◌, ℕ, ◌^◌, ◌<◌, Option, Some, None, arith}
use Rattle.std.specs.Option.{SomeIff, ok_or}
use Rattle.std.proofs.lemmas.Bool.Decides.{nat_tests}
use Rattle.std.proofs.lemmas.Grind.{common_steps}
use Rattle.words.specs.Numbers.{as_word, number_of}
use Rattle.words.specs.declared.num.ValueFault.TheVariants.{TooLarge}
use Rattle.words.proofs.num.read_num.Goals as goal

-- a value that is there exactly where it fits is the word of it
word_from_value : (o : Option ℕ) (n : ℕ) → SomeIff o (n < 2 ^ 64) n → ok_or o TooLarge ≡ as_word n
word_from_value None n h = grind (arith, nat_tests)
word_from_value (Some x) n h = grind (arith, nat_tests)

pub returns-then-is_decimal : goal.returns-then-is_decimal
unfolding number_of
returns-then-is_decimal c =
    let word = word_from_value _ _ c.decimal_value.ensures in
    grind (arith, common_steps, word, c.if-is_decimal.ensures)

pub returns-else-is_decimal : goal.returns-else-is_decimal
unfolding number_of
returns-else-is_decimal c = grind (arith, common_steps)
