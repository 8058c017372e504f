-- What a field writes is read back, and what is read as a number spells it.
use Rattle.std.proofs.Common.{◌≡◌, ℕ, zero, suc, ◌^◌, ◌<◌, ◌≤◌, ◌&&◌, Bool, true, false, not, if◌then◌else◌, nat_lt, arith, rules, List, length, Result, Ok, Err, refl, sym, subst, le_refl}
use Rattle.std.specs.Prelude.{◌==◌}
use Rattle.std.specs.Char.{is_ascii_digit}
use Rattle.std.specs.Fmt.{decimal}
use Rattle.std.specs.List.{list_all}
use Rattle.std.specs.Str.Parse.{AllDigits, IsNumeral, digits_value}
use Rattle.std.proofs.lemmas.Bool.Decides.{nat_tests}
use Rattle.std.proofs.lemmas.Fmt.{decimal_is_IsNumeral, length-decimal-le}
use Rattle.std.proofs.lemmas.Grind.{common_steps}
use Rattle.std.proofs.lemmas.Str.Parse.{IsDigitsTest, IsNumeralModel, digits_value_short, numerals_by_value, tells_digits}
use Rattle.words.specs.Columns.{word_of}
use Rattle.words.specs.Numbers.{as_word, is_decimal, number_of}
use Rattle.words.specs.Texts.{TextsComeBack}
use Rattle.words.specs.declared.column.Kind.{Kind}
use Rattle.words.specs.declared.column.Kind.TheVariants as kinds
use Rattle.words.specs.declared.num.ValueFault.{ValueFault}
use Rattle.words.specs.declared.num.ValueFault.TheVariants.{NotNumber, TooLarge}
use Rattle.tables.specs.Answer.{written}
use Rattle.table_laws.specs.Fields.{FieldsComeBack, IsValue, Spells, SpellsShortest}

-- the test of digits is std's
digits_test : IsDigitsTest (λ ds. list_all is_ascii_digit ds ≡ true)
digits_test = search rules

digits_model : IsNumeralModel (λ ds. list_all is_ascii_digit ds ≡ true) (digits_value 10)
digits_model = numerals_by_value _ digits_test

numerals : IsNumeralModel (AllDigits 10) (digits_value 10)
numerals = numerals_by_value _ tells_digits

decimal_test : (field : List ℕ) → IsNumeral 10 field → is_decimal field ≡ true
decimal_test field numeral = grind (arith, common_steps, nat_tests, numeral.0, digits_model.from field numeral.1)

-- what spells a number below 2^64 is read as it
number_back : (field : List ℕ) (word : ℕ) → word < 2 ^ 64 → Spells field word → number_of field ≡ Ok word
unfolding number_of
number_back field word below spells =
    rw (decimal_test field spells.digits, spells.value) (grind (arith, nat_tests))

pub spelled : (word : ℕ) → word < 2 ^ 64 → Spells (decimal word) word
spelled word below = let is = decimal_is_IsNumeral word below in record { digits = is.0; value = is.1 }

-- and only that
as_word_is : (fits : Bool) (n word : ℕ) → (if fits then Ok n else Err TooLarge) ≡ (let r : Result ℕ ValueFault = Ok word in r) → n ≡ word
as_word_is true n word is = cc
as_word_is false n word is = cc

fits_below : (fits : Bool) (n word : ℕ) → nat_lt n (2 ^ 64) ≡ fits → (if fits then Ok n else Err TooLarge) ≡ (let r : Result ℕ ValueFault = Ok word in r) → n < 2 ^ 64
fits_below true n word below is = grind (arith, nat_tests)
fits_below false n word below is = cc

record IsRead (field : List ℕ) (word : ℕ) : Type 0 where
  test : is_decimal field ≡ true
  value : digits_value 10 field ≡ word
  below : digits_value 10 field < 2 ^ 64

read_step : (field : List ℕ) (digits : Bool) (word : ℕ) → is_decimal field ≡ digits → (if digits then as_word (digits_value 10 field) else Err NotNumber) ≡ (let r : Result ℕ ValueFault = Ok word in r) → IsRead field word
read_step field true word test is =
    record { test = test; value = as_word_is (nat_lt (digits_value 10 field) (2 ^ 64)) (digits_value 10 field) word is; below = fits_below (nat_lt (digits_value 10 field) (2 ^ 64)) (digits_value 10 field) word refl is }
read_step field false word test is = cc

number_read : (field : List ℕ) (word : ℕ) → number_of field ≡ Ok word → IsRead field word
unfolding number_of
number_read field word is = read_step field (is_decimal field) word refl is

some_digit : (n : ℕ) (rest : Bool) → (not (n == 0) && rest) ≡ true → (0 < n) × (rest ≡ true)
some_digit zero rest is = cc
some_digit (suc n) rest is = (omega arith, grind (arith, nat_tests, common_steps))

read_spells : (field : List ℕ) (word : ℕ) → IsRead field word → Spells field word
read_spells field word read =
    let parts = some_digit (length field) (list_all is_ascii_digit field) read.test in
    record { digits = (parts.0, digits_model.to field parts.1); value = read.value }

number_below : (field : List ℕ) (word : ℕ) → IsRead field word → word < 2 ^ 64
number_below field word read = subst (λ n. n < 2 ^ 64) read.value read.below

number_comes_back : (word : ℕ) → word < 2 ^ 64 → number_of (decimal word) ≡ Ok word
number_comes_back word below = number_back (decimal word) word below (spelled word below)

pub values_back : TextsComeBack → (kind : Kind) (word : ℕ) → IsValue kind word → word_of kind (written kind word) ≡ Ok word
values_back texts kinds.Num word value = number_comes_back word (number_below value.0 word (number_read value.0 word value.1))
values_back texts kinds.Text word value = subst (λ field. word_of kinds.Text field ≡ Ok word) (sym (texts value.0 word value.1)) value.1
values_back texts kinds.Flag word value = number_comes_back word (number_below value.0 word (number_read value.0 word value.1))

-- no shorter digits are a number's
shortest : (word : ℕ) → word < 2 ^ 64 → (other : List ℕ) → Spells other word → length (decimal word) ≤ length other
shortest word below other spells =
    let value : digits_value 10 other < 10 ^ length other = digits_value_short numerals other (length other) spells.digits.1 (le_refl (length other)) in
    length-decimal-le (length other) word spells.digits.0 (subst (λ n. n < 10 ^ length other) spells.value value) below

spells_shortest : (word : ℕ) → word < 2 ^ 64 → SpellsShortest (decimal word) word
spells_shortest word below = record { spells = spelled word below; least = shortest word below }

pub fields_come_back : TextsComeBack → FieldsComeBack
fields_come_back texts = record {
  numbers = λ word below. (spells_shortest word below, number_comes_back word below);
  flags = spells_shortest;
  texts = texts;
  values = values_back texts;
  spelled = λ field word. ((λ is. (read_spells field word (number_read field word is), number_below field word (number_read field word is))), (λ is. number_back field word is.1 is.0));
}
