-- What the bytes of a field mean as a number.
use Rattle.std.specs.Prelude.{ℕ, ◌^◌, ◌&&◌, not, nat_lt, Bool, if◌then◌else◌, List, Result, Ok, Err, length, ◌==◌}
use Rattle.std.specs.Char.{is_ascii_digit}
use Rattle.std.specs.List.{list_all}
use Rattle.std.specs.Str.Parse.{digits_value}
use Rattle.words.specs.declared.num.ValueFault.{ValueFault}
use Rattle.words.specs.declared.num.ValueFault.TheVariants.{NotNumber, TooLarge}

-- one ASCII digit or more, and nothing else
abbrev pub is_decimal : List ℕ → Bool
is_decimal bytes = not (length bytes == 0) && list_all is_ascii_digit bytes

-- the number, where it fits a word
abbrev pub as_word : ℕ → Result ℕ ValueFault
as_word n = if nat_lt n (2 ^ 64) then Ok n else Err TooLarge

-- the number that the bytes write in decimal, leading zeros allowed, or why they write none
unfoldable pub number_of : List ℕ → Result ℕ ValueFault
number_of bytes = if is_decimal bytes then as_word (digits_value 10 bytes) else Err NotNumber
