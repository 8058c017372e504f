-- What a text's word tells of its bytes.
use Rattle.std.proofs.Common.{◌≡◌, ℕ, ◌≤◌, nat_lt, Bool, true, false, if◌then◌else◌, List, length, Result, Ok, Err, refl, arith}
use Rattle.std.specs.List.{list_all}
use Rattle.std.proofs.lemmas.Bool.Decides.{nat_tests}
use Rattle.std.proofs.lemmas.Grind.{common_steps}
use Rattle.words.specs.Texts.{is_text_byte, packed, text_of}
use Rattle.words.specs.declared.num.ValueFault.{ValueFault}
use Rattle.words.specs.declared.num.ValueFault.TheVariants.{TextLong, TextByte}

-- a text of at most 8 bytes, and its word
pub record IsTextOf (bytes : List ℕ) (word : ℕ) : Type 0 where
  pub fits : length bytes ≤ 8
  pub all : list_all is_text_byte bytes ≡ true
  pub is : word ≡ packed bytes

from_tests : (long all : Bool) (word other : ℕ) → (if long then Err TextLong else if all then Ok word else Err TextByte) ≡ (let r : Result ℕ ValueFault = Ok other in r)
    → (long ≡ false) × (all ≡ true) × (other ≡ word)
from_tests true all word other e = cc
from_tests false true word other e = (refl, refl, grind (arith, common_steps))
from_tests false false word other e = cc

pub text_facts : (bytes : List ℕ) (word : ℕ) → text_of bytes ≡ Ok word → IsTextOf bytes word
text_facts bytes word e =
    let tests = from_tests (nat_lt 8 (length bytes)) (list_all is_text_byte bytes) (packed bytes) word e in
    record { fits = grind (arith, nat_tests, tests.0); all = tests.1; is = tests.2 }
