-- A fault of one answer as that of another, and the count of records.
use Rattle.std.proofs.Common.{◌≡◌, ℕ, ◌+◌, ◌≤◌, Bool, true, false, cond, List, [], ◌∷◌, Result, Ok, Err, length, refl, arith}
use Rattle.std.specs.Prelude.{nat_lt}
use Rattle.std.proofs.lemmas.Bool.Decides.{nat_tests}
use Rattle.tables.specs.File.{rows_fault, within}
use Rattle.tables.specs.Outcome.{Gives}
use Rattle.tables.specs.declared.fault.TableFault.{TableFault}
use Rattle.tables.specs.declared.fault.TableFault.TheVariants.{Header, Rows, Fields, Value, Memory}

-- a fault that is told of one answer is told of another, where it is then the other's
pub gives_along : {A B C D : Type 0} (view : B → A) (other_view : D → C) (answer : Result A TableFault) (other : Result C TableFault) (fault : TableFault)
    → (answer ≡ Err fault → other ≡ Err fault) → Gives view answer (Err fault) → Gives other_view other (Err fault)
gives_along view other_view answer other Header along given = along given
gives_along view other_view answer other (Rows declared found) along given = along given
gives_along view other_view answer other (Fields line) along given = along given
gives_along view other_view answer other (Value line column fault) along given = along given
gives_along view other_view answer other Memory along given = tt

within_cases : (b : Bool) (fault : TableFault) → (let r : Result (Unit {0}) TableFault = cond b (Err fault) (Ok tt) in r) ≡ Ok tt → b ≡ false
within_cases true fault is = cc
within_cases false fault is = refl

-- so many records that are no more than were declared
pub within_fits : (declared found : ℕ) → within declared found ≡ Ok tt → found ≤ declared
within_fits declared found is =
    let not_over = within_cases (nat_lt declared found) (rows_fault declared found) is in
    grind (arith, nat_tests)

pub fits_within : (declared found : ℕ) → found ≤ declared → within declared found ≡ Ok tt
fits_within declared found fits =
    let not_over : nat_lt declared found ≡ false = grind (arith, nat_tests) in
    rw not_over refl

pub no_more : {X : Type 0} (xs : List X) (n : ℕ) → n + length xs ≤ n → xs ≡ []
no_more [] n fits = refl
no_more (x ∷ xs) n fits = absurd (omega arith)
