-- Answers of steps that can fail, and what a call says of the answer that its arguments have.
use Rattle.std.specs.Prelude.{◌≡◌, ⊤, Result, Ok, Err}
use Rattle.tables.specs.declared.fault.TableFault.{TableFault}
use Rattle.tables.specs.declared.fault.TableFault.TheVariants.{Memory}

-- the answer of a second step where the first gave a value, and else the first's fault
abbrev pub and_then : {A B E : Type 0} → Result A E → (A → Result B E) → Result B E
and_then (Ok x) next = next x
and_then (Err e) next = Err e

-- the answer with another value
abbrev pub map_ok : {A B E : Type 0} → (A → B) → Result A E → Result B E
map_ok f (Ok x) = Ok (f x)
map_ok f (Err e) = Err e

-- the call gave exactly this answer, or had no memory
abbrev pub Gives : {A B : Type 0} → (B → A) → Result A TableFault → Result B TableFault → Type 0
Gives view answer (Ok x) = answer ≡ Ok (view x)
Gives view answer (Err Memory) = ⊤
Gives view answer (Err fault) = answer ≡ Err fault
