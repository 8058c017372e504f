-- What a reader of the code answers, against what reading gives.
use Rattle.std.specs.Prelude.{◌≡◌, List, Result, Ok, Err}
use Rattle.query_text.specs.declared.stop.Stop.{Stop}
use Rattle.query_text.specs.declared.stop.Stop.TheVariants.{Text, Memory}
use Rattle.query_text.specs.Reading.{Read}

-- the stop is where reading stops, unless memory ran out
abbrev pub Stops : {B T : Type 0} → Stop → List T → Result B (List T) → Type 0
Stops Text left read = read ≡ Err left
Stops Memory left read = Unit {0}

-- the value, seen by view, and what is left are what reading gives
abbrev pub Gives : {A B T : Type 0} → (A → B) → Result A Stop → List T → Read T B → Type 0
Gives view (Ok x) left read = read ≡ Ok (view x, left)
Gives view (Err e) left read = Stops e left read

-- what is left is what reading gives
abbrev pub Passes : {A T : Type 0} → Result A Stop → List T → Result (List T) (List T) → Type 0
Passes (Ok x) left read = read ≡ Ok left
Passes (Err e) left read = Stops e left read

-- the value is what reading all gives
abbrev pub GivesWhole : {A T : Type 0} → Result A Stop → List T → Result A (List T) → Type 0
GivesWhole (Ok x) left read = read ≡ Ok x
GivesWhole (Err e) left read = Stops e left read
