-- The first fault of several, and what a check answers.
use Rattle.std.specs.Prelude.{◌≡◌, Bool, true, false, List, [], ◌∷◌, Option, Some, None, Result, Ok, Err}
use Rattle.query_graph.specs.declared.fault.GraphFault.{GraphFault}
use Rattle.query_graph.specs.declared.fault.GraphFault.TheVariants.{Memory}

-- the first fault, or else the other
abbrev pub first_of : Option GraphFault → Option GraphFault → Option GraphFault
first_of (Some fault) other = Some fault
first_of None other = other

-- the first fault of a list's parts
abbrev pub first_fault : {A : Type 0} → (A → Option GraphFault) → List A → Option GraphFault
first_fault fault [] = None
first_fault fault (x ∷ xs) = first_of (fault x) (first_fault fault xs)

-- the fault, unless the test passes
abbrev pub unless : Bool → GraphFault → Option GraphFault
unless true fault = None
unless false fault = Some fault

-- the answer is the fault, or memory ran out
abbrev pub Faults : GraphFault → Option GraphFault → Type 0
Faults Memory fault = Unit {0}
Faults answer fault = fault ≡ Some answer

-- a check passes exactly where there is no fault, and else answers it, unless memory ran out
abbrev pub Passes : {A : Type 0} → Result A GraphFault → Option GraphFault → Type 0
Passes (Ok x) fault = fault ≡ None
Passes (Err answer) fault = Faults answer fault
