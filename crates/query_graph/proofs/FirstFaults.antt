-- The first fault of a list, part by part.
use Rattle.std.proofs.Common.{◌≡◌, ℕ, ◌+◌, ◌<◌, List, Option, None, length, get_or, drop, suc, refl, sym, ap, ◌∙◌, add-one}
use Rattle.std.proofs.Math.Seq.{drop-cons}
use Rattle.query_graph.specs.declared.fault.GraphFault.{GraphFault}
use Rattle.query_graph.specs.declared.fault.GraphFault.TheVariants as faults
use Rattle.query_graph.specs.Faults.{Faults, first_fault, first_of}

-- a part at this place, and the parts behind it
pub first_fault-drop : {A : Type 0} (fault : A → Option GraphFault) (xs : List A) (i : ℕ) (x : A) → i < length xs → x ≡ get_or xs i x
    → first_fault fault (drop i xs) ≡ first_of (fault x) (first_fault fault (drop (i + 1) xs))
first_fault-drop fault xs i x within is =
    ap (first_fault fault) (drop-cons xs i x within)
    ∙ ap (λ y. first_of (fault y) (first_fault fault (drop (suc i) xs))) (sym is)
    ∙ ap (λ n. first_of (fault x) (first_fault fault (drop n xs))) (sym (add-one i))

-- an answer for the first fault is one for all
pub faults-first : (answer : GraphFault) (fault other : Option GraphFault) → Faults answer fault → Faults answer (first_of fault other)
faults-first (faults.Unknown line name) fault other h = rw h refl
faults-first (faults.Taken line name) fault other h = rw h refl
faults-first (faults.Kind line) fault other h = rw h refl
faults-first (faults.Shape line) fault other h = rw h refl
faults-first (faults.Size line) fault other h = rw h refl
faults-first faults.NoOutput fault other h = rw h refl
faults-first faults.Memory fault other h = tt

-- the part at this place is without fault
pub first_fault-passes : {A : Type 0} (fault : A → Option GraphFault) (xs : List A) (i : ℕ) (x : A) (total : Option GraphFault) → i < length xs → x ≡ get_or xs i x
    → total ≡ first_fault fault (drop i xs) → fault x ≡ None → total ≡ first_fault fault (drop (i + 1) xs)
first_fault-passes fault xs i x total within is so_far passes =
    so_far ∙ first_fault-drop fault xs i x within is ∙ ap (λ f. first_of f (first_fault fault (drop (i + 1) xs))) passes

-- the part at this place has the answer's fault
pub first_fault-fails : {A : Type 0} (answer : GraphFault) (fault : A → Option GraphFault) (xs : List A) (i : ℕ) (x : A) (total : Option GraphFault) → i < length xs
    → x ≡ get_or xs i x → total ≡ first_fault fault (drop i xs) → Faults answer (fault x) → Faults answer total
first_fault-fails answer fault xs i x total within is so_far fails =
    rw (so_far ∙ first_fault-drop fault xs i x within is) (faults-first answer (fault x) (first_fault fault (drop (i + 1) xs)) fails)
