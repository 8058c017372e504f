-- What is due on the bytes of tapes is one.
use Rattle.std.proofs.Common.{◌≡◌, ◌≢◌, ℕ, ◌<◌, List, Result, Ok, Err, ◌⊎◌, inl, inr, arith, refl, ap, sym, subst, ◌∙◌}
use Rattle.lanes.specs.Party.{number_of}
use Rattle.lanes.specs.Three.{at}
use Rattle.lanes.specs.declared.party.Party.{Party}
use Rattle.lanes.specs.declared.party.Party.TheVariants.{First, Second, Third}
use Rattle.lanes.specs.declared.three.Three.{Three}
use Rattle.step_lists.specs.Draws.{ThreeTapes}
use Rattle.tapes.specs.ReadTape.{ReadsTape}
use Rattle.tapes.specs.declared.draw.Draw.{Draw}
use Rattle.tapes.specs.declared.draw.Need.{Need}
use Rattle.tapes.specs.declared.tape_bytes.TapeFault.{TapeFault}
use Rattle.tapes.specs.declared.tape_bytes.TapeFault.TheVariants as faults
use Rattle.conclave_top.specs.Lines.{tape_line}
use Rattle.conclave_top.specs.PartyFiles.{tape_file}
use Rattle.conclave_top.specs.Tapes.{AreSpelled, IsFaultyTape, IsTapeFault}
use Rattle.conclave_top.proofs.TapeAnswers.{one_answer}

-- a value for each party is told by theirs
abbrev pub three : {A : Type 0} → A → A → A → Three A
three x y z = record { first = x; second = y; third = z }

pub same_three : {A : Type 0} (a b : Three A) → a.first ≡ b.first → a.second ≡ b.second → a.third ≡ b.third → a ≡ b
same_three a b first second third = ap (λ x. three x a.second a.third) first ∙ ap (λ y. three b.first y a.third) second ∙ ap (λ z. three b.first b.second z) third

abbrev read : List Draw → Result (List Draw) TapeFault
read draws = Ok draws

abbrev faulty : TapeFault → Result (List Draw) TapeFault
faulty fault = Err fault

-- a tape, a fault, and never both
answers_of_tapes : (a b : List Draw) → ((read a ≡ read b) ⊎ ((read a ≡ faulty faults.Memory) ⊎ (read b ≡ faulty faults.Memory))) → a ≡ b
answers_of_tapes a b (inl same) = cc
answers_of_tapes a b (inr (inl none)) = cc
answers_of_tapes a b (inr (inr none)) = cc

pub one_tape : (needs : List Need) (bytes : List ℕ) (a b : List Draw) → ReadsTape needs bytes (Ok a) → ReadsTape needs bytes (Ok b) → a ≡ b
one_tape needs bytes a b first second = answers_of_tapes a b (one_answer needs bytes (Ok a) (Ok b) first second)

answers_of_both : (a : List Draw) (fault : TapeFault) → fault ≢ faults.Memory
    → ((read a ≡ faulty fault) ⊎ ((read a ≡ faulty faults.Memory) ⊎ (faulty fault ≡ faulty faults.Memory))) → ⊥
answers_of_both a fault real (inl same) = cc
answers_of_both a fault real (inr (inl none)) = cc
answers_of_both a fault real (inr (inr none)) = real (cc)

pub not_both : (needs : List Need) (bytes : List ℕ) (a : List Draw) (fault : TapeFault) → fault ≢ faults.Memory → ReadsTape needs bytes (Ok a) → ReadsTape needs bytes (Err fault) → ⊥
not_both needs bytes a fault real first second = answers_of_both a fault real (one_answer needs bytes (Ok a) (Err fault) first second)

answers_of_faults : (a b : TapeFault) → a ≢ faults.Memory → b ≢ faults.Memory
    → ((faulty a ≡ faulty b) ⊎ ((faulty a ≡ faulty faults.Memory) ⊎ (faulty b ≡ faulty faults.Memory))) → a ≡ b
answers_of_faults a b real sound (inl same) = cc
answers_of_faults a b real sound (inr (inl none)) = absurd (real (cc))
answers_of_faults a b real sound (inr (inr none)) = absurd (sound (cc))

one_fault : (needs : List Need) (bytes : List ℕ) (a b : TapeFault) → a ≢ faults.Memory → b ≢ faults.Memory → ReadsTape needs bytes (Err a) → ReadsTape needs bytes (Err b) → a ≡ b
one_fault needs bytes a b real sound first second = answers_of_faults a b real sound (one_answer needs bytes (Err a) (Err b) first second)

-- the tapes that three parties' bytes spell
pub one_spelling : (needs : Three (List Need)) (bytes : Three (List ℕ)) (a b : ThreeTapes) → AreSpelled needs bytes a → AreSpelled needs bytes b → a ≡ b
one_spelling needs bytes a b first second =
    same_three a b
    (one_tape needs.first bytes.first a.first b.first (first First) (second First))
    (one_tape needs.second bytes.second a.second b.second (first Second) (second Second))
    (one_tape needs.third bytes.third a.third b.third (first Third) (second Third))

-- bytes that spell tapes have no fault
pub spelled_or_faulty : (needs : Three (List Need)) (bytes : Three (List ℕ)) (draws : ThreeTapes) (tapes line : List ℕ) → AreSpelled needs bytes draws → IsTapeFault needs bytes tapes line → ⊥
spelled_or_faulty needs bytes draws tapes line spelled fault =
    not_both (at fault.party needs) (at fault.party bytes) (at fault.party draws) fault.faulty.fault fault.faulty.real (spelled fault.party) fault.faulty.faulty

-- the first that spells none is one
in_order : (p q : Party) → (number_of p < number_of q) ⊎ ((number_of q < number_of p) ⊎ (p ≡ q))
in_order First First = inr (inr refl)
in_order First Second = inl (omega arith)
in_order First Third = inl (omega arith)
in_order Second First = inr (inl (omega arith))
in_order Second Second = inr (inr refl)
in_order Second Third = inl (omega arith)
in_order Third First = inr (inl (omega arith))
in_order Third Second = inr (inl (omega arith))
in_order Third Third = inr (inr refl)

later_fault : (needs : Three (List Need)) (bytes : Three (List ℕ)) (tapes line other : List ℕ) (a : IsTapeFault needs bytes tapes line) (b : IsTapeFault needs bytes tapes other)
    → number_of a.party < number_of b.party → ⊥
later_fault needs bytes tapes line other a b less =
    let earlier = b.earlier a.party less in
    not_both (at a.party needs) (at a.party bytes) earlier.0 a.faulty.fault a.faulty.real earlier.1 a.faulty.faulty

one_line : (needs : List Need) (bytes tapes : List ℕ) (party : Party) (line other : List ℕ) → IsFaultyTape needs bytes tapes party line → IsFaultyTape needs bytes tapes party other → line ≡ other
one_line needs bytes tapes party line other a b =
    a.says ∙ ap (tape_line (tape_file tapes party)) (one_fault needs bytes a.fault b.fault a.real b.real a.faulty b.faulty) ∙ sym b.says

one_fault_by : (needs : Three (List Need)) (bytes : Three (List ℕ)) (tapes line other : List ℕ) (a : IsTapeFault needs bytes tapes line) (b : IsTapeFault needs bytes tapes other)
    → ((number_of a.party < number_of b.party) ⊎ ((number_of b.party < number_of a.party) ⊎ (a.party ≡ b.party))) → line ≡ other
one_fault_by needs bytes tapes line other a b (inl less) = absurd (later_fault needs bytes tapes line other a b less)
one_fault_by needs bytes tapes line other a b (inr (inl less)) = absurd (later_fault needs bytes tapes other line b a less)
one_fault_by needs bytes tapes line other a b (inr (inr same)) =
    one_line (at b.party needs) (at b.party bytes) tapes b.party line other (subst (λ (p : Party). IsFaultyTape (at p needs) (at p bytes) tapes p line) same a.faulty) b.faulty

pub one_tape_fault : (needs : Three (List Need)) (bytes : Three (List ℕ)) (tapes line other : List ℕ) → IsTapeFault needs bytes tapes line → IsTapeFault needs bytes tapes other → line ≡ other
one_tape_fault needs bytes tapes line other a b = one_fault_by needs bytes tapes line other a b (in_order a.party b.party)
