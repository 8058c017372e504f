-- A wire's value told in other words, and a wire in a later state.
use Rattle.std.proofs.Common.{◌≡◌, ℕ, ◌∙◌, List, arith}
use Rattle.wires.specs.Environment.{Environment}
use Rattle.wires.specs.Growth.{Carries, Grows}
use Rattle.wires.specs.declared.wire.Wire.{Wire}

pub restated : (P : Environment → Type 0) (shape : List ℕ) (wire : Wire) (n : ℕ) (f g : Environment → List ℕ) → Carries P shape wire n f
    → ((v : Environment) → P v → f v ≡ g v) → Carries P shape wire n g
restated P shape wire n f g h same = record { made = h.made; lanes = h.lanes; value = λ v possible. h.value v possible ∙ same v possible }

pub carried_on : {S : Type 0} (grown : S → S → Type 0) (possible : S → Environment → Type 0) (shape : S → List ℕ) (old new : S) (wire : Wire) (n : ℕ) (f : Environment → List ℕ)
    → Grows grown possible shape old new → Carries (possible old) (shape old) wire n f → Carries (possible new) (shape new) wire n f
carried_on grown possible shape old new wire n f grows h = record {
  made = omega (arith, h.made, grows.keeps.count);
  lanes = grows.keeps.lanes wire.0 h.made ∙ h.lanes;
  value = λ v is. h.value v (grows.within v is);
}
