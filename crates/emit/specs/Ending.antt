-- A list over which wires were made ends as their last state. A lemma with its proof, for the crates above.
use Rattle.std.proofs.Common.{◌≡◌, Bool, List, sym, subst}
use Rattle.step_lists.specs.Layout.{Steps}
use Rattle.step_lists.specs.Rules.{IsWellFormed}
use Rattle.step_lists.specs.declared.step.Shape.{Shape}

-- what holds of the last state holds of the list; that this is well-formed names it
pub at_end : {T : Type 0} {accepts : T → List Shape → List Shape → Bool} (P : Steps T → Type 0) (now : Steps T) {end : Steps T} → IsWellFormed accepts end → end ≡ now → P now → P end
at_end P now well_formed ends h = subst P (sym ends) h
