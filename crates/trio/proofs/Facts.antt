-- The laws of the crates below, in one record.
use Rattle.std.proofs.Common.{ℕ, Bool, List}
use Rattle.step_lists.specs.declared.step.Shape.{Shape}
use Rattle.party_laws.specs.InMachine.{PartsAreInMachine, PartsHaveWords}
use Rattle.party_laws.specs.StageWords.{StagesHold, FrontsFit, FrontsGrow}

pub record Facts {T : Type 0} (accepts : T → List Shape → List Shape → Bool) (answer : T → List (List ℕ) → List (List ℕ)) : Type 0 where
  pub machine : PartsAreInMachine accepts answer
  pub have : PartsHaveWords accepts answer
  pub stages : StagesHold accepts answer
  pub fit : FrontsFit accepts
  pub grow : FrontsGrow answer
