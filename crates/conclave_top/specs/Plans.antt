-- Which texts are compiled to a plan, and with which line another text is refused.
use Rattle.std.specs.Prelude.{◌≡◌, ℕ, List, Result, Ok, Err, ◌⊎◌, ⊤}
use Rattle.outside.specs.Folder.{Files, Holds}
use Rattle.std.specs.Prelude.{Option}
use Rattle.lowering.specs.Compiled.{IsPlanOf}
use Rattle.lowering.specs.Plan.{Plan}
use Rattle.lowering.specs.RefusalLines.{IsRefusalLine}
use Rattle.lowering.specs.Refusals.{IsRefusal, IsUnbuilt}
use Rattle.lowering.specs.declared.fault.Refusal.{Refusal}
use Rattle.conclave_top.specs.declared.end.Stop.{Stop}
use Rattle.conclave_top.specs.declared.end.Stop.TheVariants.{Line, Memory}
use Rattle.conclave_top.specs.Job.{Compilation}
use Rattle.conclave_top.specs.Lines.{not_built}

-- by the first rule that fails
pub record IsRuledOut (text line : List ℕ) : Type 0 where
  pub refusal : Refusal
  pub is : IsRefusal text refusal
  pub says : IsRefusalLine text refusal line

-- or for what isn't built
pub record IsPutOff (text line : List ℕ) : Type 0 where
  pub at : ℕ
  pub is : IsUnbuilt text at
  pub says : line ≡ not_built at

abbrev pub IsRefusedPlan : List ℕ → List ℕ → Type 0
IsRefusedPlan text line = IsRuledOut text line ⊎ IsPutOff text line

-- a text is compiled to a plan that is correct, shows no more than the answers, and keeps to the shared cost
abbrev pub plans : Compilation Plan
plans = record { refuses = IsRefusedPlan; gives = IsPlanOf }

-- what compiling a text to a plan gives
abbrev pub Plans : List ℕ → Result Plan Stop → Type 0
Plans text (Ok plan) = IsPlanOf text plan
Plans text (Err (Line line)) = IsRefusedPlan text line.items
Plans text (Err Memory) = ⊤

-- the file of this name has a text with this plan
pub record HasPlanIn (files : Option Files) (query : List ℕ) (plan : Plan) : Type 0 where
  pub text : List ℕ
  pub held : Holds files query text
  pub compiled : IsPlanOf text plan
