-- What a text is compiled to.
use Rattle.std.specs.Prelude.{◌≡◌, List, ℕ, None, Result, Ok, Err, ⊤}
use Rattle.lowering.specs.Isolated.{IsIsolated}
use Rattle.lowering.specs.Plan.{Plan, IsCorrect, IsPlaced, ShowsAnswers}
use Rattle.lowering.specs.Refusals.{IsAccepted, IsRefusal, IsUnbuilt}
use Rattle.lowering.specs.Unbuilt.{unbuilt}
use Rattle.lowering.specs.declared.fault.CompileFault.{CompileFault}
use Rattle.lowering.specs.declared.fault.CompileFault.TheVariants.{Refused, NotBuilt, Memory}

-- a plan of a text that is accepted, and of which nothing isn't built: it is correct, shows no more than the answers, is
-- isolated, and keeps to the shared cost
pub record IsPlanOf (text : List ℕ) (plan : Plan) : Type 0 where
  pub text_is : plan.text ≡ text
  pub accepted : IsAccepted text plan.graph
  pub built : unbuilt plan.graph ≡ None
  pub correct : IsCorrect plan
  pub shows : ShowsAnswers plan
  pub isolated : IsIsolated plan
  pub placed : IsPlaced plan

abbrev pub Compiles : List ℕ → Result Plan CompileFault → Type 0
Compiles text (Ok plan) = IsPlanOf text plan
Compiles text (Err (Refused refusal)) = IsRefusal text refusal
Compiles text (Err (NotBuilt line)) = IsUnbuilt text line
Compiles text (Err Memory) = ⊤
