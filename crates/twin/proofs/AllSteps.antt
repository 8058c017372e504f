-- Each kind of step keeps what the laws of the twin rest on.
use Rattle.std.proofs.Common.{ℕ, Bool, List}
use Rattle.step_lists.specs.declared.step.Shape.{Shape}
use Rattle.step_lists.specs.declared.step.Step.{Step}
use Rattle.step_lists.specs.declared.step.Step.TheVariants.{Const, Lin, And, Share, Reveal, Steer, Tell, Work, Flag}
use Rattle.step_lists.specs.Shapes.{IsLawful}
use Rattle.twin.proofs.Facts.{Facts}
use Rattle.twin.proofs.Steps.{StepHolds}
use Rattle.twin.proofs.LocalSteps.{const_holds, lin_holds}
use Rattle.twin.proofs.MaskedHold.{and_holds, share_holds}
use Rattle.twin.proofs.Reveals.{reveal_holds}
use Rattle.twin.proofs.Steers.{steer_holds}
use Rattle.twin.proofs.OpenSteps.{tell_holds, work_holds, flag_holds}

module _ {T : Type 0} (accepts : T → List Shape → List Shape → Bool) (answer : T → List (List ℕ) → List (List ℕ)) where
  pub step_holds : Facts → IsLawful accepts answer → (s : Step T) → StepHolds accepts answer s
  step_holds facts law (Const words) = const_holds accepts answer facts words
  step_holds facts law (Lin op) = lin_holds accepts answer facts op
  step_holds facts law (And left right) = and_holds accepts answer facts left right
  step_holds facts law (Share p s) = share_holds accepts answer facts p s
  step_holds facts law (Reveal to moved shown) = reveal_holds accepts answer facts to moved shown
  step_holds facts law (Steer by s moved) = steer_holds accepts answer facts by s moved
  step_holds facts law (Tell source target s) = tell_holds accepts answer source target s
  step_holds facts law (Work p task takes gives) = work_holds accepts answer law p task takes gives
  step_holds facts law (Flag p s) = flag_holds accepts answer p s
