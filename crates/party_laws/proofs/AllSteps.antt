-- Each kind of step at one party.
use Rattle.std.proofs.Common.{ℕ, Bool, List}
use Rattle.lanes.specs.declared.party.Party.{Party}
use Rattle.lanes.specs.Items.{LaneLengths}
use Rattle.tapes.specs.Laws.{OrdersAreClosed}
use Rattle.step_lists.specs.declared.step.Shape.{Shape}
use Rattle.step_lists.specs.declared.step.Step.{Step}
use Rattle.step_lists.specs.declared.step.Step.TheVariants.{Const, Lin, And, Share, Reveal, Steer, Tell, Work, Flag}
use Rattle.step_lists.specs.Layout.{Layout}
use Rattle.step_lists.specs.Draws.{ThreeTapes}
use Rattle.step_lists.specs.Machine.{Machine}
use Rattle.party_laws.proofs.Cuts.{IsReady, IsCut}
use Rattle.party_laws.proofs.LocalSteps.{const_cut, lin_cut, tell_cut, work_cut, flag_cut}
use Rattle.party_laws.proofs.MaskedSteps.{and_cut, share_cut}
use Rattle.party_laws.proofs.RevealStep.{reveal_cut}
use Rattle.party_laws.proofs.SteerStep.{steer_cut}

module _ {T : Type 0} (accepts : T → List Shape → List Shape → Bool) (answer : T → List (List ℕ) → List (List ℕ)) where
  pub step_cut : LaneLengths → OrdersAreClosed → (v : Party) (l : Layout) (m : Machine) (s : Step T) (ds : ThreeTapes) → IsReady accepts answer l m s ds → IsCut accepts answer v l m s ds
  step_cut lengths closed v l m (Const words) ds h = const_cut accepts answer v l m words ds
  step_cut lengths closed v l m (Lin op) ds h = lin_cut accepts answer v l m op ds
  step_cut lengths closed v l m (And left right) ds h = and_cut accepts answer v l m left right ds h
  step_cut lengths closed v l m (Share p s) ds h = share_cut accepts answer v l m p s ds h
  step_cut lengths closed v l m (Reveal to moved shown) ds h = reveal_cut accepts answer lengths v l m to moved shown ds h
  step_cut lengths closed v l m (Steer by s moved) ds h = steer_cut accepts answer lengths closed v l m by s moved ds h
  step_cut lengths closed v l m (Tell source target s) ds h = tell_cut accepts answer v l m source target s ds h
  step_cut lengths closed v l m (Work p task takes gives) ds h = work_cut accepts answer v l m p task takes gives ds
  step_cut lengths closed v l m (Flag p s) ds h = flag_cut accepts answer v l m p s ds h
