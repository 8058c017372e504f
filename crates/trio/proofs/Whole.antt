-- Whatever the turns, all end behind enough rounds.
use Rattle.std.proofs.Common.{◌≡◌, ℕ, suc, Bool, List, ◌++◌, length, take, drop, sym, subst}
use Rattle.std.proofs.lemmas.List.{take-append-drop}
use Rattle.lanes.specs.declared.party.Party.{Party}
use Rattle.lanes.specs.Items.{WordsOfParts}
use Rattle.lanes.specs.Word.{AreWords}
use Rattle.step_lists.specs.declared.step.Shape.{Shape}
use Rattle.step_lists.specs.Layout.{Steps}
use Rattle.step_lists.specs.Draws.{ThreeTapes}
use Rattle.step_lists.specs.Open.{SlotWords}
use Rattle.step_lists.specs.Phases.{link}
use Rattle.step_lists.specs.Machine.{joint_of}
use Rattle.joint_machine.specs.Below.{AreWordsOn}
use Rattle.party_core.specs.MoveLaws.{MovesKeep}
use Rattle.trio.specs.declared.stepped.Stepped.TheVariants.{Moved}
use Rattle.trio.specs.Running.{Running, taken_on, waiting_on, moved, stepped, in_turns, rounds, HaveEnded}
use Rattle.trio.specs.RunOf.{IsRunOf, all_moves_left}
use Rattle.trio.proofs.Facts.{Facts}
use Rattle.trio.proofs.Least.{goes_on}
use Rattle.trio.proofs.Keeping.{AreWaiting, step_keeps, step_lowers}
use Rattle.trio.proofs.Rounds.{all_end as rounds_end}

module _ {T : Type 0} (accepts : T → List Shape → List Shape → Bool) (answer : T → List (List ℕ) → List (List ℕ)) (facts : Facts accepts answer) (moves : MovesKeep accepts answer)
    (parts : WordsOfParts) (list : Steps T) (slots : SlotWords) (ds : ThreeTapes) (words : AreWordsOn (joint_of answer list slots ds).links) where
  abbrev IsRun : Running T → Type 0
  IsRun r = IsRunOf accepts answer list slots ds r

  -- what waits is part of the joint run's words
  waiting : (r : Running T) → IsRun r → (v : Party) → AreWaiting v r
  waiting r h v q n =
      let sent : AreWords (link q v r.sent) = parts.first (link q v r.sent) (h.begins q v).rest (subst AreWords (h.begins q v).is (words q v)) in
      let k = length (taken_on q v r) in
      let rest : AreWords (waiting_on q v r) = parts.behind (take k (link q v r.sent)) (waiting_on q v r) (subst AreWords (sym (take-append-drop k (link q v r.sent))) sent) in
      parts.first (take n (waiting_on q v r)) (drop n (waiting_on q v r)) (subst AreWords (sym (take-append-drop n (waiting_on q v r))) rest)

  pub keeps : (r : Running T) (v : Party) → IsRun r → IsRun (moved answer v r)
  keeps r v h = step_keeps accepts answer facts moves list slots ds r h v (waiting r h v)

  pub lowers : (r : Running T) (v : Party) → IsRun r → stepped answer v r ≡ Moved → all_moves_left r ≡ suc (all_moves_left (moved answer v r))
  lowers r v h e = step_lowers accepts answer facts moves list slots ds r h v (waiting r h v) e

  pub all_end : (turns : List ℕ) (r : Running T) → IsRun r
      → IsRun (in_turns answer turns r) × ((count : ℕ) × (HaveEnded answer (in_turns answer (turns ++ rounds count) r) × IsRun (in_turns answer (turns ++ rounds count) r)))
  all_end = rounds_end answer IsRun keeps lowers (goes_on accepts answer facts list slots ds)
