-- What each move keeps: a core that was made is reached, and stays so by turns and by words that came; what it has sent
-- grows by what its turns send; and each move leaves one move less.
use Rattle.std.specs.Prelude.{◌≡◌, ℕ, suc, Bool, false, List, length, map}
use Rattle.std.specs.List.{AllByRecursion}
use Rattle.lanes.specs.declared.party.Party.{Party}
use Rattle.lanes.specs.Party.{next}
use Rattle.lanes.specs.Three.{at}
use Rattle.lanes.specs.Word.{AreWords}
use Rattle.tapes.specs.declared.draw.Draw.{Draw}
use Rattle.tapes.specs.Needs.{FitsNeeds}
use Rattle.step_lists.specs.declared.step.Shape.{Shape}
use Rattle.step_lists.specs.Layout.{Steps, party_of, starting}
use Rattle.step_lists.specs.Draws.{joined, needs}
use Rattle.step_lists.specs.Rules.{IsWellFormed}
use Rattle.party_core.specs.declared.want.Want.TheVariants.{Turn, Words}
use Rattle.party_core.specs.CoreView.{CoreView, fresh_core, turned_on, took}
use Rattle.party_core.specs.Core.{sent_so_far, turn_sends, want_of, breaks_order}
use Rattle.party_core.specs.Moves.{moves_left}
use Rattle.party_core.specs.Reached.{IsReached}

pub record TurnKept {T : Type 0} (accepts : T → List Shape → List Shape → Bool) (answer : T → List (List ℕ) → List (List ℕ)) (c d : CoreView T) : Type 0 where
  pub reached : IsReached accepts answer d
  pub sent : sent_so_far answer d ≡ joined (sent_so_far answer c) (turn_sends answer c)
  pub one_less : moves_left c ≡ suc (moves_left d)

pub record TakeKept {T : Type 0} (accepts : T → List Shape → List Shape → Bool) (answer : T → List (List ℕ) → List (List ℕ)) (c d : CoreView T) : Type 0 where
  pub reached : IsReached accepts answer d
  pub sent : sent_so_far answer d ≡ sent_so_far answer c
  pub one_less : moves_left c ≡ suc (moves_left d)

pub record MovesKeep {T : Type 0} (accepts : T → List Shape → List Shape → Bool) (answer : T → List (List ℕ) → List (List ℕ)) : Type 0 where
  pub starts : (list : Steps T) (v : Party) (slots : List (List ℕ)) (own following : List Draw) → IsWellFormed accepts list → map length slots ≡ at v list.first
      → AllByRecursion AreWords slots → FitsNeeds (needs v (starting list.first) list.steps) own → FitsNeeds (needs (next v) (starting list.first) list.steps) following
      → IsReached accepts answer (fresh_core list v slots own following)
  pub turns : (c : CoreView T) → IsReached accepts answer c → want_of answer c ≡ Turn → TurnKept accepts answer c (turned_on c)
  pub takes : (c : CoreView T) (q n : ℕ) (words : List ℕ) → IsReached accepts answer c → want_of answer c ≡ Words q n → length words ≡ n → AreWords words
      → breaks_order c (party_of q) words ≡ false → TakeKept accepts answer c (took c (party_of q) words)
