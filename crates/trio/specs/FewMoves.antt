-- How many moves a party makes in a step.
use Rattle.std.specs.Prelude.{ℕ, ◌+◌, ◌*◌, ◌/◌, ◌≤◌, sum}
use Rattle.lanes.specs.declared.party.Party.{Party}
use Rattle.step_lists.specs.declared.step.Step.{Step}
use Rattle.step_lists.specs.Layout.{Layout}
use Rattle.party_core.specs.Moves.{step_moves}

-- at most 12 (1 + g + w / 4096), rounded down, for a step that makes g registers and slots with w words in them, on links
-- and in word draws; the pieces of a step are few, so it holds of any g and w
abbrev pub MovesAreFew : Type 0 → Type 0
MovesAreFew T = (v : Party) (l : Layout) (s : Step T) (g w : ℕ) → sum (step_moves v l s) ≤ (12 * (4096 * (1 + g) + w)) / 4096
