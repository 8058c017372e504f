use Rattle.std.proofs.Common.{◌≡◌, map, take}
use Rattle.lanes.specs.Three.{opened}
use Rattle.step_lists.specs.Machine.{shares}
use Rattle.step_lists.specs.Seen.{shown_of}
use Rattle.twin.proofs.compare.open_columns.Given as goal

abbrev pub invariant-loop-place : goal.invariant-loop-place
invariant-loop-place l = map (λ column. column.items) l.columns.items ≡ shown_of (map (λ r. opened (shares l.machine r)) l.moved) (take l.place-index l.shown)
