use Rattle.std.proofs.Common.{◌≡◌, ◌++◌, drop}
use Rattle.step_lists.specs.Part.{all_before_j}
use Rattle.party_core.proofs.phases.all_before_j.Given as goal

abbrev pub invariant-loop-pair : goal.invariant-loop-pair
invariant-loop-pair l = all_before_j l.order l.rows l.pairs l.fn.masks ≡ l.words.items ++ all_before_j l.order l.rows (drop l.pair-index l.pairs) l.masks
