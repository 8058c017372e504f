use Rattle.std.proofs.Common.{◌≡◌, ◌++◌, drop}
use Rattle.step_lists.specs.Part.{pairs_of_masks}
use Rattle.party_core.proofs.phases.pairs_of_masks.Given as goal

abbrev pub invariant-loop : goal.invariant-loop
invariant-loop l = pairs_of_masks l.rows l.pairs l.fn.own l.fn.following ≡ l.made.items ++ pairs_of_masks l.rows (drop l.index l.pairs) l.own l.following
