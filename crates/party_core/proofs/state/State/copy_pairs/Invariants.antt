use Rattle.std.proofs.Common.{◌≡◌, take, map}
use Rattle.step_lists.specs.Part.{pair_at}
use Rattle.party_core.proofs.state.State.copy_pairs.Given as goal

abbrev pub invariant-loop-register : goal.invariant-loop-register
invariant-loop-register l = l.pairs.items ≡ map (pair_at l.self) (take l.register-index l.registers)
