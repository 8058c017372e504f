use Rattle.std.proofs.Common.{◌≡◌, take}
use Rattle.std.specs.List.{flat_map}
use Rattle.party_core.specs.Doing.{share_at}
use Rattle.party_core.proofs.local.joined.Given as goal

abbrev pub invariant-loop-register : goal.invariant-loop-register
invariant-loop-register l = l.words.items ≡ flat_map (λ r. share_at l.side l.state r) (take l.register-index l.registers)
