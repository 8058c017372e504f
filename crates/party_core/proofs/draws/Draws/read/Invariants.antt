use Rattle.std.proofs.Common.{◌≤◌}
use Rattle.std.specs.Option.{option_copied}
use Rattle.party_core.proofs.ReadDraws.{HasRead}
use Rattle.party_core.proofs.draws.Draws.read.Given as goal

abbrev pub invariant-loop : goal.invariant-loop
invariant-loop l = record { within : l.counter ≤ l.count; read : HasRead l.tape l.place l.counter l.cursor l.words.items (option_copied l.order) }
