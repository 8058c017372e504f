use Rattle.std.proofs.Common.{arith}
use Rattle.circuits.proofs.Levels.{places_of}
use Rattle.circuits.proofs.prefix.joined.Goals as goal

pub join_generate-requires-clause-places : goal.join_generate-requires-clause-places
join_generate-requires-clause-places g c =
    let h = c.requires.halves in
    omega (arith, h.places, (places_of c.args.halves.level (omega (arith, h.few))).1)
