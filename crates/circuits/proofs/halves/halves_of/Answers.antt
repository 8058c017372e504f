use Rattle.std.proofs.Common.{◌-◌, ◌/◌, ap, arith}
use Rattle.std.specs.Prelude.{bit_and}
use Rattle.lanes.specs.Prefix.{top_places, upper_places}
use Rattle.circuits.proofs.Levels.{places_of}
use Rattle.circuits.proofs.halves.halves_of.Goals as goal

pub returns-clause-are : goal.returns-clause-are
unfolding upper_places top_places
returns-clause-are c = record {
  few = c.requires;
  places = (places_of c.args.level (omega (arith, c.requires))).0;
  lower = c.lower_of-lower.ensures;
  upper = ap (λ n. 18446744073709551615 - n) c.lower_of-lower.ensures;
  top = ap (λ n. bit_and n ((18446744073709551615 - n) / 2)) c.lower_of-lower.ensures;
}
