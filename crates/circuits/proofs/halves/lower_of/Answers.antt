use Rattle.std.proofs.Common.{◌≡◌, refl, arith}
use Rattle.lanes.specs.Prefix.{lower_places}
use Rattle.circuits.proofs.halves.lower_of.Goals as goal

pub returns-in-0 : goal.returns-in-0
unfolding lower_places
returns-in-0 c = rw (c.in-0.is) refl

pub returns-in-1 : goal.returns-in-1
unfolding lower_places
returns-in-1 c = rw (c.in-1.is) refl

pub returns-in-2 : goal.returns-in-2
unfolding lower_places
returns-in-2 c = rw (c.in-2.is) refl

pub returns-in-3 : goal.returns-in-3
unfolding lower_places
returns-in-3 c = rw (c.in-3.is) refl

pub returns-in-4 : goal.returns-in-4
unfolding lower_places
returns-in-4 c = rw (c.in-4.is) refl

pub returns-in_default : goal.returns-in_default
unfolding lower_places
returns-in_default c =
    let last : c.args.level ≡ 5 = grind (arith, c.in_default, c.requires) in
    rw (last) refl
