use Rattle.std.proofs.Common.{◌≤◌, ◌^◌, ℕ, List, Vec, Global, length, map, arith}
use Rattle.std.proofs.lemmas.List.{length-map}
use Rattle.listed.specs.Lists.{owned}
use Rattle.tapes.specs.Align.{SortsPlaces}
use Rattle.tapes.specs.Order.{IsShortOrder}
use Rattle.tapes.proofs.SortingPlaces.{sorts_places}
use Rattle.tapes.proofs.align_rows.sort_places.Goals as goal

short_from : (rows : List (List ℕ)) (o : List ℕ) → SortsPlaces rows o → length rows ≤ 2 ^ 32 → IsShortOrder o
short_from rows o s h = record { order = s.order; short = omega (arith, s.long) }

pub from_permutation-requires : goal.from_permutation-requires
from_permutation-requires c =
    let rows = c.args.rows.now.items in
    let sorted = sorts_places c.sorted_is_unique.ensures (λ pair. pair.0.now) (λ pair. pair.1) (owned rows) c.in_ok-keyed.keyed.items c.sort_unstable.new.self.items c.in_ok-keyed.ensures
    c.sort_unstable.ensures.permutation c.sort_unstable.ensures.sorted in
    rw (c.in_ok-places.ensures, c.deref.ensures.value)
    (short_from (owned rows) (map (λ pair. pair.1) c.sort_unstable.new.self.items) sorted
    (omega (arith, c.requires, length-map {B = List ℕ} rows (λ (r : Vec ℕ Global). r.items))))

pub returns : goal.returns
returns c =
    rw (c.from_permutation.ensures, c.in_ok-places.ensures, c.deref.ensures.value)
    (sorts_places c.sorted_is_unique.ensures (λ pair. pair.0.now) (λ pair. pair.1) (owned c.args.rows.now.items) c.in_ok-keyed.keyed.items c.sort_unstable.new.self.items c.in_ok-keyed.ensures
    c.sort_unstable.ensures.permutation c.sort_unstable.ensures.sorted)
