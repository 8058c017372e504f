-- The next draw of a reading meets a need.
use Rattle.std.specs.Prelude.{◌≡◌, Some, slice_get}
use Rattle.tapes.specs.declared.draw.Need.{Need}
use Rattle.tapes.specs.declared.draw.Draw.{Draw}
use Rattle.tapes.specs.Needs.{Meets}
use Rattle.tapes.specs.Reading.{Reading}

pub record IsMet (need : Need) (r : Reading) : Type 0 where
  pub draw : Draw
  pub next : slice_get r.draws r.place ≡ Some draw
  pub meets : Meets need draw
