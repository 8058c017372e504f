-- What the first bytes of a list read as, for a need.
use Rattle.std.specs.Prelude.{◌≡◌, ℕ, List, ◌++◌, drop, Option, Some, None}
use Rattle.tapes.specs.declared.draw.Need.{Need}
use Rattle.tapes.specs.declared.draw.Need.TheVariants.{OrderOf}
use Rattle.tapes.specs.declared.draw.Draw.{Draw}
use Rattle.tapes.specs.Bytes.{number_bytes, draw_bytes}
use Rattle.tapes.specs.Needs.{Meets, width_of}
use Rattle.tapes.specs.ReadTape.{AreNoOrder}

-- the bytes begin with numbers that are no order of the needed length
pub record BeginsNoOrder (need : Need) (bytes : List ℕ) : Type 0 where
  pub count : ℕ
  pub numbers : List ℕ
  pub needed : need ≡ OrderOf count
  pub no_order : AreNoOrder count numbers
  pub spelled : bytes ≡ number_bytes numbers ++ drop (width_of need) bytes

-- the draw that the bytes begin with, or none where its numbers are no order
abbrev pub ReadsDraw : Need → List ℕ → Option Draw → Type 0
ReadsDraw need bytes None = BeginsNoOrder need bytes
ReadsDraw need bytes (Some draw) =
    Meets need draw × (bytes ≡ draw_bytes draw ++ drop (width_of need) bytes)
