-- A tape with one more draw.
use Rattle.std.specs.Prelude.{◌≡◌, List, [], ◌∷◌, ◌++◌}
use Rattle.tapes.specs.declared.draw.Draw.{Draw}

-- the tape as it was, and one more draw, of which this holds
pub record IsPushed (P : Draw → Type 0) (old new : List Draw) : Type 0 where
  pub draw : Draw
  pub pushed : new ≡ old ++ draw ∷ []
  pub holds : P draw
