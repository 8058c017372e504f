-- Draws that fit needs: in parts, place by place, and the first one that doesn't.
use Rattle.std.specs.Prelude.{◌≡◌, ◌⊎◌, ℕ, ⊤, List, ◌++◌, length, take, drop, slice_get, Option, Some, None}
use Rattle.tapes.specs.declared.draw.Draw.{Draw}
use Rattle.tapes.specs.declared.draw.Need.{Need}
use Rattle.tapes.specs.Needs.{FitsNeeds, Meets}

-- draws for needs one behind the other are those for the first and then those for the others
pub record FitsOfParts : Type 0 where
  pub both : (ms ns : List Need) (ds es : List Draw) → FitsNeeds ms ds → FitsNeeds ns es → FitsNeeds (ms ++ ns) (ds ++ es)
  pub first : (ms ns : List Need) (ds : List Draw) → FitsNeeds (ms ++ ns) ds → FitsNeeds ms (take (length ms) ds)
  pub behind : (ms ns : List Need) (ds : List Draw) → FitsNeeds (ms ++ ns) ds → FitsNeeds ns (drop (length ms) ds)

-- draws that fit are as many as the needs, and each meets its need; and such draws fit
pub record FitsByPlace : Type 0 where
  pub count : (needs : List Need) (draws : List Draw) → FitsNeeds needs draws → length draws ≡ length needs
  pub each : (needs : List Need) (draws : List Draw) → FitsNeeds needs draws → (k : ℕ) (need : Need) (draw : Draw)
      → slice_get needs k ≡ Some need → slice_get draws k ≡ Some draw → Meets need draw
  pub all : (needs : List Need) (draws : List Draw) → length draws ≡ length needs
      → ((k : ℕ) (need : Need) (draw : Draw) → slice_get needs k ≡ Some need → slice_get draws k ≡ Some draw → Meets need draw) → FitsNeeds needs draws

-- a need that has a draw of another sort or none, or a draw without a need
abbrev pub IsUnmet : Option Need → Option Draw → Type 0
IsUnmet None None = ⊥
IsUnmet None (Some draw) = ⊤
IsUnmet (Some need) None = ⊤
IsUnmet (Some need) (Some draw) = ¬ Meets need draw

-- the draws before number d fit, and that one doesn't
pub record IsFirstUnfit (needs : List Need) (draws : List Draw) (d : ℕ) : Type 0 where
  pub before : FitsNeeds (take d needs) (take d draws)
  pub unmet : IsUnmet (slice_get needs d) (slice_get draws d)

-- draws fit exactly where none is the first that doesn't, and there is at most one such
pub record FitsOrFirstUnfit : Type 0 where
  pub some : (needs : List Need) (draws : List Draw) → FitsNeeds needs draws ⊎ ((d : ℕ) × IsFirstUnfit needs draws d)
  pub apart : (needs : List Need) (draws : List Draw) (d : ℕ) → FitsNeeds needs draws → ¬ IsFirstUnfit needs draws d
  pub only : (needs : List Need) (draws : List Draw) (d e : ℕ) → IsFirstUnfit needs draws d → IsFirstUnfit needs draws e → d ≡ e
