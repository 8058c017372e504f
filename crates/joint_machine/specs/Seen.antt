-- How vectors of three parties are seen.
use Rattle.std.specs.Prelude.{ℕ, List, Vec}
use Rattle.std.specs.Borrow.{Bor}
use Rattle.std.specs.Global.{Global}
use Rattle.lanes.specs.declared.three.Three.{Three}
use Rattle.lanes.specs.Three.{each}

-- a list of words for each party
abbrev pub lists : Three (Vec ℕ Global) → Three (List ℕ)
lists x = each (λ v. v.items) x

abbrev pub slices : Three (Bor (List ℕ)) → Three (List ℕ)
slices x = each (λ b. b.now) x
