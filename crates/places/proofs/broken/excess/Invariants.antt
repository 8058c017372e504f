use Rattle.std.proofs.Common.{◌≡◌, ℕ, ◌<◌, Some, false, map}
use Rattle.std.specs.Prelude.{slice_get}
use Rattle.query_graph.specs.declared.flag.Flag.{Flag}
use Rattle.places.specs.Excess.{is_broken}
use Rattle.places.proofs.broken.excess.Given as goal

-- no flag so far is broken
abbrev pub invariant-loop-flag : goal.invariant-loop-flag
invariant-loop-flag l = (k : ℕ) (flag : Flag) → k < l.flag-index → slice_get l.places.flags k ≡ Some flag → is_broken l.graph (map (λ t. t.rows) l.world) flag ≡ false
