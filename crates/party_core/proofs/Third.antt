-- The third of three parties is neither of the other two.
use Rattle.std.proofs.Common.{◌≡◌, true, false, refl}
use Rattle.lanes.specs.declared.party.Party.{Party}
use Rattle.lanes.specs.declared.party.Party.TheVariants.{First, Second, Third}
use Rattle.lanes.specs.Party.{next, before}
use Rattle.step_lists.specs.Seen.{same_party}

true_false : true ≡ false → ⊥
true_false e = cc

pub third_is : (v j : Party) → same_party v j ≡ false → same_party v (before j) ≡ false → v ≡ next j
third_is First First h i = absurd (true_false h)
third_is First Second h i = absurd (true_false i)
third_is First Third h i = refl
third_is Second First h i = refl
third_is Second Second h i = absurd (true_false h)
third_is Second Third h i = absurd (true_false i)
third_is Third First h i = absurd (true_false i)
third_is Third Second h i = refl
third_is Third Third h i = absurd (true_false h)
