-- The parties go round, and each has its own value.
use Rattle.std.proofs.Common.{◌≡◌, refl}
use Rattle.lanes.specs.declared.party.Party.{Party}
use Rattle.lanes.specs.declared.party.Party.TheVariants.{First, Second, Third}
use Rattle.lanes.specs.declared.three.Three.{Three}
use Rattle.lanes.specs.Party.{next, before}
use Rattle.lanes.specs.Three.{at, put}

pub around : (p : Party) → (before (next p) ≡ p) × (next (before p) ≡ p) × (next (next p) ≡ before p)
around First = (refl, refl, refl)
around Second = (refl, refl, refl)
around Third = (refl, refl, refl)

pub at-put : {A : Type 0} (p : Party) (v : A) (x : Three A)
    → (at p (put p v x) ≡ v) × (at (next p) (put p v x) ≡ at (next p) x) × (at (before p) (put p v x) ≡ at (before p) x)
at-put First v x = (refl, refl, refl)
at-put Second v x = (refl, refl, refl)
at-put Third v x = (refl, refl, refl)
