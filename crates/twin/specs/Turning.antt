-- A phase in both worlds, in which the viewer is sent the same words.
use Rattle.std.specs.Prelude.{◌≡◌, ℕ, Bool, List, ◌++◌, length, if◌then◌else◌}
use Rattle.lanes.specs.declared.party.Party.{Party}
use Rattle.lanes.specs.Lanes.{xors}
use Rattle.lanes.specs.Party.{next}
use Rattle.step_lists.specs.Draws.{nothing}
use Rattle.step_lists.specs.Phases.{Shares, reshared_all}
use Rattle.step_lists.specs.Seen.{same_party}
use Rattle.step_lists.specs.Twin.{bare_phase}
use Rattle.joint_machine.specs.Ready.{HaveRows}

-- so many registers of n rows in both worlds
pub record AreWide (n m : ℕ) (xs ys : List Shares) : Type 0 where
  pub one : HaveRows n xs
  pub other : HaveRows n ys
  pub one_many : length xs ≡ m
  pub other_many : length ys ≡ m

-- what two worlds differ by in the words of a phase that an unseen word masks, with an order for each
abbrev pub phase_change : Party → Party → List ℕ → List ℕ → ℕ → List Shares → List Shares → List ℕ
phase_change v j p q n xs ys =
    xors (bare_phase v j p n (record { shares = xs; masks = nothing })) (bare_phase v j q n (record { shares = ys; masks = nothing }))

-- a mask that takes the changes up where the viewer doesn't see it
abbrev pub taken_up : Bool → List ℕ → List ℕ → List ℕ
taken_up unseen mask cs = if unseen then xors mask cs else mask

-- phase j with an order for each world and these changes
pub record AreTurnedBy (v j : Party) (p q : List ℕ) (n : ℕ) (mask other : List ℕ) (xs ys : List Shares) (before cs : List ℕ) (xs' ys' : List Shares) (after : List ℕ) : Type 0 where
  pub one_is : xs' ≡ reshared_all j p n xs mask other
  pub other_is : ys' ≡ reshared_all j q n ys (taken_up (same_party j v) mask cs) (taken_up (same_party j (next v)) other cs)
  pub changes : after ≡ before ++ cs

abbrev pub AreTurned : Party → Party → List ℕ → List ℕ → ℕ → List ℕ → List ℕ → List Shares → List Shares → List ℕ → List Shares → List Shares → List ℕ → Type 0
AreTurned v j p q n mask other xs ys before xs' ys' after = AreTurnedBy v j p q n mask other xs ys before (phase_change v j p q n xs ys) xs' ys' after
