-- The operations that each party does on its own shares.
use Rattle.std.specs.Prelude.{ℕ, List, bit_and}
use Rattle.std.specs.List.{flat_map}
use Rattle.lanes.specs.declared.party.Party.{Party}
use Rattle.lanes.specs.declared.party.Party.TheVariants.{First, Second, Third}
use Rattle.lanes.specs.Lanes.{lanewise1, xors, nots, picked}
use Rattle.lanes.specs.Shifts.{shifted_left, shifted_right, spread_word}
use Rattle.step_lists.specs.Layout.{LinOp, Xor, Not, Left, Right, Mask, Spread, Gather}

-- the words of an operation on registers with these words
abbrev pub lin : LinOp → (ℕ → List ℕ) → List ℕ
lin (Xor a b) r = xors (r a) (r b)
lin (Not a) r = nots (r a)
lin (Left a by) r = lanewise1 (shifted_left by) (r a)
lin (Right a by) r = lanewise1 (shifted_right by) (r a)
lin (Mask a word) r = lanewise1 (λ x. bit_and x word) (r a)
lin (Spread a) r = lanewise1 spread_word (r a)
lin (Gather sources places) r = picked places (flat_map r sources)

-- the same on shares: each share is changed so, but Not turns the bits of the first share alone
abbrev pub lin_share : Party → LinOp → (ℕ → List ℕ) → List ℕ
lin_share First op r = lin op r
lin_share Second (Not a) r = r a
lin_share Second op r = lin op r
lin_share Third (Not a) r = r a
lin_share Third op r = lin op r
