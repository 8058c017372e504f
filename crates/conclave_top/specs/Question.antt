-- What an audit is asked.
use Rattle.std.specs.Prelude.{ℕ, List}
use Rattle.lanes.specs.declared.party.Party.{Party}

-- for which party, over which two folders, and with the tapes of which name
pub record Question : Type 0 where
  pub party : Party
  pub first : List ℕ
  pub second : List ℕ
  pub tapes : List ℕ
