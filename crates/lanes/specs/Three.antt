-- A value for each party.
use Rattle.std.specs.Prelude.{ℕ, List, bit_xor}
use Rattle.lanes.specs.declared.party.Party.{Party}
use Rattle.lanes.specs.declared.party.Party.TheVariants.{First, Second, Third}
use Rattle.lanes.specs.declared.three.Three.{Three}
use Rattle.lanes.specs.Lanes.{xors}

-- the value of one party
abbrev pub at : {A : Type 0} → Party → Three A → A
at First x = x.first
at Second x = x.second
at Third x = x.third

-- another value for one party
abbrev pub put : {A : Type 0} → Party → A → Three A → Three A
put First v x = record x { first = v }
put Second v x = record x { second = v }
put Third v x = record x { third = v }

-- a function at each party's value
abbrev pub each : {A B : Type 0} → (A → B) → Three A → Three B
each f x = record { first = f x.first; second = f x.second; third = f x.third }

-- the word, and the list of words, that three shares stand for
abbrev pub opened_word : Three ℕ → ℕ
opened_word s = bit_xor (bit_xor s.first s.second) s.third

abbrev pub opened : Three (List ℕ) → List ℕ
opened s = xors (xors s.first s.second) s.third
