-- Lists of words as functions take and give them: lent ones, and ones of their own.
use Rattle.std.specs.Prelude.{ℕ, Vec, List, map}
use Rattle.std.specs.Borrow.{Bor}
use Rattle.std.specs.Global.{Global}

-- the words of lists that are lent
abbrev pub lent : List (Bor (List ℕ)) → List (List ℕ)
lent lists = map (λ list. list.now) lists

-- the words of lists of their own
abbrev pub owned : List (Vec ℕ Global) → List (List ℕ)
owned lists = map (λ list. list.items) lists
