-- Phases: the moved registers get a new order and new shares, and what goes between two parties is masked (after
-- Laur, Willemson and Zhang, 2011).
use Rattle.std.specs.Prelude.{ℕ, ◌*◌, List, [], ◌∷◌, ◌++◌, length, take, drop}
use Rattle.lanes.specs.declared.party.Party.{Party}
use Rattle.lanes.specs.declared.three.Three.{Three}
use Rattle.lanes.specs.Party.{next, before}
use Rattle.lanes.specs.Three.{at, put}
use Rattle.lanes.specs.Lanes.{xors}
use Rattle.tapes.specs.Order.{applied}
use Rattle.step_lists.specs.Draws.{joined, nothing}

-- three shares of a register, of which party i holds those of i and i + 1
abbrev pub Shares : Type 0
Shares = Three (List ℕ)

-- the words on the six links: at the source, and there at the target
abbrev pub Links : Type 0
Links = Three (Three (List ℕ))

abbrev pub link : Party → Party → Links → List ℕ
link source target links = at target (at source links)

abbrev pub no_words : Links
no_words = record { first = nothing; second = nothing; third = nothing }

-- words from one party to another one
abbrev pub message : Party → Party → List ℕ → Links
message source target words = put source (put target words nothing) no_words

-- words behind the earlier ones of each link
abbrev pub behind_on : Links → Links → Links
behind_on x y = record { first = joined x.first y.first; second = joined x.second y.second; third = joined x.third y.third }

-- ---- one register, by a mask a from tape j - 1 and a mask b from tape j + 1

-- what party j - 1 sends to party j, and what party j sends to party j - 1
abbrev pub there : Party → List ℕ → Shares → List ℕ → List ℕ
there j order s a = xors (applied order (xors (at (before j) s) (at j s))) a

abbrev pub back : Party → List ℕ → Shares → List ℕ → List ℕ
back j order s b = xors (applied order (at (next j) s)) b

-- the masks are two of the new shares, and the xor of the two messages is the third
abbrev pub reshared : Party → List ℕ → Shares → List ℕ → List ℕ → Shares
reshared j order s a b = put (before j) a (put (next j) b (put j (xors (there j order s a) (back j order s b)) s))

-- ---- registers of n rows, one after the other

-- the registers that are moved, and the words of each tape that aren't drawn yet
pub record Moving : Type 0 where
  pub shares : List Shares
  pub masks : Three (List ℕ)

abbrev pub reshared_all : Party → List ℕ → ℕ → List Shares → List ℕ → List ℕ → List Shares
reshared_all j order n [] a b = []
reshared_all j order n (s ∷ ss) a b = reshared j order s (take n a) (take n b) ∷ reshared_all j order n ss (drop n a) (drop n b)

abbrev pub there_all : Party → List ℕ → ℕ → List Shares → List ℕ → List ℕ
there_all j order n [] a = []
there_all j order n (s ∷ ss) a = there j order s (take n a) ++ there_all j order n ss (drop n a)

abbrev pub back_all : Party → List ℕ → ℕ → List Shares → List ℕ → List ℕ
back_all j order n [] b = []
back_all j order n (s ∷ ss) b = back j order s (take n b) ++ back_all j order n ss (drop n b)

-- phase (j, order)
abbrev pub phase : Party → List ℕ → ℕ → Moving → Moving
phase j order n x = record {
  shares = reshared_all j order n x.shares (at (before j) x.masks) (at (next j) x.masks);
  masks = put (before j) (drop (length x.shares * n) (at (before j) x.masks)) (put (next j) (drop (length x.shares * n) (at (next j) x.masks)) x.masks);
}

-- what its two parties send
abbrev pub phase_words : Party → List ℕ → ℕ → Moving → Links
phase_words j order n x =
    behind_on (message (before j) j (there_all j order n x.shares (at (before j) x.masks))) (message j (before j) (back_all j order n x.shares (at (next j) x.masks)))
