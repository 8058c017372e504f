-- A value put for one of the three parties, and the parties of a phase, from a viewer's side.
use Rattle.std.proofs.Common.{◌≡◌, ℕ, ◌*◌, List, [], ◌++◌, length, drop, refl, ap}
use Rattle.lanes.specs.declared.party.Party.{Party}
use Rattle.lanes.specs.declared.party.Party.TheVariants.{First, Second, Third}
use Rattle.lanes.specs.Party.{next, before}
use Rattle.lanes.specs.Three.{at}
use Rattle.step_lists.specs.Phases.{reshared_all, there_all, back_all, message, behind_on, Moving, phase}
use Rattle.step_lists.specs.Twin.{bare_phase}
use Rattle.twin.proofs.Same.{SameWords}

-- ---- the masks that a phase leaves

pub own_left_by_own : (v : Party) (o : List ℕ) (n : ℕ) (x : Moving) → at v (phase v o n x).masks ≡ at v x.masks
own_left_by_own First o n x = refl
own_left_by_own Second o n x = refl
own_left_by_own Third o n x = refl

pub following_left_by_own : (v : Party) (o : List ℕ) (n : ℕ) (x : Moving) → at (next v) (phase v o n x).masks ≡ drop (length x.shares * n) (at (next v) x.masks)
following_left_by_own First o n x = refl
following_left_by_own Second o n x = refl
following_left_by_own Third o n x = refl

pub unseen_left_by_own : (v : Party) (o : List ℕ) (n : ℕ) (x : Moving) → at (before v) (phase v o n x).masks ≡ drop (length x.shares * n) (at (before v) x.masks)
unseen_left_by_own First o n x = refl
unseen_left_by_own Second o n x = refl
unseen_left_by_own Third o n x = refl

pub own_left_by_next : (v : Party) (o : List ℕ) (n : ℕ) (x : Moving) → at v (phase (next v) o n x).masks ≡ drop (length x.shares * n) (at v x.masks)
own_left_by_next First o n x = refl
own_left_by_next Second o n x = refl
own_left_by_next Third o n x = refl

pub following_left_by_next : (v : Party) (o : List ℕ) (n : ℕ) (x : Moving) → at (next v) (phase (next v) o n x).masks ≡ at (next v) x.masks
following_left_by_next First o n x = refl
following_left_by_next Second o n x = refl
following_left_by_next Third o n x = refl

pub unseen_left_by_next : (v : Party) (o : List ℕ) (n : ℕ) (x : Moving) → at (before v) (phase (next v) o n x).masks ≡ drop (length x.shares * n) (at (before v) x.masks)
unseen_left_by_next First o n x = refl
unseen_left_by_next Second o n x = refl
unseen_left_by_next Third o n x = refl

pub own_left_by_before : (v : Party) (o : List ℕ) (n : ℕ) (x : Moving) → at v (phase (before v) o n x).masks ≡ drop (length x.shares * n) (at v x.masks)
own_left_by_before First o n x = refl
own_left_by_before Second o n x = refl
own_left_by_before Third o n x = refl

pub following_left_by_before : (v : Party) (o : List ℕ) (n : ℕ) (x : Moving) → at (next v) (phase (before v) o n x).masks ≡ drop (length x.shares * n) (at (next v) x.masks)
following_left_by_before First o n x = refl
following_left_by_before Second o n x = refl
following_left_by_before Third o n x = refl

pub unseen_left_by_before : (v : Party) (o : List ℕ) (n : ℕ) (x : Moving) → at (before v) (phase (before v) o n x).masks ≡ at (before v) x.masks
unseen_left_by_before First o n x = refl
unseen_left_by_before Second o n x = refl
unseen_left_by_before Third o n x = refl

-- ---- the shares that it makes

pub shares_by_next : (v : Party) (o : List ℕ) (n : ℕ) (x : Moving) → (phase (next v) o n x).shares ≡ reshared_all (next v) o n x.shares (at v x.masks) (at (before v) x.masks)
shares_by_next First o n x = refl
shares_by_next Second o n x = refl
shares_by_next Third o n x = refl

pub shares_by_before : (v : Party) (o : List ℕ) (n : ℕ) (x : Moving) → (phase (before v) o n x).shares ≡ reshared_all (before v) o n x.shares (at (next v) x.masks) (at v x.masks)
shares_by_before First o n x = refl
shares_by_before Second o n x = refl
shares_by_before Third o n x = refl

-- ---- what an unseen word masks

pub bare_of_own : (v : Party) (o : List ℕ) (n : ℕ) (x : Moving) → bare_phase v v o n x ≡ there_all v o n x.shares []
bare_of_own First o n x = refl
bare_of_own Second o n x = refl
bare_of_own Third o n x = refl

pub bare_of_next : (v : Party) (o : List ℕ) (n : ℕ) (x : Moving) → bare_phase v (next v) o n x ≡ back_all (next v) o n x.shares []
bare_of_next First o n x = refl
bare_of_next Second o n x = refl
bare_of_next Third o n x = refl

pub bare_of_before : (v : Party) (o : List ℕ) (n : ℕ) (x : Moving) → bare_phase v (before v) o n x ≡ []
bare_of_before First o n x = refl
bare_of_before Second o n x = refl
bare_of_before Third o n x = refl

-- ---- the words that it sends

pub words_by_own : (v : Party) (a b x y : List ℕ) → a ≡ b
    → SameWords v (behind_on (message (before v) v a) (message v (before v) x)) (behind_on (message (before v) v b) (message v (before v) y))
words_by_own First a b x y e = record { from_next = refl; from_before = ap (λ t. t ++ []) e }
words_by_own Second a b x y e = record { from_next = refl; from_before = ap (λ t. t ++ []) e }
words_by_own Third a b x y e = record { from_next = refl; from_before = ap (λ t. t ++ []) e }

pub words_by_next : (v : Party) (x y a b : List ℕ) → a ≡ b
    → SameWords v (behind_on (message (before (next v)) (next v) x) (message (next v) (before (next v)) a))
    (behind_on (message (before (next v)) (next v) y) (message (next v) (before (next v)) b))
words_by_next First x y a b e = record { from_next = e; from_before = refl }
words_by_next Second x y a b e = record { from_next = e; from_before = refl }
words_by_next Third x y a b e = record { from_next = e; from_before = refl }

pub words_by_before : (v : Party) (a b x y : List ℕ)
    → SameWords v (behind_on (message (before (before v)) (before v) a) (message (before v) (before (before v)) x))
    (behind_on (message (before (before v)) (before v) b) (message (before v) (before (before v)) y))
words_by_before First a b x y = record { from_next = refl; from_before = refl }
words_by_before Second a b x y = record { from_next = refl; from_before = refl }
words_by_before Third a b x y = record { from_next = refl; from_before = refl }
