-- How many words a phase changes, and which orders the viewer sees in three tapes with a twin.
use Rattle.std.proofs.Common.{◌≡◌, ℕ, ◌*◌, List, [], ◌∷◌, length, refl, ◌∙◌, ap, arith}
use Rattle.std.specs.Prelude.{if◌then◌else◌}
use Rattle.lanes.specs.declared.party.Party.{Party}
use Rattle.lanes.specs.declared.party.Party.TheVariants.{First, Second, Third}
use Rattle.lanes.specs.Party.{next, before}
use Rattle.lanes.specs.Three.{at, put}
use Rattle.lanes.specs.Lanes.{xors}
use Rattle.tapes.specs.declared.draw.Draw.{Draw}
use Rattle.tapes.specs.declared.draw.Draw.TheVariants.{Word, Order}
use Rattle.step_lists.specs.Draws.{ThreeTapes, order_in}
use Rattle.step_lists.specs.Phases.{Moving}
use Rattle.step_lists.specs.Twin.{Both, bare_phase, masked_anew, phase_both, changed}
use Rattle.twin.proofs.Facts.{Facts}
use Rattle.twin.proofs.Phases.{bare_long, there_words, back_words, there_bare, back_bare}
use Rattle.twin.proofs.PhasesParties.{bare_of_own, bare_of_next, bare_of_before}
use Rattle.twin.proofs.PhasesBoth.{AreSeen, sees, phase_changes}
use Rattle.twin.proofs.PhasesFull.{all_count}

-- ---- the number of changes

-- so many registers in both worlds
pub record AreMany (c : ℕ) (b : Both) : Type 0 where
  pub one : length b.one.shares ≡ c
  pub other : length b.other.shares ≡ c

pub still_many : (v j : Party) (p q : List ℕ) (n c : ℕ) (b : Both) → AreMany c b → AreMany c (phase_both v j p q n b)
still_many v j p q n c b h =
    let other = masked_anew v (phase_changes v j p q n b) b.other in
    record {
      one = all_count n j p b.one.shares (at (before j) b.one.masks) (at (next j) b.one.masks) ∙ h.one;
      other = all_count n j q b.other.shares (at (before j) other.masks) (at (next j) other.masks) ∙ h.other;
    }

own_long : Facts → (v : Party) (o : List ℕ) (n c : ℕ) (x : Moving) → length o ≡ n → length x.shares ≡ c → length (bare_phase v v o n x) ≡ c * n
own_long facts v o n c x ho e =
    ap length (bare_of_own v o n x ∙ there_bare v o n x.shares)
    ∙ (bare_long (there_words v o) n x.shares (λ s. facts.lengths.pick o (xors (at (before v) s) (at v s)) ∙ ho) ∙ ap (λ k. k * n) e)

next_long : Facts → (v : Party) (o : List ℕ) (n c : ℕ) (x : Moving) → length o ≡ n → length x.shares ≡ c → length (bare_phase v (next v) o n x) ≡ c * n
next_long facts v o n c x ho e =
    ap length (bare_of_next v o n x ∙ back_bare (next v) o n x.shares)
    ∙ (bare_long (back_words (next v) o) n x.shares (λ s. facts.lengths.pick o (at (next (next v)) s) ∙ ho) ∙ ap (λ k. k * n) e)

before_long : (v : Party) (o : List ℕ) (n : ℕ) (x : Moving) → length (bare_phase v (before v) o n x) ≡ 0
before_long v o n x = ap length (bare_of_before v o n x)

-- what a phase masks by unseen words, of c registers of n rows
abbrev pub masked_count : Party → Party → ℕ → ℕ
masked_count v j w = if sees v j then w else 0

bare_count : Facts → (v j : Party) (o : List ℕ) (n c : ℕ) (x : Moving) → length o ≡ n → length x.shares ≡ c → length (bare_phase v j o n x) ≡ masked_count v j (c * n)
bare_count facts First First o n c x ho e = own_long facts First o n c x ho e
bare_count facts First Second o n c x ho e = next_long facts First o n c x ho e
bare_count facts First Third o n c x ho e = before_long First o n x
bare_count facts Second First o n c x ho e = before_long Second o n x
bare_count facts Second Second o n c x ho e = own_long facts Second o n c x ho e
bare_count facts Second Third o n c x ho e = next_long facts Second o n c x ho e
bare_count facts Third First o n c x ho e = next_long facts Third o n c x ho e
bare_count facts Third Second o n c x ho e = before_long Third o n x
bare_count facts Third Third o n c x ho e = own_long facts Third o n c x ho e

pub changes_count : Facts → (v j : Party) (p q : List ℕ) (n c : ℕ) (b : Both) → length p ≡ n → length q ≡ n → AreMany c b
    → length (phase_changes v j p q n b) ≡ masked_count v j (c * n)
changes_count facts v j p q n c b hp hq h =
    let x = bare_count facts v j p n c b.one hp h.one in
    let y = bare_count facts v j q n c b.other hq h.other in
    omega (arith, facts.lengths.xor (bare_phase v j p n b.one) (bare_phase v j q n b.other))

-- ---- orders

pub orders_seen : (v j : Party) (d : List Draw) (ds : ThreeTapes) → AreSeen (sees v j) (order_in (at j ds)) (order_in (at j (put (before v) d ds)))
orders_seen First First d ds = refl
orders_seen First Second d ds = refl
orders_seen First Third d ds = tt
orders_seen Second First d ds = tt
orders_seen Second Second d ds = refl
orders_seen Second Third d ds = refl
orders_seen Third First d ds = refl
orders_seen Third Second d ds = tt
orders_seen Third Third d ds = refl

-- the order of changed draws is the same whatever the changes are
pub same_order : (o cs : List ℕ) (ds : List Draw) → order_in (changed o cs ds) ≡ order_in (changed o [] ds)
same_order o cs [] = refl
same_order o cs (Order p ∷ ds) = refl
same_order o [] (Word w ∷ ds) = refl
same_order o (c ∷ cs) (Word w ∷ ds) = same_order o cs ds

-- and changed twice it is the last one
pub last_order : (o u cs ts : List ℕ) (ds : List Draw) → order_in (changed o ts (changed u cs ds)) ≡ order_in (changed o [] ds)
last_order o u cs ts [] = refl
last_order o u cs ts (Order p ∷ ds) = refl
last_order o u [] [] (Word w ∷ ds) = last_order o u [] [] ds
last_order o u [] (t ∷ ts) (Word w ∷ ds) = last_order o u [] ts ds
last_order o u (c ∷ cs) [] (Word w ∷ ds) = last_order o u cs [] ds
last_order o u (c ∷ cs) (t ∷ ts) (Word w ∷ ds) = last_order o u cs ts ds

pub kept_order : (ds : List Draw) → order_in (changed (order_in ds) [] ds) ≡ order_in ds
kept_order [] = refl
kept_order (Order p ∷ ds) = refl
kept_order (Word w ∷ ds) = kept_order ds
