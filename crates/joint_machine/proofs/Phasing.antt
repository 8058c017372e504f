-- Phases: each applies its order to what the moved shares stand for, and its masks come off.
use Rattle.std.proofs.Common.{◌≡◌, ℕ, suc, ◌+◌, ◌*◌, ◌≤◌, List, [], ◌∷◌, length, map, take, drop, refl, sym, ◌∙◌, ap, arith}
use Rattle.std.specs.List.{AllByRecursion}
use Rattle.std.proofs.lemmas.List.{length-take-le, length-drop}
use Rattle.lanes.specs.declared.party.Party.{Party}
use Rattle.lanes.specs.declared.party.Party.TheVariants.{First, Second, Third}
use Rattle.lanes.specs.Party.{next, before}
use Rattle.lanes.specs.Three.{at, opened}
use Rattle.std.proofs.Math.Nat.{suc-mul}
use Rattle.lanes.specs.Lanes.{xors, picked}
use Rattle.tapes.specs.Order.{applied}
use Rattle.step_lists.specs.Phases.{Shares, there, back, reshared, reshared_all, Moving, phase}
use Rattle.joint_machine.specs.Opens.{IsLong}
use Rattle.joint_machine.proofs.Facts.{Facts}
use Rattle.joint_machine.proofs.Masking.{unmasked}

-- ---- one register

reshared_sum : Facts → (j : Party) (o : List ℕ) (s : Shares) (a b : List ℕ) → length a ≤ length o → length b ≤ length o
    → xors (xors (xors (there j o s a) (back j o s b)) b) a ≡ applied o (xors (xors (at (before j) s) (at j s)) (at (next j) s))
reshared_sum facts j o s a b h i =
    let x = xors (at (before j) s) (at j s) in
    let y = at (next j) s in
    let lx : length (picked o x) ≡ length o = facts.lengths.pick o x in
    let m = facts.lengths.xor (picked o x) (picked o y) in
    unmasked facts (applied o x) (applied o y) a b (omega arith) (omega arith) ∙ sym (facts.pick o x y)

pub reshared_opens : Facts → (j : Party) (o : List ℕ) (s : Shares) (a b : List ℕ) → length a ≤ length o → length b ≤ length o
    → opened (reshared j o s a b) ≡ applied o (opened s)
reshared_opens facts First o s a b h i =
    facts.round First (reshared First o s a b) ∙ (reshared_sum facts First o s a b h i ∙ ap (applied o) (sym (facts.round Third s)))
reshared_opens facts Second o s a b h i =
    facts.round Second (reshared Second o s a b) ∙ (reshared_sum facts Second o s a b h i ∙ ap (applied o) (sym (facts.round First s)))
reshared_opens facts Third o s a b h i =
    facts.round Third (reshared Third o s a b) ∙ (reshared_sum facts Third o s a b h i ∙ ap (applied o) (sym (facts.round Second s)))

sum_long : Facts → (n : ℕ) (j : Party) (o : List ℕ) (s : Shares) (a b : List ℕ) → length o ≡ n → length a ≡ n → length b ≡ n
    → length (xors (there j o s a) (back j o s b)) ≡ n
sum_long facts n j o s a b ho ha hb =
    let x = xors (at (before j) s) (at j s) in
    let y = at (next j) s in
    let px : length (picked o x) ≡ length o = facts.lengths.pick o x in
    let py : length (picked o y) ≡ length o = facts.lengths.pick o y in
    let lt = facts.lengths.xor (picked o x) a in
    let lb = facts.lengths.xor (picked o y) b in
    let ls = facts.lengths.xor (there j o s a) (back j o s b) in
    omega arith

pub reshared_long : Facts → (n : ℕ) (j : Party) (o : List ℕ) (s : Shares) (a b : List ℕ) → length o ≡ n → length a ≡ n → length b ≡ n
    → IsLong n (reshared j o s a b)
reshared_long facts n j o s a b ho ha hb = record { each = λ q. long j q } where
  long : (j q : Party) → length (at q (reshared j o s a b)) ≡ n
  long First First = sum_long facts n First o s a b ho ha hb
  long First Second = hb
  long First Third = ha
  long Second First = ha
  long Second Second = sum_long facts n Second o s a b ho ha hb
  long Second Third = hb
  long Third First = hb
  long Third Second = ha
  long Third Third = sum_long facts n Third o s a b ho ha hb

-- ---- several registers

first_of_more : (k n : ℕ) (a : List ℕ) → suc k * n ≤ length a → length (take n a) ≡ n
first_of_more k n a h =
    let e = suc-mul k n in
    length-take-le n a (omega arith)

rest_of_more : (k n : ℕ) (a : List ℕ) → suc k * n ≤ length a → k * n ≤ length (drop n a)
rest_of_more k n a h =
    let e = suc-mul k n in
    omega (arith, length-drop n a)

all_open : Facts → (n : ℕ) (j : Party) (o : List ℕ) (ss : List Shares) (a b : List ℕ) → length o ≡ n → length ss * n ≤ length a → length ss * n ≤ length b
    → map opened (reshared_all j o n ss a b) ≡ map (applied o) (map opened ss)
all_open facts n j o [] a b ho h i = refl
all_open facts n j o (s ∷ ss) a b ho h i =
    let ea : length (take n a) ≡ n = first_of_more (length ss) n a h in
    let eb : length (take n b) ≡ n = first_of_more (length ss) n b i in
    let one = reshared_opens facts j o s (take n a) (take n b) (omega arith) (omega arith) in
    let more = all_open facts n j o ss (drop n a) (drop n b) ho (rest_of_more (length ss) n a h) (rest_of_more (length ss) n b i) in
    ap (λ x. x ∷ map opened (reshared_all j o n ss (drop n a) (drop n b))) one ∙ ap (λ xs. applied o (opened s) ∷ xs) more

all_long : Facts → (n : ℕ) (j : Party) (o : List ℕ) (ss : List Shares) (a b : List ℕ) → length o ≡ n → length ss * n ≤ length a → length ss * n ≤ length b
    → AllByRecursion (IsLong n) (reshared_all j o n ss a b)
all_long facts n j o [] a b ho h i = tt
all_long facts n j o (s ∷ ss) a b ho h i = (
  reshared_long facts n j o s (take n a) (take n b) ho (first_of_more (length ss) n a h) (first_of_more (length ss) n b i),
  all_long facts n j o ss (drop n a) (drop n b) ho (rest_of_more (length ss) n a h) (rest_of_more (length ss) n b i),
)

all_count : (n : ℕ) (j : Party) (o : List ℕ) (ss : List Shares) (a b : List ℕ) → length (reshared_all j o n ss a b) ≡ length ss
all_count n j o [] a b = refl
all_count n j o (s ∷ ss) a b = ap suc (all_count n j o ss (drop n a) (drop n b))

-- what a phase does to c registers of n rows
pub record IsPhased (n c : ℕ) (f : List ℕ → List ℕ) (x y : Moving) : Type 0 where
  pub opens : map opened y.shares ≡ map f (map opened x.shares)
  pub long : AllByRecursion (IsLong n) y.shares
  pub count : length y.shares ≡ c

pub phased : Facts → (n c : ℕ) (j : Party) (o : List ℕ) (x : Moving) → length o ≡ n → length x.shares ≡ c
    → c * n ≤ length (at (before j) x.masks) → c * n ≤ length (at (next j) x.masks) → IsPhased n c (applied o) x (phase j o n x)
phased facts n c j o x ho e h i =
    let ha : length x.shares * n ≤ length (at (before j) x.masks) = rw e h in
    let hb : length x.shares * n ≤ length (at (next j) x.masks) = rw e i in
    record {
      opens = all_open facts n j o x.shares (at (before j) x.masks) (at (next j) x.masks) ho ha hb;
      long = all_long facts n j o x.shares (at (before j) x.masks) (at (next j) x.masks) ho ha hb;
      count = all_count n j o x.shares (at (before j) x.masks) (at (next j) x.masks) ∙ e;
    }

-- masks that are left behind a phase
pub masks_left : (n c w : ℕ) (x : Moving) (masks : List ℕ) → length x.shares ≡ c → length masks ≡ c * n + w → length (drop (length x.shares * n) masks) ≡ w
masks_left n c w x masks e h =
    let k : length x.shares * n ≡ c * n = ap (λ k. k * n) e in
    omega (arith, length-drop (length x.shares * n) masks)
