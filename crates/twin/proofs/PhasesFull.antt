-- A phase on one machine: what the moved shares stand for gets the order, and they stay full and below 2 ^ 64.
use Rattle.std.proofs.Common.{◌≡◌, ℕ, suc, ◌+◌, ◌*◌, ◌≤◌, Bool, true, false, List, [], ◌∷◌, length, map, take, drop, refl, sym, subst, ◌∙◌, ap, arith}
use Rattle.std.specs.Prelude.{if◌then◌else◌}
use Rattle.std.specs.List.{AllByRecursion}
use Rattle.std.proofs.Math.Nat.{suc-mul}
use Rattle.std.proofs.lemmas.List.{length-take-le, length-drop, take-append-drop}
use Rattle.lanes.specs.declared.party.Party.{Party}
use Rattle.lanes.specs.declared.party.Party.TheVariants.{First, Second, Third}
use Rattle.lanes.specs.declared.three.Three.{Three}
use Rattle.lanes.specs.Party.{next, before}
use Rattle.lanes.specs.Three.{at, put, opened}
use Rattle.lanes.specs.Word.{AreWords}
use Rattle.lanes.specs.Lanes.{xors, picked}
use Rattle.tapes.specs.Order.{applied}
use Rattle.step_lists.specs.Seen.{same_party}
use Rattle.step_lists.specs.Phases.{Shares, there, back, reshared, reshared_all, there_all, back_all, Moving, phase}
use Rattle.step_lists.specs.Twin.{Both, bare_phase, masked_anew, phase_both}
use Rattle.twin.proofs.Facts.{Facts}
use Rattle.twin.proofs.Fitted.{none_below}
use Rattle.twin.proofs.Same.{IsFull}
use Rattle.twin.proofs.PhasesBoth.{phase_changes}

-- ---- words below 2 ^ 64

-- three shares of words
pub record IsBelow (s : Shares) : Type 0 where
  pub each : (p : Party) → AreWords (at p s)

front_below : Facts → (n : ℕ) (xs : List ℕ) → AreWords xs → AreWords (take n xs)
front_below facts n xs h = facts.behind.first (take n xs) (drop n xs) (subst AreWords (sym (take-append-drop n xs)) h)

rest_below : Facts → (n : ℕ) (xs : List ℕ) → AreWords xs → AreWords (drop n xs)
rest_below facts n xs h = facts.behind.behind (take n xs) (drop n xs) (subst AreWords (sym (take-append-drop n xs)) h)

there_below : Facts → (j : Party) (o : List ℕ) (s : Shares) (a : List ℕ) → IsBelow s → AreWords a → AreWords (there j o s a)
there_below facts j o s a h i =
    facts.stay.xor (applied o (xors (at (before j) s) (at j s))) a
    (facts.stay.pick o (xors (at (before j) s) (at j s)) (facts.stay.xor (at (before j) s) (at j s) (h.each (before j)) (h.each j))) i

back_below : Facts → (j : Party) (o : List ℕ) (s : Shares) (b : List ℕ) → IsBelow s → AreWords b → AreWords (back j o s b)
back_below facts j o s b h i = facts.stay.xor (applied o (at (next j) s)) b (facts.stay.pick o (at (next j) s) (h.each (next j))) i

each_below : (j q : Party) (o : List ℕ) (s : Shares) (a b : List ℕ) → AreWords a → AreWords b → AreWords (xors (there j o s a) (back j o s b))
    → AreWords (at q (reshared j o s a b))
each_below First First o s a b ha hb hs = hs
each_below First Second o s a b ha hb hs = hb
each_below First Third o s a b ha hb hs = ha
each_below Second First o s a b ha hb hs = ha
each_below Second Second o s a b ha hb hs = hs
each_below Second Third o s a b ha hb hs = hb
each_below Third First o s a b ha hb hs = hb
each_below Third Second o s a b ha hb hs = ha
each_below Third Third o s a b ha hb hs = hs

three_below : (j : Party) (o : List ℕ) (s : Shares) (a b : List ℕ) → AreWords a → AreWords b → AreWords (xors (there j o s a) (back j o s b)) → IsBelow (reshared j o s a b)
three_below j o s a b ha hb hs = record { each = λ q. each_below j q o s a b ha hb hs }

pub all_below : Facts → (j : Party) (o : List ℕ) (n : ℕ) (ss : List Shares) (a b : List ℕ) → AllByRecursion IsBelow ss → AreWords a → AreWords b
    → AllByRecursion IsBelow (reshared_all j o n ss a b)
all_below facts j o n [] a b h ha hb = tt
all_below facts j o n (s ∷ ss) a b h ha hb =
    let x = front_below facts n a ha in
    let y = front_below facts n b hb in (
      three_below j o s (take n a) (take n b) x y
          (facts.stay.xor (there j o s (take n a)) (back j o s (take n b)) (there_below facts j o s (take n a) h.0 x) (back_below facts j o s (take n b) h.0 y)),
      all_below facts j o n ss (drop n a) (drop n b) h.1 (rest_below facts n a ha) (rest_below facts n b hb),
    )

there_all_below : Facts → (j : Party) (o : List ℕ) (n : ℕ) (ss : List Shares) (a : List ℕ) → AllByRecursion IsBelow ss → AreWords a → AreWords (there_all j o n ss a)
there_all_below facts j o n [] a h i = none_below
there_all_below facts j o n (s ∷ ss) a h i =
    facts.behind.appended (there j o s (take n a)) (there_all j o n ss (drop n a)) (there_below facts j o s (take n a) h.0 (front_below facts n a i))
    (there_all_below facts j o n ss (drop n a) h.1 (rest_below facts n a i))

back_all_below : Facts → (j : Party) (o : List ℕ) (n : ℕ) (ss : List Shares) (b : List ℕ) → AllByRecursion IsBelow ss → AreWords b → AreWords (back_all j o n ss b)
back_all_below facts j o n [] b h i = none_below
back_all_below facts j o n (s ∷ ss) b h i =
    facts.behind.appended (back j o s (take n b)) (back_all j o n ss (drop n b)) (back_below facts j o s (take n b) h.0 (front_below facts n b i))
    (back_all_below facts j o n ss (drop n b) h.1 (rest_below facts n b i))

-- registers that are moved, and their masks
pub record AllBelow (x : Moving) : Type 0 where
  pub shares : AllByRecursion IsBelow x.shares
  pub masks : (p : Party) → AreWords (at p x.masks)

put_below : (p : Party) (a : List ℕ) (x : Three (List ℕ)) → AreWords a → ((q : Party) → AreWords (at q x)) → (q : Party) → AreWords (at q (put p a x))
put_below First a x h i First = h
put_below First a x h i Second = i Second
put_below First a x h i Third = i Third
put_below Second a x h i First = i First
put_below Second a x h i Second = h
put_below Second a x h i Third = i Third
put_below Third a x h i First = i First
put_below Third a x h i Second = i Second
put_below Third a x h i Third = h

pub phase_below : Facts → (j : Party) (o : List ℕ) (n : ℕ) (x : Moving) → AllBelow x → AllBelow (phase j o n x)
phase_below facts j o n x h =
    let k = length x.shares * n in
    record {
      shares = all_below facts j o n x.shares (at (before j) x.masks) (at (next j) x.masks) h.shares (h.masks (before j)) (h.masks (next j));
      masks =
          put_below (before j) (drop k (at (before j) x.masks)) (put (next j) (drop k (at (next j) x.masks)) x.masks)
          (rest_below facts k (at (before j) x.masks) (h.masks (before j)))
          (put_below (next j) (drop k (at (next j) x.masks)) x.masks (rest_below facts k (at (next j) x.masks) (h.masks (next j))) h.masks);
    }

-- ---- the changes of the twin

pub record BothBelow (b : Both) : Type 0 where
  pub one : AllBelow b.one
  pub other : AllBelow b.other
  pub changes : AreWords b.changes

bare_below : Facts → (v j : Party) (o : List ℕ) (n : ℕ) (x : Moving) → AllBelow x → AreWords (bare_phase v j o n x)
bare_below facts v j o n x h =
    one_of (same_party j v) (same_party j (next v)) (there_all j o n x.shares []) (back_all j o n x.shares [])
    (there_all_below facts j o n x.shares [] h.shares none_below) (back_all_below facts j o n x.shares [] h.shares none_below) where
      one_of : (a b : Bool) (xs ys : List ℕ) → AreWords xs → AreWords ys → AreWords (if a then xs else (if b then ys else []))
      one_of true b xs ys h i = h
      one_of false true xs ys h i = i
      one_of false false xs ys h i = none_below

pub both_below : Facts → (v j : Party) (p q : List ℕ) (n : ℕ) (b : Both) → BothBelow b → BothBelow (phase_both v j p q n b)
both_below facts v j p q n b h =
    let c = phase_changes v j p q n b in
    let words = facts.stay.xor (bare_phase v j p n b.one) (bare_phase v j q n b.other) (bare_below facts v j p n b.one h.one) (bare_below facts v j q n b.other h.other) in
    let masked : AllBelow (masked_anew v c b.other) = record {
      shares = h.other.shares;
      masks =
          put_below (before v) (xors (at (before v) b.other.masks) c) b.other.masks
          (facts.stay.xor (at (before v) b.other.masks) c (h.other.masks (before v)) words) h.other.masks;
    } in
    record {
      one = phase_below facts j p n b.one h.one;
      other = phase_below facts j q n (masked_anew v c b.other) masked;
      changes = facts.behind.appended b.changes c h.changes words;
    }

-- ---- what a phase makes of the words that shares stand for

-- the masks of two messages come off their xor
unmasked : Facts → (x y a b : List ℕ) → length a ≤ length (xors x y) → length b ≤ length (xors x y)
    → xors (xors (xors (xors x a) (xors y b)) b) a ≡ xors x y
unmasked facts x y a b h i =
    ap (λ z. xors (xors z b) a) (crossed x a y b ∙ sym (facts.associates (xors x y) a b))
    ∙ (ap (λ z. xors z a) (facts.comes_off (xors (xors x y) a) b (omega (arith, facts.lengths.xor (xors x y) a)))
    ∙ facts.comes_off (xors x y) a h) where
      crossed : (a b c d : List ℕ) → xors (xors a b) (xors c d) ≡ xors (xors a c) (xors b d)
      crossed a b c d =
          facts.associates a b (xors c d)
          ∙ (ap (λ x. xors a x) (sym (facts.associates b c d) ∙ (ap (λ x. xors x d) (facts.commutes b c) ∙ facts.associates c b d))
          ∙ sym (facts.associates a c (xors b d)))

reshared_sum : Facts → (j : Party) (o : List ℕ) (s : Shares) (a b : List ℕ) → length a ≤ length o → length b ≤ length o
    → xors (xors (xors (there j o s a) (back j o s b)) b) a ≡ applied o (xors (xors (at (before j) s) (at j s)) (at (next j) s))
reshared_sum facts j o s a b h i =
    let x = xors (at (before j) s) (at j s) in
    let y = at (next j) s in
    let lx : length (picked o x) ≡ length o = facts.lengths.pick o x in
    let m = facts.lengths.xor (picked o x) (picked o y) in
    unmasked facts (applied o x) (applied o y) a b (omega arith) (omega arith) ∙ sym (facts.applied.xor o x y)

reshared_opens : Facts → (j : Party) (o : List ℕ) (s : Shares) (a b : List ℕ) → length a ≤ length o → length b ≤ length o
    → opened (reshared j o s a b) ≡ applied o (opened s)
reshared_opens facts First o s a b h i =
    facts.round First (reshared First o s a b) ∙ (reshared_sum facts First o s a b h i ∙ ap (applied o) (sym (facts.round Third s)))
reshared_opens facts Second o s a b h i =
    facts.round Second (reshared Second o s a b) ∙ (reshared_sum facts Second o s a b h i ∙ ap (applied o) (sym (facts.round First s)))
reshared_opens facts Third o s a b h i =
    facts.round Third (reshared Third o s a b) ∙ (reshared_sum facts Third o s a b h i ∙ ap (applied o) (sym (facts.round Second s)))

-- ---- how long its shares are

pub record IsLong (n : ℕ) (s : Shares) : Type 0 where
  pub each : (p : Party) → length (at p s) ≡ n

sum_long : Facts → (n : ℕ) (j : Party) (o : List ℕ) (s : Shares) (a b : List ℕ) → length o ≡ n → length a ≡ n → length b ≡ n
    → length (xors (there j o s a) (back j o s b)) ≡ n
sum_long facts n j o s a b ho ha hb =
    let x = xors (at (before j) s) (at j s) in
    let y = at (next j) s in
    let px : length (picked o x) ≡ length o = facts.lengths.pick o x in
    let py : length (picked o y) ≡ length o = facts.lengths.pick o y in
    let lt = facts.lengths.xor (picked o x) a in
    let lb = facts.lengths.xor (picked o y) b in
    let ls = facts.lengths.xor (there j o s a) (back j o s b) in
    omega arith

reshared_long : Facts → (n : ℕ) (j : Party) (o : List ℕ) (s : Shares) (a b : List ℕ) → length o ≡ n → length a ≡ n → length b ≡ n → IsLong n (reshared j o s a b)
reshared_long facts n j o s a b ho ha hb = record { each = λ q. long j q } where
  long : (j q : Party) → length (at q (reshared j o s a b)) ≡ n
  long First First = sum_long facts n First o s a b ho ha hb
  long First Second = hb
  long First Third = ha
  long Second First = ha
  long Second Second = sum_long facts n Second o s a b ho ha hb
  long Second Third = hb
  long Third First = hb
  long Third Second = ha
  long Third Third = sum_long facts n Third o s a b ho ha hb

front_long : (k n : ℕ) (a : List ℕ) → suc k * n ≤ length a → length (take n a) ≡ n
front_long k n a h = let e = suc-mul k n in length-take-le n a (omega arith)

rest_long : (k n : ℕ) (a : List ℕ) → suc k * n ≤ length a → k * n ≤ length (drop n a)
rest_long k n a h = let e = suc-mul k n in omega (arith, length-drop n a)

all_open : Facts → (n : ℕ) (j : Party) (o : List ℕ) (ss : List Shares) (a b : List ℕ) → length o ≡ n → length ss * n ≤ length a → length ss * n ≤ length b
    → map opened (reshared_all j o n ss a b) ≡ map (applied o) (map opened ss)
all_open facts n j o [] a b ho h i = refl
all_open facts n j o (s ∷ ss) a b ho h i =
    let ea : length (take n a) ≡ n = front_long (length ss) n a h in
    let eb : length (take n b) ≡ n = front_long (length ss) n b i in
    let one = reshared_opens facts j o s (take n a) (take n b) (omega arith) (omega arith) in
    let more = all_open facts n j o ss (drop n a) (drop n b) ho (rest_long (length ss) n a h) (rest_long (length ss) n b i) in
    ap (λ x. x ∷ map opened (reshared_all j o n ss (drop n a) (drop n b))) one ∙ ap (λ xs. applied o (opened s) ∷ xs) more

all_long : Facts → (n : ℕ) (j : Party) (o : List ℕ) (ss : List Shares) (a b : List ℕ) → length o ≡ n → length ss * n ≤ length a → length ss * n ≤ length b
    → AllByRecursion (IsLong n) (reshared_all j o n ss a b)
all_long facts n j o [] a b ho h i = tt
all_long facts n j o (s ∷ ss) a b ho h i = (
  reshared_long facts n j o s (take n a) (take n b) ho (front_long (length ss) n a h) (front_long (length ss) n b i),
  all_long facts n j o ss (drop n a) (drop n b) ho (rest_long (length ss) n a h) (rest_long (length ss) n b i),
)

pub all_count : (n : ℕ) (j : Party) (o : List ℕ) (ss : List Shares) (a b : List ℕ) → length (reshared_all j o n ss a b) ≡ length ss
all_count n j o [] a b = refl
all_count n j o (s ∷ ss) a b = ap suc (all_count n j o ss (drop n a) (drop n b))

pub full_of : (n : ℕ) (ss : List Shares) → AllByRecursion (IsLong n) ss → AllByRecursion IsBelow ss → AllByRecursion (IsFull n) ss
full_of n [] h i = tt
full_of n (s ∷ ss) h i = (record { each = λ p. record { long = h.0.each p; below = i.0.each p } }, full_of n ss h.1 i.1)

-- what a phase does to c registers of n rows
pub record IsPhased (n c : ℕ) (f : List ℕ → List ℕ) (x y : Moving) : Type 0 where
  pub opens : map opened y.shares ≡ map f (map opened x.shares)
  pub long : AllByRecursion (IsLong n) y.shares
  pub count : length y.shares ≡ c

pub phased : Facts → (n c : ℕ) (j : Party) (o : List ℕ) (x : Moving) → length o ≡ n → length x.shares ≡ c
    → c * n ≤ length (at (before j) x.masks) → c * n ≤ length (at (next j) x.masks) → IsPhased n c (applied o) x (phase j o n x)
phased facts n c j o x ho e h i =
    let ha : length x.shares * n ≤ length (at (before j) x.masks) = rw e h in
    let hb : length x.shares * n ≤ length (at (next j) x.masks) = rw e i in
    record {
      opens = all_open facts n j o x.shares (at (before j) x.masks) (at (next j) x.masks) ho ha hb;
      long = all_long facts n j o x.shares (at (before j) x.masks) (at (next j) x.masks) ho ha hb;
      count = all_count n j o x.shares (at (before j) x.masks) (at (next j) x.masks) ∙ e;
    }

-- masks that are left behind a phase
pub masks_left : (n c w : ℕ) (x : Moving) (masks : List ℕ) → length x.shares ≡ c → length masks ≡ c * n + w → length (drop (length x.shares * n) masks) ≡ w
masks_left n c w x masks e h =
    let k : length x.shares * n ≡ c * n = ap (λ k. k * n) e in
    omega (arith, length-drop (length x.shares * n) masks)
