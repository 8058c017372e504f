-- The phases of one party keep pairs of one length.
use Rattle.std.proofs.Common.{◌≡◌, ℕ, suc, ◌*◌, ◌≤◌, List, [], ◌∷◌, length, take, drop, refl, sym, ap, subst, ◌∙◌, arith, length-drop}
use Rattle.std.specs.List.{AllByRecursion}
use Rattle.std.proofs.Math.Nat.{suc-mul}
use Rattle.lanes.specs.declared.party.Party.{Party}
use Rattle.lanes.specs.declared.party.Party.TheVariants.{First, Second, Third}
use Rattle.lanes.specs.Party.{before}
use Rattle.lanes.specs.Three.{at, put}
use Rattle.lanes.specs.Word.{AreWords}
use Rattle.lanes.specs.Lanes.{xors}
use Rattle.step_lists.specs.Part.{Pair, PartMoving, sent_by_j, sent_before_j, pairs_of_j, pairs_before_j, pairs_of_masks, part_phase}
use Rattle.party_core.specs.Doing.{IsPairOf}
use Rattle.party_core.proofs.LongWords.{LaneFacts, dropped_below, taken_long, xors_long, masked_long}

-- pairs of n words each, and words
pub record IsMoving (n m : ℕ) (x : PartMoving) : Type 0 where
  pub pairs : AllByRecursion (IsPairOf n) x.pairs
  pub count : length x.pairs ≡ m
  pub own : AreWords x.own
  pub following : AreWords x.following
  pub received : (p : Party) → AreWords (at p x.received)

-- the masks and the words of a phase are there, by the part that a party has in it
abbrev pub Feeds : Party → Party → ℕ → PartMoving → Type 0
Feeds First First k x = (k ≤ length x.following) × (k ≤ length x.received.third)
Feeds Second Second k x = (k ≤ length x.following) × (k ≤ length x.received.first)
Feeds Third Third k x = (k ≤ length x.following) × (k ≤ length x.received.second)
Feeds Third First k x = (k ≤ length x.own) × (k ≤ length x.received.first)
Feeds First Second k x = (k ≤ length x.own) × (k ≤ length x.received.second)
Feeds Second Third k x = (k ≤ length x.own) × (k ≤ length x.received.third)
Feeds Second First k x = (k ≤ length x.own) × (k ≤ length x.following)
Feeds Third Second k x = (k ≤ length x.own) × (k ≤ length x.following)
Feeds First Third k x = (k ≤ length x.own) × (k ≤ length x.following)

-- the words of the first of some registers, and of the others
pub record Splits (n k : ℕ) (xs : List ℕ) : Type 0 where
  pub first : n ≤ length xs
  pub rest : k * n ≤ length (drop n xs)

pub splits : (n k : ℕ) (xs : List ℕ) → suc k * n ≤ length xs → Splits n k xs
splits n k xs h =
    let e = suc-mul k n in
    let d = length-drop n xs in
    record { first = omega (arith, e, h); rest = omega (arith, e, h, d) }

module _ (facts : LaneFacts) where
  of_j : (n : ℕ) (o : List ℕ) (ps : List Pair) (b got : List ℕ) → length o ≤ n → AllByRecursion (IsPairOf n) ps → length ps * n ≤ length b → length ps * n ≤ length got
      → AreWords b → AreWords got → AllByRecursion (IsPairOf n) (pairs_of_j o n ps b got) × (length (pairs_of_j o n ps b got) ≡ length ps)
  of_j n o [] b got l h i j x y = (tt, refl)
  of_j n o (p ∷ ps) b got l h i j x y =
      let s = splits n (length ps) b i in
      let t = splits n (length ps) got j in
      let mask = taken_long facts n b s.first x in
      let words = taken_long facts n got t.first y in
      let more = of_j n o ps (drop n b) (drop n got) l h.1 s.rest t.rest (dropped_below facts n b x) (dropped_below facts n got y) in
      let own = xors_long facts n (take n got) (sent_by_j o p (take n b)) words (masked_long facts n o p.following (take n b) l h.0.following.below mask) in
      ((record { own = own; following = mask }, more.0), ap suc more.1)

  before_j : (n : ℕ) (o : List ℕ) (ps : List Pair) (a got : List ℕ) → length o ≤ n → AllByRecursion (IsPairOf n) ps → length ps * n ≤ length a → length ps * n ≤ length got
      → AreWords a → AreWords got → AllByRecursion (IsPairOf n) (pairs_before_j o n ps a got) × (length (pairs_before_j o n ps a got) ≡ length ps)
  before_j n o [] a got l h i j x y = (tt, refl)
  before_j n o (p ∷ ps) a got l h i j x y =
      let s = splits n (length ps) a i in
      let t = splits n (length ps) got j in
      let mask = taken_long facts n a s.first x in
      let words = taken_long facts n got t.first y in
      let more = before_j n o ps (drop n a) (drop n got) l h.1 s.rest t.rest (dropped_below facts n a x) (dropped_below facts n got y) in
      let both = xors_long facts n p.own p.following h.0.own h.0.following in
      let following = xors_long facts n (sent_before_j o p (take n a)) (take n got) (masked_long facts n o (xors p.own p.following) (take n a) l both.below mask) words in
      ((record { own = mask; following = following }, more.0), ap suc more.1)

  of_masks : (n : ℕ) (ps : List Pair) (b a : List ℕ) → length ps * n ≤ length b → length ps * n ≤ length a → AreWords b → AreWords a
      → AllByRecursion (IsPairOf n) (pairs_of_masks n ps b a) × (length (pairs_of_masks n ps b a) ≡ length ps)
  of_masks n [] b a i j x y = (tt, refl)
  of_masks n (p ∷ ps) b a i j x y =
      let s = splits n (length ps) b i in
      let t = splits n (length ps) a j in
      let more = of_masks n ps (drop n b) (drop n a) s.rest t.rest (dropped_below facts n b x) (dropped_below facts n a y) in
      ((record { own = taken_long facts n b s.first x; following = taken_long facts n a t.first y }, more.0), ap suc more.1)

  put_words : (q : Party) (xs : List ℕ) (x : PartMoving) → AreWords xs → ((p : Party) → AreWords (at p x.received)) → (p : Party) → AreWords (at p (put q xs x.received))
  put_words First xs x h i First = h
  put_words First xs x h i Second = i Second
  put_words First xs x h i Third = i Third
  put_words Second xs x h i First = i First
  put_words Second xs x h i Second = h
  put_words Second xs x h i Third = i Third
  put_words Third xs x h i First = i First
  put_words Third xs x h i Second = i Second
  put_words Third xs x h i Third = h

  enough : (n m : ℕ) (x : PartMoving) (xs : List ℕ) → IsMoving n m x → m * n ≤ length xs → length x.pairs * n ≤ length xs
  enough n m x xs h k = subst (λ c. c * n ≤ length xs) (sym h.count) k

  -- the three parts that a party has in a phase
  at_j : (n m : ℕ) (j : Party) (o : List ℕ) (x : PartMoving) → length o ≤ n → IsMoving n m x → m * n ≤ length x.following → m * n ≤ length (at (before j) x.received)
      → IsMoving n m (record x {
        pairs = pairs_of_j o n x.pairs x.following (at (before j) x.received);
        following = drop (length x.pairs * n) x.following;
        received = put (before j) (drop (length x.pairs * n) (at (before j) x.received)) x.received;
      })
  at_j n m j o x l h i k =
      let got = at (before j) x.received in
      let new = of_j n o x.pairs x.following got l h.pairs (enough n m x x.following h i) (enough n m x got h k) h.following (h.received (before j)) in
      record {
        pairs = new.0;
        count = new.1 ∙ h.count;
        own = h.own;
        following = dropped_below facts (length x.pairs * n) x.following h.following;
        received = put_words (before j) (drop (length x.pairs * n) got) x (dropped_below facts (length x.pairs * n) got (h.received (before j))) h.received;
      }

  at_before : (n m : ℕ) (j : Party) (o : List ℕ) (x : PartMoving) → length o ≤ n → IsMoving n m x → m * n ≤ length x.own → m * n ≤ length (at j x.received)
      → IsMoving n m (record x {
        pairs = pairs_before_j o n x.pairs x.own (at j x.received);
        own = drop (length x.pairs * n) x.own;
        received = put j (drop (length x.pairs * n) (at j x.received)) x.received;
      })
  at_before n m j o x l h i k =
      let got = at j x.received in
      let new = before_j n o x.pairs x.own got l h.pairs (enough n m x x.own h i) (enough n m x got h k) h.own (h.received j) in
      record {
        pairs = new.0;
        count = new.1 ∙ h.count;
        own = dropped_below facts (length x.pairs * n) x.own h.own;
        following = h.following;
        received = put_words j (drop (length x.pairs * n) got) x (dropped_below facts (length x.pairs * n) got (h.received j)) h.received;
      }

  at_third : (n m : ℕ) (x : PartMoving) → IsMoving n m x → m * n ≤ length x.own → m * n ≤ length x.following
      → IsMoving n m (record x {
        pairs = pairs_of_masks n x.pairs x.own x.following;
        own = drop (length x.pairs * n) x.own;
        following = drop (length x.pairs * n) x.following;
      })
  at_third n m x h i k =
      let new = of_masks n x.pairs x.own x.following (enough n m x x.own h i) (enough n m x x.following h k) h.own h.following in
      record {
        pairs = new.0;
        count = new.1 ∙ h.count;
        own = dropped_below facts (length x.pairs * n) x.own h.own;
        following = dropped_below facts (length x.pairs * n) x.following h.following;
        received = h.received;
      }

  pub phase_moves : (n m : ℕ) (v j : Party) (o : List ℕ) (x : PartMoving) → length o ≤ n → IsMoving n m x → Feeds v j (m * n) x → IsMoving n m (part_phase v j o n x)
  phase_moves n m First First o x l h f = at_j n m First o x l h f.0 f.1
  phase_moves n m Second Second o x l h f = at_j n m Second o x l h f.0 f.1
  phase_moves n m Third Third o x l h f = at_j n m Third o x l h f.0 f.1
  phase_moves n m Third First o x l h f = at_before n m First o x l h f.0 f.1
  phase_moves n m First Second o x l h f = at_before n m Second o x l h f.0 f.1
  phase_moves n m Second Third o x l h f = at_before n m Third o x l h f.0 f.1
  phase_moves n m Second First o x l h f = at_third n m x h f.0 f.1
  phase_moves n m Third Second o x l h f = at_third n m x h f.0 f.1
  phase_moves n m First Third o x l h f = at_third n m x h f.0 f.1
