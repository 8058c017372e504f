-- Shares, and what a step sends of them, are words below 2 ^ 64.
use Rattle.std.proofs.Common.{ℕ, zero, suc, ◌≤◌, ◌<◌, ◌^◌, ◌*◌, Bool, true, false, List, [], ◌∷◌, ◌++◌, length, map, take, drop, replicate, sym, subst, arith}
use Rattle.std.specs.Prelude.{IsTrue, ◌==◌, slice_index, slice_index_or, if◌then◌else◌}
use Rattle.std.specs.List.{AllByRecursion, flat_map, range_with_len}
use Rattle.std.proofs.lemmas.List.{take-append-drop}
use Rattle.lanes.specs.declared.party.Party.{Party}
use Rattle.lanes.specs.declared.party.Party.TheVariants.{First, Second, Third}
use Rattle.lanes.specs.declared.three.Three.{Three}
use Rattle.lanes.specs.Party.{next, before}
use Rattle.lanes.specs.Three.{at, put, each}
use Rattle.lanes.specs.Word.{AreWords}
use Rattle.lanes.specs.Lanes.{xors}
use Rattle.lanes.specs.SharedAnd.{and_share, and_shares}
use Rattle.tapes.specs.declared.draw.Need.{Need}
use Rattle.tapes.specs.declared.draw.Need.TheVariants.{Word as NeedsWord, OrderOf}
use Rattle.tapes.specs.declared.draw.Draw.{Draw}
use Rattle.tapes.specs.declared.draw.Draw.TheVariants.{Word, Order}
use Rattle.tapes.specs.Needs.{FitsNeeds}
use Rattle.tapes.specs.Order.{place_of, inverse_of, applied}
use Rattle.step_lists.specs.declared.step.Step.{Step}
use Rattle.step_lists.specs.declared.step.LinOp.{LinOp}
use Rattle.step_lists.specs.declared.step.LinOp.TheVariants.{Xor, Not, Left, Right, Mask, Spread, Gather}
use Rattle.step_lists.specs.Layout.{Layout}
use Rattle.step_lists.specs.Rules.{fits_lin}
use Rattle.step_lists.specs.Draws.{ThreeTapes, joined, nothing, parties, needs_of, words_in, order_in}
use Rattle.step_lists.specs.Lin.{lin_share}
use Rattle.step_lists.specs.Phases.{Shares, Links, no_words, message, behind_on, there, back, reshared, Moving, reshared_all, there_all, back_all, phase, phase_words}
use Rattle.step_lists.specs.Machine.{Machine, shares, const_share, given_share, moving, first_phase, second_phase, third_phase, shown_shares, steer_order, drawn_phase, private_phase, and_words, to_both}
use Rattle.joint_machine.specs.Below.{AreWordsOn}
use Rattle.joint_machine.proofs.Facts.{Facts}
use Rattle.joint_machine.proofs.Listing.{item_has}
use Rattle.joint_machine.proofs.Drawn.{AreDrawsOf}
use Rattle.joint_machine.proofs.OpenFits.{lin_words}

-- ---- lists of words, and such lists for each party

-- a list of words for each party
abbrev pub EachWords : Three (List ℕ) → Type 0
EachWords s = (p : Party) → AreWords (at p s)

abbrev pub AllWords : List Shares → Type 0
AllWords ss = AllByRecursion EachWords ss

none_below : AreWords []
none_below = record { below = λ k. omega arith }

words_more : (w : ℕ) (ws : List ℕ) → w < 2 ^ 64 → AreWords ws → AreWords (w ∷ ws)
words_more w ws h i = record { below = by } where
  by : (k : ℕ) → slice_index (w ∷ ws) k < 2 ^ 64
  by zero = h
  by (suc k) = i.below k

zeros_below : (n : ℕ) → AreWords (replicate n 0)
zeros_below zero = none_below
zeros_below (suc n) = words_more 0 (replicate n 0) (omega arith) (zeros_below n)

taken_below : Facts → (n : ℕ) (xs : List ℕ) → AreWords xs → AreWords (take n xs)
taken_below facts n xs h = facts.behind.first (take n xs) (drop n xs) (subst AreWords (sym (take-append-drop n xs)) h)

dropped_below : Facts → (n : ℕ) (xs : List ℕ) → AreWords xs → AreWords (drop n xs)
dropped_below facts n xs h = facts.behind.behind (take n xs) (drop n xs) (subst AreWords (sym (take-append-drop n xs)) h)

pub put_has : {A : Type 0} (P : A → Type 0) (p : Party) (x : A) (s : Three A) → P x → ((q : Party) → P (at q s)) → (q : Party) → P (at q (put p x s))
put_has P First x s h i First = h
put_has P First x s h i Second = i Second
put_has P First x s h i Third = i Third
put_has P Second x s h i First = i First
put_has P Second x s h i Second = h
put_has P Second x s h i Third = i Third
put_has P Third x s h i First = i First
put_has P Third x s h i Second = i Second
put_has P Third x s h i Third = h

pub nothing_below : EachWords nothing
nothing_below First = none_below
nothing_below Second = none_below
nothing_below Third = none_below

pub all_append : (ss ts : List Shares) → AllWords ss → AllWords ts → AllWords (ss ++ ts)
all_append [] ts h i = i
all_append (s ∷ ss) ts h i = (h.0, all_append ss ts h.1 i)

-- ---- links

pub silent : AreWordsOn no_words
silent First = nothing_below
silent Second = nothing_below
silent Third = nothing_below

pub message_below : (source target : Party) (ws : List ℕ) → AreWords ws → AreWordsOn (message source target ws)
message_below source target ws h = put_has EachWords source (put target ws nothing) no_words (put_has AreWords target ws nothing h nothing_below) silent

joined_below : Facts → (a b : Three (List ℕ)) → EachWords a → EachWords b → EachWords (joined a b)
joined_below facts a b h i First = facts.behind.appended a.first b.first (h First) (i First)
joined_below facts a b h i Second = facts.behind.appended a.second b.second (h Second) (i Second)
joined_below facts a b h i Third = facts.behind.appended a.third b.third (h Third) (i Third)

pub behind_below : Facts → (a b : Links) → AreWordsOn a → AreWordsOn b → AreWordsOn (behind_on a b)
behind_below facts a b h i First = joined_below facts a.first b.first (h First) (i First)
behind_below facts a b h i Second = joined_below facts a.second b.second (h Second) (i Second)
behind_below facts a b h i Third = joined_below facts a.third b.third (h Third) (i Third)

pub both_below : Facts → (p : Party) (ws : List ℕ) → AreWords ws → AreWordsOn (to_both p ws)
both_below facts p ws h = behind_below facts (message p (next p) ws) (message p (before p) ws) (message_below p (next p) ws h) (message_below p (before p) ws h)

-- ---- draws

drawn_below : (ns : List Need) (ds : List Draw) → FitsNeeds ns ds → AreWords (words_in ds)
drawn_below [] [] h = none_below
drawn_below [] (d ∷ ds) h = absurd h
drawn_below (n ∷ ns) [] h = absurd h
drawn_below (NeedsWord ∷ ns) (Word w ∷ ds) h = words_more w (words_in ds) h.0 (drawn_below ns ds h.1)
drawn_below (NeedsWord ∷ ns) (Order o ∷ ds) h = absurd h.0
drawn_below (OrderOf n ∷ ns) (Word w ∷ ds) h = absurd h.0
drawn_below (OrderOf n ∷ ns) (Order o ∷ ds) h = drawn_below ns ds h.1

order_short : (ns : List Need) (ds : List Draw) → FitsNeeds ns ds → length (order_in ds) ≤ 2 ^ 32
order_short [] [] h = omega arith
order_short [] (d ∷ ds) h = absurd h
order_short (n ∷ ns) [] h = absurd h
order_short (NeedsWord ∷ ns) (Word w ∷ ds) h = order_short ns ds h.1
order_short (NeedsWord ∷ ns) (Order o ∷ ds) h = absurd h.0
order_short (OrderOf n ∷ ns) (Word w ∷ ds) h = absurd h.0
order_short (OrderOf n ∷ ns) (Order o ∷ ds) h = h.0.0.short

place_within : (v : ℕ) (o : List ℕ) → place_of v o ≤ length o
place_within v [] = omega arith
place_within v (x ∷ xs) = by (v == x) (place_within v xs) where
  by : (b : Bool) → place_of v xs ≤ length xs → (if b then 0 else suc (place_of v xs)) ≤ suc (length xs)
  by true h = omega arith
  by false h = omega (arith, h)

-- an inverse order's items are words
inverse_below : (o : List ℕ) → length o ≤ 2 ^ 32 → AreWords (inverse_of o)
inverse_below o h = by (range_with_len 0 (length o)) where
  by : (vs : List ℕ) → AreWords (map (λ v. place_of v o) vs)
  by [] = none_below
  by (v ∷ vs) = words_more (place_of v o) (map (λ v. place_of v o) vs) (omega (arith, place_within v o, h)) (by vs)

module _ {T : Type 0} (l : Layout) (s : Step T) (ds : ThreeTapes) (drawn : AreDrawsOf l s ds) where
  pub masks_below : EachWords (each words_in ds)
  masks_below First = drawn_below (at First (needs_of l s)) ds.first (drawn First)
  masks_below Second = drawn_below (at Second (needs_of l s)) ds.second (drawn Second)
  masks_below Third = drawn_below (at Third (needs_of l s)) ds.third (drawn Third)

  pub drawn_short : (p : Party) → length (order_in (at p ds)) ≤ 2 ^ 32
  drawn_short p = order_short (at p (needs_of l s)) (at p ds) (drawn p)

-- ---- what each step makes and sends

module _ (facts : Facts) where
  pub share_below : (m : Machine) → AllWords m.registers → (r : ℕ) → EachWords (shares m r)
  share_below m h r = item_has EachWords m.registers r nothing h nothing_below

  pub const_below : (words : List ℕ) → AreWords words → EachWords (parties (λ i. const_share i words))
  const_below words h First = h
  const_below words h Second = zeros_below (length words)
  const_below words h Third = zeros_below (length words)

  lin_share_below : (l : Layout) (p : Party) (op : LinOp) (f : ℕ → List ℕ) → ((r : ℕ) → AreWords (f r)) → IsTrue (fits_lin l op) → AreWords (lin_share p op f)
  lin_share_below l First op f h i = lin_words facts l op f (λ r j. h r) i
  lin_share_below l Second (Not a) f h i = h a
  lin_share_below l Second (Xor a b) f h i = lin_words facts l (Xor a b) f (λ r j. h r) i
  lin_share_below l Second (Left a by) f h i = lin_words facts l (Left a by) f (λ r j. h r) i
  lin_share_below l Second (Right a by) f h i = lin_words facts l (Right a by) f (λ r j. h r) i
  lin_share_below l Second (Mask a word) f h i = lin_words facts l (Mask a word) f (λ r j. h r) i
  lin_share_below l Second (Spread a) f h i = lin_words facts l (Spread a) f (λ r j. h r) i
  lin_share_below l Second (Gather sources places) f h i = lin_words facts l (Gather sources places) f (λ r j. h r) i
  lin_share_below l Third (Not a) f h i = h a
  lin_share_below l Third (Xor a b) f h i = lin_words facts l (Xor a b) f (λ r j. h r) i
  lin_share_below l Third (Left a by) f h i = lin_words facts l (Left a by) f (λ r j. h r) i
  lin_share_below l Third (Right a by) f h i = lin_words facts l (Right a by) f (λ r j. h r) i
  lin_share_below l Third (Mask a word) f h i = lin_words facts l (Mask a word) f (λ r j. h r) i
  lin_share_below l Third (Spread a) f h i = lin_words facts l (Spread a) f (λ r j. h r) i
  lin_share_below l Third (Gather sources places) f h i = lin_words facts l (Gather sources places) f (λ r j. h r) i

  pub lin_below : (l : Layout) (m : Machine) (op : LinOp) → AllWords m.registers → IsTrue (fits_lin l op) → EachWords (parties (λ i. lin_share i op (λ r. at i (shares m r))))
  lin_below l m op h i First = lin_share_below l First op (λ r. at First (shares m r)) (λ r. share_below m h r First) i
  lin_below l m op h i Second = lin_share_below l Second op (λ r. at Second (shares m r)) (λ r. share_below m h r Second) i
  lin_below l m op h i Third = lin_share_below l Third op (λ r. at Third (shares m r)) (λ r. share_below m h r Third) i

  and_share_below : (p : Party) (s t masks : Shares) → EachWords s → EachWords masks → AreWords (and_share p s t masks)
  and_share_below p s t masks h i =
      facts.stay.xor _ (at (next p) masks) (facts.stay.xor _ (at p masks) (facts.stay.cross (at p s) (at (next p) s) (at p t) (at (next p) t) (h p) (h (next p))) (i p)) (i (next p))

  pub and_below : (s t masks : Shares) → EachWords s → EachWords masks → EachWords (and_shares s t masks)
  and_below s t masks h i First = and_share_below First s t masks h i
  and_below s t masks h i Second = and_share_below Second s t masks h i
  and_below s t masks h i Third = and_share_below Third s t masks h i

  pub and_sends : (z : Shares) → EachWords z → AreWordsOn (and_words z)
  and_sends z h =
      behind_below facts (message First Third z.first) (behind_on (message Second First z.second) (message Third Second z.third)) (message_below First Third z.first (h First))
      (behind_below facts (message Second First z.second) (message Third Second z.third) (message_below Second First z.second (h Second)) (message_below Third Second z.third (h Third)))

  pub given_below : (p : Party) (words : List ℕ) (masks : Shares) → AreWords words → EachWords masks → AreWords (given_share p words masks)
  given_below p words masks h i = facts.stay.xor (xors words (at p masks)) (at (next p) masks) (facts.stay.xor words (at p masks) h (i p)) (i (next p))

  -- ---- phases

  there_below : (j : Party) (order : List ℕ) (s : Shares) (a : List ℕ) → EachWords s → AreWords a → AreWords (there j order s a)
  there_below j order s a h i =
      facts.stay.xor (applied order (xors (at (before j) s) (at j s))) a (facts.stay.pick order (xors (at (before j) s) (at j s)) (facts.stay.xor (at (before j) s) (at j s) (h (before j)) (h j))) i

  back_below : (j : Party) (order : List ℕ) (s : Shares) (b : List ℕ) → EachWords s → AreWords b → AreWords (back j order s b)
  back_below j order s b h i = facts.stay.xor (applied order (at (next j) s)) b (facts.stay.pick order (at (next j) s) (h (next j))) i

  reshared_below : (j : Party) (order : List ℕ) (s : Shares) (a b : List ℕ) → EachWords s → AreWords a → AreWords b → EachWords (reshared j order s a b)
  reshared_below j order s a b h i k =
      let sum = xors (there j order s a) (back j order s b) in
      let one = put_has AreWords j sum s (facts.stay.xor (there j order s a) (back j order s b) (there_below j order s a h i) (back_below j order s b h k)) h in
      put_has AreWords (before j) a (put (next j) b (put j sum s)) i (put_has AreWords (next j) b (put j sum s) k one)

  all_reshared : (j : Party) (order : List ℕ) (n : ℕ) (ss : List Shares) (a b : List ℕ) → AllWords ss → AreWords a → AreWords b → AllWords (reshared_all j order n ss a b)
  all_reshared j order n [] a b h i k = tt
  all_reshared j order n (s ∷ ss) a b h i k = (
    reshared_below j order s (take n a) (take n b) h.0 (taken_below facts n a i) (taken_below facts n b k),
    all_reshared j order n ss (drop n a) (drop n b) h.1 (dropped_below facts n a i) (dropped_below facts n b k),
  )

  all_there : (j : Party) (order : List ℕ) (n : ℕ) (ss : List Shares) (a : List ℕ) → AllWords ss → AreWords a → AreWords (there_all j order n ss a)
  all_there j order n [] a h i = none_below
  all_there j order n (s ∷ ss) a h i =
      facts.behind.appended (there j order s (take n a)) (there_all j order n ss (drop n a)) (there_below j order s (take n a) h.0 (taken_below facts n a i))
      (all_there j order n ss (drop n a) h.1 (dropped_below facts n a i))

  all_back : (j : Party) (order : List ℕ) (n : ℕ) (ss : List Shares) (b : List ℕ) → AllWords ss → AreWords b → AreWords (back_all j order n ss b)
  all_back j order n [] b h i = none_below
  all_back j order n (s ∷ ss) b h i =
      facts.behind.appended (back j order s (take n b)) (back_all j order n ss (drop n b)) (back_below j order s (take n b) h.0 (taken_below facts n b i))
      (all_back j order n ss (drop n b) h.1 (dropped_below facts n b i))

  pub record AreMoving (x : Moving) : Type 0 where
    pub shares : AllWords x.shares
    pub masks : EachWords x.masks

  phase_below : (j : Party) (order : List ℕ) (n : ℕ) (x : Moving) → AreMoving x → AreMoving (phase j order n x)
  phase_below j order n x h =
      let a = at (before j) x.masks in
      let b = at (next j) x.masks in
      let k = length x.shares * n in
      record {
        shares = all_reshared j order n x.shares a b h.shares (h.masks (before j)) (h.masks (next j));
        masks =
            put_has AreWords (before j) (drop k a) (put (next j) (drop k b) x.masks) (dropped_below facts k a (h.masks (before j)))
            (put_has AreWords (next j) (drop k b) x.masks (dropped_below facts k b (h.masks (next j))) h.masks);
      }

  phase_sends : (j : Party) (order : List ℕ) (n : ℕ) (x : Moving) → AreMoving x → AreWordsOn (phase_words j order n x)
  phase_sends j order n x h =
      let out = there_all j order n x.shares (at (before j) x.masks) in
      let in_return = back_all j order n x.shares (at (next j) x.masks) in
      behind_below facts (message (before j) j out) (message j (before j) in_return)
      (message_below (before j) j out (all_there j order n x.shares (at (before j) x.masks) h.shares (h.masks (before j))))
      (message_below j (before j) in_return (all_back j order n x.shares (at (next j) x.masks) h.shares (h.masks (next j))))

  pub moving_below : (m : Machine) (moved : List ℕ) (ds : ThreeTapes) → AllWords m.registers → EachWords (each words_in ds) → AreMoving (moving m moved ds)
  moving_below m moved ds h i = record { shares = by moved; masks = i } where
    by : (rs : List ℕ) → AllWords (map (shares m) rs)
    by [] = tt
    by (r ∷ rs) = (share_below m h r, by rs)

  pub third_below : (n : ℕ) (ds : ThreeTapes) (x : Moving) → AreMoving x → AreMoving (third_phase n ds x)
  third_below n ds x h =
      phase_below Third (order_in ds.third) n (second_phase n ds x)
      (phase_below Second (order_in ds.second) n (first_phase n ds x) (phase_below First (order_in ds.first) n x h))

  shown_below : (q : Party) (ss : List Shares) (shown : List ℕ) → AllWords ss → AreWords (flat_map (at q) (map (λ k. slice_index_or ss k nothing) shown))
  shown_below q ss [] h = none_below
  shown_below q ss (k ∷ ks) h =
      facts.behind.appended (at q (slice_index_or ss k nothing)) (flat_map (at q) (map (λ k. slice_index_or ss k nothing) ks)) (item_has EachWords ss k nothing h nothing_below q)
      (shown_below q ss ks h)

  pub reveal_sends : (q : Party) (n : ℕ) (shown : List ℕ) (ds : ThreeTapes) (x : Moving) → AreMoving x
      → AreWordsOn (behind_on (phase_words First (order_in ds.first) n x)
      (behind_on (phase_words Second (order_in ds.second) n (first_phase n ds x))
      (behind_on (phase_words Third (order_in ds.third) n (second_phase n ds x))
      (message (next q) q (flat_map (at (before q)) (shown_shares (third_phase n ds x) shown))))))
  reveal_sends q n shown ds x h =
      let y = first_phase n ds x in
      let z = second_phase n ds x in
      let hy = phase_below First (order_in ds.first) n x h in
      let hz = phase_below Second (order_in ds.second) n y hy in
      let last = flat_map (at (before q)) (shown_shares (third_phase n ds x) shown) in
      let told = message_below (next q) q last (shown_below (before q) (third_phase n ds x).shares shown (third_below n ds x h).shares) in
      let third = behind_below facts (phase_words Third (order_in ds.third) n z) (message (next q) q last) (phase_sends Third (order_in ds.third) n z hz) told in
      let second = behind_below facts (phase_words Second (order_in ds.second) n y) _ (phase_sends Second (order_in ds.second) n y hy) third in
      behind_below facts (phase_words First (order_in ds.first) n x) _ (phase_sends First (order_in ds.first) n x h) second

  pub steer_below : (p : Party) (g : List ℕ) (n : ℕ) (ds : ThreeTapes) (x : Moving) → AreMoving x → AreMoving (private_phase p g n ds x)
  steer_below p g n ds x h = phase_below p (steer_order p g ds) n (drawn_phase p n ds x) (phase_below (next p) (order_in (at (next p) ds)) n x h)

  pub steer_sends : (p : Party) (g : List ℕ) (n : ℕ) (ds : ThreeTapes) (x : Moving) → AreMoving x → length (order_in (at (next p) ds)) ≤ 2 ^ 32
      → AreWordsOn (behind_on (message p (before p) (steer_order p g ds))
      (behind_on (phase_words (next p) (order_in (at (next p) ds)) n x) (phase_words p (steer_order p g ds) n (drawn_phase p n ds x))))
  steer_sends p g n ds x h i =
      let o = order_in (at (next p) ds) in
      let y = drawn_phase p n ds x in
      behind_below facts (message p (before p) (steer_order p g ds)) _ (message_below p (before p) (steer_order p g ds) (facts.stay.pick g (inverse_of o) (inverse_below o i)))
      (behind_below facts (phase_words (next p) o n x) (phase_words p (steer_order p g ds) n y) (phase_sends (next p) o n x h)
      (phase_sends p (steer_order p g ds) n y (phase_below (next p) o n x h)))
