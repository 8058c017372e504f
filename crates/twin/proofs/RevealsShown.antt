-- What a Reveal shows the viewer is equal in both worlds: the second world's whole order is the one that aligns the rows
-- and then the first world's.
use Rattle.std.proofs.Common.{◌≡◌, ℕ, zero, suc, ◌<◌, List, [], ◌∷◌, ◌++◌, length, map, refl, sym, ◌∙◌, ap, arith}
use Rattle.std.specs.Prelude.{IsTrue, nat_lt, slice_index_or}
use Rattle.std.specs.List.{AllByRecursion, list_all, flat_map}
use Rattle.std.proofs.lemmas.List.{length-map}
use Rattle.lanes.specs.declared.party.Party.{Party}
use Rattle.lanes.specs.declared.party.Party.TheVariants.{First, Second, Third}
use Rattle.lanes.specs.Party.{next, before}
use Rattle.lanes.specs.Three.{at, opened}
use Rattle.lanes.specs.Lanes.{xors}
use Rattle.bags.specs.Bag.{SameBag}
use Rattle.tapes.specs.Order.{applied, composed}
use Rattle.tapes.specs.RowLaws.{rows_across, columns_applied}
use Rattle.step_lists.specs.Layout.{Layout}
use Rattle.step_lists.specs.Seen.{shown_of}
use Rattle.step_lists.specs.Draws.{ThreeTapes, nothing, order_in}
use Rattle.step_lists.specs.Open.{item, turned}
use Rattle.step_lists.specs.Phases.{Shares, Moving}
use Rattle.step_lists.specs.Machine.{Machine, shares, shown_shares}
use Rattle.step_lists.specs.Twin.{open_rows, aligning, shifted, earlier_orders}
use Rattle.twin.proofs.Facts.{Facts}
use Rattle.twin.proofs.Lists.{both, below}
use Rattle.twin.proofs.Fitted.{register_full}
use Rattle.twin.proofs.Same.{Fitting, Held, HeldSame}
use Rattle.twin.proofs.Orders.{HasItems, composed_has, first_shifted, second_shifted, third_shifted}
use Rattle.twin.proofs.OrdersAligned.{HasRows, Realigns, realigns}
use Rattle.twin.proofs.PhasesPaired.{held_share}
use Rattle.twin.proofs.PhasesFull.{IsLong}
use Rattle.twin.proofs.PhasesMade.{IsMoved}
use Rattle.twin.proofs.RevealsFit.{opened_full}

-- ---- the whole order

-- three orders, one after the other
abbrev pub whole : ThreeTapes → List ℕ
whole ds = composed (composed (order_in ds.first) (order_in ds.second)) (order_in ds.third)

pub record HaveItems (n : ℕ) (ds : ThreeTapes) : Type 0 where
  pub each : (p : Party) → HasItems n (order_in (at p ds))

pub turned_whole : Facts → (n : ℕ) (ds : ThreeTapes) → HaveItems n ds → (xs : List ℕ) → turned ds xs ≡ applied (whole ds) xs
turned_whole facts n ds h xs =
    let one = h.each First in
    let two = h.each Second in
    let three = h.each Third in
    let both_has = composed_has facts n (order_in ds.first) (order_in ds.second) one two in
    ap (applied (order_in ds.third)) (sym (facts.composed (order_in ds.first) (order_in ds.second) xs two.order (one.long ∙ sym two.long)))
    ∙ sym (facts.composed (composed (order_in ds.first) (order_in ds.second)) (order_in ds.third) xs three.order (both_has.long ∙ sym three.long))

whole_has : Facts → (n : ℕ) (ds : ThreeTapes) → HaveItems n ds → HasItems n (whole ds)
whole_has facts n ds h =
    composed_has facts n (composed (order_in ds.first) (order_in ds.second)) (order_in ds.third)
    (composed_has facts n (order_in ds.first) (order_in ds.second) (h.each First) (h.each Second)) (h.each Third)

-- three tapes that differ by the unseen order alone
pub record IsShifted (v : Party) (n : ℕ) (d : List ℕ) (ds es : ThreeTapes) : Type 0 where
  pub own : order_in (at v es) ≡ order_in (at v ds)
  pub following : order_in (at (next v) es) ≡ order_in (at (next v) ds)
  pub unseen : order_in (at (before v) es) ≡ shifted (order_in (at (before v) ds)) (earlier_orders (before v) n ds) d

shifted_whole : Facts → (v : Party) (n : ℕ) (d : List ℕ) (ds es : ThreeTapes) → HasItems n d → HaveItems n ds → IsShifted v n d ds es
    → whole es ≡ composed d (whole ds)
shifted_whole facts First n d ds es hd h is =
    ap (λ o. composed (composed o (order_in es.second)) (order_in es.third)) is.own
    ∙ (ap (λ o. composed (composed (order_in ds.first) o) (order_in es.third)) is.following
    ∙ (ap (composed (composed (order_in ds.first) (order_in ds.second))) is.unseen
    ∙ third_shifted facts n (order_in ds.first) (order_in ds.second) (order_in ds.third) d (h.each First) (h.each Second) (h.each Third) hd))
shifted_whole facts Second n d ds es hd h is =
    ap (λ o. composed (composed o (order_in es.second)) (order_in es.third)) is.unseen
    ∙ (ap (λ o. composed (composed (shifted (order_in ds.first) (earlier_orders First n ds) d) o) (order_in es.third)) is.own
    ∙ (ap (composed (composed (shifted (order_in ds.first) (earlier_orders First n ds) d) (order_in ds.second))) is.following
    ∙ first_shifted facts n (order_in ds.first) (order_in ds.second) (order_in ds.third) d (h.each First) (h.each Second) (h.each Third) hd))
shifted_whole facts Third n d ds es hd h is =
    ap (λ o. composed (composed o (order_in es.second)) (order_in es.third)) is.following
    ∙ (ap (λ o. composed (composed (order_in ds.first) o) (order_in es.third)) is.unseen
    ∙ (ap (composed (composed (order_in ds.first) (shifted (order_in ds.second) (order_in ds.first) d))) is.own
    ∙ second_shifted facts n (order_in ds.first) (order_in ds.second) (order_in ds.third) d (h.each First) (h.each Second) (h.each Third) hd))

-- applied to words, it is d and then what the first world does
turned_shifted : Facts → (v : Party) (n : ℕ) (d : List ℕ) (ds es : ThreeTapes) → HasItems n d → HaveItems n ds → HaveItems n es → IsShifted v n d ds es
    → (xs : List ℕ) → turned es xs ≡ turned ds (applied d xs)
turned_shifted facts v n d ds es hd h i is xs =
    let w = whole_has facts n ds h in
    turned_whole facts n es i xs
    ∙ (ap (λ o. applied o xs) (shifted_whole facts v n d ds es hd h is)
    ∙ (facts.composed d (whole ds) xs w.order (hd.long ∙ sym w.long) ∙ sym (turned_whole facts n ds h (applied d xs))))

columns_turned : Facts → (v : Party) (n : ℕ) (d : List ℕ) (ds es : ThreeTapes) → HasItems n d → HaveItems n ds → HaveItems n es → IsShifted v n d ds es
    → (columns : List (List ℕ)) → map (turned es) columns ≡ map (turned ds) (columns_applied d columns)
columns_turned facts v n d ds es hd h i is [] = refl
columns_turned facts v n d ds es hd h i is (c ∷ cs) =
    ap (λ x. x ∷ map (turned es) cs) (turned_shifted facts v n d ds es hd h i is c)
    ∙ ap (λ xs. turned ds (applied d c) ∷ xs) (columns_turned facts v n d ds es hd h i is cs)

-- ---- shown registers

-- the words of registers, before they are moved
abbrev pub values : Machine → List ℕ → List (List ℕ)
values m moved = map (λ r. opened (shares m r)) moved

item_turned : (f : List ℕ → List ℕ) (xs : List (List ℕ)) (k : ℕ) → k < length xs → item (map f xs) k ≡ f (item xs k)
item_turned f [] k h = absurd (omega arith)
item_turned f (x ∷ xs) zero h = refl
item_turned f (x ∷ xs) (suc k) h = item_turned f xs k (omega arith)

opened_item : (ss : List Shares) (k : ℕ) → opened (slice_index_or ss k nothing) ≡ item (map opened ss) k
opened_item [] k = refl
opened_item (s ∷ ss) zero = refl
opened_item (s ∷ ss) (suc k) = opened_item ss k

-- what the shown registers stand for behind the phases
pub shown_turned : (f : List ℕ → List ℕ) (xs : List (List ℕ)) (y : Moving) (m : ℕ) (shown : List ℕ) → map opened y.shares ≡ map f xs → length xs ≡ m
    → IsTrue (list_all (λ k. nat_lt k m) shown) → map opened (shown_shares y shown) ≡ map f (shown_of xs shown)
shown_turned f xs y m [] e h i = refl
shown_turned f xs y m (k ∷ shown) e h i =
    let p = both (nat_lt k m) (list_all (λ k. nat_lt k m) shown) i in
    let lt : k < m = below k m p.0 in
    ap (λ x. x ∷ map opened (shown_shares y shown)) (opened_item y.shares k ∙ (ap (λ ys. item ys k) e ∙ item_turned f xs k (omega arith)))
    ∙ ap (λ ys. f (item xs k) ∷ ys) (shown_turned f xs y m shown e h p.1)

values_rows : Facts → (l : Layout) (m : Machine) (n : ℕ) (moved : List ℕ) → Fitting l m → AllByRecursion (IsMoved l n) moved → AllByRecursion (HasRows n) (values m moved)
values_rows facts l m n [] h i = tt
values_rows facts l m n (r ∷ moved) h i = (
  record { long = (opened_full facts _ (shares m r) (register_full l m r h i.0.made)).long ∙ i.0.long },
  values_rows facts l m n moved h i.1,
)

item_rows : (n : ℕ) (xs : List (List ℕ)) (k : ℕ) → AllByRecursion (HasRows n) xs → k < length xs → HasRows n (item xs k)
item_rows n [] k h i = absurd (omega arith)
item_rows n (x ∷ xs) zero h i = h.0
item_rows n (x ∷ xs) (suc k) h i = item_rows n xs k h.1 (omega arith)

shown_rows : (n m : ℕ) (xs : List (List ℕ)) (shown : List ℕ) → AllByRecursion (HasRows n) xs → length xs ≡ m → IsTrue (list_all (λ k. nat_lt k m) shown)
    → AllByRecursion (HasRows n) (shown_of xs shown)
shown_rows n m xs [] h e i = tt
shown_rows n m xs (k ∷ shown) h e i =
    let p = both (nat_lt k m) (list_all (λ k. nat_lt k m) shown) i in
    let lt : k < m = below k m p.0 in
    (item_rows n xs k h (omega arith), shown_rows n m xs shown h e p.1)

-- the columns of what is shown, in both worlds
pub realigned : Facts → (l : Layout) (x y : Machine) (n : ℕ) (moved shown : List ℕ) → Fitting l x → AllByRecursion (IsMoved l n) moved
    → IsTrue (list_all (λ k. nat_lt k (length moved)) shown) → SameBag (open_rows x n moved shown) (open_rows y n moved shown)
    → Realigns n (shown_of (values x moved) shown) (shown_of (values y moved) shown)
realigned facts l x y n moved shown h i within bag =
    let xs = values x moved in
    let ys = values y moved in
    realigns facts n (shown_of xs shown) (shown_of ys shown) (length-map shown (item xs) ∙ sym (length-map shown (item ys)))
    (shown_rows n (length moved) xs shown (values_rows facts l x n moved h i) (length-map moved (λ r. opened (shares x r))) within) bag

pub shown_same : Facts → (v : Party) (n m : ℕ) (xs ys : List (List ℕ)) (ds es : ThreeTapes) (x y : Moving) (shown : List ℕ) → length xs ≡ m → length ys ≡ m
    → IsTrue (list_all (λ k. nat_lt k m) shown) → Realigns n (shown_of xs shown) (shown_of ys shown) → HaveItems n ds → HaveItems n es
    → IsShifted v n (aligning (rows_across n (shown_of ys shown)) (rows_across n (shown_of xs shown))) ds es
    → map opened x.shares ≡ map (turned ds) xs → map opened y.shares ≡ map (turned es) ys
    → map opened (shown_shares x shown) ≡ map opened (shown_shares y shown)
shown_same facts v n m xs ys ds es x y shown hx hy within re h i is ex ey =
    let d = aligning (rows_across n (shown_of ys shown)) (rows_across n (shown_of xs shown)) in
    shown_turned (turned ds) xs x m shown ex hx within
    ∙ (ap (map (turned ds)) (sym re.columns)
    ∙ (sym (columns_turned facts v n d ds es re.order h i is (shown_of ys shown)) ∙ sym (shown_turned (turned es) ys y m shown ey hy within)))

-- ---- the shares that the viewer misses

-- of a register it is what the two others leave of the words
missing : Facts → (v : Party) (n : ℕ) (s : Shares) → IsLong n s → at (before v) s ≡ xors (opened s) (xors (at v s) (at (next v) s))
missing facts v n s h =
    let b = at (before v) s in
    let two = xors (at v s) (at (next v) s) in
    let lb = h.each (before v) in
    let lv = h.each v in
    let ln = h.each (next v) in
    sym (facts.comes_off b two (omega (arith, facts.lengths.xor (at v s) (at (next v) s))))
    ∙ ap (λ x. xors x two) (facts.commutes b two ∙ sym (facts.round v s))

missing_same : Facts → (v : Party) (n : ℕ) (s t : Shares) → IsLong n s → IsLong n t → Held v s t → opened s ≡ opened t → at (before v) s ≡ at (before v) t
missing_same facts v n s t h i held e =
    missing facts v n s h
    ∙ (ap (λ x. xors x (xors (at v s) (at (next v) s))) e
    ∙ (ap (λ x. xors (opened t) (xors x (at (next v) s))) held.own
    ∙ (ap (λ x. xors (opened t) (xors (at v t) x)) held.following ∙ sym (missing facts v n t i))))

long_at : (n : ℕ) (ss : List Shares) (k : ℕ) → AllByRecursion (IsLong n) ss → k < length ss → IsLong n (slice_index_or ss k nothing)
long_at n [] k h i = absurd (omega arith)
long_at n (s ∷ ss) zero h i = h.0
long_at n (s ∷ ss) (suc k) h i = long_at n ss k h.1 (omega arith)

pub sent_shares : Facts → (v : Party) (n m : ℕ) (x y : Moving) (shown : List ℕ) → AllByRecursion (IsLong n) x.shares → AllByRecursion (IsLong n) y.shares
    → length x.shares ≡ m → length y.shares ≡ m → HeldSame v x.shares y.shares → IsTrue (list_all (λ k. nat_lt k m) shown)
    → map opened (shown_shares x shown) ≡ map opened (shown_shares y shown)
    → flat_map (at (before v)) (shown_shares x shown) ≡ flat_map (at (before v)) (shown_shares y shown)
sent_shares facts v n m x y [] hx hy ex ey held within e = refl
sent_shares facts v n m x y (k ∷ shown) hx hy ex ey held within e =
    let p = both (nat_lt k m) (list_all (λ k. nat_lt k m) shown) within in
    let lt : k < m = below k m p.0 in
    let s = slice_index_or x.shares k nothing in
    let t = slice_index_or y.shares k nothing in
    let here : opened s ≡ opened t = cc in
    let there : map opened (shown_shares x shown) ≡ map opened (shown_shares y shown) = cc in
    let one = missing_same facts v n s t (long_at n x.shares k hx (omega arith)) (long_at n y.shares k hy (omega arith)) (held_share v x.shares y.shares k held) here in
    let more = sent_shares facts v n m x y shown hx hy ex ey held p.1 there in
    ap (λ a. a ++ flat_map (at (before v)) (shown_shares x shown)) one ∙ ap (λ a. at (before v) t ++ a) more
