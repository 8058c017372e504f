-- A machine behind the phases of a Reveal and of a Steer: full registers, under the drawn and the private orders.
use Rattle.std.proofs.Common.{◌≡◌, ℕ, zero, suc, ◌+◌, ◌*◌, ◌≤◌, List, [], ◌∷◌, length, map, refl, ◌∙◌, ap, arith}
use Rattle.std.specs.Prelude.{IsTrue, ◌==◌, ◌&&◌, not, slice_index_or}
use Rattle.std.specs.List.{AllZip, AllByRecursion, list_all}
use Rattle.lanes.specs.declared.party.Party.{Party}
use Rattle.lanes.specs.declared.party.Party.TheVariants.{First, Second, Third}
use Rattle.lanes.specs.Party.{next, before}
use Rattle.lanes.specs.Three.{at, opened, each}
use Rattle.lanes.specs.Word.{AreWords}
use Rattle.tapes.specs.Order.{applied, inverse_of}
use Rattle.step_lists.specs.Layout.{Layout, length_of, rows_moved}
use Rattle.step_lists.specs.Rules.{is_register, is_empty, move_together}
use Rattle.step_lists.specs.Draws.{ThreeTapes, order_in, words_in, nothing}
use Rattle.step_lists.specs.Open.{turned}
use Rattle.step_lists.specs.Phases.{Shares, Moving}
use Rattle.step_lists.specs.Machine.{Machine, shares, moving, first_phase, second_phase, third_phase, steer_order, drawn_phase, private_phase}
use Rattle.twin.proofs.Facts.{Facts}
use Rattle.twin.proofs.Lists.{both, equal}
use Rattle.twin.proofs.Fitted.{none_below}
use Rattle.twin.proofs.Same.{IsFull, Fitting}
use Rattle.twin.proofs.PhasesDrawn.{RevealDrawn, SteerDrawn}
use Rattle.twin.proofs.PhasesFull.{IsBelow, AllBelow, IsLong, IsPhased, phased, masks_left, phase_below}

pub mapped_twice : {X A B : Type 0} (f : X → A) (g : A → B) (xs : List X) → map g (map f xs) ≡ map (λ x. g (f x)) xs
mapped_twice f g [] = refl
mapped_twice f g (x ∷ xs) = ap (λ t. g (f x) ∷ t) (mapped_twice f g xs)

three_maps : (f g h : List ℕ → List ℕ) (xs : List (List ℕ)) → map h (map g (map f xs)) ≡ map (λ x. h (g (f x))) xs
three_maps f g h xs = ap (map h) (mapped_twice f g xs) ∙ mapped_twice (λ x. g (f x)) h xs

-- ---- registers that are moved together

pub record IsMoved (l : Layout) (n r : ℕ) : Type 0 where
  pub made : IsTrue (is_register l r)
  pub long : length_of l r ≡ n

all_moved : (l : Layout) (n : ℕ) (rs : List ℕ) → IsTrue (list_all (λ r. is_register l r && (length_of l r == n)) rs) → AllByRecursion (IsMoved l n) rs
all_moved l n [] h = tt
all_moved l n (r ∷ rs) h =
    let p = both (is_register l r && (length_of l r == n)) (list_all (λ r. is_register l r && (length_of l r == n)) rs) h in
    let q = both (is_register l r) (length_of l r == n) p.0 in
    (record { made = q.0; long = equal (length_of l r) n q.1 }, all_moved l n rs p.1)

pub moved_together : (l : Layout) (moved : List ℕ) → IsTrue (move_together l moved) → AllByRecursion (IsMoved l (rows_moved l moved)) moved
moved_together l moved h =
    all_moved l (rows_moved l moved) moved (both (not (is_empty moved)) (list_all (λ r. is_register l r && (length_of l r == rows_moved l moved)) moved) h).1

-- each register of a machine that fits is below 2 ^ 64
share_below : (ns : List ℕ) (ss : List Shares) (r : ℕ) → AllZip IsFull ns ss → IsBelow (slice_index_or ss r nothing)
share_below [] [] r h = record { each = nothing_below } where
  nothing_below : (p : Party) → AreWords (at p (nothing {A = ℕ}))
  nothing_below First = none_below
  nothing_below Second = none_below
  nothing_below Third = none_below
share_below [] (s ∷ ss) r h = absurd h
share_below (n ∷ ns) [] r h = absurd h
share_below (n ∷ ns) (s ∷ ss) zero h = record { each = λ p. (h.0.each p).below }
share_below (n ∷ ns) (s ∷ ss) (suc r) h = share_below ns ss r h.1

shares_below : (l : Layout) (m : Machine) (moved : List ℕ) → Fitting l m → AllByRecursion IsBelow (map (shares m) moved)
shares_below l m [] h = tt
shares_below l m (r ∷ moved) h = (share_below l.registers m.registers r h.registers, shares_below l m moved h)

each_below : (p : Party) (ds : ThreeTapes) → ((q : Party) → AreWords (words_in (at q ds))) → AreWords (at p (each words_in ds))
each_below First ds h = h First
each_below Second ds h = h Second
each_below Third ds h = h Third

pub moving_below : (l : Layout) (m : Machine) (moved : List ℕ) (ds : ThreeTapes) → Fitting l m → ((q : Party) → AreWords (words_in (at q ds))) → AllBelow (moving m moved ds)
moving_below l m moved ds h i = record { shares = shares_below l m moved h; masks = λ p. each_below p ds i }

-- ---- Reveal

pub reveal_phased : Facts → (n c : ℕ) (ds : ThreeTapes) (x : Moving) → length x.shares ≡ c → RevealDrawn (c * n) n ds → x.masks ≡ each words_in ds
    → IsPhased n c (turned ds) x (third_phase n ds x)
reveal_phased facts n c ds x e draws m =
    let w = c * n in
    let y = first_phase n ds x in
    let z = second_phase n ds x in
    let m1 : length x.masks.first ≡ w + w = ap (λ t. length (at First t)) m ∙ draws.words First in
    let m2 : length x.masks.second ≡ w + w = ap (λ t. length (at Second t)) m ∙ draws.words Second in
    let m3 : length x.masks.third ≡ w + w = ap (λ t. length (at Third t)) m ∙ draws.words Third in
    let one = phased facts n c First (order_in ds.first) x (draws.orders First).long e (omega arith) (omega arith) in
    let y2 : length y.masks.second ≡ w = masks_left n c w x x.masks.second e m2 in
    let y3 : length y.masks.third ≡ w = masks_left n c w x x.masks.third e m3 in
    let two = phased facts n c Second (order_in ds.second) y (draws.orders Second).long one.count (omega arith) (omega arith) in
    let z1 : length z.masks.first ≡ w = masks_left n c w y y.masks.first one.count m1 in
    let three = phased facts n c Third (order_in ds.third) z (draws.orders Third).long two.count (omega arith) (omega arith) in
    record {
      opens =
          three.opens
          ∙ (ap (map (applied (order_in ds.third))) (two.opens ∙ ap (map (applied (order_in ds.second))) one.opens)
          ∙ three_maps (applied (order_in ds.first)) (applied (order_in ds.second)) (applied (order_in ds.third)) (map opened x.shares));
      long = three.long;
      count = three.count;
    }

pub reveal_below : Facts → (n : ℕ) (ds : ThreeTapes) (x : Moving) → AllBelow x → AllBelow (third_phase n ds x)
reveal_below facts n ds x h =
    phase_below facts Third (order_in ds.third) n (second_phase n ds x)
    (phase_below facts Second (order_in ds.second) n (first_phase n ds x) (phase_below facts First (order_in ds.first) n x h))

-- ---- Steer

-- enough masks for the drawn phase, and for the private one behind it
record HasMasks (w a b : ℕ) : Type 0 where
  pub earlier : w ≤ a
  pub following : w ≤ b

drawn_masks : (p : Party) (n c : ℕ) (ds : ThreeTapes) (x : Moving) → SteerDrawn p (c * n) n ds → x.masks ≡ each words_in ds
    → HasMasks (c * n) (length (at (before (next p)) x.masks)) (length (at (next (next p)) x.masks))
drawn_masks First n c ds x draws m =
    let a : length x.masks.first ≡ c * n = ap (λ t. length (at First t)) m ∙ draws.words First in
    let b : length x.masks.third ≡ c * n + c * n = ap (λ t. length (at Third t)) m ∙ draws.words Third in
    record { earlier = omega arith; following = omega arith }
drawn_masks Second n c ds x draws m =
    let a : length x.masks.second ≡ c * n = ap (λ t. length (at Second t)) m ∙ draws.words Second in
    let b : length x.masks.first ≡ c * n + c * n = ap (λ t. length (at First t)) m ∙ draws.words First in
    record { earlier = omega arith; following = omega arith }
drawn_masks Third n c ds x draws m =
    let a : length x.masks.third ≡ c * n = ap (λ t. length (at Third t)) m ∙ draws.words Third in
    let b : length x.masks.second ≡ c * n + c * n = ap (λ t. length (at Second t)) m ∙ draws.words Second in
    record { earlier = omega arith; following = omega arith }

private_masks : (p : Party) (n c : ℕ) (ds : ThreeTapes) (x : Moving) → length x.shares ≡ c → SteerDrawn p (c * n) n ds → x.masks ≡ each words_in ds
    → HasMasks (c * n) (length (at (before p) (drawn_phase p n ds x).masks)) (length (at (next p) (drawn_phase p n ds x).masks))
private_masks First n c ds x e draws m =
    let m2 : length x.masks.second ≡ c * n = ap (λ t. length (at Second t)) m ∙ draws.words Second in
    let m3 : length x.masks.third ≡ c * n + c * n = ap (λ t. length (at Third t)) m ∙ draws.words Third in
    let left = masks_left n c (c * n) x x.masks.third e m3 in
    record { earlier = omega arith; following = omega arith }
private_masks Second n c ds x e draws m =
    let m3 : length x.masks.third ≡ c * n = ap (λ t. length (at Third t)) m ∙ draws.words Third in
    let m1 : length x.masks.first ≡ c * n + c * n = ap (λ t. length (at First t)) m ∙ draws.words First in
    let left = masks_left n c (c * n) x x.masks.first e m1 in
    record { earlier = omega arith; following = omega arith }
private_masks Third n c ds x e draws m =
    let m1 : length x.masks.first ≡ c * n = ap (λ t. length (at First t)) m ∙ draws.words First in
    let m2 : length x.masks.second ≡ c * n + c * n = ap (λ t. length (at Second t)) m ∙ draws.words Second in
    let left = masks_left n c (c * n) x x.masks.second e m2 in
    record { earlier = omega arith; following = omega arith }

pub record IsMade (n c : ℕ) (y : Moving) : Type 0 where
  pub long : AllByRecursion (IsLong n) y.shares
  pub count : length y.shares ≡ c

pub steer_made : Facts → (p : Party) (g : List ℕ) (n c : ℕ) (ds : ThreeTapes) (x : Moving) → length g ≡ n → length x.shares ≡ c → SteerDrawn p (c * n) n ds
    → x.masks ≡ each words_in ds → IsMade n c (private_phase p g n ds x)
steer_made facts p g n c ds x hg e draws m =
    let t = order_in (at (next p) ds) in
    let first = drawn_masks p n c ds x draws m in
    let one = phased facts n c (next p) t x draws.order.long e first.earlier first.following in
    let left = private_masks p n c ds x e draws m in
    let lo : length (steer_order p g ds) ≡ n = facts.lengths.pick g (inverse_of t) ∙ hg in
    let two = phased facts n c p (steer_order p g ds) (drawn_phase p n ds x) lo one.count left.earlier left.following in
    record { long = two.long; count = two.count }

pub steer_below : Facts → (p : Party) (g : List ℕ) (n : ℕ) (ds : ThreeTapes) (x : Moving) → AllBelow x → AllBelow (private_phase p g n ds x)
steer_below facts p g n ds x h =
    phase_below facts p (steer_order p g ds) n (drawn_phase p n ds x) (phase_below facts (next p) (order_in (at (next p) ds)) n x h)
