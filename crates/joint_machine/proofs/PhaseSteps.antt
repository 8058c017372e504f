-- The steps Reveal and Steer: their phases compose to the orders drawn, and to the private order.
use Rattle.std.proofs.Common.{◌≡◌, ℕ, ◌+◌, ◌*◌, ◌≤◌, List, [], ◌∷◌, length, map, refl, sym, ◌∙◌, ap, arith}
use Rattle.std.specs.Prelude.{slice_index_or}
use Rattle.std.specs.List.{AllByRecursion}
use Rattle.std.proofs.lemmas.List.FromFn.{length-map-range_with_len}
use Rattle.lanes.specs.declared.party.Party.{Party}
use Rattle.lanes.specs.declared.party.Party.TheVariants.{First, Second, Third}
use Rattle.lanes.specs.Party.{next, before}
use Rattle.lanes.specs.Three.{at, opened, each}
use Rattle.tapes.specs.Order.{IsOrder, applied, composed, inverse_of, identity_of}
use Rattle.step_lists.specs.Draws.{ThreeTapes, order_in, words_in, nothing}
use Rattle.step_lists.specs.Open.{turned, item}
use Rattle.step_lists.specs.Phases.{Moving}
use Rattle.step_lists.specs.Machine.{first_phase, second_phase, third_phase, shown_shares, steer_order, drawn_phase, private_phase}
use Rattle.joint_machine.proofs.Facts.{Facts}
use Rattle.joint_machine.proofs.Listing.{same_maps, mapped_twice, item_mapped}
use Rattle.joint_machine.proofs.Drawn.{RevealDraws, SteerDraws}
use Rattle.joint_machine.proofs.Phasing.{IsPhased, phased, masks_left}

-- the words of each tape that the moved registers are masked with
abbrev pub HasMasks : ThreeTapes → Moving → Type 0
HasMasks ds x = (p : Party) → at p x.masks ≡ words_in (at p ds)

three_maps : (f g h : List ℕ → List ℕ) (xs : List (List ℕ)) → map h (map g (map f xs)) ≡ map (λ x. h (g (f x))) xs
three_maps f g h xs = ap (map h) (mapped_twice f g xs) ∙ mapped_twice (λ x. g (f x)) h xs

-- ---- Reveal

pub revealed : Facts → (n c : ℕ) (ds : ThreeTapes) (x : Moving) → length x.shares ≡ c → RevealDraws (c * n) n ds → x.masks ≡ each words_in ds
    → IsPhased n c (turned ds) x (third_phase n ds x)
revealed facts n c ds x e draws m =
    let w = c * n in
    let y = first_phase n ds x in
    let z = second_phase n ds x in
    let m1 : length x.masks.first ≡ w + w = ap (λ t. length (at First t)) m ∙ draws.words First in
    let m2 : length x.masks.second ≡ w + w = ap (λ t. length (at Second t)) m ∙ draws.words Second in
    let m3 : length x.masks.third ≡ w + w = ap (λ t. length (at Third t)) m ∙ draws.words Third in
    let one = phased facts n c First (order_in ds.first) x (draws.orders First).long e (omega arith) (omega arith) in
    let y2 : length y.masks.second ≡ w = masks_left n c w x x.masks.second e m2 in
    let y3 : length y.masks.third ≡ w = masks_left n c w x x.masks.third e m3 in
    let two = phased facts n c Second (order_in ds.second) y (draws.orders Second).long one.count (omega arith) (omega arith) in
    let z1 : length z.masks.first ≡ w = masks_left n c w y y.masks.first one.count m1 in
    let three = phased facts n c Third (order_in ds.third) z (draws.orders Third).long two.count (omega arith) (omega arith) in
    record {
      opens =
          three.opens
          ∙ (ap (map (applied (order_in ds.third))) (two.opens ∙ ap (map (applied (order_in ds.second))) one.opens)
          ∙ three_maps (applied (order_in ds.first)) (applied (order_in ds.second)) (applied (order_in ds.third)) (map opened x.shares));
      long = three.long;
      count = three.count;
    }

-- what the three shares of a shown register stand for
pub shown_opens : (x : Moving) (values : List (List ℕ)) (shown : List ℕ) → map opened x.shares ≡ values
    → map opened (shown_shares x shown) ≡ map (λ k. item values k) shown
shown_opens x values shown e =
    mapped_twice (λ k. slice_index_or x.shares k nothing) opened shown
    ∙ same_maps (λ k. opened (slice_index_or x.shares k nothing)) (λ k. item values k)
    (λ k. item_mapped opened x.shares k nothing ∙ ap (λ xs. item xs k) e) shown

-- ---- Steer

-- the private order behind the inverse of the drawn one, applied behind the drawn one
undone : Facts → (n : ℕ) (t g xs : List ℕ) → IsOrder t → IsOrder g → length t ≡ n → length g ≡ n → length xs ≡ n
    → applied (composed (inverse_of t) g) (applied t xs) ≡ applied g xs
undone facts n t g xs ot og ht hg hx =
    let li : length (inverse_of t) ≡ n = length-inverse t ∙ ht in
    let one = facts.composed (inverse_of t) g (applied t xs) og (li ∙ sym hg) in
    let two = facts.composed t (inverse_of t) xs (facts.closed.inverse t ot) (ht ∙ sym li) in
    let three = facts.inverse.after t ot in
    let same = facts.identity.after xs in
    one
    ∙ ap (applied g)
    (sym two
    ∙ (ap (λ o. applied o xs) three ∙ (ap (λ k. applied (identity_of k) xs) (ht ∙ sym hx) ∙ same))) where
      length-inverse : (t : List ℕ) → length (inverse_of t) ≡ length t
      length-inverse t = length-map-range_with_len _ 0 (length t)

undone_all : Facts → (n : ℕ) (t g : List ℕ) (xss : List (List ℕ)) → IsOrder t → IsOrder g → length t ≡ n → length g ≡ n → AllByRecursion (λ xs. length xs ≡ n) xss
    → map (applied (composed (inverse_of t) g)) (map (applied t) xss) ≡ map (applied g) xss
undone_all facts n t g [] ot og ht hg h = refl
undone_all facts n t g (xs ∷ xss) ot og ht hg h =
    let one = undone facts n t g xs ot og ht hg h.0 in
    let more = undone_all facts n t g xss ot og ht hg h.1 in
    ap (λ y. y ∷ map (applied (composed (inverse_of t) g)) (map (applied t) xss)) one ∙ ap (λ ys. applied g xs ∷ ys) more

-- the masks of the private phase, behind the drawn one
record HasMasksLeft (p : Party) (w : ℕ) (y : Moving) : Type 0 where
  pub earlier : w ≤ length (at (before p) y.masks)
  pub following : w ≤ length (at (next p) y.masks)

left_behind : (p : Party) (n c : ℕ) (ds : ThreeTapes) (x : Moving) → length x.shares ≡ c → SteerDraws p (c * n) n ds → x.masks ≡ each words_in ds
    → HasMasksLeft p (c * n) (drawn_phase p n ds x)
left_behind First n c ds x e draws m =
    let m2 : length x.masks.second ≡ c * n = ap (λ t. length (at Second t)) m ∙ draws.following in
    let m3 : length x.masks.third ≡ c * n + c * n = ap (λ t. length (at Third t)) m ∙ draws.earlier in
    let left = masks_left n c (c * n) x x.masks.third e m3 in
    record { earlier = omega arith; following = omega arith }
left_behind Second n c ds x e draws m =
    let m3 : length x.masks.third ≡ c * n = ap (λ t. length (at Third t)) m ∙ draws.following in
    let m1 : length x.masks.first ≡ c * n + c * n = ap (λ t. length (at First t)) m ∙ draws.earlier in
    let left = masks_left n c (c * n) x x.masks.first e m1 in
    record { earlier = omega arith; following = omega arith }
left_behind Third n c ds x e draws m =
    let m1 : length x.masks.first ≡ c * n = ap (λ t. length (at First t)) m ∙ draws.following in
    let m2 : length x.masks.second ≡ c * n + c * n = ap (λ t. length (at Second t)) m ∙ draws.earlier in
    let left = masks_left n c (c * n) x x.masks.second e m2 in
    record { earlier = omega arith; following = omega arith }

drawn_first : Facts → (p : Party) (n c : ℕ) (ds : ThreeTapes) (x : Moving) → length x.shares ≡ c → SteerDraws p (c * n) n ds → x.masks ≡ each words_in ds
    → IsPhased n c (applied (order_in (at (next p) ds))) x (drawn_phase p n ds x)
drawn_first facts First n c ds x e draws m =
    let a : length x.masks.first ≡ c * n = ap (λ t. length (at First t)) m ∙ draws.own in
    let b : length x.masks.third ≡ c * n + c * n = ap (λ t. length (at Third t)) m ∙ draws.earlier in
    phased facts n c Second (order_in ds.second) x draws.order.long e (omega arith) (omega arith)
drawn_first facts Second n c ds x e draws m =
    let a : length x.masks.second ≡ c * n = ap (λ t. length (at Second t)) m ∙ draws.own in
    let b : length x.masks.first ≡ c * n + c * n = ap (λ t. length (at First t)) m ∙ draws.earlier in
    phased facts n c Third (order_in ds.third) x draws.order.long e (omega arith) (omega arith)
drawn_first facts Third n c ds x e draws m =
    let a : length x.masks.third ≡ c * n = ap (λ t. length (at Third t)) m ∙ draws.own in
    let b : length x.masks.second ≡ c * n + c * n = ap (λ t. length (at Second t)) m ∙ draws.earlier in
    phased facts n c First (order_in ds.first) x draws.order.long e (omega arith) (omega arith)

pub steered : Facts → (p : Party) (g : List ℕ) (n c : ℕ) (ds : ThreeTapes) (x : Moving) → IsOrder g → length g ≡ n → length x.shares ≡ c
    → AllByRecursion (λ xs. length xs ≡ n) (map opened x.shares) → SteerDraws p (c * n) n ds → x.masks ≡ each words_in ds
    → IsPhased n c (applied g) x (private_phase p g n ds x)
steered facts p g n c ds x og hg e long draws m =
    let t = order_in (at (next p) ds) in
    let one = drawn_first facts p n c ds x e draws m in
    let left = left_behind p n c ds x e draws m in
    let lo : length (steer_order p g ds) ≡ n = facts.lengths.pick g (inverse_of t) ∙ hg in
    let two = phased facts n c p (steer_order p g ds) (drawn_phase p n ds x) lo one.count left.earlier left.following in
    record {
      opens =
          two.opens ∙ (ap (map (applied (steer_order p g ds))) one.opens ∙ undone_all facts n t g (map opened x.shares) draws.order.order og draws.order.long hg long);
      long = two.long;
      count = two.count;
    }
