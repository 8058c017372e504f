-- Orders that are drawn, and the private order that a Steer sends.
use Rattle.std.proofs.Common.{◌≡◌, ℕ, zero, suc, ◌+◌, ◌*◌, ◌<◌, ◌≤◌, Bool, true, Option, Some, None, List, [], ◌∷◌, ◌++◌, length, replicate, refl, sym, subst, ap, ◌∙◌, arith}
use Rattle.std.proofs.lemmas.List.{append-nil}
use Rattle.std.proofs.lemmas.List.FromFn.{length-map-range_with_len, get_or-map-range_with_len}
use Rattle.std.proofs.lemmas.Bool.{lt-ltb}
use Rattle.std.specs.Prelude.{⊤, ◌&&◌, nat_lt, slice_index}
use Rattle.std.specs.List.{list_all, range_with_len}
use Rattle.lanes.specs.declared.party.Party.{Party}
use Rattle.lanes.specs.declared.party.Party.TheVariants.{First, Second, Third}
use Rattle.lanes.specs.Party.{next}
use Rattle.lanes.specs.Three.{at}
use Rattle.lanes.specs.Items.{LaneLengths}
use Rattle.tapes.specs.declared.draw.Need.{Need}
use Rattle.tapes.specs.declared.draw.Need.TheVariants.{Word as NeedsWord, OrderOf}
use Rattle.tapes.specs.declared.draw.Draw.{Draw}
use Rattle.tapes.specs.declared.draw.Draw.TheVariants.{Word, Order}
use Rattle.tapes.specs.Laws.{OrdersAreClosed}
use Rattle.tapes.specs.Needs.{FitsNeeds}
use Rattle.tapes.specs.Order.{IsOrder, inverse_of, place_of}
use Rattle.step_lists.specs.Draws.{ThreeTapes, needs_reveal, needs_steer, order_in}
use Rattle.step_lists.specs.Machine.{steer_order}
use Rattle.step_lists.specs.Part.{is_order}

-- an order of n items
pub record HasItems (n : ℕ) (o : List ℕ) : Type 0 where
  pub order : IsOrder o
  pub long : length o ≡ n

abbrev order_needed : List Need → Option ℕ
order_needed [] = None
order_needed (NeedsWord ∷ ns) = order_needed ns
order_needed (OrderOf n ∷ ns) = Some n

abbrev IsNeeded : Option ℕ → List ℕ → Type 0
IsNeeded None o = ⊤
IsNeeded (Some n) o = HasItems n o

drawn_order : (ns : List Need) (ds : List Draw) → FitsNeeds ns ds → IsNeeded (order_needed ns) (order_in ds)
drawn_order [] [] h = tt
drawn_order [] (d ∷ ds) h = absurd h
drawn_order (n ∷ ns) [] h = absurd h
drawn_order (NeedsWord ∷ ns) (Word w ∷ ds) h = drawn_order ns ds h.1
drawn_order (NeedsWord ∷ ns) (Order o ∷ ds) h = absurd h.0
drawn_order (OrderOf n ∷ ns) (Word w ∷ ds) h = absurd h.0
drawn_order (OrderOf n ∷ ns) (Order o ∷ ds) h = record { order = h.0.0.order; long = h.0.1 }

order_behind : (n : ℕ) (ns : List Need) → order_needed (replicate n NeedsWord ++ ns) ≡ order_needed ns
order_behind zero ns = refl
order_behind (suc n) ns = order_behind n ns

last_order : (w n : ℕ) → order_needed ((replicate w NeedsWord ++ []) ++ (replicate w NeedsWord ++ (OrderOf n ∷ []))) ≡ Some n
last_order w n = simp (append-nil, order_behind)

-- the three orders of a Reveal, and the drawn one of a Steer
pub reveal_orders : (m n : ℕ) (ds : ThreeTapes) → ((p : Party) → FitsNeeds (at p (needs_reveal m n)) (at p ds)) → (p : Party) → HasItems n (order_in (at p ds))
reveal_orders m n ds h First = drawn_order (at First (needs_reveal m n)) ds.first (h First)
reveal_orders m n ds h Second =
    let e : order_needed (at Second (needs_reveal m n)) ≡ Some n = order_behind (m * n) _ in
    subst (λ o. IsNeeded o (order_in ds.second)) e (drawn_order (at Second (needs_reveal m n)) ds.second (h Second))
reveal_orders m n ds h Third =
    let e : order_needed (at Third (needs_reveal m n)) ≡ Some n = last_order (m * n) n in
    subst (λ o. IsNeeded o (order_in ds.third)) e (drawn_order (at Third (needs_reveal m n)) ds.third (h Third))

pub drawn_in_steer : (p : Party) (m n : ℕ) (ds : ThreeTapes) → ((q : Party) → FitsNeeds (at q (needs_steer p m n)) (at q ds)) → HasItems n (order_in (at (next p) ds))
drawn_in_steer First m n ds h = drawn_order (at Second (needs_steer First m n)) ds.second (h Second)
drawn_in_steer Second m n ds h = drawn_order (at Third (needs_steer Second m n)) ds.third (h Third)
drawn_in_steer Third m n ds h = drawn_order (at First (needs_steer Third m n)) ds.first (h First)

-- the order that is sent
pub sent_order : LaneLengths → OrdersAreClosed → (p : Party) (n : ℕ) (g : List ℕ) (ds : ThreeTapes) → HasItems n (order_in (at (next p) ds)) → HasItems n g → HasItems n (steer_order p g ds)
sent_order lengths closed p n g ds t h =
    let o = order_in (at (next p) ds) in
    let long : length (inverse_of o) ≡ n = length-map-range_with_len _ 0 (length o) ∙ t.long in
    record {
      order = closed.composed (inverse_of o) g (closed.inverse o t.order) h.order (long ∙ sym h.long);
      long = lengths.pick g (inverse_of o) ∙ h.long;
    }

-- ---- an order has every number below its length

all_from : (f : ℕ → Bool) (a n : ℕ) → ((k : ℕ) → a ≤ k → k < a + n → f k ≡ true) → list_all f (range_with_len a n) ≡ true
all_from f a zero h = refl
all_from f a (suc n) h =
    let here = h a (omega arith) (omega arith) in
    let more = all_from f (a + 1) n (λ k i j. h k (omega arith) (omega arith)) in
    ap (λ b. b && list_all f (range_with_len (a + 1) n)) here ∙ more

pub order_is : OrdersAreClosed → (o : List ℕ) → IsOrder o → is_order o ≡ true
order_is closed o h = all_from (λ k. nat_lt (place_of k o) (length o)) 0 (length o) (λ k i j. lt-ltb (place_of k o) (length o) (there k (omega arith))) where
  long : length (inverse_of o) ≡ length o
  long = length-map-range_with_len _ 0 (length o)

  there : (k : ℕ) → k < length o → place_of k o < length o
  there k lt =
      let at_k : slice_index (inverse_of o) k ≡ place_of k o = get_or-map-range_with_len (λ v. place_of v o) 0 (length o) k k 0 lt (omega arith) in
      let within : slice_index (inverse_of o) k < length (inverse_of o) = (closed.inverse o h).below k (omega (arith, long)) in
      omega (arith, at_k, within, long)
