-- What a Reveal and a Steer draw of each tape, and draws with one order that are changed.
use Rattle.std.proofs.Common.{◌≡◌, ℕ, zero, suc, ◌+◌, ◌*◌, true, false, List, [], ◌∷◌, ◌++◌, length, replicate, refl, sym, ◌∙◌, ap, arith}
use Rattle.std.specs.Prelude.{bit_xor, if◌then◌else◌}
use Rattle.std.specs.List.{AllByRecursion}
use Rattle.std.proofs.lemmas.List.{append-nil}
use Rattle.lanes.specs.declared.party.Party.{Party}
use Rattle.lanes.specs.declared.party.Party.TheVariants.{First, Second, Third}
use Rattle.lanes.specs.Party.{next, before}
use Rattle.lanes.specs.Three.{at}
use Rattle.lanes.specs.Word.{AreWords}
use Rattle.tapes.specs.declared.draw.Need.{Need}
use Rattle.tapes.specs.declared.draw.Need.TheVariants.{Word as NeedsWord, OrderOf}
use Rattle.tapes.specs.declared.draw.Draw.{Draw}
use Rattle.tapes.specs.declared.draw.Draw.TheVariants.{Word, Order}
use Rattle.tapes.specs.Needs.{Meets, FitsNeeds}
use Rattle.tapes.specs.Order.{IsShortOrder}
use Rattle.step_lists.specs.Draws.{ThreeTapes, needs_reveal, needs_steer, words_in, order_in}
use Rattle.step_lists.specs.Seen.{same_party}
use Rattle.step_lists.specs.Twin.{changed}
use Rattle.twin.proofs.Facts.{Facts}
use Rattle.twin.proofs.Orders.{HasItems}
use Rattle.twin.proofs.Masks.{Suits, drawn_below}

-- ---- how many words some needs ask for, and which orders

abbrev pub words_needed : List Need → ℕ
words_needed [] = 0
words_needed (NeedsWord ∷ ns) = suc (words_needed ns)
words_needed (OrderOf n ∷ ns) = words_needed ns

abbrev pub orders_needed : List Need → List ℕ
orders_needed [] = []
orders_needed (NeedsWord ∷ ns) = orders_needed ns
orders_needed (OrderOf n ∷ ns) = n ∷ orders_needed ns

pub drawn_words : (ns : List Need) (ds : List Draw) → FitsNeeds ns ds → length (words_in ds) ≡ words_needed ns
drawn_words [] [] h = refl
drawn_words [] (d ∷ ds) h = absurd h
drawn_words (n ∷ ns) [] h = absurd h
drawn_words (NeedsWord ∷ ns) (Word w ∷ ds) h = ap suc (drawn_words ns ds h.1)
drawn_words (NeedsWord ∷ ns) (Order o ∷ ds) h = absurd h.0
drawn_words (OrderOf n ∷ ns) (Word w ∷ ds) h = absurd h.0
drawn_words (OrderOf n ∷ ns) (Order o ∷ ds) h = drawn_words ns ds h.1

-- each order among some draws is this one
abbrev pub OrdersAre : List ℕ → List Draw → Type 0
OrdersAre o [] = Unit {0}
OrdersAre o (Word w ∷ ds) = OrdersAre o ds
OrdersAre o (Order p ∷ ds) = (p ≡ o) × OrdersAre o ds

-- draws with one order, of n items
pub record HasOrder (n : ℕ) (ds : List Draw) : Type 0 where
  pub short : IsShortOrder (order_in ds)
  pub long : length (order_in ds) ≡ n
  pub only : OrdersAre (order_in ds) ds

pub items_of : (n : ℕ) (ds : List Draw) → HasOrder n ds → HasItems n (order_in ds)
items_of n ds h = record { order = h.short.order; long = h.long }

pub none_drawn : (o : List ℕ) (ns : List Need) (ds : List Draw) → FitsNeeds ns ds → orders_needed ns ≡ [] → OrdersAre o ds
none_drawn o [] [] h e = tt
none_drawn o [] (d ∷ ds) h e = absurd h
none_drawn o (n ∷ ns) [] h e = absurd h
none_drawn o (NeedsWord ∷ ns) (Word w ∷ ds) h e = none_drawn o ns ds h.1 e
none_drawn o (NeedsWord ∷ ns) (Order p ∷ ds) h e = absurd h.0
none_drawn o (OrderOf n ∷ ns) (Word w ∷ ds) h e = absurd h.0
none_drawn o (OrderOf n ∷ ns) (Order p ∷ ds) h e = absurd (cc)

pub one_drawn : (n : ℕ) (ns : List Need) (ds : List Draw) → FitsNeeds ns ds → orders_needed ns ≡ n ∷ [] → HasOrder n ds
one_drawn n [] [] h e = absurd (cc)
one_drawn n [] (d ∷ ds) h e = absurd h
one_drawn n (k ∷ ns) [] h e = absurd h
one_drawn n (NeedsWord ∷ ns) (Word w ∷ ds) h e =
    let more = one_drawn n ns ds h.1 e in
    record { short = more.short; long = more.long; only = more.only }
one_drawn n (NeedsWord ∷ ns) (Order o ∷ ds) h e = absurd h.0
one_drawn n (OrderOf k ∷ ns) (Word w ∷ ds) h e = absurd h.0
one_drawn n (OrderOf k ∷ ns) (Order o ∷ ds) h e =
    let same : k ≡ n = cc in
    let none : orders_needed ns ≡ [] = cc in
    record { short = h.0.0; long = h.0.1 ∙ same; only = (refl, none_drawn o ns ds h.1 none) }

-- an order that suits these needs
pub suits_all : (o : List ℕ) (ns : List Need) → AllByRecursion (λ n. Meets (OrderOf n) (Order o)) (orders_needed ns) → AllByRecursion (Suits o) ns
suits_all o [] h = tt
suits_all o (NeedsWord ∷ ns) h = (tt, suits_all o ns h)
suits_all o (OrderOf n ∷ ns) h = (h.0, suits_all o ns h.1)

-- what is changed twice by the same words is as before, under the old order
xor_twice : Facts → (w c : ℕ) → bit_xor (bit_xor w c) c ≡ w
xor_twice facts w c = let e = facts.comes_off (w ∷ []) (c ∷ []) (omega arith) in cc

pub changed_back : Facts → (o u cs : List ℕ) (ds : List Draw) → OrdersAre o ds → changed o cs (changed u cs ds) ≡ ds
changed_back facts o u cs [] h = refl
changed_back facts o u cs (Order p ∷ ds) h = ap (λ q. Order q ∷ changed o cs (changed u cs ds)) (sym h.0) ∙ ap (λ t. Order p ∷ t) (changed_back facts o u cs ds h.1)
changed_back facts o u [] (Word w ∷ ds) h = ap (λ t. Word w ∷ t) (changed_back facts o u [] ds h)
changed_back facts o u (c ∷ cs) (Word w ∷ ds) h =
    ap (λ w. Word w ∷ changed o cs (changed u cs ds)) (xor_twice facts w c) ∙ ap (λ t. Word w ∷ t) (changed_back facts o u cs ds h)

-- ---- needs one behind the other

needed_append : (xs ys : List Need) → words_needed (xs ++ ys) ≡ words_needed xs + words_needed ys
needed_append [] ys = omega arith
needed_append (NeedsWord ∷ xs) ys = omega (arith, needed_append xs ys)
needed_append (OrderOf n ∷ xs) ys = needed_append xs ys

needed_words : (n : ℕ) → words_needed (replicate n NeedsWord) ≡ n
needed_words zero = refl
needed_words (suc n) = ap suc (needed_words n)

orders_append : (xs ys : List Need) → orders_needed (xs ++ ys) ≡ orders_needed xs ++ orders_needed ys
orders_append [] ys = refl
orders_append (NeedsWord ∷ xs) ys = orders_append xs ys
orders_append (OrderOf n ∷ xs) ys = ap (λ t. n ∷ t) (orders_append xs ys)

no_orders : (n : ℕ) → orders_needed (replicate n NeedsWord) ≡ []
no_orders zero = refl
no_orders (suc n) = no_orders n

-- ---- what the two steps need

pub reveal_words_needed : (p : Party) (m n : ℕ) → words_needed (at p (needs_reveal m n)) ≡ m * n + m * n
reveal_words_needed First m n = simp (append-nil, needed_append, needed_words) (omega arith)
reveal_words_needed Second m n = simp (append-nil, needed_append, needed_words) (omega arith)
reveal_words_needed Third m n = simp (append-nil, needed_append, needed_words) (omega arith)

pub reveal_order_needed : (p : Party) (m n : ℕ) → orders_needed (at p (needs_reveal m n)) ≡ n ∷ []
reveal_order_needed First m n = simp (append-nil, orders_append, no_orders)
reveal_order_needed Second m n = simp (append-nil, orders_append, no_orders)
reveal_order_needed Third m n = simp (append-nil, orders_append, no_orders)

pub record RevealDrawn (w n : ℕ) (ds : ThreeTapes) : Type 0 where
  pub orders : (p : Party) → HasOrder n (at p ds)
  pub words : (p : Party) → length (words_in (at p ds)) ≡ w + w
  pub below : (p : Party) → AreWords (words_in (at p ds))

pub reveal_drawn : Facts → (m n : ℕ) (ds : ThreeTapes) → ((p : Party) → FitsNeeds (at p (needs_reveal m n)) (at p ds)) → RevealDrawn (m * n) n ds
reveal_drawn facts m n ds h = record {
  orders = λ p. one_drawn n (at p (needs_reveal m n)) (at p ds) (h p) (reveal_order_needed p m n);
  words = λ p. drawn_words (at p (needs_reveal m n)) (at p ds) (h p) ∙ reveal_words_needed p m n;
  below = λ p. drawn_below facts (at p (needs_reveal m n)) (at p ds) (h p);
}

pub steer_order_needed : (p q : Party) (m n : ℕ) → orders_needed (at q (needs_steer p m n)) ≡ (if same_party q (next p) then n ∷ [] else [])
steer_order_needed First First m n = simp (append-nil, orders_append, no_orders)
steer_order_needed First Second m n = simp (append-nil, orders_append, no_orders)
steer_order_needed First Third m n = simp (append-nil, orders_append, no_orders)
steer_order_needed Second First m n = simp (append-nil, orders_append, no_orders)
steer_order_needed Second Second m n = simp (append-nil, orders_append, no_orders)
steer_order_needed Second Third m n = simp (append-nil, orders_append, no_orders)
steer_order_needed Third First m n = simp (append-nil, orders_append, no_orders)
steer_order_needed Third Second m n = simp (append-nil, orders_append, no_orders)
steer_order_needed Third Third m n = simp (append-nil, orders_append, no_orders)

-- how many words the tape of a party holds for a Steer, for w moved words
abbrev pub steer_words_of : Party → Party → ℕ → ℕ
steer_words_of p q w = if same_party q (before p) then w + w else w

pub steer_words_needed : (p q : Party) (m n : ℕ) → words_needed (at q (needs_steer p m n)) ≡ steer_words_of p q (m * n)
steer_words_needed First First m n = simp (append-nil, needed_append, needed_words) (omega arith)
steer_words_needed First Second m n = simp (append-nil, needed_append, needed_words) (omega arith)
steer_words_needed First Third m n = simp (append-nil, needed_append, needed_words) (omega arith)
steer_words_needed Second First m n = simp (append-nil, needed_append, needed_words) (omega arith)
steer_words_needed Second Second m n = simp (append-nil, needed_append, needed_words) (omega arith)
steer_words_needed Second Third m n = simp (append-nil, needed_append, needed_words) (omega arith)
steer_words_needed Third First m n = simp (append-nil, needed_append, needed_words) (omega arith)
steer_words_needed Third Second m n = simp (append-nil, needed_append, needed_words) (omega arith)
steer_words_needed Third Third m n = simp (append-nil, needed_append, needed_words) (omega arith)

pub record SteerDrawn (p : Party) (w n : ℕ) (ds : ThreeTapes) : Type 0 where
  pub order : HasOrder n (at (next p) ds)
  pub none : (q : Party) (o : List ℕ) → same_party q (next p) ≡ false → OrdersAre o (at q ds)
  pub words : (q : Party) → length (words_in (at q ds)) ≡ steer_words_of p q w
  pub below : (q : Party) → AreWords (words_in (at q ds))

same_itself : (p : Party) → same_party p p ≡ true
same_itself First = refl
same_itself Second = refl
same_itself Third = refl

pub steer_drawn : Facts → (p : Party) (m n : ℕ) (ds : ThreeTapes) → ((q : Party) → FitsNeeds (at q (needs_steer p m n)) (at q ds)) → SteerDrawn p (m * n) n ds
steer_drawn facts p m n ds h = record {
  order =
      one_drawn n (at (next p) (needs_steer p m n)) (at (next p) ds) (h (next p))
      (steer_order_needed p (next p) m n ∙ ap (λ b. if b then n ∷ [] else []) (same_itself (next p)));
  none = λ q o e.
      none_drawn o (at q (needs_steer p m n)) (at q ds) (h q) (steer_order_needed p q m n ∙ ap (λ b. if b then n ∷ [] else []) e);
  words = λ q. drawn_words (at q (needs_steer p m n)) (at q ds) (h q) ∙ steer_words_needed p q m n;
  below = λ q. drawn_below facts (at q (needs_steer p m n)) (at q ds) (h q);
}
