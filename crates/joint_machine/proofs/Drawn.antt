-- The words and the order in draws of which it is known what was needed.
use Rattle.std.proofs.Common.{◌≡◌, ℕ, zero, suc, ◌+◌, ◌*◌, Option, Some, None, List, [], ◌∷◌, ◌++◌, length, replicate, take, drop, refl, subst, ◌∙◌, ap, arith}
use Rattle.std.proofs.lemmas.List.{append-nil}
use Rattle.std.specs.Prelude.{⊤}
use Rattle.lanes.specs.declared.party.Party.{Party}
use Rattle.lanes.specs.declared.party.Party.TheVariants.{First, Second, Third}
use Rattle.lanes.specs.declared.three.Three.{Three}
use Rattle.lanes.specs.Party.{next, before}
use Rattle.lanes.specs.Three.{at}
use Rattle.tapes.specs.declared.draw.Need.{Need}
use Rattle.tapes.specs.declared.draw.Need.TheVariants.{Word as NeedsWord, OrderOf}
use Rattle.tapes.specs.declared.draw.Draw.{Draw}
use Rattle.tapes.specs.declared.draw.Draw.TheVariants.{Word, Order}
use Rattle.tapes.specs.Needs.{FitsNeeds}
use Rattle.tapes.specs.Order.{IsOrder}
use Rattle.step_lists.specs.declared.step.Step.{Step}
use Rattle.step_lists.specs.Layout.{Layout}
use Rattle.step_lists.specs.Draws.{ThreeTapes, needs_of, needs_reveal, needs_steer, words_in, order_in, taken, dropped}
use Rattle.step_lists.specs.Possible.{FitsFront}

-- how many words some needs ask for, and of how many items their first order is
abbrev pub words_needed : List Need → ℕ
words_needed [] = 0
words_needed (NeedsWord ∷ ns) = suc (words_needed ns)
words_needed (OrderOf n ∷ ns) = words_needed ns

abbrev pub order_needed : List Need → Option ℕ
order_needed [] = None
order_needed (NeedsWord ∷ ns) = order_needed ns
order_needed (OrderOf n ∷ ns) = Some n

pub record HasItems (n : ℕ) (o : List ℕ) : Type 0 where
  pub order : IsOrder o
  pub long : length o ≡ n

abbrev pub IsNeeded : Option ℕ → List ℕ → Type 0
IsNeeded None o = ⊤
IsNeeded (Some n) o = HasItems n o

pub drawn_words : (ns : List Need) (ds : List Draw) → FitsNeeds ns ds → length (words_in ds) ≡ words_needed ns
drawn_words [] [] h = refl
drawn_words [] (d ∷ ds) h = absurd h
drawn_words (n ∷ ns) [] h = absurd h
drawn_words (NeedsWord ∷ ns) (Word w ∷ ds) h = ap suc (drawn_words ns ds h.1)
drawn_words (NeedsWord ∷ ns) (Order o ∷ ds) h = absurd h.0
drawn_words (OrderOf n ∷ ns) (Word w ∷ ds) h = absurd h.0
drawn_words (OrderOf n ∷ ns) (Order o ∷ ds) h = drawn_words ns ds h.1

pub drawn_order : (ns : List Need) (ds : List Draw) → FitsNeeds ns ds → IsNeeded (order_needed ns) (order_in ds)
drawn_order [] [] h = tt
drawn_order [] (d ∷ ds) h = absurd h
drawn_order (n ∷ ns) [] h = absurd h
drawn_order (NeedsWord ∷ ns) (Word w ∷ ds) h = drawn_order ns ds h.1
drawn_order (NeedsWord ∷ ns) (Order o ∷ ds) h = absurd h.0
drawn_order (OrderOf n ∷ ns) (Word w ∷ ds) h = absurd h.0
drawn_order (OrderOf n ∷ ns) (Order o ∷ ds) h = record { order = h.0.0.order; long = h.0.1 }

pub needed_append : (xs ys : List Need) → words_needed (xs ++ ys) ≡ words_needed xs + words_needed ys
needed_append [] ys = omega arith
needed_append (NeedsWord ∷ xs) ys = omega (arith, needed_append xs ys)
needed_append (OrderOf n ∷ xs) ys = needed_append xs ys

pub needed_words : (n : ℕ) → words_needed (replicate n NeedsWord) ≡ n
needed_words zero = refl
needed_words (suc n) = ap suc (needed_words n)

pub order_behind : (n : ℕ) (ns : List Need) → order_needed (replicate n NeedsWord ++ ns) ≡ order_needed ns
order_behind zero ns = refl
order_behind (suc n) ns = order_behind n ns

-- of needs that are met by some first draws, the first ones are met, and so are the others by what is left
pub front_fits : (xs ys : List Need) (ds : List Draw) → FitsFront (xs ++ ys) ds → FitsNeeds xs (take (length xs) ds)
front_fits [] ys ds h = tt
front_fits (x ∷ xs) ys [] h = absurd h
front_fits (x ∷ xs) ys (d ∷ ds) h = (h.0, front_fits xs ys ds h.1)

pub rest_fits : (xs ys : List Need) (ds : List Draw) → FitsFront (xs ++ ys) ds → FitsFront ys (drop (length xs) ds)
rest_fits [] ys ds h = h
rest_fits (x ∷ xs) ys [] h = absurd h
rest_fits (x ∷ xs) ys (d ∷ ds) h = rest_fits xs ys ds h.1

-- the draws of a step
abbrev pub AreDrawsOf : {T : Type 0} → Layout → Step T → ThreeTapes → Type 0
AreDrawsOf l s ds = (p : Party) → FitsNeeds (at p (needs_of l s)) (at p ds)

pub at_taken : (p : Party) (ns : Three (List Need)) (ds : ThreeTapes) → at p (taken ns ds) ≡ take (length (at p ns)) (at p ds)
at_taken First ns ds = refl
at_taken Second ns ds = refl
at_taken Third ns ds = refl

pub at_dropped : (p : Party) (ns : Three (List Need)) (ds : ThreeTapes) → at p (dropped ns ds) ≡ drop (length (at p ns)) (at p ds)
at_dropped First ns ds = refl
at_dropped Second ns ds = refl
at_dropped Third ns ds = refl

-- what a Reveal and a Steer of party p draw, with w words in all the moved registers and n in each
pub record RevealDraws (w n : ℕ) (ds : ThreeTapes) : Type 0 where
  pub orders : (p : Party) → HasItems n (order_in (at p ds))
  pub words : (p : Party) → length (words_in (at p ds)) ≡ w + w

pub record SteerDraws (p : Party) (w n : ℕ) (ds : ThreeTapes) : Type 0 where
  pub order : HasItems n (order_in (at (next p) ds))
  pub own : length (words_in (at p ds)) ≡ w
  pub following : length (words_in (at (next p) ds)) ≡ w
  pub earlier : length (words_in (at (before p) ds)) ≡ w + w

own_words : (w : ℕ) → words_needed ((replicate w NeedsWord ++ []) ++ []) ≡ w
own_words w = simp (append-nil, needed_words)

twice_words : (w : ℕ) → words_needed (replicate w NeedsWord ++ (replicate w NeedsWord ++ [])) ≡ w + w
twice_words w = simp (append-nil, needed_append, needed_words)

first_words : (w : ℕ) → words_needed ((replicate w NeedsWord ++ []) ++ replicate w NeedsWord) ≡ w + w
first_words w = simp (append-nil, needed_append, needed_words)

middle_words : (w n : ℕ) → words_needed (replicate w NeedsWord ++ (OrderOf n ∷ (replicate w NeedsWord ++ []))) ≡ w + w
middle_words w n = simp (append-nil, needed_append, needed_words)

last_words : (w n : ℕ) → words_needed ((replicate w NeedsWord ++ []) ++ (replicate w NeedsWord ++ (OrderOf n ∷ []))) ≡ w + w
last_words w n =
    simp (append-nil, needed_append, needed_words) (omega arith)

last_order : (w n : ℕ) → order_needed ((replicate w NeedsWord ++ []) ++ (replicate w NeedsWord ++ (OrderOf n ∷ []))) ≡ Some n
last_order w n = simp (append-nil, order_behind)

pub reveal_draws : (m n : ℕ) (ds : ThreeTapes) → ((p : Party) → FitsNeeds (at p (needs_reveal m n)) (at p ds)) → RevealDraws (m * n) n ds
reveal_draws m n ds h = record { orders = orders; words = words } where
  orders : (p : Party) → HasItems n (order_in (at p ds))
  orders First = drawn_order (at First (needs_reveal m n)) ds.first (h First)
  orders Second =
      let e : order_needed (at Second (needs_reveal m n)) ≡ Some n = order_behind (m * n) _ in
      subst (λ o. IsNeeded o (order_in ds.second)) e (drawn_order (at Second (needs_reveal m n)) ds.second (h Second))
  orders Third =
      let e : order_needed (at Third (needs_reveal m n)) ≡ Some n = last_order (m * n) n in
      subst (λ o. IsNeeded o (order_in ds.third)) e (drawn_order (at Third (needs_reveal m n)) ds.third (h Third))

  words : (p : Party) → length (words_in (at p ds)) ≡ m * n + m * n
  words First = drawn_words (at First (needs_reveal m n)) ds.first (h First) ∙ first_words (m * n)
  words Second = drawn_words (at Second (needs_reveal m n)) ds.second (h Second) ∙ middle_words (m * n) n
  words Third = drawn_words (at Third (needs_reveal m n)) ds.third (h Third) ∙ last_words (m * n) n

pub steer_draws : (p : Party) (m n : ℕ) (ds : ThreeTapes) → ((q : Party) → FitsNeeds (at q (needs_steer p m n)) (at q ds)) → SteerDraws p (m * n) n ds
steer_draws First m n ds h = record {
  order = drawn_order (at Second (needs_steer First m n)) ds.second (h Second);
  own = drawn_words (at First (needs_steer First m n)) ds.first (h First) ∙ own_words (m * n);
  following = drawn_words (at Second (needs_steer First m n)) ds.second (h Second) ∙ needed_words (m * n);
  earlier = drawn_words (at Third (needs_steer First m n)) ds.third (h Third) ∙ twice_words (m * n);
}
steer_draws Second m n ds h = record {
  order = drawn_order (at Third (needs_steer Second m n)) ds.third (h Third);
  own = drawn_words (at Second (needs_steer Second m n)) ds.second (h Second) ∙ own_words (m * n);
  following = drawn_words (at Third (needs_steer Second m n)) ds.third (h Third) ∙ needed_words (m * n);
  earlier = drawn_words (at First (needs_steer Second m n)) ds.first (h First) ∙ twice_words (m * n);
}
steer_draws Third m n ds h = record {
  order = drawn_order (at First (needs_steer Third m n)) ds.first (h First);
  own = drawn_words (at Third (needs_steer Third m n)) ds.third (h Third) ∙ own_words (m * n);
  following = drawn_words (at First (needs_steer Third m n)) ds.first (h First) ∙ needed_words (m * n);
  earlier = drawn_words (at Second (needs_steer Third m n)) ds.second (h Second) ∙ twice_words (m * n);
}
