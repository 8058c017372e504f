-- What the first draws of a tape hold, read one after the other.
use Rattle.std.proofs.Common.{◌≡◌, ℕ, Option, Some, None, List, [], ◌∷◌, ◌++◌, length, map, replicate, drop, refl, sym, subst, ap}
use Rattle.std.specs.Prelude.{IsSome}
use Rattle.tapes.specs.declared.draw.Need.{Need}
use Rattle.tapes.specs.declared.draw.Need.TheVariants.{Word as NeedsWord, OrderOf}
use Rattle.tapes.specs.declared.draw.Draw.{Draw}
use Rattle.tapes.specs.declared.draw.Draw.TheVariants.{Word, Order}
use Rattle.tapes.specs.Needs.{FitsNeeds}
use Rattle.tapes.specs.Reading.{first_words}
use Rattle.tapes.specs.ReadingLaws.{WordsInBulk}
use Rattle.joint_machine.specs.Left.{first_order, HasWords, HasOrder, Takes}
use Rattle.joint_machine.proofs.Drawn.{HasItems}

-- ---- what comes next

pub record WordsNext (n : ℕ) (ns : List Need) (ds : List Draw) : Type 0 where
  pub has : HasWords n ds
  pub rest : FitsNeeds ns (drop n ds)

pub record OrderNext (n : ℕ) (ns : List Need) (ds : List Draw) : Type 0 where
  pub has : HasOrder ds
  pub rest : FitsNeeds ns (drop 1 ds)

some_is : {A : Type 0} (o : Option A) (x : A) → o ≡ Some x → IsSome o
some_is o x e = subst IsSome (sym e) refl

pub words_next : WordsInBulk → (n : ℕ) (ns : List Need) (ds : List Draw) → FitsNeeds (replicate n NeedsWord ++ ns) ds → WordsNext n ns ds
words_next bulk n ns ds h =
    let is = bulk.fit n ns ds h in
    record { has = some_is (first_words n ds) is.0 is.1.0; rest = is.1.1 }

pub order_next : (n : ℕ) (ns : List Need) (ds : List Draw) → FitsNeeds (OrderOf n ∷ ns) ds → OrderNext n ns ds
order_next n ns [] h = absurd h
order_next n ns (Word w ∷ ds) h = absurd h.0
order_next n ns (Order o ∷ ds) h = record { has = refl; rest = h.1 }

-- ---- what was read: the words and the first order of as many draws as there are needs, and what is left

pub takes_none : (ds : List Draw) → Takes [] ds [] [] ds
takes_none ds = record { words = refl; order = refl; left = refl }

behind_words : (ws : List ℕ) (ns : List Need) (ys : List Draw) (vs o : List ℕ) (rest : List Draw) → Takes ns ys vs o rest
    → Takes (replicate (length ws) NeedsWord ++ ns) (map (λ w. Word w) ws ++ ys) (ws ++ vs) o rest
behind_words [] ns ys vs o rest h = h
behind_words (w ∷ ws) ns ys vs o rest h =
    let more = behind_words ws ns ys vs o rest h in
    record { words = ap (λ vs. w ∷ vs) more.words; order = more.order; left = more.left }

pub takes_words : WordsInBulk → (n : ℕ) (ns : List Need) (ds : List Draw) (ws vs o : List ℕ) (rest : List Draw) → first_words n ds ≡ Some ws
    → Takes ns (drop n ds) vs o rest → Takes (replicate n NeedsWord ++ ns) ds (ws ++ vs) o rest
takes_words bulk n ns ds ws vs o rest e h =
    let is = (bulk.told n ds ws).0 e in
    subst (λ k. Takes (replicate k NeedsWord ++ ns) ds (ws ++ vs) o rest) is.0
    (subst (λ ds. Takes (replicate (length ws) NeedsWord ++ ns) ds (ws ++ vs) o rest) (sym is.1) (behind_words ws ns (drop n ds) vs o rest h))

pub takes_order : (n : ℕ) (ns : List Need) (ds : List Draw) (ws o o' : List ℕ) (rest : List Draw) → first_order ds ≡ Some o
    → Takes ns (drop 1 ds) ws o' rest → Takes (OrderOf n ∷ ns) ds ws o rest
takes_order n ns [] ws o o' rest e h = absurd (none_some e) where
  none_some : None ≡ Some o → ⊥
  none_some e = cc
takes_order n ns (Word w ∷ ds) ws o o' rest e h = absurd (none_some e) where
  none_some : None ≡ Some o → ⊥
  none_some e = cc
takes_order n ns (Order p ∷ ds) ws o o' rest e h = record { words = h.words; order = same e; left = h.left } where
  same : Some p ≡ Some o → p ≡ o
  same e = cc

-- how long what is read is
pub words_long : WordsInBulk → (n : ℕ) (ds : List Draw) (ws : List ℕ) → first_words n ds ≡ Some ws → length ws ≡ n
words_long bulk n ds ws e = ((bulk.told n ds ws).0 e).0

pub order_long : (n : ℕ) (ns : List Need) (ds : List Draw) (o : List ℕ) → FitsNeeds (OrderOf n ∷ ns) ds → first_order ds ≡ Some o → HasItems n o
order_long n ns [] o h e = absurd h
order_long n ns (Word w ∷ ds) o h e = absurd h.0
order_long n ns (Order p ∷ ds) o h e = subst (HasItems n) (same e) (record { order = h.0.0.order; long = h.0.1 }) where
  same : Some p ≡ Some o → p ≡ o
  same e = cc
