-- The step Reveal: the viewer can't tell the two worlds apart behind it, and the way back gives the old draws.
use Rattle.std.proofs.Common.{◌≡◌, ℕ, ◌*◌, Bool, true, false, List, [], ◌∷◌, length, map, refl, sym, subst, ◌∙◌, ap}
use Rattle.std.specs.Prelude.{if◌then◌else◌}
use Rattle.std.specs.List.{flat_map}
use Rattle.std.proofs.lemmas.List.{length-map}
use Rattle.lanes.specs.declared.party.Party.{Party}
use Rattle.lanes.specs.declared.party.Party.TheVariants.{First, Second, Third}
use Rattle.lanes.specs.Party.{next, before}
use Rattle.lanes.specs.Three.{at, put, opened}
use Rattle.bags.specs.Bag.{SameBag}
use Rattle.tapes.specs.declared.draw.Draw.{Draw}
use Rattle.tapes.specs.Needs.{FitsNeeds}
use Rattle.tapes.specs.Order.{IsOrder}
use Rattle.step_lists.specs.declared.step.Shape.{Shape}
use Rattle.step_lists.specs.declared.step.Step.TheVariants.{Reveal}
use Rattle.step_lists.specs.Layout.{Layout, party_of, rows_moved}
use Rattle.step_lists.specs.Seen.{Rows, AreAlike, same_rows, none, also, only, same_party, shown_of}
use Rattle.step_lists.specs.Draws.{ThreeTapes, order_in, needs_reveal}
use Rattle.step_lists.specs.Open.{turned}
use Rattle.step_lists.specs.Phases.{Links, behind_on}
use Rattle.step_lists.specs.Machine.{Machine, shares, moving, third_phase, shown_shares}
use Rattle.step_lists.specs.Twin.{changed, open_rows, aligning, shifted, reveal_order, earlier_orders, twin_draws}
use Rattle.twin.proofs.Facts.{Facts}
use Rattle.twin.proofs.Same.{SameWords}
use Rattle.twin.proofs.Puts.{at_put, put_holds, own_stays, next_stays, same_more, same_message}
use Rattle.twin.proofs.Fitted.{same_registers}
use Rattle.twin.proofs.Steps.{Keeps, Returns, StepHolds, Pair, twin_drawn}
use Rattle.twin.proofs.Orders.{HasItems, shifted_back, inverse_has}
use Rattle.twin.proofs.OrdersTested.{order_passes}
use Rattle.twin.proofs.OrdersAligned.{Realigns}
use Rattle.twin.proofs.PhasesDrawn.{items_of, RevealDrawn, reveal_drawn, changed_back}
use Rattle.twin.proofs.PhasesCount.{same_order}
use Rattle.twin.proofs.PhasesMade.{mapped_twice, reveal_phased}
use Rattle.twin.proofs.RevealsFit.{IsAllowed, reveal_allowed, IsShort, twin_order, twin_order_short, earlier_has, reveal_fits, reveal_meets}
use Rattle.twin.proofs.RevealsShown.{IsShifted, values, realigned, shown_same, sent_shares}
use Rattle.twin.proofs.RevealsTurned.{new_order, reveal_changes, reveal_tapes, RevealTurns, reveal_turns}

-- ---- parties and links

pub party_same : (p q : Party) → same_party p q ≡ true → p ≡ q
party_same First First h = refl
party_same First Second h = absurd (cc)
party_same First Third h = absurd (cc)
party_same Second First h = absurd (cc)
party_same Second Second h = refl
party_same Second Third h = absurd (cc)
party_same Third First h = absurd (cc)
party_same Third Second h = absurd (cc)
party_same Third Third h = refl

same_swapped : (p q : Party) → same_party p q ≡ same_party q p
same_swapped First First = refl
same_swapped First Second = refl
same_swapped First Third = refl
same_swapped Second First = refl
same_swapped Second Second = refl
same_swapped Second Third = refl
same_swapped Third First = refl
same_swapped Third Second = refl
same_swapped Third Third = refl

-- words behind earlier ones
pub words_behind : (v : Party) (a b c d : Links) → SameWords v a b → SameWords v c d → SameWords v (behind_on a c) (behind_on b d)
words_behind First a b c d h i = record {
  from_next = let e = h.from_next in let f = i.from_next in cc;
  from_before = let e = h.from_before in let f = i.from_before in cc;
}
words_behind Second a b c d h i = record {
  from_next = let e = h.from_next in let f = i.from_next in cc;
  from_before = let e = h.from_before in let f = i.from_before in cc;
}
words_behind Third a b c d h i = record {
  from_next = let e = h.from_next in let f = i.from_next in cc;
  from_before = let e = h.from_before in let f = i.from_before in cc;
}

-- ---- the rows that are shown

bag_of : (a b : List (List ℕ)) → AreAlike (Rows a ∷ []) (Rows b ∷ []) → SameBag a b
bag_of a b (also (same_rows h) none) = h

shown_bag : (a b : List (List ℕ)) (t : Bool) → t ≡ true → AreAlike (only t (Rows a)) (only t (Rows b)) → SameBag a b
shown_bag a b true e h = bag_of a b h
shown_bag a b false e h = absurd (cc)

-- ---- the unseen order, where the rows are shown to the viewer

earlier_stays : (v : Party) (n : ℕ) (d : List Draw) (ds : ThreeTapes) → earlier_orders (before v) n (put (before v) d ds) ≡ earlier_orders (before v) n ds
earlier_stays First n d ds = refl
earlier_stays Second n d ds = refl
earlier_stays Third n d ds = refl

items_each : (v j : Party) (n : ℕ) (d : List Draw) (ds : ThreeTapes) → HasItems n (order_in d) → ((j : Party) → HasItems n (order_in (at j ds)))
    → HasItems n (order_in (at j (put (before v) d ds)))
items_each First First n d ds h i = i First
items_each First Second n d ds h i = i Second
items_each First Third n d ds h i = h
items_each Second First n d ds h i = h
items_each Second Second n d ds h i = i Second
items_each Second Third n d ds h i = i Third
items_each Third First n d ds h i = i First
items_each Third Second n d ds h i = h
items_each Third Third n d ds h i = i Third

-- the order that stands on the unseen tape under the twin
unseen_order : (v : Party) (n : ℕ) (moved : List ℕ) (x y : Machine) (ds : ThreeTapes) (order : List ℕ) → length order ≡ n → RevealDrawn (length moved * n) n ds
    → order_in (at (before v) (reveal_tapes v n moved x y ds order)) ≡ order
unseen_order v n moved x y ds order ho drawn =
    let d = at (before v) ds in
    let cs = reveal_changes v n moved x y ds order in
    ap order_in (at_put (before v) (changed order cs d) ds)
    ∙ (same_order order cs d ∙ new_order order d (ho ∙ sym (drawn.orders (before v)).long))

module _ {T : Type 0} (accepts : T → List Shape → List Shape → Bool) (answer : T → List (List ℕ) → List (List ℕ)) where
  -- what is known before a Reveal in both worlds
  record Before (v : Party) (l : Layout) (x y : Machine) (to : ℕ) (moved shown : List ℕ) (ds : ThreeTapes) : Type 0 where
    may : IsAllowed l moved shown
    drawn : RevealDrawn (length moved * rows_moved l moved) (rows_moved l moved) ds
    short : IsShort (rows_moved l moved) (twin_order v (party_of to) (rows_moved l moved) moved shown x y ds)
    turns :
        RevealTurns v (rows_moved l moved) moved x y ds (twin_drawn {T = T} v l x y (Reveal to moved shown) ds)
        (reveal_changes v (rows_moved l moved) moved x y ds (twin_order v (party_of to) (rows_moved l moved) moved shown x y ds))
    unseen : order_in (at (before v) (twin_drawn {T = T} v l x y (Reveal to moved shown) ds)) ≡ twin_order v (party_of to) (rows_moved l moved) moved shown x y ds

  reveal_before : Facts → (v : Party) (l : Layout) (x y : Machine) (to : ℕ) (moved shown : List ℕ) (ds : ThreeTapes)
      → Pair {T = T} accepts answer v l x y (Reveal to moved shown) ds → Before v l x y to moved shown ds
  reveal_before facts v l x y to moved shown ds pair =
      let n = rows_moved l moved in
      let drawn = reveal_drawn facts (length moved) n ds pair.allowed.draws in
      let order = twin_order v (party_of to) n moved shown x y ds in
      let short = twin_order_short facts v (party_of to) n (length moved * n) moved shown x y ds drawn in
      record {
        may = reveal_allowed accepts l to moved shown pair.allowed.step;
        drawn = drawn;
        short = short;
        turns = reveal_turns facts v n moved x y ds order short.long drawn pair.same.registers;
        unseen = unseen_order v n moved x y ds order short.long drawn;
      }

  -- the rows that the viewer is shown are aligned
  shown_aligned : Facts → (v : Party) (l : Layout) (x y : Machine) (to : ℕ) (moved shown : List ℕ) (ds : ThreeTapes)
      → Pair {T = T} accepts answer v l x y (Reveal to moved shown) ds → same_party v (party_of to) ≡ true
      → Realigns (rows_moved l moved) (shown_of (values x moved) shown) (shown_of (values y moved) shown)
  shown_aligned facts v l x y to moved shown ds pair mine =
      let n = rows_moved l moved in
      let may = reveal_allowed accepts l to moved shown pair.allowed.step in
      realigned facts l x y n moved shown pair.one may.together may.within
      (shown_bag (open_rows x n moved shown) (open_rows y n moved shown) (same_party v (party_of to)) mine pair.shown)

  -- then the twin's order is the shifted one
  order_shifts : Facts → (v : Party) (l : Layout) (x y : Machine) (to : ℕ) (moved shown : List ℕ) (ds : ThreeTapes)
      → Realigns (rows_moved l moved) (shown_of (values x moved) shown) (shown_of (values y moved) shown) → same_party v (party_of to) ≡ true
      → twin_order v (party_of to) (rows_moved l moved) moved shown x y ds
      ≡ shifted (order_in (at (before v) ds)) (earlier_orders (before v) (rows_moved l moved) ds)
      (aligning (open_rows y (rows_moved l moved) moved shown) (open_rows x (rows_moved l moved) moved shown))
  order_shifts facts v l x y to moved shown ds re mine =
      let n = rows_moved l moved in
      let a = open_rows x n moved shown in
      let b = open_rows y n moved shown in
      let o = order_in (at (before v) ds) in
      ap (λ t. if t then reveal_order v n ds a b else o) (same_swapped (party_of to) v ∙ mine)
      ∙ ap (λ t. if t then shifted o (earlier_orders (before v) n ds) (aligning b a) else o) (order_passes facts (aligning b a) re.order.order)

  -- what the viewer is shown is equal, and so are the shares that it is sent
  record ShownSame (v : Party) (l : Layout) (x y : Machine) (moved shown : List ℕ) (ds es : ThreeTapes) : Type 0 where
    words :
        map opened (shown_shares (third_phase (rows_moved l moved) ds (moving x moved ds)) shown)
        ≡ map opened (shown_shares (third_phase (rows_moved l moved) es (moving y moved es)) shown)
    missing :
        flat_map (at (before v)) (shown_shares (third_phase (rows_moved l moved) ds (moving x moved ds)) shown)
        ≡ flat_map (at (before v)) (shown_shares (third_phase (rows_moved l moved) es (moving y moved es)) shown)

  reveal_shown : Facts → (v : Party) (l : Layout) (x y : Machine) (to : ℕ) (moved shown : List ℕ) (ds : ThreeTapes)
      → Pair {T = T} accepts answer v l x y (Reveal to moved shown) ds → Before v l x y to moved shown ds
      → RevealDrawn (length moved * rows_moved l moved) (rows_moved l moved) (twin_drawn {T = T} v l x y (Reveal to moved shown) ds)
      → same_party v (party_of to) ≡ true → ShownSame v l x y moved shown ds (twin_drawn {T = T} v l x y (Reveal to moved shown) ds)
  reveal_shown facts v l x y to moved shown ds pair h drawn' mine =
      let n = rows_moved l moved in
      let c = length moved in
      let es = twin_drawn {T = T} v l x y (Reveal to moved shown) ds in
      let re = shown_aligned facts v l x y to moved shown ds pair mine in
      let d = aligning (open_rows y n moved shown) (open_rows x n moved shown) in
      let one = reveal_phased facts n c ds (moving x moved ds) (length-map moved (shares x)) h.drawn refl in
      let two = reveal_phased facts n c es (moving y moved es) (length-map moved (shares y)) drawn' refl in
      let shift : IsShifted v n d ds es = record {
        own = ap order_in (own_stays v (twin_draws {T = T} v l x y (Reveal to moved shown) ds) ds);
        following = ap order_in (next_stays v (twin_draws {T = T} v l x y (Reveal to moved shown) ds) ds);
        unseen = h.unseen ∙ order_shifts facts v l x y to moved shown ds re mine;
      } in
      let words = shown_same facts v n c (values x moved) (values y moved) ds es (third_phase n ds (moving x moved ds)) (third_phase n es (moving y moved es)) shown
      (length-map moved (λ r. opened (shares x r))) (length-map moved (λ r. opened (shares y r))) h.may.within re
      (record { each = λ p. items_of n (at p ds) (h.drawn.orders p) }) (record { each = λ p. items_of n (at p es) (drawn'.orders p) }) shift
      (one.opens ∙ ap (map (turned ds)) (mapped_twice (shares x) opened moved)) (two.opens ∙ ap (map (turned es)) (mapped_twice (shares y) opened moved)) in
      record {
        words = words;
        missing =
            sent_shares facts v n c (third_phase n ds (moving x moved ds)) (third_phase n es (moving y moved es)) shown one.long two.long one.count two.count
            h.turns.turned.paired.forth.stands.held h.may.within words;
      }

  -- the twin's draws are those of a Reveal
  twin_reveals : Facts → (v : Party) (l : Layout) (x y : Machine) (to : ℕ) (moved shown : List ℕ) (ds : ThreeTapes)
      → Pair {T = T} accepts answer v l x y (Reveal to moved shown) ds
      → RevealDrawn (length moved * rows_moved l moved) (rows_moved l moved) (twin_drawn {T = T} v l x y (Reveal to moved shown) ds)
  twin_reveals facts v l x y to moved shown ds pair =
      let n = rows_moved l moved in
      let c = length moved in
      let meets = reveal_meets accepts answer facts to moved shown v l x y ds pair.allowed pair.one pair.other in
      reveal_drawn facts c n (twin_drawn {T = T} v l x y (Reveal to moved shown) ds)
      (put_holds FitsNeeds (before v) (needs_reveal c n) (twin_draws {T = T} v l x y (Reveal to moved shown) ds) ds meets pair.allowed.draws)

  pub reveal_keeps : Facts → (to : ℕ) (moved shown : List ℕ) → Keeps {T = T} accepts answer (Reveal to moved shown)
  reveal_keeps facts to moved shown v l x y ds pair =
      let n = rows_moved l moved in
      let q = party_of to in
      let es = twin_drawn {T = T} v l x y (Reveal to moved shown) ds in
      let h = reveal_before facts v l x y to moved shown ds pair in
      let one = third_phase n ds (moving x moved ds) in
      let two = third_phase n es (moving y moved es) in
      let mine = reveal_shown facts v l x y to moved shown ds pair h (twin_reveals facts v l x y to moved shown ds pair) in
      let is = h.turns.turned in
      let behind = same_registers v x y one.shares two.shares pair.same is.paired.forth.stands.held in
      record {
        same = record {
          registers = behind.registers;
          slots = same_more v q x.slots y.slots (map opened (shown_shares one shown)) (map opened (shown_shares two shown)) pair.same.slots (λ e. (mine e).words);
          flags = pair.same.flags;
          stop = pair.same.stop;
        };
        words =
            words_behind v _ _ _ _ is.first
            (words_behind v _ _ _ _ is.second
            (words_behind v _ _ _ _ is.third
            (same_message v (next q) q (flat_map (at (before q)) (shown_shares one shown)) (flat_map (at (before q)) (shown_shares two shown))
            (λ e. subst (λ p. flat_map (at (before p)) (shown_shares one shown) ≡ flat_map (at (before p)) (shown_shares two shown)) (party_same v q e) (mine e).missing))));
      }

  -- ---- the way back

  -- where the rows are shown to the viewer
  shifted_returns : Facts → (v : Party) (l : Layout) (x y : Machine) (to : ℕ) (moved shown : List ℕ) (ds : ThreeTapes)
      → Before v l x y to moved shown ds → Realigns (rows_moved l moved) (shown_of (values x moved) shown) (shown_of (values y moved) shown)
      → same_party v (party_of to) ≡ true
      → reveal_order v (rows_moved l moved) (twin_drawn {T = T} v l x y (Reveal to moved shown) ds) (open_rows y (rows_moved l moved) moved shown) (open_rows x (rows_moved l moved) moved shown)
      ≡ order_in (at (before v) ds)
  shifted_returns facts v l x y to moved shown ds h re mine =
      let n = rows_moved l moved in
      let es = twin_drawn {T = T} v l x y (Reveal to moved shown) ds in
      let a = open_rows x n moved shown in
      let b = open_rows y n moved shown in
      let d = aligning b a in
      let o = order_in (at (before v) ds) in
      let earlier = earlier_orders (before v) n ds in
      let back = aligning a b in
      let passes = order_passes facts back (subst IsOrder (sym re.back) (inverse_has facts n d re.order).order) in
      let kept = order_in (at (before v) es) in
      ap (λ t. if t then shifted kept (earlier_orders (before v) n es) back else kept) passes
      ∙ (ap (λ t. shifted t (earlier_orders (before v) n es) back) (h.unseen ∙ order_shifts facts v l x y to moved shown ds re mine)
      ∙ (ap (λ t. shifted (shifted o earlier d) t back) (earlier_stays v n (twin_draws {T = T} v l x y (Reveal to moved shown) ds) ds)
      ∙ (ap (shifted (shifted o earlier d) earlier) re.back
      ∙ shifted_back facts n o earlier d (items_of n (at (before v) ds) (h.drawn.orders (before v))) (earlier_has facts v n (length moved * n) ds h.drawn) re.order)))

  order_returns_by : Facts → (v : Party) (l : Layout) (x y : Machine) (to : ℕ) (moved shown : List ℕ) (ds : ThreeTapes)
      → Pair {T = T} accepts answer v l x y (Reveal to moved shown) ds → Before v l x y to moved shown ds
      → (b : Bool) → same_party (party_of to) v ≡ b
      → twin_order v (party_of to) (rows_moved l moved) moved shown y x (twin_drawn {T = T} v l x y (Reveal to moved shown) ds) ≡ order_in (at (before v) ds)
  order_returns_by facts v l x y to moved shown ds pair h true e =
      let n = rows_moved l moved in
      let es = twin_drawn {T = T} v l x y (Reveal to moved shown) ds in
      let mine = same_swapped v (party_of to) ∙ e in
      ap (λ t. if t then reveal_order v n es (open_rows y n moved shown) (open_rows x n moved shown) else order_in (at (before v) es)) e
      ∙ shifted_returns facts v l x y to moved shown ds h (shown_aligned facts v l x y to moved shown ds pair mine) mine
  order_returns_by facts v l x y to moved shown ds pair h false e =
      let n = rows_moved l moved in
      let es = twin_drawn {T = T} v l x y (Reveal to moved shown) ds in
      ap (λ t. if t then reveal_order v n es (open_rows y n moved shown) (open_rows x n moved shown) else order_in (at (before v) es)) e
      ∙ (h.unseen
      ∙ ap (λ t. if t then reveal_order v n ds (open_rows x n moved shown) (open_rows y n moved shown) else order_in (at (before v) ds)) e)

  order_returns : Facts → (v : Party) (l : Layout) (x y : Machine) (to : ℕ) (moved shown : List ℕ) (ds : ThreeTapes)
      → Pair {T = T} accepts answer v l x y (Reveal to moved shown) ds → Before v l x y to moved shown ds
      → twin_order v (party_of to) (rows_moved l moved) moved shown y x (twin_drawn {T = T} v l x y (Reveal to moved shown) ds) ≡ order_in (at (before v) ds)
  order_returns facts v l x y to moved shown ds pair h =
      order_returns_by facts v l x y to moved shown ds pair h (same_party (party_of to) v) refl

  pub reveal_returns : Facts → (to : ℕ) (moved shown : List ℕ) → Returns {T = T} accepts answer (Reveal to moved shown)
  reveal_returns facts to moved shown v l x y ds pair =
      let n = rows_moved l moved in
      let h = reveal_before facts v l x y to moved shown ds pair in
      let d = at (before v) ds in
      let es = twin_drawn {T = T} v l x y (Reveal to moved shown) ds in
      let order = twin_order v (party_of to) n moved shown x y ds in
      let cs = reveal_changes v n moved x y ds order in
      ap (λ o. changed o (reveal_changes v n moved y x es o) (at (before v) es)) (order_returns facts v l x y to moved shown ds pair h)
      ∙ (ap (λ t. changed (order_in d) t (at (before v) es)) h.turns.back
      ∙ (ap (changed (order_in d) cs) (at_put (before v) (changed order cs d) ds)
      ∙ changed_back facts (order_in d) order cs d (h.drawn.orders (before v)).only))

  pub reveal_holds : Facts → (to : ℕ) (moved shown : List ℕ) → StepHolds {T = T} accepts answer (Reveal to moved shown)
  reveal_holds facts to moved shown = record {
    fits = reveal_fits accepts answer facts to moved shown;
    meets = reveal_meets accepts answer facts to moved shown;
    keeps = reveal_keeps facts to moved shown;
    back = reveal_returns facts to moved shown;
  }
