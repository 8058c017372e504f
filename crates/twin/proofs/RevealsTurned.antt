-- The three phases of a Reveal under the twin's draws, whatever the twin's order is.
use Rattle.std.proofs.Common.{◌≡◌, ℕ, ◌*◌, List, [], ◌∷◌, length, refl, sym, subst, ◌∙◌, ap, arith}
use Rattle.lanes.specs.declared.party.Party.{Party}
use Rattle.lanes.specs.declared.party.Party.TheVariants.{First, Second, Third}
use Rattle.lanes.specs.Party.{before}
use Rattle.lanes.specs.Three.{at, put}
use Rattle.tapes.specs.declared.draw.Draw.{Draw}
use Rattle.tapes.specs.declared.draw.Draw.TheVariants.{Word, Order}
use Rattle.step_lists.specs.Draws.{ThreeTapes, order_in}
use Rattle.step_lists.specs.Machine.{Machine}
use Rattle.step_lists.specs.Twin.{Both, begin_both, third_both, changed, with_order}
use Rattle.twin.proofs.Facts.{Facts}
use Rattle.twin.proofs.Same.{HeldSame}
use Rattle.twin.proofs.Puts.{at_put}
use Rattle.twin.proofs.PhasesDrawn.{RevealDrawn}
use Rattle.twin.proofs.PhasesCount.{orders_seen, same_order, last_order, kept_order}
use Rattle.twin.proofs.PhasesThree.{IsTurned, third_by, three_worlds}

-- ---- orders of three tapes of which the unseen one is another

order_put : (v j : Party) (d e : List Draw) (ds : ThreeTapes) → order_in d ≡ order_in e → order_in (at j (put (before v) d ds)) ≡ order_in (at j (put (before v) e ds))
order_put First First d e ds h = refl
order_put First Second d e ds h = refl
order_put First Third d e ds h = h
order_put Second First d e ds h = h
order_put Second Second d e ds h = refl
order_put Second Third d e ds h = refl
order_put Third First d e ds h = refl
order_put Third Second d e ds h = h
order_put Third Third d e ds h = refl

order_back : (v j : Party) (d e : List Draw) (ds : ThreeTapes) → order_in e ≡ order_in (at (before v) ds)
    → order_in (at j (put (before v) e (put (before v) d ds))) ≡ order_in (at j ds)
order_back First First d e ds h = refl
order_back First Second d e ds h = refl
order_back First Third d e ds h = h
order_back Second First d e ds h = h
order_back Second Second d e ds h = refl
order_back Second Third d e ds h = refl
order_back Third First d e ds h = refl
order_back Third Second d e ds h = h
order_back Third Third d e ds h = refl

order_long : (v j : Party) (n : ℕ) (d : List Draw) (ds : ThreeTapes) → length (order_in d) ≡ n → ((j : Party) → length (order_in (at j ds)) ≡ n)
    → length (order_in (at j (put (before v) d ds))) ≡ n
order_long First First n d ds h i = i First
order_long First Second n d ds h i = i Second
order_long First Third n d ds h i = h
order_long Second First n d ds h i = h
order_long Second Second n d ds h i = i Second
order_long Second Third n d ds h i = i Third
order_long Third First n d ds h i = i First
order_long Third Second n d ds h i = h
order_long Third Third n d ds h i = i Third

-- draws with another order have that order
pub new_order : (o : List ℕ) (ds : List Draw) → length o ≡ length (order_in ds) → order_in (changed o [] ds) ≡ o
new_order [] [] h = refl
new_order (x ∷ o) [] h = absurd (omega arith)
new_order o (Order p ∷ ds) h = refl
new_order o (Word w ∷ ds) h = new_order o ds h

-- the same orders turn both worlds the same way
same_orders : (v : Party) (n : ℕ) (p q p' q' p'' q'' r s r' s' r'' s'' : List ℕ) (b : Both) → p ≡ r → q ≡ s → p' ≡ r' → q' ≡ s' → p'' ≡ r'' → q'' ≡ s''
    → third_by v n p q p' q' p'' q'' b ≡ third_by v n r s r' s' r'' s'' b
same_orders v n p q p' q' p'' q'' r s r' s' r'' s'' b e f e' f' e'' f'' =
    ap (λ o. third_by v n o q p' q' p'' q'' b) e
    ∙ (ap (λ o. third_by v n r o p' q' p'' q'' b) f
    ∙ (ap (λ o. third_by v n r s o q' p'' q'' b) e'
    ∙ (ap (λ o. third_by v n r s r' o p'' q'' b) f'
    ∙ (ap (λ o. third_by v n r s r' s' o q'' b) e'' ∙ ap (λ o. third_by v n r s r' s' r'' o b) f''))))

-- ---- a Reveal's draws with this order

-- the changes, and the three tapes with the twin
abbrev pub reveal_changes : Party → ℕ → List ℕ → Machine → Machine → ThreeTapes → List ℕ → List ℕ
reveal_changes v n moved x y ds order = (third_both v ds (with_order v order ds) n (begin_both x y moved ds)).changes

abbrev pub reveal_tapes : Party → ℕ → List ℕ → Machine → Machine → ThreeTapes → List ℕ → ThreeTapes
reveal_tapes v n moved x y ds order = put (before v) (changed order (reveal_changes v n moved x y ds order) (at (before v) ds)) ds

pub record RevealTurns (v : Party) (n : ℕ) (moved : List ℕ) (x y : Machine) (ds es : ThreeTapes) (changes : List ℕ) : Type 0 where
  pub turned :
      IsTurned v n (order_in ds.first) (order_in es.first) (order_in ds.second) (order_in es.second) (order_in ds.third) (order_in es.third)
      (begin_both x y moved ds) (begin_both y x moved es)
  pub back : reveal_changes v n moved y x es (order_in (at (before v) ds)) ≡ changes

pub reveal_turns : Facts → (v : Party) (n : ℕ) (moved : List ℕ) (x y : Machine) (ds : ThreeTapes) (order : List ℕ) → length order ≡ n
    → RevealDrawn (length moved * n) n ds → HeldSame v x.registers y.registers
    → RevealTurns v n moved x y ds (reveal_tapes v n moved x y ds order) (reveal_changes v n moved x y ds order)
reveal_turns facts v n moved x y ds order ho drawn held =
    let d = at (before v) ds in
    let cs = reveal_changes v n moved x y ds order in
    let es = reveal_tapes v n moved x y ds order in
    let wo = with_order v order ds in
    let back_to = with_order v (order_in d) es in
    let long : length (order_in (changed order [] d)) ≡ n = ap length (new_order order d (ho ∙ sym (drawn.orders (before v)).long)) ∙ ho in
    let orders = λ (j : Party). order_put v j (changed order [] d) (changed order cs d) ds (sym (same_order order cs d)) in
    let backs = λ (j : Party).
    order_back v j (changed order cs d) (changed (order_in d) [] (at (before v) es)) ds
    (ap (λ t. order_in (changed (order_in d) [] t)) (at_put (before v) (changed order cs d) ds) ∙ (last_order (order_in d) order cs [] d ∙ kept_order d)) in
    let is = three_worlds facts v n (order_in ds.first) (order_in wo.first) (order_in ds.second) (order_in wo.second) (order_in ds.third) (order_in wo.third)
    x y moved ds order
    (record { one = (drawn.orders First).long; other = order_long v First n (changed order [] d) ds long (λ j. (drawn.orders j).long); seen = orders_seen v First (changed order [] d) ds })
    (record { one = (drawn.orders Second).long; other = order_long v Second n (changed order [] d) ds long (λ j. (drawn.orders j).long); seen = orders_seen v Second (changed order [] d) ds })
    (record { one = (drawn.orders Third).long; other = order_long v Third n (changed order [] d) ds long (λ j. (drawn.orders j).long); seen = orders_seen v Third (changed order [] d) ds })
    held ((drawn.words (before v))) in
    let b = begin_both x y moved ds in
    let c = begin_both y x moved es in
    let one = subst (λ q. IsTurned v n (order_in ds.first) q (order_in ds.second) (order_in wo.second) (order_in ds.third) (order_in wo.third) b c) (orders First) is in
    let two = subst (λ q. IsTurned v n (order_in ds.first) (order_in es.first) (order_in ds.second) q (order_in ds.third) (order_in wo.third) b c) (orders Second) one in
    record {
      turned = subst (λ q. IsTurned v n (order_in ds.first) (order_in es.first) (order_in ds.second) (order_in es.second) (order_in ds.third) q b c) (orders Third) two;
      back =
          ap (λ (t : Both). t.changes)
          (same_orders v n (order_in es.first) (order_in back_to.first) (order_in es.second) (order_in back_to.second) (order_in es.third) (order_in back_to.third)
          (order_in wo.first) (order_in ds.first) (order_in wo.second) (order_in ds.second) (order_in wo.third) (order_in ds.third) c
          (sym (orders First)) (backs First) (sym (orders Second)) (backs Second) (sym (orders Third)) (backs Third))
          ∙ sym is.paired.same;
    }
