-- The facts of orders: what an unseen order becomes, and the way back.
use Rattle.std.proofs.Common.{◌≡◌, ℕ, List, length, sym, ◌∙◌, ap}
use Rattle.std.proofs.lemmas.List.FromFn.{length-map-range_with_len, length-range_with_len}
use Rattle.tapes.specs.Order.{IsOrder, composed, identity_of, inverse_of}
use Rattle.step_lists.specs.Twin.{shifted, steered_order}
use Rattle.twin.proofs.Facts.{Facts}

-- an order of n items
pub record HasItems (n : ℕ) (o : List ℕ) : Type 0 where
  pub order : IsOrder o
  pub long : length o ≡ n

pub identity_has : Facts → (n : ℕ) → HasItems n (identity_of n)
identity_has facts n = record { order = facts.closed.identity n; long = length-range_with_len 0 n }

pub composed_has : Facts → (n : ℕ) (a b : List ℕ) → HasItems n a → HasItems n b → HasItems n (composed a b)
composed_has facts n a b ha hb = record {
  order = facts.closed.composed a b ha.order hb.order (ha.long ∙ sym hb.long);
  long = facts.lengths.pick b a ∙ hb.long;
}

pub inverse_has : Facts → (n : ℕ) (o : List ℕ) → HasItems n o → HasItems n (inverse_of o)
inverse_has facts n o h = record {
  order = facts.closed.inverse o h.order;
  long = length-map-range_with_len _ 0 (length o) ∙ h.long;
}

-- ---- regrouping and undoing

pub regrouped : Facts → (n : ℕ) (a b c : List ℕ) → HasItems n b → HasItems n c → composed (composed a b) c ≡ composed a (composed b c)
regrouped facts n a b c hb hc = facts.associative a b c hc.order (hb.long ∙ sym hc.long)

pub neutral : Facts → (n : ℕ) (o : List ℕ) → HasItems n o → composed (identity_of n) o ≡ o
neutral facts n o h = ap (λ k. composed (identity_of k) o) (sym h.long) ∙ facts.identity.before o h.order

pub neutral_after : Facts → (n : ℕ) (o : List ℕ) → HasItems n o → composed o (identity_of n) ≡ o
neutral_after facts n o h = ap (λ k. composed o (identity_of k)) (sym h.long) ∙ facts.identity.after o

-- a and then its inverse, and the other way round, before a further order
pub undone : Facts → (n : ℕ) (a x : List ℕ) → HasItems n a → HasItems n x → composed (inverse_of a) (composed a x) ≡ x
undone facts n a x ha hx =
    sym (regrouped facts n (inverse_of a) a x ha hx)
    ∙ (ap (λ o. composed o x) (facts.inverse.before a ha.order ∙ ap identity_of ha.long) ∙ neutral facts n x hx)

pub redone : Facts → (n : ℕ) (a x : List ℕ) → HasItems n a → HasItems n x → composed a (composed (inverse_of a) x) ≡ x
redone facts n a x ha hx =
    sym (regrouped facts n a (inverse_of a) x (inverse_has facts n a ha) hx)
    ∙ (ap (λ o. composed o x) (facts.inverse.after a ha.order ∙ ap identity_of ha.long) ∙ neutral facts n x hx)

-- ---- the unseen order of a Reveal

shifted_regrouped : Facts → (n : ℕ) (p a d : List ℕ) → HasItems n p → HasItems n a → HasItems n d
    → shifted p a d ≡ composed (inverse_of a) (composed d (composed a p))
shifted_regrouped facts n p a d hp ha hd =
    regrouped facts n (composed (inverse_of a) d) a p ha hp
    ∙ regrouped facts n (inverse_of a) d (composed a p) hd (composed_has facts n a p ha hp)

pub shifted_has : Facts → (n : ℕ) (p a d : List ℕ) → HasItems n p → HasItems n a → HasItems n d → HasItems n (shifted p a d)
shifted_has facts n p a d hp ha hd =
    composed_has facts n (composed (composed (inverse_of a) d) a) p
    (composed_has facts n (composed (inverse_of a) d) a (composed_has facts n (inverse_of a) d (inverse_has facts n a ha) hd) ha) hp

-- behind the earlier orders it is d and then what the first world does
pub shifted_behind : Facts → (n : ℕ) (p a d : List ℕ) → HasItems n p → HasItems n a → HasItems n d → composed a (shifted p a d) ≡ composed d (composed a p)
shifted_behind facts n p a d hp ha hd =
    ap (composed a) (shifted_regrouped facts n p a d hp ha hd)
    ∙ redone facts n a (composed d (composed a p)) ha (composed_has facts n d (composed a p) hd (composed_has facts n a p ha hp))

pub shifted_back : Facts → (n : ℕ) (p a d : List ℕ) → HasItems n p → HasItems n a → HasItems n d → shifted (shifted p a d) a (inverse_of d) ≡ p
shifted_back facts n p a d hp ha hd =
    shifted_regrouped facts n (shifted p a d) a (inverse_of d) (shifted_has facts n p a d hp ha hd) ha (inverse_has facts n d hd)
    ∙ (ap (λ o. composed (inverse_of a) (composed (inverse_of d) o)) (shifted_behind facts n p a d hp ha hd)
    ∙ (ap (composed (inverse_of a)) (undone facts n d (composed a p) hd (composed_has facts n a p ha hp))
    ∙ undone facts n a p ha hp))

-- the whole order of the second world, where the unseen order is the first, the second or the third one
pub first_shifted : Facts → (n : ℕ) (p q r d : List ℕ) → HasItems n p → HasItems n q → HasItems n r → HasItems n d
    → composed (composed (shifted p (identity_of n) d) q) r ≡ composed d (composed (composed p q) r)
first_shifted facts n p q r d hp hq hr hd =
    let s = shifted p (identity_of n) d in
    let hs = shifted_has facts n p (identity_of n) d hp (identity_has facts n) hd in
    let one : s ≡ composed d p =
    sym (neutral facts n s hs)
    ∙ (shifted_behind facts n p (identity_of n) d hp (identity_has facts n) hd ∙ ap (composed d) (neutral facts n p hp)) in
    ap (λ o. composed (composed o q) r) one
    ∙ (ap (λ o. composed o r) (regrouped facts n d p q hp hq) ∙ regrouped facts n d (composed p q) r (composed_has facts n p q hp hq) hr)

pub second_shifted : Facts → (n : ℕ) (p q r d : List ℕ) → HasItems n p → HasItems n q → HasItems n r → HasItems n d
    → composed (composed p (shifted q p d)) r ≡ composed d (composed (composed p q) r)
second_shifted facts n p q r d hp hq hr hd =
    ap (λ o. composed o r) (shifted_behind facts n q p d hq hp hd)
    ∙ regrouped facts n d (composed p q) r (composed_has facts n p q hp hq) hr

pub third_shifted : Facts → (n : ℕ) (p q r d : List ℕ) → HasItems n p → HasItems n q → HasItems n r → HasItems n d
    → composed (composed p q) (shifted r (composed p q) d) ≡ composed d (composed (composed p q) r)
third_shifted facts n p q r d hp hq hr hd = shifted_behind facts n r (composed p q) d hr (composed_has facts n p q hp hq) hd

-- ---- the unseen order of a Steer

pub steered_has : Facts → (n : ℕ) (t g h : List ℕ) → HasItems n t → HasItems n g → HasItems n h → HasItems n (steered_order t g h)
steered_has facts n t g h ht hg hh =
    composed_has facts n (composed h (inverse_of g)) t (composed_has facts n h (inverse_of g) hh (inverse_has facts n g hg)) ht

steered_regrouped : Facts → (n : ℕ) (t g h : List ℕ) → HasItems n t → HasItems n g → steered_order t g h ≡ composed h (composed (inverse_of g) t)
steered_regrouped facts n t g h ht hg = regrouped facts n h (inverse_of g) t (inverse_has facts n g hg) ht

-- what is sent is equal in both worlds
pub steered_sent : Facts → (n : ℕ) (t g h : List ℕ) → HasItems n t → HasItems n g → HasItems n h
    → composed (inverse_of (steered_order t g h)) h ≡ composed (inverse_of t) g
steered_sent facts n t g h ht hg hh =
    let u = steered_order t g h in
    let sent = composed (inverse_of t) g in
    let hs = composed_has facts n (inverse_of t) g (inverse_has facts n t ht) hg in
    let gives : composed u sent ≡ h =
    regrouped facts n (composed h (inverse_of g)) t sent ht hs
    ∙ (ap (composed (composed h (inverse_of g))) (redone facts n t g ht hg)
    ∙ (regrouped facts n h (inverse_of g) g (inverse_has facts n g hg) hg
    ∙ (ap (composed h) (facts.inverse.before g hg.order ∙ ap identity_of hg.long) ∙ neutral_after facts n h hh))) in
    ap (composed (inverse_of u)) (sym gives) ∙ undone facts n u sent (steered_has facts n t g h ht hg hh) hs

pub steered_back : Facts → (n : ℕ) (t g h : List ℕ) → HasItems n t → HasItems n g → HasItems n h → steered_order (steered_order t g h) h g ≡ t
steered_back facts n t g h ht hg hh =
    steered_regrouped facts n (steered_order t g h) h g (steered_has facts n t g h ht hg hh) hh
    ∙ (ap (λ o. composed g (composed (inverse_of h) o)) (steered_regrouped facts n t g h ht hg)
    ∙ (ap (composed g) (undone facts n h (composed (inverse_of g) t) hh (composed_has facts n (inverse_of g) t (inverse_has facts n g hg) ht))
    ∙ redone facts n g t hg ht))
